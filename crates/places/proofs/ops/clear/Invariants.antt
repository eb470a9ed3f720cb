use Rattle.places.proofs.Views.{Fresh}
use Rattle.places.proofs.ops.clear.Given as goal

abbrev pub invariant-loop-i : goal.invariant-loop-i
invariant-loop-i l = Fresh l.items l.blocks l.i
