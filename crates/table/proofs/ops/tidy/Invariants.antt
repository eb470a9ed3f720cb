use Rattle.std.proofs.Common.{◌<◌, length}
use Rattle.table.specs.Slots.{Reached, Tidied}
use Rattle.table.proofs.ops.tidy.Given as goal

abbrev pub invariant-loop-turn : goal.invariant-loop-turn
invariant-loop-turn g l = (l.at < length l.initial.slots) × (Reached g.K.PartialEq.eq g.K.Key.code l.initial.slots → Tidied g.K.PartialEq.eq g.K.Key.code l.initial.slots l.slots)
