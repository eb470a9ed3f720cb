use Rattle.std.proofs.lemmas.List.Filters.{FiltersInPlace}
use Rattle.std.specs.List.Sorted.{IsPermutation}
use Rattle.places.specs.Entries.{place_other}
use Rattle.places.proofs.ops.Stack+Place.spend.Given as goal

abbrev pub invariant-loop-i : goal.invariant-loop-i
invariant-loop-i l = FiltersInPlace (place_other l.slot) l.initial.items l.items l.kept l.i × IsPermutation l.initial.items l.items
