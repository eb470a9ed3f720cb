use Rattle.std.proofs.Common.{◌≡◌, take, filter}
use Rattle.places.specs.Entries.{of_slot}
use Rattle.places.specs.Held.{entries}
use Rattle.places.proofs.Writes.{Writing}
use Rattle.places.proofs.places.Places.write.Given as goal

abbrev pub invariant-loop-p : goal.invariant-loop-p
invariant-loop-p l =
    Writing (filter (of_slot l.slot) (take l.p-index (entries l.self))) l.p-index l.initial.kept.items.now l.kept.items.now l.initial.laid.items.now l.laid.items.now l.kept.used l.laid.used
    × (l.kept.items.ghost_name ≡ l.initial.kept.items.ghost_name) × (l.laid.items.ghost_name ≡ l.initial.laid.items.ghost_name)
