-- What the lent memory holds.
use Rattle.std.specs.Prelude.{ℕ, List, map, length}
use Rattle.places.specs.Entries.{Entry, entry}
use Rattle.places.specs.Stacks.{held}
use Rattle.places.specs.declared.places.Places.{Places}

-- The waiting datagrams, in order of arrival.
abbrev pub entries : Places → List Entry
entries w = map (entry w.blocks.items.now) (held w.records)

-- How many there can be.
abbrev pub width : Places → ℕ
width w = length w.records.items.now
