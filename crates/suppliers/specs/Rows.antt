-- A door of rows, each with its answers for a version.
use Rattle.std.specs.Prelude.{ℕ, false, List, Option, Err, ◌==◌}
use Rattle.std.specs.List.{find}
use Rattle.std.specs.Option.{option_map_or}
use Rattle.supply.specs.declared.answers.Unopened.TheVariants.{Closed}
use Rattle.supply.specs.declared.answers.HandshakeError.TheVariants.{Other}
use Rattle.supply.specs.Meaning.{DoorAnswers}
use Rattle.suppliers.specs.declared.rows.Row.{Row}

-- the first row for a version
abbrev pub row_for : List Row → ℕ → Option Row
row_for rows v = find (λ r. r.version == v) rows

-- what a door of rows says: each answer is that of the first row for the version; without one the version is not known, and the datagram
-- stays closed and is not authentic, and the handshake fails
abbrev pub rows_say : List Row → DoorAnswers
rows_say rows = record {
  knows = λ v dst. option_map_or (λ r. r.knows) (row_for rows v) false;
  opens = λ d. option_map_or (λ r. r.opens) (row_for rows d.version) (Err Closed);
  proves = λ d. option_map_or (λ r. r.proves) (row_for rows d.version) false;
  greets = λ d handle ids. option_map_or (λ r. r.greets) (row_for rows d.version) (Err Other);
}
