-- A list of identifiers that begins again after the last.
use Rattle.std.specs.Prelude.{ℕ, ◌+◌, ◌%◌, Bool, ◌&&◌, List, length, get_or, ◌==◌, nat_le, slice_index_or}
use Rattle.std.specs.List.{list_all, list_any}
use Rattle.records.specs.declared.shared.ConnectionId.{ConnectionId}
use Rattle.records.specs.Ids.{same_id, no_id}
use Rattle.supply.specs.Meaning.{Generator}

-- whether all identifiers of a list have this length
abbrev pub all_of : ℕ → List ConnectionId → Bool
all_of n xs = list_all (λ x. x.len == n) xs

-- whether a list can be a generator's: 1 to 32 identifiers, all of the first one's length
abbrev pub list_fits : List ConnectionId → Bool
list_fits xs = nat_le 1 (length xs) && (nat_le (length xs) 32 && all_of (get_or xs 0 no_id).len xs)

-- whether a list has an identifier
abbrev pub listed : List ConnectionId → ConnectionId → Bool
listed xs y = list_any (λ x. same_id x y) xs

-- the generator of a list from a place on: the identifiers in turn, again from the first after the last, and valid are those of the list
abbrev pub in_turn : List ConnectionId → ℕ → Generator
in_turn xs at = record {
  len = (get_or xs 0 no_id).len;
  draw = λ i. slice_index_or xs ((at + i) % length xs) no_id;
  valid = λ i. listed xs;
}
