-- The waiting datagrams, in order of arrival, and what is asked of them.
use Rattle.std.specs.Prelude.{◌≡◌, ◌≤◌, ℕ, Bool, cond, not, ◌&&◌, List, [], ◌∷◌, ◌++◌, map, length, take, drop, Some, None, sum_by, count_by, filter, Option, ◌==◌, slice_index_or}
use Rattle.std.specs.List.{flat_map}
use Rattle.records.specs.declared.packet.Datagram.{Datagram}
use Rattle.records.specs.declared.packet.Kept.{Kept}
use Rattle.places.specs.declared.record.Place.{Place}
use Rattle.places.specs.declared.record.Written.{Written}

-- A waiting datagram: the slot of its attempt, whether it opened the attempt, its record and its bytes.
pub record Entry : Type 0 where
  pub slot : ℕ
  pub first : Bool
  pub datagram : Datagram
  pub bytes : List ℕ

-- The entry of these four.
abbrev pub arrival : ℕ → Bool → Datagram → List ℕ → Entry
arrival slot first d bs = record { slot = slot; first = first; datagram = d; bytes = bs }

-- ## What is asked

-- The bytes of a datagram that count, those of the first one of an attempt apart.
abbrev pub weight : Entry → ℕ
weight e = cond e.first 0 (length e.bytes)

-- Whether a datagram is for the attempt in this slot.
abbrev pub of_slot : ℕ → Entry → Bool
of_slot slot e = e.slot == slot

-- The datagrams of one attempt.
abbrev pub mine : List Entry → ℕ → List Entry
mine es slot = filter (of_slot slot) es

-- The datagrams of the other attempts.
abbrev pub without : List Entry → ℕ → List Entry
without es slot = filter (λ e. not (of_slot slot e)) es

-- The bytes that count, of all.
abbrev pub total : List Entry → ℕ
total es = sum_by weight es

-- How many attempts wait.
abbrev pub attempts : List Entry → ℕ
attempts es = count_by (λ e. e.first) es

-- The first datagram of the attempt in the slot, its bytes apart.
abbrev pub first_of : List Entry → ℕ → Option Datagram
first_of [] slot = None
first_of (e ∷ es) slot = cond (of_slot slot e && e.first) (Some e.datagram) (first_of es slot)

-- These, laid over the front of those.
abbrev pub over : {A : Type 0} → List A → List A → List A
over xs ys = xs ++ drop (length xs) ys

-- The bytes of all, end to end.
abbrev pub all_bytes : List Entry → List ℕ
all_bytes es = flat_map (λ e. e.bytes) es

-- What is written of a datagram: its record, and how many bytes it has.
abbrev pub kept_of : Entry → Kept
kept_of e = record { datagram = e.datagram; len = length e.bytes }

-- The records of all.
abbrev pub all_kept : List Entry → List Kept
all_kept es = map kept_of es

-- How much there is to write: the number of records and of bytes.
abbrev pub written : List Entry → Written
written es = record { count = length es; bytes = length (all_bytes es) }

-- ## How they are held: a place names the block of its bytes

-- The waiting datagram of a place, over the blocks bs.
abbrev pub entry : List (List ℕ) → Place → Entry
entry bs p = record {
  slot = p.slot;
  first = p.first;
  datagram = p.kept.datagram;
  bytes = take p.kept.len (slice_index_or bs p.block []);
}

-- Whether a place names the block b.
abbrev pub names_block : ℕ → Place → Bool
names_block b p = p.block == b

-- A place has as many bytes as it says, and at most 1500.
abbrev pub HasBytes : List (List ℕ) → Place → Type 0
HasBytes bs p = (p.kept.len ≡ length (entry bs p).bytes) × (p.kept.len ≤ 1500)

-- ## The same of places, without the bytes

-- The bytes that count, by the place's own length.
abbrev pub place_weight : Place → ℕ
place_weight p = cond p.first 0 p.kept.len

-- Whether a place is of the attempt in this slot.
abbrev pub place_of : ℕ → Place → Bool
place_of slot p = p.slot == slot

-- Whether a place is of another attempt.
abbrev pub place_other : ℕ → Place → Bool
place_other slot p = not (place_of slot p)

-- Whether a place holds the first datagram of the attempt in this slot.
abbrev pub place_leads : ℕ → Place → Bool
place_leads slot p = place_of slot p && p.first
