-- The attempts that the host holds, by the number of the call that opened each.
use Rattle.std.specs.Prelude.{◌≡◌, ℕ, zero, suc, ◌<◌, Bool, true, ◌&&◌, List, None, Option, slice_index_or}
use Rattle.records.specs.declared.incoming.Attempt.{Attempt}
use Rattle.model.specs.Endpoint.{is_none}
use Rattle.model.specs.Runs.{in_hand}

-- the first n hold no attempt
abbrev pub all_none : List (Option Attempt) → ℕ → Bool
all_none pool zero = true
all_none pool (suc n) = is_none (slice_index_or pool n None) && all_none pool n

-- the pool holds the attempts of these slots, under the endpoint's number
abbrev pub Holds : ℕ → List (Option Attempt) → (ℕ → Option ℕ) → Type 0
Holds number pool slots = (k : ℕ) → slice_index_or pool k None ≡ in_hand number (slots k)

-- where one pool is empty, so is the next
abbrev pub StillEmpty : List (Option Attempt) → List (Option Attempt) → Type 0
StillEmpty p p' = (k : ℕ) → slice_index_or p k None ≡ None → slice_index_or p' k None ≡ None

-- the same of the places past i
abbrev pub EmptyPast : ℕ → List (Option Attempt) → List (Option Attempt) → Type 0
EmptyPast i p p' = (k : ℕ) → i < k → slice_index_or p k None ≡ None → slice_index_or p' k None ≡ None
