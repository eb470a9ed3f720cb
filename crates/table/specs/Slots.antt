use Rattle.std.specs.Prelude.{◌≡◌, ℕ, ◌+◌, ◌-◌, ◌%◌, ◌<◌, Bool, true, false, cond, List, [], ◌∷◌, length, get_or, Some, None, Ok, Err, Option, Result, nat_lt, slice_index_or, take, drop, position}
use Rattle.std.specs.Option.{option_map}
use Rattle.table.specs.declared.slot.Slot.{Slot}
use Rattle.table.specs.declared.slot.Spot.{Spot}
use Rattle.table.specs.declared.slot.Slot.TheVariants.{Empty, Freed, Used}

-- Whether the search for the key k ends at a place: it is empty, or it holds k.
abbrev pub stops : {K V : Type 0} → (K → K → Bool) → K → Slot K V → Bool
stops same k Empty = true
stops same k Freed = false
stops same k (Used a v) = same a k

-- Whether a place holds no key.
abbrev pub vacates : {K V : Type 0} → Slot K V → Bool
vacates Empty = true
vacates Freed = true
vacates (Used a v) = false

-- Whether a place is empty.
abbrev pub is_empty : {K V : Type 0} → Slot K V → Bool
is_empty Empty = true
is_empty Freed = false
is_empty (Used a v) = false

-- Whether a place was freed.
abbrev pub is_freed : {K V : Type 0} → Slot K V → Bool
is_freed Empty = false
is_freed Freed = true
is_freed (Used a v) = false

-- The place d steps on from s, going round n places.
abbrev pub around : ℕ → ℕ → ℕ → ℕ
around n s d = cond (nat_lt (s + d) n) (s + d) (s + d - n)

-- What one place answers for the key k.
abbrev pub answer : {K V : Type 0} → (K → K → Bool) → K → Slot K V → Option V
answer same k Empty = None
answer same k Freed = None
answer same k (Used a v) = cond (same a k) (Some v) None

-- The first answer if there is one, else the second.
abbrev pub or_else : {V : Type 0} → Option V → Option V → Option V
or_else (Some v) o = Some v
or_else None o = o

-- The first place from start on that passes the test, or else the first before start.
abbrev pub nearest : {T : Type 0} → (T → Bool) → List T → ℕ → Option ℕ
nearest p s start = or_else (option_map (λ d. start + d) (position p (drop start s))) (position p (take start s))

-- The map that the places stand for: the value under k.
abbrev pub lookup : {K V : Type 0} → (K → K → Bool) → List (Slot K V) → K → Option V
lookup same [] k = None
lookup same (x ∷ xs) k = or_else (answer same k x) (lookup same xs k)

-- How many keys a place holds.
abbrev pub weight : {K V : Type 0} → Slot K V → ℕ
weight Empty = 0
weight Freed = 0
weight (Used a v) = 1

-- How many keys the places hold.
abbrev pub used : {K V : Type 0} → List (Slot K V) → ℕ
used [] = 0
used (x ∷ xs) = weight x + used xs

-- The place, of n, at which the search for a key with the code c begins.
abbrev pub home : ℕ → ℕ → ℕ
home n c = c % n

-- A key that stands dist places after its home, and one of the places on the way there.
pub record Way {K V : Type 0} (code : K → ℕ) (s : List (Slot K V)) : Type 0 where
  pub key : K
  pub value : V
  pub dist : ℕ
  pub within : dist < length s
  pub stands : get_or s (around (length s) (home (length s) (code key)) dist) Empty ≡ Used key value
  pub step : ℕ
  pub before : step < dist

-- The search for a key that stands somewhere does not end before that place.
-- It is one function from a record, since a ghost field cannot state one of several arguments.
abbrev pub Reached : {K V : Type 0} → (K → K → Bool) → (K → ℕ) → List (Slot K V) → Type 0
Reached same code s = (w : Way code s) → stops same w.key (slice_index_or s (around (length s) (home (length s) (code w.key)) w.step) Empty) ≡ false

-- Where a key stands, with its value; or, in a table whose keys can be reached, that no place answers for it.
abbrev pub Stands : {K V : Type 0} → (K → K → Bool) → (K → ℕ) → List (Slot K V) → K → Option (Spot V) → Type 0
Stands same code s k (Some x) = (x.at < length s) × (slice_index_or s x.at Empty ≡ Used k x.value)
Stands same code s k None = Reached same code s → (j : ℕ) → j < length s → answer same k (slice_index_or s j Empty) ≡ None

-- The map of t is that of s, except that it has o under k.
abbrev pub With : {K V : Type 0} → (K → K → Bool) → List (Slot K V) → List (Slot K V) → K → Option V → Type 0
With {K} same s t k o = (j : K) → lookup same t j ≡ cond (same k j) o (lookup same s j)

-- By how much the count grows, from what stood under the key before.
abbrev pub grew : {V : Type 0} → Option V → ℕ
grew None = 1
grew (Some v) = 0

-- What put(k, v) does to the places s, which become t, and what it answers: the old value, with v now under k, or a refusal that changes nothing.
-- A new key finds room unless each place has a key, and a known key is never refused.
abbrev pub Put : {K V E : Type 0} → (K → K → Bool) → List (Slot K V) → List (Slot K V) → K → V → Result (Option V) E → Type 0
Put same s t k v (Ok old) =
    (old ≡ lookup same s k) × With same s t k (Some v) × (used t ≡ used s + grew old)
    × (old ≡ None → used s < length s)
Put same s t k v (Err e) = (t ≡ s) × (lookup same s k ≡ None) × (used s ≡ length s)

-- What remove(k) does to the places s, which become t, and what it answers: the value that stood under k, with k now absent, or that there was none.
abbrev pub Removed : {K V : Type 0} → (K → K → Bool) → List (Slot K V) → List (Slot K V) → K → Option V → Type 0
Removed same s t k (Some v) = (Some v ≡ lookup same s k) × With same s t k None × (used t + 1 ≡ used s)
Removed same s t k None = (lookup same s k ≡ None) × (t ≡ s)

-- Each place is empty.
abbrev pub Cleared : {K V : Type 0} → List (Slot K V) → Type 0
Cleared s = (j : ℕ) → j < length s → slice_index_or s j Empty ≡ Empty

-- The keys can still be reached, and the size, the map and the count are as they were.
pub record Tidied {K V : Type 0} (same : K → K → Bool) (code : K → ℕ) (s t : List (Slot K V)) : Type 0 where
  pub reached : Reached same code t
  pub long : length t ≡ length s
  pub maps : (j : K) → lookup same t j ≡ lookup same s j
  pub count : used t ≡ used s
