-- What the datagrams in order of arrival say of the attempts.
use Rattle.std.specs.Prelude.{◌≡◌, ℕ, Bool, true, ◌&&◌, List, [], ◌∷◌, ◌++◌, length}
use Rattle.places.specs.Entries.{Entry, total, mine, attempts}
use Rattle.model.specs.Endpoint.{waiting_total, attempt_bytes, places_used}
use Rattle.model.specs.Calls.{in_slot}
use Rattle.waiting.specs.Groups.{in_place, add, groups, comes, proper, of_slots, grouped}

-- One more datagram changes the attempts by one step.
abbrev pub Adds : Type 0
Adds = (es : List Entry) (e : Entry) → groups (es ++ e ∷ []) ≡ add (groups es) e

-- One more datagram keeps the list proper where it may come.
abbrev pub AddsProper : Type 0
AddsProper = (es : List Entry) (e : Entry) → proper (es ++ e ∷ []) ≡ (proper es && comes (groups es) e)

-- The datagrams of some slots make up the attempts in those slots.
abbrev pub Keeps : Type 0
Keeps = (p : ℕ → Bool) (es : List Entry) → groups (of_slots p es) ≡ in_place p (groups es)

-- The datagrams of some slots stay proper.
abbrev pub KeepsProper : Type 0
KeepsProper = (p : ℕ → Bool) (es : List Entry) → proper es ≡ true → proper (of_slots p es) ≡ true

-- The bytes that wait are those of the datagrams, first ones apart.
abbrev pub Totals : Type 0
Totals = (es : List Entry) → proper es ≡ true → waiting_total (groups es) ≡ total es

-- The bytes that wait for an attempt are those of its datagrams, the first apart.
abbrev pub Parts : Type 0
Parts = (es : List Entry) (slot : ℕ) → proper es ≡ true → attempt_bytes (groups es) slot ≡ total (mine es slot)

-- The attempts use as many places as there are datagrams.
abbrev pub PlacesUsed : Type 0
PlacesUsed = (es : List Entry) → proper es ≡ true → places_used (groups es) ≡ length es

-- There are as many attempts as first datagrams.
abbrev pub Counts : Type 0
Counts = (es : List Entry) → length (groups es) ≡ attempts es

-- An attempt has the datagrams of its slot in order of arrival, its first one in front.
abbrev pub Finds : Type 0
Finds = (es : List Entry) (slot : ℕ) → proper es ≡ true → in_slot (groups es) slot ≡ grouped slot (mine es slot)
