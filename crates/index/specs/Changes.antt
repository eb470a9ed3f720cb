-- What an event leaves of the Initial entries.
use Rattle.std.specs.Prelude.{◌≡◌, ℕ, ◌+◌, true, false, cond, is_some, Option, List}
use Rattle.table.specs.declared.slot.Slot.{Slot}
use Rattle.table.specs.Slots.{lookup}
use Rattle.records.specs.declared.shared.ConnectionId.{ConnectionId}
use Rattle.records.specs.Ids.{same_id, empty}
use Rattle.index.specs.declared.target.RouteDatagramTo.{RouteDatagramTo}

-- 1 where there is an entry
abbrev pub present : {V : Type 0} → Option V → ℕ
present o = cond (is_some o) 1 0

-- places with m keys become t with n keys, with the entry o under x, unless x is empty
pub record Changed (s t : List (Slot ConnectionId RouteDatagramTo)) (m n : ℕ) (x : ConnectionId) (o : Option RouteDatagramTo) : Type 0 where
  pub maps : (q : ConnectionId) → lookup same_id t q ≡ cond (empty x) (lookup same_id s q) (cond (same_id x q) o (lookup same_id s q))
  pub count : empty x ≡ false → n + present (lookup same_id s x) ≡ m + present o
  pub kept : empty x ≡ true → n ≡ m
