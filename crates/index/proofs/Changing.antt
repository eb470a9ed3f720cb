-- What taking an Initial entry out leaves.
use Rattle.std.proofs.Common.{◌≡◌, false, cond, Some, None, Option, List, ℕ, sym, ap, ◌∙◌, arith}
use Rattle.table.specs.declared.slot.Slot.{Slot}
use Rattle.table.specs.Slots.{lookup, used, Removed}
use Rattle.records.specs.declared.shared.ConnectionId.{ConnectionId}
use Rattle.records.specs.Ids.{same_id, empty}
use Rattle.records.specs.Same.{same_id_decides}
use Rattle.index.specs.declared.target.RouteDatagramTo.{RouteDatagramTo}
use Rattle.index.specs.Changes.{present, Changed}

module _ (s t : List (Slot ConnectionId RouteDatagramTo)) (m n : ℕ) (x : ConnectionId) (o : Option RouteDatagramTo) (some : empty x ≡ false) (none : o ≡ None)
    (before : m ≡ used s) (after : n ≡ used t) where
  seen : (q : ConnectionId) → cond (same_id x q) None (lookup same_id s q) ≡ cond (empty x) (lookup same_id s q) (cond (same_id x q) o (lookup same_id s q))
  seen q = grind arith

  absent : lookup same_id s x ≡ None → (q : ConnectionId) → lookup same_id s q ≡ cond (same_id x q) None (lookup same_id s q)
  absent gone q = grind (arith, same_id_decides x q)

  pub removed : (r : Option RouteDatagramTo) → Removed same_id s t x r → Changed s t m n x o
  removed (Some v) h = record {
    maps = λ q. h.1 q ∙ seen q;
    count = λ _. omega (arith, ap present (sym h.0), ap present none, h.2);
    kept = λ e. absurd cc;
  }
  removed None h = record {
    maps = λ q. ap (λ l. lookup same_id l q) h.1 ∙ absent h.0 q ∙ seen q;
    count = λ _. omega (arith, ap present h.0, ap present none, ap used h.1);
    kept = λ e. absurd cc;
  }
