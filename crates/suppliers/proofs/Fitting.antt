-- Lists that a generator takes.
use Rattle.std.proofs.Common.{◌≡◌, ℕ, ◌≤◌, true, false, List, length, get_or, ◌==◌, ap, ◌∙◌, sym, arith}
use Rattle.std.proofs.lemmas.Bool.{eqb-false, and_from, le-leb}
use Rattle.records.specs.declared.shared.ConnectionId.{ConnectionId}
use Rattle.records.specs.Ids.{no_id}
use Rattle.suppliers.specs.Lists.{all_of, list_fits}

pub fits_from : (xs ys : List ConnectionId) (n : ℕ) → (length xs == 0) ≡ false → length xs ≤ 32 → n ≡ (get_or xs 0 no_id).len → all_of n xs ≡ true → ys ≡ xs → list_fits ys ≡ true
fits_from xs ys n e few is t same =
    ap list_fits same ∙ and_from _ _ (le-leb 1 (length xs) (omega (arith, eqb-false (length xs) 0 e))) (and_from _ _ (le-leb (length xs) 32 few) (ap (λ m. all_of m xs) (sym is) ∙ t))
