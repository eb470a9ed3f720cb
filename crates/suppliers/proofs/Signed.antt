-- Signatures by exclusive or.
use Rattle.std.proofs.Common.{◌≡◌, ℕ, zero, suc, ◌+◌, ◌%◌, ◌<◌, ◌≤◌, false, List, [], ◌∷◌, length, get_or, ◌==◌, refl, ap, arith, ◌∙◌, sym, subst, inl, inr}
use lib.Bits.{bit_xor}
use denote.Param.Members.{Mut}
use Rattle.std.specs.Fn.{Called}
use Rattle.std.specs.Array.{IsFromFnResultFrom}
use Rattle.std.proofs.lemmas.List.FromFn.{fill_by_all}
use Rattle.std.proofs.lemmas.Bool.{both_ways, cases_eq}
use Rattle.suppliers.specs.Bytes.{xor_signature}

-- what `from_fn` made of a closure that only computes t, at the places i to n - 1
pub from_fn_at : {F B : Type 0} (g : Mut F (ℕ × Unit {0}) B) (f : F) (ys : List B) (t : ℕ → B) (n m i : ℕ) → i + m ≡ n → IsFromFnResultFrom g f ys i m →
    ((k : ℕ) (y : B) (q : F) → k < n → Called g f (k, tt) y q → (q ≡ f) × (y ≡ t k)) → (k : ℕ) (d : B) → i ≤ k → k < n → get_or ys k d ≡ t k
from_fn_at g f ys t n zero i e each pure k d l h = absurd (omega arith)
from_fn_at {F} {B} g f ys t n (suc m) i e each pure k d l h =
    let now = pure i each.1 each.0 (omega arith) each.3 in elim (cases_eq k i) [
      | inl z ↦ ap (λ j. get_or ys j d) z ∙ each.2.1 d ∙ now.1 ∙ ap t (sym z)
      | inr off ↦ from_fn_at g f ys t n m (i + 1) (omega arith) (subst (λ (p : F). IsFromFnResultFrom g p ys (i + 1) m) now.0 each.4) pure k d (omega arith) h
    ]

-- 32 bytes that are each xored are the signature
pub xor_done : (key m out : List ℕ) → (length m == 0) ≡ false → length out ≡ 32 → ((k : ℕ) → k < 32 → get_or out k 0 ≡ bit_xor (get_or key k 0) (get_or m (k % length m) 0)) → out ≡ xor_signature key m
xor_done key [] out some long h = absurd (both_ways _ some refl)
xor_done key (b ∷ bs) out some long h = fill_by_all (λ i. bit_xor (get_or key i 0) (get_or (b ∷ bs) (i % length (b ∷ bs)) 0)) out 32 0 long h
