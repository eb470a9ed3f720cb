-- Bytes that are drawn one by one, and a reset put together.
use Rattle.std.proofs.Common.{◌≡◌, ℕ, ◌+◌, List, [], ◌∷◌, ◌++◌, length, drop, sym, refl, ap, ◌∙◌, append_assoc, arith, length-append}
use Rattle.std.proofs.lemmas.List.{drop-drop}
use Rattle.model.specs.Endpoint.{row}
use Rattle.model.specs.Calls.{marked}
use Rattle.model.proofs.Draws.{row_append}
use Rattle.resets.specs.Bytes.{over}

-- one more byte behind the row
pub row_more : (f : ℕ → ℕ) (i b : ℕ) → b ≡ f (i + 0) → row f 0 i ++ b ∷ [] ≡ row f 0 (i + 1)
row_more f i b e = ap (λ x. row f 0 i ++ x ∷ []) (e ∙ ap f (omega arith)) ∙ sym (row_append f 0 i 1)

-- marking keeps the length
pub marked_length : (xs : List ℕ) → length (marked xs) ≡ length xs
marked_length [] = refl
marked_length (x ∷ xs) = refl

-- bytes over what is behind others are the two together over the whole
pub over_behind : (xs ys o : List ℕ) (p : ℕ) → length xs ≡ p → xs ++ over ys (drop p o) ≡ over (xs ++ ys) o
over_behind xs ys o p e =
    let n : p + length ys ≡ length (xs ++ ys) = omega (arith, length-append xs ys) in
    ap (λ r. xs ++ (ys ++ r)) (drop-drop (length ys) p o ∙ ap (λ k. drop k o) n) ∙ sym (append_assoc xs ys (drop (length (xs ++ ys)) o))
