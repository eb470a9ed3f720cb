use Rattle.std.proofs.Common.{◌≡◌, ℕ, zero, suc, ◌+◌, ◌-◌, ◌<◌, ◌≤◌, List, [], ◌∷◌, reverse, length, get_or, take, drop, Some, sym, refl, ap, ◌∙◌, arith}
use Rattle.places.specs.Stacks.{top_of}
use Rattle.places.specs.Free.{counting}
use Rattle.std.proofs.lemmas.List.{length-reverse, length-take-le, get_or-reverse, ext_get_or}

pub free_length : (xs : List ℕ) (u : ℕ) → u ≤ length xs → length (reverse (take u xs)) ≡ u
free_length xs u le = length-reverse (take u xs) ∙ length-take-le u xs le

pub top_cons : (l : List ℕ) (x : ℕ) → Some x ≡ top_of l → l ≡ x ∷ drop 1 l
top_cons [] x h = let z : ◌≡◌ {A = ℕ} 0 1 = cc in absurd (omega arith)
top_cons (y ∷ l) x h = let e : x ≡ y = cc in ap (λ n. n ∷ l) (sym e)

length_counting : (i n : ℕ) → length (counting i n) ≡ n
length_counting i zero = refl
length_counting i (suc n) = grind (arith, length_counting (i + 1) n)

get_or_counting : (i n k : ℕ) → k < n → get_or (counting i n) k 0 ≡ i + k
get_or_counting i zero k h = absurd (omega arith)
get_or_counting i (suc n) zero h = omega arith
get_or_counting i (suc n) (suc k) h = omega (arith, get_or_counting (i + 1) n k (omega arith))

-- written from the highest down
pub piled : (xs : List ℕ) → ((k : ℕ) → k < length xs → get_or xs k 0 ≡ length xs - 1 - k) → reverse xs ≡ counting 0 (length xs)
piled xs at =
    ext_get_or 0 (reverse xs) (counting 0 (length xs)) (length-reverse xs ∙ sym (length_counting 0 (length xs)))
    (λ k h.
    let l = length-reverse xs in
    let r = get_or_counting 0 (length xs) k (omega arith) in
    let g = at (length xs - 1 - k) (omega arith) in
    get_or-reverse xs k 0 (omega arith) ∙ g ∙ omega arith)
