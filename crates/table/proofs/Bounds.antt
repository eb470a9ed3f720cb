-- A table has no more keys than a list that names each of them.
use Rattle.std.proofs.lemmas.Bool.Decides.{nat_tests}
use Rattle.std.proofs.Common.{◌≡◌, ℕ, zero, suc, ◌+◌, ◌<◌, ◌≤◌, Bool, true, cond, List, [], ◌∷◌, length, get_or, Some, None, Option, refl, ap, ◌∙◌, inl, inr, arith}
use Rattle.table.specs.declared.slot.Slot.{Slot}
use Rattle.table.specs.declared.slot.Slot.TheVariants.{Empty, Freed, Used}
use Rattle.table.specs.Slots.{Reached, answer, or_else, lookup, weight, used}
use Rattle.table.proofs.Tables.{spread, answers, alone}

-- the sum of f over a list
abbrev pub total : {A : Type 0} → (A → ℕ) → List A → ℕ
total f [] = 0
total f (x ∷ xs) = f x + total f xs

total_zero : {A : Type 0} (xs : List A) → total (λ x. 0) xs ≡ 0
total_zero [] = refl
total_zero (x ∷ xs) = omega (arith, total_zero xs)

total_both : {A : Type 0} (f g : A → ℕ) (xs : List A) → total (λ x. f x + g x) xs ≡ total f xs + total g xs
total_both f g [] = refl
total_both f g (x ∷ xs) = let h = total_both f g xs in omega arith

total_ones : {A : Type 0} (f : A → ℕ) → ((x : A) → f x ≤ 1) → (xs : List A) → total f xs ≤ length xs
total_ones f h [] = omega arith
total_ones f h (x ∷ xs) = omega (arith, h x, total_ones f h xs)

-- how often a list names the key a
abbrev pub hits : {K : Type 0} → (K → K → Bool) → K → List K → ℕ
hits same a ks = total (λ k. cond (same a k) 1 0) ks

module _ {K V : Type 0} (same : K → K → Bool) where
  -- 1 at a place that holds k
  abbrev holds : K → Slot K V → ℕ
  holds k Empty = 0
  holds k Freed = 0
  holds k (Used a v) = cond (same a k) 1 0

  -- a key that stands in a place is found
  pub stands_found : (alike : (a : K) → same a a ≡ true) (s : List (Slot K V)) (j : ℕ) (a : K) (v : V) → j < length s → get_or s j Empty ≡ Used a v → lookup same s a ≡ None → ⊥
  stands_found alike [] j a v l e n = omega arith
  stands_found alike (x ∷ xs) zero a v l e n = grind (arith, nat_tests)
  stands_found alike (x ∷ xs) (suc j) a v l e n = stands_found alike xs j a v (omega arith) e (behind (answer same a x) n)
    where
      behind : (o : Option V) → or_else o (lookup same xs a) ≡ None → lookup same xs a ≡ None
      behind (Some w) h = absurd cc
      behind None h = h

  none_hold : (k : K) (s : List (Slot K V)) → ((j : ℕ) → j < length s → answer same k (get_or s j Empty) ≡ None) → total (holds k) s ≡ 0
  none_hold k [] h = refl
  none_hold k (x ∷ xs) h = let a = silent x (h 0 (omega arith)) in let b = none_hold k xs (λ j l. h (suc j) (omega arith)) in omega arith
    where
      silent : (x : Slot K V) → answer same k x ≡ None → holds k x ≡ 0
      silent Empty e = refl
      silent Freed e = refl
      silent (Used a v) e = grind arith

  module _ (exact : (a b : K) → same a b ≡ true → a ≡ b) (alike : (a : K) → same a a ≡ true) where
    holds_most : (k : K) (x : Slot K V) → holds k x ≤ 1
    holds_most k Empty = omega arith
    holds_most k Freed = omega arith
    holds_most k (Used a v) = grind arith

    -- at most one place holds a key, if no two do
    once : (k : K) (s : List (Slot K V)) → ((i j : ℕ) (v w : V) → i < length s → j < length s → get_or s i Empty ≡ Used k v → get_or s j Empty ≡ Used k w → i ≡ j) → total (holds k) s ≤ 1
    once k [] h = omega arith
    once k (x ∷ xs) h = elim (answers same exact alike k x) [
      | inl n ↦
          let a = none_hold k (x ∷ []) (λ j l. let z : j ≡ 0 = omega arith in ap (λ i. answer same k (get_or (x ∷ []) i Empty)) z ∙ n) in
          let b = once k xs (λ i j v w il jl p q. let e = h (suc i) (suc j) v w (omega arith) (omega arith) p q in omega arith) in
          omega arith
      | inr w ↦
          let b = none_hold k xs (λ j l. elim (answers same exact alike k (get_or xs j Empty)) [
            | inl n ↦ n
            | inr y ↦ let e = h 0 (suc j) w.0 y.0 (omega arith) (omega arith) w.1 y.1 in absurd (omega arith)
          ]) in
          omega (arith, holds_most k x)
    ]

    -- each key in a place is named, so there are at most as many keys as names count places
    covered : (ks : List K) (s : List (Slot K V)) → ((j : ℕ) (a : K) (v : V) → j < length s → get_or s j Empty ≡ Used a v → 1 ≤ hits same a ks) → used s ≤ total (λ k. total (holds k) s) ks
    covered ks [] h = omega (arith, total_zero ks)
    covered ks (x ∷ xs) h =
        let a = covered ks xs (λ j a v l e. h (suc j) a v (omega arith) e) in
        let b = total_both (λ k. holds k x) (λ k. total (holds k) xs) ks in
        let c = here x (λ a v e. h 0 a v (omega arith) e) in
        omega arith
      where
        here : (x : Slot K V) → ((a : K) (v : V) → x ≡ Used a v → 1 ≤ hits same a ks) → weight x ≤ total (λ k. holds k x) ks
        here Empty h = omega arith
        here Freed h = omega arith
        here (Used a v) h = h a v refl

    -- a table has no more keys than a list that names each of them
    pub used_bound : (code : K → ℕ) (s : List (Slot K V)) (ks : List K) → Reached same code s → ((a : K) → (lookup same s a ≡ None → ⊥) → 1 ≤ hits same a ks) → used s ≤ length ks
    used_bound code s ks r h =
        let c = covered ks s (λ j a v l e. h a (stands_found alike s j a v l e)) in
        let o = total_ones (λ k. total (holds k) s) (λ k. once k s (λ i j v w il jl p q. alone same exact alike code s k j w (spread same code s r) jl q i v il p)) ks in
        omega arith
