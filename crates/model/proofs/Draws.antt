-- A search among draws depends on the draws that it makes alone.
use Rattle.std.proofs.lemmas.Bool.Decides.{nat_tests}
use Rattle.std.proofs.Common.{◌≡◌, ℕ, zero, suc, ◌+◌, ◌<◌, ◌≤◌, Bool, true, false, cond, not, ◌||◌, List, [], ◌∷◌, ◌++◌, length, sym, refl, ap, ◌∙◌, subst, ap₂, inl, inr, arith}
use Rattle.std.proofs.lemmas.Bool.{cond_both, cases_eq}
use Rattle.model.specs.Records.{same_id, Id, empty}
use Rattle.model.specs.Endpoint.{row, Search, none_left, found, fresh, and_then, several}

pub same_head : {A : Type 0} (a b : A) (xs ys : List A) → a ∷ xs ≡ b ∷ ys → a ≡ b
same_head a b xs ys e = cc

pub same_tail : {A : Type 0} (a b : A) (xs ys : List A) → a ∷ xs ≡ b ∷ ys → xs ≡ ys
same_tail a b xs ys e = cc

module _ {A : Type 0} where
  pub row_length : (f : ℕ → A) (i n : ℕ) → length (row f i n) ≡ n
  row_length f i zero = refl
  row_length f i (suc n) = ap suc (row_length f (i + 1) n)

  pub row_append : (f : ℕ → A) (i n m : ℕ) → row f i (n + m) ≡ row f i n ++ row f (i + n) m
  row_append f i zero m = ap₂ {C = List A} (λ a b. row f a b) (omega arith) (omega arith)
  row_append f i (suc n) m =
      ap (λ (k : ℕ). row f i k) (plus n m) ∙ ap {B = List A} (λ r. f i ∷ r) (row_append f (i + 1) n m ∙ ap (λ (k : ℕ). row f (i + 1) n ++ row f k m) (omega arith))
    where
      plus : (n m : ℕ) → suc n + m ≡ suc (n + m)
      plus n m = omega arith

  pub row_shift : (f : ℕ → A) (k i n : ℕ) → row (λ j. f (k + j)) i n ≡ row f (k + i) n
  row_shift f k i zero = refl
  row_shift f k i (suc n) = ap {B = List A} (λ r. f (k + i) ∷ r) (row_shift f k (i + 1) n ∙ ap (λ (j : ℕ). row f j n) (omega arith))

  pub row_at : (f g : ℕ → A) (i n : ℕ) → row g i n ≡ row f i n → (p : ℕ) → i ≤ p → p < i + n → g p ≡ f p
  row_at f g i zero e p l h = absurd (omega arith)
  row_at f g i (suc n) e p l h = elim (cases_eq p i) [
    | inl z ↦ ap g z ∙ same_head (g i) (f i) (row g (i + 1) n) (row f (i + 1) n) e ∙ ap f (sym z)
    | inr off ↦ row_at f g (i + 1) n (same_tail (g i) (f i) (row g (i + 1) n) (row f (i + 1) n) e) p (omega arith) (omega arith)
  ]

  pub fronts : (ps qs cs ds : List A) → length ps ≡ length qs → ps ++ cs ≡ qs ++ ds → (ps ≡ qs) × (cs ≡ ds)
  fronts [] [] cs ds l e = (refl, e)
  fronts [] (b ∷ qs) cs ds l e = absurd (omega arith)
  fronts (a ∷ ps) [] cs ds l e = absurd (omega arith)
  fronts (a ∷ ps) (b ∷ qs) cs ds l e = grind (arith, nat_tests, fronts ps qs cs ds (omega arith) (same_tail a b (ps ++ cs) (qs ++ ds) e))

  -- a list that is a row up to its length, taken apart
  pub row_front : (f : ℕ → A) (xs ys : List A) → row f 0 (length (xs ++ ys)) ≡ xs ++ ys → length (xs ++ ys) ≡ length xs + length ys →
      (row f 0 (length xs) ≡ xs) × (row f (length xs) (length ys) ≡ ys)
  row_front f xs ys e l =
      grind (arith, nat_tests, row_append f 0 (length xs) (length ys), fronts (row f 0 (length xs)) xs (row f (length xs) (length ys)) ys (row_length f 0 (length xs)), row_length f 0 (length xs))

-- the place of the draw after a search
abbrev pub end : {A : Type 0} → Search A → ℕ
end (none_left j) = j
end (found a j) = j

abbrev pub Same : (ℕ → Id) → (ℕ → Id) → ℕ → ℕ → Type 0
Same f g i j = (p : ℕ) → i ≤ p → p < j → g p ≡ f p

abbrev passes : (Id → Bool) → Id → Bool
passes taken x = empty x || not (taken x)

fresh_end : (taken : Id → Bool) (f : ℕ → Id) (i n : ℕ) → i ≤ end (fresh taken f i n)
fresh_end taken f i zero = omega arith
fresh_end taken f i (suc n) = grind (arith, nat_tests, fresh_end taken f (i + 1) n)

fresh_local : (taken : Id → Bool) (f g : ℕ → Id) (i n : ℕ) → Same f g i (end (fresh taken f i n)) → fresh taken g i n ≡ fresh taken f i n
fresh_local taken f g i zero same = refl
fresh_local taken f g i (suc n) same =
    ap (λ x. cond (passes taken x) (found x (i + 1)) (fresh taken g (i + 1) n)) (same i (omega arith) begins)
    ∙ go (passes taken (f i)) same (λ s. fresh_local taken f g (i + 1) n s)
  where
    begins : i < end (fresh taken f i (suc n))
    begins = cond_both (passes taken (f i)) (found (f i) (i + 1)) (fresh taken f (i + 1) n) (λ r. i < end r) (λ _. omega arith) (λ _. omega (arith, fresh_end taken f (i + 1) n))

    go : (b : Bool) → Same f g i (end (cond b (found (f i) (i + 1)) (fresh taken f (i + 1) n))) →
        (Same f g (i + 1) (end (fresh taken f (i + 1) n)) → fresh taken g (i + 1) n ≡ fresh taken f (i + 1) n) →
        cond b (found (f i) (i + 1)) (fresh taken g (i + 1) n) ≡ cond b (found (f i) (i + 1)) (fresh taken f (i + 1) n)
    go true s ih = refl
    go false s ih = ih (λ p l h. s p (omega arith) h)

abbrev prefixed : Id → Search (List Id) → Search (List Id)
prefixed x r = and_then r (λ xs k. found (x ∷ xs) k)

prefixed_end : (x : Id) (r : Search (List Id)) → end (prefixed x r) ≡ end r
prefixed_end x (none_left j) = refl
prefixed_end x (found xs j) = refl

several_end : (taken : Id → Bool) (f : ℕ → Id) (i n : ℕ) → i ≤ end (several taken f i n)
several_end taken f i zero = omega arith
several_end taken f i (suc n) = go (λ x j. several_end (λ y. same_id y x || taken y) f j n) (fresh taken f i 16) (fresh_end taken f i 16)
  where
    go : ((x : Id) (j : ℕ) → j ≤ end (several (λ y. same_id y x || taken y) f j n)) → (r : Search Id) → i ≤ end r →
        i ≤ end (and_then r (λ x j. prefixed x (several (λ y. same_id y x || taken y) f j n)))
    go ih (none_left j) l = l
    go ih (found x j) l = omega (arith, ih x j, prefixed_end x (several (λ y. same_id y x || taken y) f j n))

pub several_local : (taken : Id → Bool) (f g : ℕ → Id) (i n : ℕ) → Same f g i (end (several taken f i n)) → several taken g i n ≡ several taken f i n
several_local taken f g i zero same = refl
several_local taken f g i (suc n) same =
    ap (λ r. and_then r (λ x j. prefixed x (several (λ y. same_id y x || taken y) g j n))) (fresh_local taken f g i 16 (λ p l h. same p l (less (fresh taken f i 16) p h)))
    ∙ go (λ x j. several_local (λ y. same_id y x || taken y) f g j n) (fresh taken f i 16) (fresh_end taken f i 16) same
  where
    more : Id → ℕ → Search (List Id)
    more x j = several (λ y. same_id y x || taken y) f j n

    less : (r : Search Id) (p : ℕ) → p < end r → p < end (and_then r (λ x j. prefixed x (several (λ y. same_id y x || taken y) f j n)))
    less (none_left j) p h = h
    less (found x j) p h = omega (arith, several_end (λ y. same_id y x || taken y) f j n, prefixed_end x (several (λ y. same_id y x || taken y) f j n))

    go : ((x : Id) (j : ℕ) → Same f g j (end (several (λ y. same_id y x || taken y) f j n)) → several (λ y. same_id y x || taken y) g j n ≡ several (λ y. same_id y x || taken y) f j n) →
        (r : Search Id) → i ≤ end r → Same f g i (end (and_then r (λ x j. prefixed x (several (λ y. same_id y x || taken y) f j n)))) →
        and_then r (λ x j. prefixed x (several (λ y. same_id y x || taken y) g j n)) ≡ and_then r (λ x j. prefixed x (several (λ y. same_id y x || taken y) f j n))
    go ih (none_left j) l s = refl
    go ih (found x j) l s = ap (prefixed x) (ih x j (λ p b h. s p (omega arith) (subst (λ (k : ℕ). p < k) (sym (prefixed_end x (several (λ y. same_id y x || taken y) f j n))) h)))
