-- What a search that goes round finds, place by place.
use Rattle.std.proofs.Common.{◌≡◌, ℕ, ◌+◌, ◌-◌, ◌<◌, ◌≤◌, Bool, true, false, List, length, get_or, take, drop, position, Some, None, Option, sym, refl, ap, ◌∙◌, inl, inr, arith, length-drop, length-take, subst}
use Rattle.std.proofs.lemmas.Bool.{cases_lt, both_ways}
use Rattle.std.proofs.lemmas.Bool.Decides.{nat_tests}
use Rattle.std.proofs.lemmas.List.{get_or-drop, get_or-take}
use Rattle.std.proofs.lemmas.List.Quantifiers.{position-Some}
use Rattle.std.proofs.lemmas.List.Sums.{fails_before_first}
use Rattle.std.specs.Option.{option_map}
use Rattle.table.specs.declared.slot.Slot.{Slot}
use Rattle.table.specs.declared.slot.Slot.TheVariants.{Empty, Freed, Used}
use Rattle.table.specs.Slots.{stops, vacates, is_empty, is_freed, weight, around, or_else, nearest}

-- None of the first n places from start on, going round, passes the test.
abbrev pub NoneOf : {T : Type 0} → (T → Bool) → T → List T → ℕ → ℕ → Type 0
NoneOf p d s start n = (e : ℕ) → e < n → p (get_or s (around (length s) start e) d) ≡ false

-- The nearest place from start on, going round, that passes the test, if there is one.
abbrev pub Round : {T : Type 0} → (T → Bool) → T → List T → ℕ → Option ℕ → Type 0
Round p d s start (Some at) =
    (at < length s) × (p (get_or s at d) ≡ true)
    × ((e : ℕ) × (e < length s) × (at ≡ around (length s) start e) × NoneOf p d s start e)
Round p d s start None = NoneOf p d s start (length s)

-- The search for k from start on does not end at any of the first d places.
abbrev pub Passed : {K V : Type 0} → (K → K → Bool) → List (Slot K V) → ℕ → K → ℕ → Type 0
Passed same s start k d = NoneOf (stops same k) Empty s start d

module _ {T : Type 0} (p : T → Bool) (d : T) where
  position_none : (xs : List T) → position p xs ≡ None → (k : ℕ) → k < length xs → p (get_or xs k d) ≡ false
  position_none xs e k l = fails_before_first p xs k d (grind (arith, nat_tests))

  -- What the search gives, place by place.
  pub nearest_round : (s : List T) (start : ℕ) → start < length s → Round p d s start (nearest p s start)
  nearest_round s start l = by (position p (drop start s)) refl (position p (take start s)) refl
    where
      far : (k : ℕ) → k < length s - start → p (get_or (drop start s) k d) ≡ false → p (get_or s (around (length s) start k) d) ≡ false
      far k h f =
          let a : around (length s) start k ≡ start + k = grind (arith, nat_tests) in
          ap (λ i. p (get_or s i d)) a ∙ ap p (sym (get_or-drop start s k d)) ∙ f

      near : (k e : ℕ) → k < start → e ≡ length s - start + k → p (get_or (take start s) k d) ≡ false → p (get_or s (around (length s) start e) d) ≡ false
      near k e h q f =
          let a : around (length s) start e ≡ k = grind (arith, nat_tests) in
          ap (λ i. p (get_or s i d)) a ∙ ap p (sym (get_or-take start s k d h)) ∙ f

      -- none behind start, and none of the first j before it
      round : ((k : ℕ) → k < length (drop start s) → p (get_or (drop start s) k d) ≡ false) → (j : ℕ) → j ≤ start → ((k : ℕ) → k < j → p (get_or (take start s) k d) ≡ false) → NoneOf p d s start (length s - start + j)
      round z j h w e el = elim (cases_lt e (length s - start)) [
        | inl q ↦ far e q (z e (rw length-drop q))
        | inr q ↦ near (e - (length s - start)) e (omega arith) (omega arith) (w (e - (length s - start)) (omega arith))
      ]

      by : (o : Option ℕ) → position p (drop start s) ≡ o → (q : Option ℕ) → position p (take start s) ≡ q → Round p d s start (or_else (option_map (λ i. start + i) o) q)
      by (Some i) e q f =
          let w = position-Some p (drop start s) i d e in
          let l : i < length s - start = rw length-drop at w.0 in
          let a : start + i ≡ around (length s) start i = grind (arith, nat_tests) in
          (omega arith, ap p (sym (get_or-drop start s i d)) ∙ w.1, (i, omega arith, a, λ k h. far k (omega arith) (w.2 k h)))
      by None e (Some j) f =
          let w = position-Some p (take start s) j d f in
          let b : j < start = omega (arith, w.0, length-take start s) in
          let a : j ≡ around (length s) start (length s - start + j) = grind (arith, nat_tests) in
          (omega arith, ap p (sym (get_or-take start s j d b)) ∙ w.1, (length s - start + j, omega arith, a, round (position_none (drop start s) e) j (omega arith) w.2))
      by None e None f =
          let w : (k : ℕ) → k < start → p (get_or (take start s) k d) ≡ false = λ k h. position_none (take start s) f k (omega (arith, length-take start s)) in
          let z : length s - start + start ≡ length s = omega arith in
          subst (λ m. NoneOf p d s start m) z (round (position_none (drop start s) e) start (omega arith) w)

-- The same of a result, where the start is known by another name.
pub round_is : {T : Type 0} (p : T → Bool) (d : T) (s : List T) (o h : ℕ) (r : Option ℕ) → o ≡ h → o < length s → r ≡ nearest p s o → Round p d s h r
round_is p d s o h r e l q = subst (λ m. Round p d s m r) e (subst (Round p d s o) (sym q) (nearest_round p d s o l))

-- A place that passes the test for vacancy holds no key, and any other one.
pub vacates_weight : {K V : Type 0} (x : Slot K V) → vacates x ≡ true → weight x ≡ 0
vacates_weight Empty e = refl
vacates_weight Freed e = refl
vacates_weight (Used a v) e = absurd (both_ways _ refl e)

pub kept_weight : {K V : Type 0} (x : Slot K V) → vacates x ≡ false → weight x ≡ 1
kept_weight Empty e = absurd (both_ways _ e refl)
kept_weight Freed e = absurd (both_ways _ e refl)
kept_weight (Used a v) e = refl

pub freed_is : {K V : Type 0} (x : Slot K V) → is_freed x ≡ true → x ≡ Freed
freed_is Empty e = absurd (both_ways _ refl e)
freed_is Freed e = refl
freed_is (Used a v) e = absurd (both_ways _ refl e)

pub empty_is : {K V : Type 0} (x : Slot K V) → is_empty x ≡ true → x ≡ Empty
empty_is Empty e = refl
empty_is Freed e = absurd (both_ways _ refl e)
empty_is (Used a v) e = absurd (both_ways _ refl e)
