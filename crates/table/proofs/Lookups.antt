use Rattle.std.proofs.Common.{◌≡◌, ℕ, zero, suc, ◌+◌, ◌<◌, ◌≤◌, Bool, ◌≢◌, List, [], ◌∷◌, length, get_or, set, Some, None, Option, sym, refl, ap, ◌∙◌, arith}
use Rattle.table.specs.declared.slot.Slot.{Slot}
use Rattle.table.specs.declared.slot.Slot.TheVariants.{Empty, Freed, Used}
use Rattle.table.specs.Slots.{answer, or_else, lookup, weight, used}

module _ {K V : Type 0} (same : K → K → Bool) where
  -- A key for which no place answers is not in the map.
  pub lookup_absent : (s : List (Slot K V)) (k : K) → ((j : ℕ) → j < length s → answer same k (get_or s j Empty) ≡ None) → lookup same s k ≡ None
  lookup_absent [] k h = refl
  lookup_absent (x ∷ xs) k h =
      ap (λ o. or_else o (lookup same xs k)) (h 0 (omega arith)) ∙ lookup_absent xs k (λ j i. h (suc j) (omega arith))

  -- Where only the place p answers for k, its answer is the map's.
  pub lookup_alone : (s : List (Slot K V)) (p : ℕ) (k : K) → p < length s → ((j : ℕ) → j < length s → j ≢ p → answer same k (get_or s j Empty) ≡ None) → lookup same s k ≡ answer same k (get_or s p Empty)
  lookup_alone [] p k l h = absurd (omega arith)
  lookup_alone (x ∷ xs) zero k l h =
      ap (or_else (answer same k x)) (lookup_absent xs k (λ j i. h (suc j) (omega arith) (omega arith))) ∙ or_none (answer same k x)
    where
      or_none : (o : Option V) → or_else o None ≡ o
      or_none (Some v) = refl
      or_none None = refl
  lookup_alone (x ∷ xs) (suc p) k l h =
      ap (λ o. or_else o (lookup same xs k)) (h 0 (omega arith) (omega arith))
      ∙ lookup_alone xs p k (omega arith) (λ j i ne. h (suc j) (omega arith) (omega arith))

  -- A write to a place that answers for k neither before nor after does not change the value under k.
  pub lookup_skip : (s : List (Slot K V)) (p : ℕ) (y : Slot K V) (k : K) → answer same k y ≡ None → answer same k (get_or s p Empty) ≡ None → lookup same (set s p y) k ≡ lookup same s k
  lookup_skip [] p y k a b = refl
  lookup_skip (x ∷ xs) zero y k a b = ap (λ o. or_else o (lookup same xs k)) (a ∙ sym b)
  lookup_skip (x ∷ xs) (suc p) y k a b = ap (or_else (answer same k x)) (lookup_skip xs p y k a b)

module _ {K V : Type 0} where
  -- A write changes the count by what the place gains and loses.
  pub used_set : (s : List (Slot K V)) (p : ℕ) (y : Slot K V) → p < length s → used (set s p y) + weight (get_or s p Empty) ≡ used s + weight y
  used_set [] p y l = absurd (omega arith)
  used_set (x ∷ xs) zero y l = omega arith
  used_set (x ∷ xs) (suc p) y l = let h = used_set xs p y (omega arith) in omega arith

  -- Where each place has a key, the count is the length.
  pub used_full : (s : List (Slot K V)) → ((j : ℕ) → j < length s → weight (get_or s j Empty) ≡ 1) → used s ≡ length s
  used_full [] h = refl
  used_full (x ∷ xs) h =
      let a : weight x ≡ 1 = h 0 (omega arith) in
      let b = used_full xs (λ j l. h (suc j) (omega arith)) in
      omega arith

  -- A place holds at most one key.
  pub weight_most : (x : Slot K V) → weight x ≤ 1
  weight_most Empty = omega arith
  weight_most Freed = omega arith
  weight_most (Used a v) = omega arith

  -- There are no more keys than places.
  pub used_most : (s : List (Slot K V)) → used s ≤ length s
  used_most [] = omega arith
  used_most (x ∷ xs) = let a = weight_most x in let b = used_most xs in omega arith

  -- Where one place has no key, there are fewer keys than places.
  pub used_room : (s : List (Slot K V)) (p : ℕ) → p < length s → weight (get_or s p Empty) ≡ 0 → used s < length s
  used_room [] p l w = absurd (omega arith)
  used_room (x ∷ xs) zero l w = let b = used_most xs in omega arith
  used_room (x ∷ xs) (suc p) l w = let a = weight_most x in let b = used_room xs p (omega arith) w in omega arith

  -- Empty places hold no key.
  pub used_none : (s : List (Slot K V)) → ((j : ℕ) → j < length s → get_or s j Empty ≡ Empty) → used s ≡ 0
  used_none [] h = refl
  used_none (x ∷ xs) h =
      let a : weight x ≡ 0 = ap weight (h 0 (omega arith)) in
      let b = used_none xs (λ j l. h (suc j) (omega arith)) in
      omega arith
