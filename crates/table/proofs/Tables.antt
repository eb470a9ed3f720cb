use Rattle.std.proofs.lemmas.Bool.Decides.{nat_tests}
use Rattle.std.proofs.Common.{◌≡◌, ℕ, ◌+◌, ◌<◌, Bool, true, false, cond, ◌≢◌, ◌⊎◌, List, length, get_or, set, Some, None, Option, Ok, Err, sym, refl, ap, ◌∙◌, subst, inl, inr, mod-lt, arith, length-set, get_or-set_other, get_or-set_same}
use Rattle.std.proofs.lemmas.Bool.{cases_eq, cases_Bool, both_ways, false_from_ne_true}
use Rattle.std.specs.Option.{option_map}
use Rattle.table.specs.declared.slot.Slot.{Slot}
use Rattle.table.specs.declared.slot.Spot.{Spot}
use Rattle.table.specs.declared.slot.Slot.TheVariants.{Empty, Freed, Used}
use Rattle.table.specs.Slots.{stops, vacates, around, home, Reached, Stands, answer, lookup, weight, With, Put, Removed, Cleared, Tidied}
use Rattle.table.proofs.Rounds.{around_more, around_less, around_one, around_to}
use Rattle.table.proofs.Searches.{Round, Passed, vacates_weight, kept_weight}
use Rattle.table.proofs.Lookups.{lookup_absent, lookup_alone, lookup_skip, used_set, used_full, used_room}

-- Reached with one argument for each field, which is easier to apply.
abbrev pub Reach : {K V : Type 0} → (K → K → Bool) → (K → ℕ) → List (Slot K V) → Type 0
Reach {K} {V} same code s =
    (k : K) (v : V) (d : ℕ) → d < length s → get_or s (around (length s) (home (length s) (code k)) d) Empty ≡ Used k v
    → Passed same s (home (length s) (code k)) k d

-- Reached, taken apart.
pub spread : {K V : Type 0} (same : K → K → Bool) (code : K → ℕ) (s : List (Slot K V)) → Reached same code s → Reach same code s
spread same code s r k v d l h e el = r (record { key = k; value = v; dist = d; within = l; stands = h; step = e; before = el })

-- Reached, put together.
pub joined : {K V : Type 0} (same : K → K → Bool) (code : K → ℕ) (s : List (Slot K V)) → Reach same code s → Reached same code s
joined same code s r w = r w.key w.value w.dist w.within w.stands w.step w.before

module _ {K V : Type 0} (same : K → K → Bool) (exact : (a b : K) → same a b ≡ true → a ≡ b) (alike : (a : K) → same a a ≡ true) where
  -- A place that answers for k holds k.
  pub answers : (k : K) (x : Slot K V) → (answer same k x ≡ None) ⊎ ((v : V) × (x ≡ Used k v))
  answers k Empty = inl refl
  answers k Freed = inl refl
  answers k (Used a v) =
      elim (cases_Bool (same a k)) [ inl t ↦ inr (v, ap (λ b. Used b v) (exact a k t)) | inr f ↦ inl (rw f) ]

  -- The search for k ends where k stands.
  pub stop_at : (k : K) (v : V) (x : Slot K V) → x ≡ Used k v → stops same k x ≡ true
  stop_at k v x e = rw e (alike k)

  -- The place at which the search for a key ends is the only one where the key can be.
  pub only : (code : K → ℕ) (s : List (Slot K V)) (k : K) (d : ℕ) → 0 < length s
      → home (length s) (code k) < length s
      → Reach same code s → d < length s → stops same k (get_or s (around (length s) (home (length s) (code k)) d) Empty) ≡ true
      → Passed same s (home (length s) (code k)) k d
      → (j : ℕ) (v : V) → j < length s → get_or s j Empty ≡ Used k v → j ≡ around (length s) (home (length s) (code k)) d
  only code s k d n0 h r dl st pa j v jl e =
      let n = length s in
      let o = home n (code k) in
      let t = around_to n o j h jl in
      let e' : get_or s (around n o t.0) Empty ≡ Used k v = ap (λ i. get_or s i Empty) (sym t.2) ∙ e in
      grind (arith, nat_tests, t, e')

  -- A write of y at p keeps the keys within reach.
  pub reached_set : (code : K → ℕ) (s : List (Slot K V)) (p : ℕ) (y : Slot K V) → p < length s
      → ((k : K) → home (length s) (code k) < length s)
      → Reach same code s
      → ((k : K) (v : V) → y ≡ Used k v → (d : ℕ) × (d < length s) × (p ≡ around (length s) (home (length s) (code k)) d) × Passed same s (home (length s) (code k)) k d)
      → ((k : K) (v : V) (q : ℕ) → q ≢ p → q < length s → get_or s q Empty ≡ Used k v → stops same k y ≡ false)
      → Reach same code (set s p y)
  reached_set code s p y pl hl r new old = rw length-set step
    where
      step : (k : K) (v : V) (d : ℕ) → d < length s → get_or (set s p y) (around (length s) (home (length s) (code k)) d) Empty ≡ Used k v
          → (e : ℕ) → e < d → stops same k (get_or (set s p y) (around (length s) (home (length s) (code k)) e) Empty) ≡ false
      step k v d dl at e el =
          let n = length s in
          let o = home n (code k) in
          elim (cases_eq (around n o d) p) [
            | inl qp ↦
                let at' : y ≡ Used k v = sym (get_or-set_same s p y Empty pl) ∙ ap (λ i. get_or (set s p y) i Empty) (sym qp) ∙ at in
                let w = new k v at' in
                let dw : d ≡ w.0 = around_one n o d w.0 (hl k) dl w.1 (qp ∙ w.2) in
                let ne : around n o e ≢ p = λ z. let ew = around_one n o e w.0 (hl k) (omega arith) w.1 (z ∙ w.2) in omega arith in
                ap (stops same k) (get_or-set_other s p (around n o e) y Empty ne) ∙ w.3 e (omega arith)
            | inr qn ↦
                let at' : get_or s (around n o d) Empty ≡ Used k v = sym (get_or-set_other s p (around n o d) y Empty qn) ∙ at in
                elim (cases_eq (around n o e) p) [
                  | inl z ↦
                      ap (λ i. stops same k (get_or (set s p y) i Empty)) z ∙ ap (stops same k) (get_or-set_same s p y Empty pl)
                      ∙ old k v (around n o d) qn (around_less n o d (hl k) (omega arith)) at'
                  | inr z ↦ ap (stops same k) (get_or-set_other s p (around n o e) y Empty z) ∙ r k v d dl at' e el
                ]
          ]

  -- Keys stay within reach if k is written at p, the search for k does not end before p, and no other place holds k.
  pub reached_put : (code : K → ℕ) (s : List (Slot K V)) (k : K) (v : V) (d p : ℕ) → d < length s
      → ((a : K) → home (length s) (code a) < length s)
      → Reach same code s → p ≡ around (length s) (home (length s) (code k)) d
      → Passed same s (home (length s) (code k)) k d
      → ((j : ℕ) (w : V) → j < length s → get_or s j Empty ≡ Used k w → j ≡ p)
      → Reach same code (set s p (Used k v))
  reached_put code s k v d p dl hl r pe pa alone =
      grind (arith, nat_tests, around_less, reached_set code s p (Used k v), false_from_ne_true, alone)

  -- Keys stay within reach if a place is freed.
  pub reached_free : (code : K → ℕ) (s : List (Slot K V)) (p : ℕ) → p < length s
      → ((a : K) → home (length s) (code a) < length s)
      → Reach same code s → Reach same code (set s p Freed)
  reached_free code s p pl hl r =
      reached_set code s p Freed pl hl r (λ k v e. absurd cc) (λ k v q ne ql e. refl)

  -- A place with a key, at which the search for k ends, holds k.
  pub found : (s : List (Slot K V)) (k a : K) (p : ℕ) (v : V) → get_or s p Empty ≡ Used a v → stops same k (get_or s p Empty) ≡ true → get_or s p Empty ≡ Used k v
  found s k a p v e t = let h : same a k ≡ true = rw e at t in e ∙ ap (λ b. Used b v) (exact a k h)

  -- A key whose search ends nowhere stands nowhere.
  pub absent_none : (s : List (Slot K V)) (k : K) (o : ℕ) → o < length s → Passed same s o k (length s) → (j : ℕ) → j < length s → answer same k (get_or s j Empty) ≡ None
  absent_none s k o h pa j jl = grind (arith, nat_tests, answers k (get_or s j Empty), around_to (length s) o j h jl, stop_at k)

  -- A key whose search ends at a place that does not hold it stands nowhere.
  pub absent_some : (code : K → ℕ) (s : List (Slot K V)) (k : K) (p : ℕ) → Reach same code s
      → Round (stops same k) Empty s (home (length s) (code k)) (Some p) → ((v : V) → get_or s p Empty ≡ Used k v → ⊥)
      → (j : ℕ) → j < length s → answer same k (get_or s j Empty) ≡ None
  absent_some code s k p r near no_key j jl = grind (arith, nat_tests, answers k (get_or s j Empty), only code s k)

  -- A key stands at one place only.
  pub alone : (code : K → ℕ) (s : List (Slot K V)) (k : K) (p : ℕ) (v : V) → Reach same code s → p < length s → get_or s p Empty ≡ Used k v
      → (j : ℕ) (w : V) → j < length s → get_or s j Empty ≡ Used k w → j ≡ p
  alone code s k p v r pl e j w jl f = grind (arith, nat_tests, around_to (length s) (home (length s) (code k)) p, only code s k, stop_at k v)

  -- A write at the only place that may hold k changes the map at k alone.
  pub with_set : (s : List (Slot K V)) (k : K) (p : ℕ) (y : Slot K V) → p < length s
      → ((j : ℕ) (w : V) → j < length s → get_or s j Empty ≡ Used k w → j ≡ p)
      → ((j : K) → same k j ≡ false → answer same j (get_or s p Empty) ≡ None)
      → ((j : K) → same k j ≡ false → answer same j y ≡ None)
      → With same s (set s p y) k (answer same k y)
  with_set s k p y pl one old new j =
      elim (cases_Bool (same k j)) [
        | inl t ↦
            rw t
            (let P : K → Type 0 = λ b. lookup same (set s p y) b ≡ answer same k y in
            subst P (exact k j t)
            (lookup_alone same (set s p y) p k (rw length-set pl) others ∙ ap (answer same k) (get_or-set_same s p y Empty pl)))
        | inr f ↦ rw f (lookup_skip same s p y j (new j f) (old j f))
      ]
    where
      others : (q : ℕ) → q < length (set s p y) → q ≢ p → answer same k (get_or (set s p y) q Empty) ≡ None
      others q ql ne =
          ap (answer same k) (get_or-set_other s p q y Empty ne)
          ∙ elim (answers k (get_or s q Empty)) [ inl z ↦ z | inr w ↦ absurd (ne (one q w.0 (rw length-set at ql) w.1)) ]

  unused : (j : K) (x : Slot K V) → weight x ≡ 0 → answer same j x ≡ None
  unused j Empty e = refl
  unused j Freed e = refl
  unused j (Used a v) e = absurd (omega arith)

  answer_own : (k : K) (v : V) → answer same k (Used k v) ≡ Some v
  answer_own k v = rw alike

  answer_other : (k j : K) (v : V) → same k j ≡ false → answer same j (Used k v) ≡ None
  answer_other k j v f = rw f

  -- The map has the value that stands beside the key.
  pub stands_lookup : (code : K → ℕ) (s : List (Slot K V)) (k : K) (p : ℕ) (v : V) → Reach same code s → p < length s → get_or s p Empty ≡ Used k v → lookup same s k ≡ Some v
  stands_lookup code s k p v r pl e =
      lookup_alone same s p k pl others ∙ ap (answer same k) e ∙ answer_own k v
    where
      others : (q : ℕ) → q < length s → q ≢ p → answer same k (get_or s q Empty) ≡ None
      others q ql ne = elim (answers k (get_or s q Empty)) [ inl z ↦ z | inr w ↦ absurd (ne (alone code s k p v r pl e q w.0 ql w.1)) ]

  -- What is found under a key is what the map has.
  pub stands_answer : (code : K → ℕ) (s : List (Slot K V)) (k : K) (o : Option (Spot V)) → Stands same code s k o → Reached same code s → option_map (λ x. x.value) o ≡ lookup same s k
  stands_answer code s k (Some x) e h = sym (stands_lookup code s k x.at x.value (spread same code s h) e.0 e.1)
  stands_answer code s k None e h = sym (lookup_absent same s k (e h))

  with_put : (s : List (Slot K V)) (k : K) (v : V) (p : ℕ) → p < length s
      → ((j : ℕ) (w : V) → j < length s → get_or s j Empty ≡ Used k w → j ≡ p)
      → ((j : K) → same k j ≡ false → answer same j (get_or s p Empty) ≡ None)
      → With same s (set s p (Used k v)) k (Some v)
  with_put s k v p pl one old j =
      with_set s k p (Used k v) pl one old (λ i f. answer_other k i v f) j ∙ ap (λ o. cond (same k j) o (lookup same s j)) (answer_own k v)

  -- A new value for a key that stands at p.
  pub put_known : (E : Type 0) (code : K → ℕ) (s : List (Slot K V)) (k : K) (v old : V) (p : ℕ) → p < length s → get_or s p Empty ≡ Used k old
      → Reached same code s → Reached same code (set s p (Used k v)) × Put {E = E} same s (set s p (Used k v)) k v (Ok (Some old))
  put_known E code s k v old p pl e h =
      let r = spread same code s h in
      let hl : (a : K) → home (length s) (code a) < length s = λ a. mod-lt (code a) (omega arith) in
      let one = alone code s k p old r pl e in
      let t = around_to (length s) (home (length s) (code k)) p (hl k) pl in
      let e' = ap (λ i. get_or s i Empty) (sym t.2) ∙ e in
      let u = used_set s p (Used k v) pl in
      let w : weight (get_or s p Empty) ≡ 1 = ap weight e in (
        joined same code (set s p (Used k v)) (reached_put code s k v t.0 p t.1 hl r t.2 (r k old t.0 t.1 e') one),
        (
          sym (stands_lookup code s k p old r pl e),
          with_put s k v p pl one (λ j f. ap (answer same j) e ∙ answer_other k j old f),
          omega arith,
          λ q. absurd cc,
        ),
      )

  -- A new key at the nearest place that holds none.
  pub put_new : (E : Type 0) (code : K → ℕ) (s : List (Slot K V)) (k : K) (v : V) (p : ℕ) → Stands same code s k None → Round vacates Empty s (home (length s) (code k)) (Some p)
      → Reached same code s → Reached same code (set s p (Used k v)) × Put {E = E} same s (set s p (Used k v)) k v (Ok None)
  put_new E code s k v p absent vac h =
      let hl : (a : K) → home (length s) (code a) < length s = λ a. mod-lt (code a) (omega arith) in
      let d = vac.2 in
      let w = vacates_weight _ vac.1 in
      let u = used_set s p (Used k v) vac.0 in (
        joined same code (set s p (Used k v))
            (reached_put code s k v d.0 p d.1 hl (spread same code s h) d.2
            (λ e el. passes (get_or s (around (length s) (home (length s) (code k)) e) Empty) (kept_weight _ (d.3 e el)) (no_key _ (around_less _ _ e (hl k) (omega arith))))
            one),
        (
          sym (lookup_absent same s k no_key),
          with_put s k v p vac.0 one (λ j f. unused j (get_or s p Empty) w),
          omega arith,
          λ q. used_room s p vac.0 w,
        ),
      )
    where
      no_key : (j : ℕ) → j < length s → answer same k (get_or s j Empty) ≡ None
      no_key = absent h

      one : (j : ℕ) (w : V) → j < length s → get_or s j Empty ≡ Used k w → j ≡ p
      one j w jl e = let a = no_key j jl in let b = answer_own k w in let c = ap (answer same k) e in absurd cc

      passes : (x : Slot K V) → weight x ≡ 1 → answer same k x ≡ None → stops same k x ≡ false
      passes Empty w a = absurd (omega arith)
      passes Freed w a = refl
      passes (Used b c) w a = grind arith

  -- The refusal of a new key where each place has a key.
  pub put_full : {E : Type 0} (s : List (Slot K V)) (k : K) (v : V) (o : ℕ) (x : E) → o < length s
      → ((j : ℕ) → j < length s → answer same k (get_or s j Empty) ≡ None) → Round vacates Empty s o None
      → Put same s s k v (Err x)
  put_full s k v o x h no_key vac =
      (refl, lookup_absent same s k no_key, used_full s (λ j jl. let t = around_to (length s) o j h jl in ap (λ i. weight (get_or s i Empty)) t.2 ∙ kept_weight _ (vac t.0 t.1)))

  -- The removal of a key that stands at p.
  pub remove_known : (code : K → ℕ) (s : List (Slot K V)) (k : K) (v : V) (p : ℕ) → p < length s → get_or s p Empty ≡ Used k v
      → Reached same code s → Reached same code (set s p Freed) × Removed same s (set s p Freed) k (Some v)
  remove_known code s k v p pl e h =
      let r = spread same code s h in
      let u = used_set s p Freed pl in
      let w : weight (get_or s p Empty) ≡ 1 = ap weight e in (
        joined same code (set s p Freed) (reached_free code s p pl (λ a. mod-lt (code a) (omega arith)) r),
        (
          sym (stands_lookup code s k p v r pl e),
          with_set s k p Freed pl (alone code s k p v r pl e) (λ j f. ap (answer same j) e ∙ answer_other k j v f) (λ j f. refl),
          omega arith,
        ),
      )

  -- A freed place that an empty one follows may be made empty: no way leads past both.
  pub reach_tidy : (code : K → ℕ) (s : List (Slot K V)) (p : ℕ) → p < length s → Reach same code s → get_or s (around (length s) p 1) Empty ≡ Empty
      → Reach same code (set s p Empty)
  reach_tidy code s p pl r em = rw length-set step
    where
      step : (k : K) (v : V) (d : ℕ) → d < length s → get_or (set s p Empty) (around (length s) (home (length s) (code k)) d) Empty ≡ Used k v
          → (e : ℕ) → e < d → stops same k (get_or (set s p Empty) (around (length s) (home (length s) (code k)) e) Empty) ≡ false
      step k v d dl at e el =
          let n = length s in
          let o = home n (code k) in
          let ol : o < n = mod-lt (code k) (omega arith) in
          elim (cases_eq (around n o d) p) [
            | inl qp ↦
                let a : Empty ≡ Used k v = sym (get_or-set_same s p Empty Empty pl) ∙ ap (λ i. get_or (set s p Empty) i Empty) (sym qp) ∙ at in
                absurd cc
            | inr qn ↦
                let at' : get_or s (around n o d) Empty ≡ Used k v = sym (get_or-set_other s p (around n o d) Empty Empty qn) ∙ at in
                elim (cases_eq (around n o e) p) [
                  | inl z ↦
                      let nx : around n o (e + 1) ≡ around n p 1 = sym (around_more n o e ol (omega arith)) ∙ ap (λ i. around n i 1) z in
                      let em' : get_or s (around n o (e + 1)) Empty ≡ Empty = ap (λ i. get_or s i Empty) nx ∙ em in
                      elim (cases_eq (e + 1) d) [
                        | inl ed ↦
                            let b : Empty ≡ Used k v = sym em' ∙ ap (λ i. get_or s (around n o i) Empty) ed ∙ at' in
                            absurd cc
                        | inr ne ↦ absurd (both_ways _ (r k v d dl at' (e + 1) (omega arith)) (ap (stops same k) em'))
                      ]
                  | inr z ↦ ap (stops same k) (get_or-set_other s p (around n o e) Empty Empty z) ∙ r k v d dl at' e el
                ]
          ]

  -- One more freed place made empty.
  pub tidied_more : (code : K → ℕ) (s t : List (Slot K V)) (p : ℕ) → p < length t → Tidied same code s t → get_or t p Empty ≡ Freed → get_or t (around (length t) p 1) Empty ≡ Empty
      → Tidied same code s (set t p Empty)
  tidied_more code s t p pl h fr em =
      let u = used_set t p Empty pl in
      let w : weight (get_or t p Empty) ≡ 0 = ap weight fr in
      record {
        reached = joined same code (set t p Empty) (reach_tidy code t p pl (spread same code t h.reached) em);
        long = length-set t p Empty ∙ h.long;
        maps = λ j. lookup_skip same t p Empty j refl (ap (answer same j) fr) ∙ h.maps j;
        count = omega (arith, h.count);
      }

  -- A removal, and then a tidying.
  pub removed_tidied : (code : K → ℕ) (s t u : List (Slot K V)) (k : K) (v : V) → Removed same s t k (Some v) → Tidied same code t u → Removed same s u k (Some v)
  removed_tidied code s t u k v r h = (r.0, λ j. h.maps j ∙ r.1 j, omega (arith, r.2, h.count))

module _ {K V : Type 0} where
  -- Where each place is empty, every key can be reached, for want of keys.
  pub reached_cleared : (same : K → K → Bool) (code : K → ℕ) (s : List (Slot K V)) → Cleared s → Reached same code s
  reached_cleared same code s h w = grind (arith, nat_tests)
