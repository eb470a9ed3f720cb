-- Keys, updates and membership.
use Rattle.std.proofs.Common.{◌≡◌, ℕ, Bool, true, false, cond, ◌⊎◌, List, [], ◌∷◌, ◌++◌, Decides, filter, Option, sym, refl, ap, ◌∙◌, inl, inr}
use Rattle.std.specs.Map.{update}
use Rattle.std.proofs.lemmas.Bool.{cond_both, both_ways}
use Rattle.records.specs.Same.{same_id_decides}
use Rattle.model.specs.Records.{same_id, Id, empty}
use Rattle.model.specs.Endpoint.{put, put_all, second}
use Rattle.model.specs.Words.{Among}

-- ## What is read after an update

module _ {K X : Type 0} (e : K → K → Bool) (is : (x y : K) → Decides (e x y) (x ≡ y)) (f : K → Option X) (k : K) (v : Option X) where
  pub up_read : (q : K) (P : Option X → Type 0) → (q ≡ k → P v) → ((q ≡ k → ⊥) → P (f q)) → P (update e f k v q)
  up_read q P here there = cond_both (e k q) v (f q) P (λ t. here (sym ((is k q).0 t))) (λ t. there (λ s. both_ways (e k q) t ((is k q).1 (sym s))))

  -- the test may stand either way round
  pub update_turned : (q : K) → update e f k v q ≡ cond (e q k) v (f q)
  update_turned q =
      cond_both (e q k) v (f q) (λ o. update e f k v q ≡ o)
      (λ t. up_read q (λ o. o ≡ v) (λ _. refl) (λ n. absurd (n ((is q k).0 t))))
      (λ t. up_read q (λ o. o ≡ f q) (λ s. absurd (both_ways (e q k) t ((is q k).1 s))) (λ _. refl))

module _ {X : Type 0} (f : Id → Option X) where
  pub put_read : (x : Id) (v : Option X) (q : Id) (P : Option X → Type 0) → (empty x ≡ false → q ≡ x → P v) → ((empty x ≡ false → q ≡ x → ⊥) → P (f q)) → P (put f x v q)
  put_read x v q P here there =
      cond_both (empty x) (f q) (update same_id f x v q) P (λ t. there (λ u s. both_ways (empty x) u t))
      (λ t. up_read same_id same_id_decides f x v q P (here t) (λ n. there (λ u s. n s)))

module _ {X : Type 0} (f : Id → Option X) where
  pub put_all_read : (xs : List Id) (v : Option X) (q : Id) (P : Option X → Type 0) → (empty q ≡ false → Among q xs → P v) → ((empty q ≡ false → Among q xs → ⊥) → P (f q)) → P (put_all f xs v q)
  put_all_read [] v q P here there = there (λ u m. m)
  put_all_read (x ∷ xs) v q P here there =
      put_read (put_all f xs v) x v q P
      (λ u s. here (ap empty s ∙ u) (inl s))
      (λ n. put_all_read xs v q P (λ u m. here u (inr m)) (λ m. there (λ u a. either_way u n m a)))
    where
      either_way : empty q ≡ false → (empty x ≡ false → q ≡ x → ⊥) → (empty q ≡ false → Among q xs → ⊥) → (q ≡ x) ⊎ Among q xs → ⊥
      either_way u n m (inl s) = n (sym (ap empty s) ∙ u) s
      either_way u n m (inr a) = m u a

-- ## Membership

module _ {A : Type 0} where
  pub among_append : (a : A) (xs ys : List A) → Among a (xs ++ ys) → Among a xs ⊎ Among a ys
  among_append a [] ys m = inr m
  among_append a (x ∷ xs) ys (inl e) = inl (inl e)
  among_append a (x ∷ xs) ys (inr m) = elim (among_append a xs ys m) [ inl n ↦ inl (inr n) | inr n ↦ inr n ]

  pub among_left : (a : A) (xs ys : List A) → Among a xs → Among a (xs ++ ys)
  among_left a (x ∷ xs) ys (inl e) = inl e
  among_left a (x ∷ xs) ys (inr m) = inr (among_left a xs ys m)
  among_left a [] ys m = elim m [ ]

  pub among_right : (a : A) (xs ys : List A) → Among a ys → Among a (xs ++ ys)
  among_right a [] ys m = m
  among_right a (x ∷ xs) ys m = inr (among_right a xs ys m)

  pub among_kept : (p : A → Bool) (a : A) (xs : List A) → Among a (filter p xs) → Among a xs × (p a ≡ true)
  among_kept p a [] m = elim m [ ]
  among_kept p a (x ∷ xs) m = go (λ n. among_kept p a xs n) (p x) refl m
    where
      go : (Among a (filter p xs) → Among a xs × (p a ≡ true)) → (b : Bool) → p x ≡ b → Among a (cond b (x ∷ filter p xs) (filter p xs)) → Among a (x ∷ xs) × (p a ≡ true)
      go ih true t (inl e) = (inl e, ap p e ∙ t)
      go ih true t (inr n) = (inr (ih n).0, (ih n).1)
      go ih false t n = (inr (ih n).0, (ih n).1)

  pub kept_among : (p : A → Bool) (a : A) (xs : List A) → Among a xs → p a ≡ true → Among a (filter p xs)
  kept_among p a [] m t = m
  kept_among p a (x ∷ xs) m t = go (λ n. kept_among p a xs n t) (p x) refl m
    where
      go : (Among a xs → Among a (filter p xs)) → (b : Bool) → p x ≡ b → (a ≡ x) ⊎ Among a xs → Among a (cond b (x ∷ filter p xs) (filter p xs))
      go ih true u (inl e) = inl e
      go ih true u (inr n) = inr (ih n)
      go ih false u (inl e) = absurd (both_ways (p x) u (sym (ap p e) ∙ t))
      go ih false u (inr n) = ih n

pub among_second : (q : ℕ) (x : Id) (ps : List (ℕ × Id)) → Among (q, x) ps → Among x (second ps)
among_second q x (p ∷ ps) (inl e) = inl (ap (λ r. r.1) e)
among_second q x (p ∷ ps) (inr m) = inr (among_second q x ps m)
among_second q x [] m = elim m [ ]
