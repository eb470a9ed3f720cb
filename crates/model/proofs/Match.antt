-- The attempts of two endpoints, one of which saw nothing of those that came to nothing.
use Rattle.std.proofs.Common.{◌≡◌, ℕ, ◌+◌, ◌≤◌, Bool, true, false, cond, not, eqb, List, [], ◌∷◌, ◌++◌, map, length, Some, None, Decides, Option, sym, refl, ap, ◌∙◌, subst, ap₂, inl, inr, arith}
use Rattle.std.proofs.lemmas.Bool.{cond_both, both_ways, eqb-true, eq-eqb, ne_eqb, not-true, not-false}
use Rattle.std.proofs.lemmas.Bool.Decides.{same_from_decides, nat_tests}
use Rattle.model.specs.Records.{Datagram}
use Rattle.model.specs.Endpoint.{Waiting, Target, to_attempt, to_connection, add_kept, without, kept_bytes, waiting_total, attempt_bytes, places_used}
use Rattle.model.specs.Words.{Among}
use Rattle.model.proofs.Naming.{some_same}

abbrev pub Injective : (ℕ → Option ℕ) → Type 0
Injective f = (j k m : ℕ) → f j ≡ Some m → f k ≡ Some m → j ≡ k

module _ (doomed : ℕ → Bool) where
  -- the second list has the attempts of the first that are not doomed; f and g give their slots by their labels
  pub data Match (f g : ℕ → Option ℕ) : List Waiting → List Waiting → Type 0 where
    none : Match f g [] []
    left : {v : Waiting} {vs us : List Waiting} (k : ℕ) → f k ≡ Some v.slot → doomed k ≡ true → Match f g vs us → Match f g (v ∷ vs) us
    both : {v u : Waiting} {vs us : List Waiting} (k : ℕ) → f k ≡ Some v.slot → g k ≡ Some u.slot → doomed k ≡ false → u.first ≡ v.first → u.kept ≡ v.kept →
        Match f g vs us → Match f g (v ∷ vs) (u ∷ us)

  -- where an identifier's entries lead
  abbrev pub Entries : (ℕ → Option ℕ) → (ℕ → Option ℕ) → Option Target → Option Target → Type 0
  Entries f g None None = Unit {0}
  Entries f g None (Some t) = ⊥
  Entries f g (Some (to_connection h)) None = ⊥
  Entries f g (Some (to_connection h)) (Some (to_connection k)) = h ≡ k
  Entries f g (Some (to_connection h)) (Some (to_attempt t)) = ⊥
  Entries f g (Some (to_attempt m)) None = (k : ℕ) × (f k ≡ Some m) × (doomed k ≡ true)
  Entries f g (Some (to_attempt m)) (Some (to_connection h)) = ⊥
  Entries f g (Some (to_attempt m)) (Some (to_attempt t)) = (k : ℕ) × (f k ≡ Some m) × (g k ≡ Some t) × (doomed k ≡ false)

  abbrev pub Alike : Option ℕ → Option ℕ → Type 0
  Alike None None = Unit {0}
  Alike None (Some t) = ⊥
  Alike (Some m) None = ⊥
  Alike (Some m) (Some t) = Unit {0}

  not_both : (j k : ℕ) → j ≡ k → doomed j ≡ true → doomed k ≡ false → ⊥
  not_both j k e t f = both_ways (doomed k) f (ap doomed (sym e) ∙ t)

  -- the slot m is the label k's alone
  its_slot' : {f : ℕ → Option ℕ} → Injective f → (k m : ℕ) → f k ≡ Some m → (j s : ℕ) → f j ≡ Some s → Decides (eqb s m) (j ≡ k)
  its_slot' {f} inf k m fk j s a = (λ t. inf j k m (a ∙ ap Some (eqb-true s m t)) fk, λ e. eq-eqb s m (some_same s m (sym a ∙ ap f e ∙ fk)))

  total_cons : (w : Waiting) (ws : List Waiting) → waiting_total (w ∷ ws) ≡ kept_bytes w + waiting_total ws
  total_cons w ws = refl

  places_cons : (w : Waiting) (ws : List Waiting) → places_used (w ∷ ws) ≡ 1 + length w.kept + places_used ws
  places_cons w ws = refl

  module _ {f g : ℕ → Option ℕ} where
    pub match_sums : {vs us : List Waiting} → Match f g vs us → (length us ≤ length vs) × (waiting_total us ≤ waiting_total vs) × (places_used us ≤ places_used vs)
    match_sums none = omega arith
    match_sums (left {v} {vs} {us} k a d m) = let r = match_sums m in omega (arith, total_cons v vs, places_cons v vs)
    match_sums (both {v} {u} {vs} {us} k a b d e h m) = grind (arith, nat_tests, match_sums m)

    module _ (inf : Injective f) (k m : ℕ) (fk : f k ≡ Some m) where
      pub kept_left : (d : Datagram) → doomed k ≡ true → {vs us : List Waiting} → Match f g vs us → Match f g (map (add_kept m d) vs) us
      kept_left d t none = none
      kept_left d t (left j a b x) = left j a b (kept_left d t x)
      kept_left d t (both {v} {u} j a b c e h x) =
          both j a b c e (h ∙ ap (λ z. cond z (v.kept ++ (d ∷ [])) v.kept) (sym (ne_eqb v.slot m (λ z. not_both k j (sym (inf j k m (a ∙ ap Some z) fk)) t c)))) (kept_left d t x)

      pub spent_left : (f' : ℕ → Option ℕ) → ((j s : ℕ) → (j ≡ k → ⊥) → f j ≡ Some s → f' j ≡ Some s) → doomed k ≡ true → {vs us : List Waiting} → Match f g vs us → Match f' g (without vs m) us
      spent_left f' keeps t none = none
      spent_left f' keeps t {us = us} (left {v} {vs} j a b x) =
          let r : Match f' g (without vs m) us = spent_left f' keeps t x in
          cond_both (not (eqb v.slot m)) (v ∷ without vs m) (without vs m) (λ l. Match f' g l us)
          (λ z. left j (keeps j v.slot (λ e. both_ways (eqb v.slot m) (not-true _ z) ((its_slot' inf k m fk j v.slot a).1 e)) a) b r) (λ _. r)
      spent_left f' keeps t (both {v} {u} {vs} {us} j a b c e h x) =
          let r : Match f' g (without vs m) us = spent_left f' keeps t x in
          let off : j ≡ k → ⊥ = λ z. not_both k j (sym z) t c in
          cond_both (not (eqb v.slot m)) (v ∷ without vs m) (without vs m) (λ l. Match f' g l (u ∷ us))
          (λ z. both j (keeps j v.slot off a) b c e h r) (λ z. absurd (off ((its_slot' inf k m fk j v.slot a).0 (not-false _ z))))

      pub find : {vs us : List Waiting} → Match f g vs us → (v : Waiting) → Among v vs → v.slot ≡ m → doomed k ≡ false →
          (u : Waiting) × Among u us × (g k ≡ Some u.slot) × (u.first ≡ v.first) × (u.kept ≡ v.kept)
      find none v n e c = elim n [ ]
      find (left {v = w} j a b x) v (inl n) e c = absurd (not_both j k (inf j k m (a ∙ ap Some (sym (ap (λ z. z.slot) n) ∙ e)) fk) b c)
      find (left j a b x) v (inr n) e c = let r = find x v n e c in (r.0, r.1, r.2, r.3, r.4)
      find (both {v = w} {u} j a b d p q x) v (inl n) e c =
          let same : j ≡ k = inf j k m (a ∙ ap Some (sym (ap (λ z. z.slot) n) ∙ e)) fk in
          (u, inl refl, ap g (sym same) ∙ b, p ∙ sym (ap (λ z. z.first) n), q ∙ sym (ap (λ z. z.kept) n))
      find (both j a b d p q x) v (inr n) e c = let r = find x v n e c in (r.0, inr r.1, r.2, r.3, r.4)

      module _ (ing : Injective g) (t : ℕ) (gk : g k ≡ Some t) where
        alike_tests : (j s r : ℕ) → f j ≡ Some s → g j ≡ Some r → eqb r t ≡ eqb s m
        alike_tests j s r a b = same_from_decides (eqb r t) (eqb s m) (its_slot' ing k t gk j r b) (its_slot' inf k m fk j s a)

        pub kept_both : (d : Datagram) → {vs us : List Waiting} → Match f g vs us → Match f g (map (add_kept m d) vs) (map (add_kept t d) us)
        kept_both d none = none
        kept_both d (left j a b x) = left j a b (kept_both d x)
        kept_both d (both {v} {u} j a b c e h x) =
            both j a b c e (ap₂ {C = List Datagram} (λ z l. cond z (l ++ (d ∷ [])) l) (alike_tests j v.slot u.slot a b) h) (kept_both d x)

        pub match_bytes : {vs us : List Waiting} → Match f g vs us → attempt_bytes us t ≤ attempt_bytes vs m
        match_bytes none = omega arith
        match_bytes (left {v} {vs} {us} j a b x) = grind (arith, nat_tests, match_bytes x)
        match_bytes (both {v} {u} {vs} {us} j a b c e h x) = grind (arith, nat_tests, match_bytes x)

        pub spent_both : (f' g' : ℕ → Option ℕ) → ((j s : ℕ) → (j ≡ k → ⊥) → f j ≡ Some s → f' j ≡ Some s) → ((j s : ℕ) → (j ≡ k → ⊥) → g j ≡ Some s → g' j ≡ Some s) →
            doomed k ≡ false → {vs us : List Waiting} → Match f g vs us → Match f' g' (without vs m) (without us t)
        spent_both f' g' kf kg c none = none
        spent_both f' g' kf kg c (left {v} {vs} {us} j a b x) =
            let r : Match f' g' (without vs m) (without us t) = spent_both f' g' kf kg c x in
            let off : j ≡ k → ⊥ = λ z. not_both j k z b c in
            cond_both (not (eqb v.slot m)) (v ∷ without vs m) (without vs m) (λ l. Match f' g' l (without us t))
            (λ z. left j (kf j v.slot off a) b r) (λ z. absurd (off ((its_slot' inf k m fk j v.slot a).0 (not-false _ z))))
        spent_both f' g' kf kg c (both {v} {u} {vs} {us} j a b d e h x) =
            let r : Match f' g' (without vs m) (without us t) = spent_both f' g' kf kg c x in
            subst (λ (z : Bool). Match f' g' (cond (not (eqb v.slot m)) (v ∷ without vs m) (without vs m)) (cond (not z) (u ∷ without us t) (without us t))) (sym (alike_tests j v.slot u.slot a b))
            (ways (eqb v.slot m) (its_slot' inf k m fk j v.slot a).1 r)
          where
            ways : (z : Bool) → (j ≡ k → z ≡ true) → Match f' g' (without vs m) (without us t) →
                Match f' g' (cond (not z) (v ∷ without vs m) (without vs m)) (cond (not z) (u ∷ without us t) (without us t))
            ways true i r = r
            ways false i r = let off : j ≡ k → ⊥ = λ y. both_ways false refl (i y) in both j (kf j v.slot off a) (kg j u.slot off b) d e h r

  pub match_more : {f g f' g' : ℕ → Option ℕ} → ((j s : ℕ) → f j ≡ Some s → f' j ≡ Some s) → ((j s : ℕ) → g j ≡ Some s → g' j ≡ Some s) → {vs us : List Waiting} → Match f g vs us → Match f' g' vs us
  match_more kf kg none = none
  match_more kf kg (left {v} j a b x) = left j (kf j v.slot a) b (match_more kf kg x)
  match_more kf kg (both {v} {u} j a b c e h x) = both j (kf j v.slot a) (kg j u.slot b) c e h (match_more kf kg x)
