-- Who holds which identifier: what the map of identifiers keeps to, through every change.
use Rattle.std.proofs.Common.{◌≡◌, ℕ, zero, suc, ◌+◌, ◌<◌, ◌≤◌, Bool, false, not, ◌||◌, eqb, ◌⊎◌, List, [], ◌∷◌, ◌++◌, length, Some, None, filter, Option, sym, refl, ap, ◌∙◌, subst, inl, inr, arith}
use Rattle.std.specs.Map.{update}
use Rattle.std.proofs.lemmas.Bool.{both_ways, eqb-false, ne_eqb, not-true, or_parts}
use Rattle.records.specs.Same.{same_id_decides}
use Rattle.std.proofs.lemmas.Bool.Decides.{Decides-eqb, nat_tests}
use Rattle.model.specs.Records.{same_id, Id, empty}
use Rattle.model.specs.Endpoint.{Conn, put, put_all, sequenced, second, Search, none_left, found, fresh, and_then, several}
use Rattle.model.specs.Words.{Among}
use Rattle.model.proofs.Keys.{up_read, put_read, put_all_read, among_append, among_left, among_right, among_kept, kept_among, among_second}

-- the connection, if any, holds x under the sequence q
abbrev pub HeldIn : Option Conn → ℕ → Id → Type 0
HeldIn None q x = ⊥
HeldIn (Some c) q x = Among (q, x) c.held

abbrev pub count_in : Option Conn → ℕ
count_in None = 0
count_in (Some c) = c.count

abbrev pub held_in : Option Conn → List (ℕ × Id)
held_in None = []
held_in (Some c) = c.held

pub record Naming (conns : ℕ → Option Conn) (ids : Id → Option ℕ) : Type 0 where
  pub sound : (x : Id) (h : ℕ) → ids x ≡ Some h → (q : ℕ) × HeldIn (conns h) q x
  pub full : (h q : ℕ) (x : Id) → empty x ≡ false → HeldIn (conns h) q x → ids x ≡ Some h
  pub once : (h p q : ℕ) (x : Id) → empty x ≡ false → HeldIn (conns h) p x → HeldIn (conns h) q x → p ≡ q
  pub single : (h q : ℕ) (x y : Id) → HeldIn (conns h) q x → HeldIn (conns h) q y → x ≡ y
  pub below : (h q : ℕ) (x : Id) → HeldIn (conns h) q x → q < count_in (conns h)
  pub some : (x : Id) (h : ℕ) → ids x ≡ Some h → empty x ≡ false

-- ## Fresh identifiers

-- nonempty identifiers of the list stand in it once
abbrev pub Apart : List Id → Type 0
Apart [] = Unit {0}
Apart (x ∷ xs) = (empty x ≡ false → Among x xs → ⊥) × Apart xs

-- none of the list is taken, unless it is empty
abbrev pub Free : (Id → Bool) → List Id → Type 0
Free taken xs = (x : Id) → empty x ≡ false → Among x xs → taken x ≡ false

abbrev FreshFound : (Id → Bool) → Search Id → Type 0
FreshFound taken (none_left j) = Unit {0}
FreshFound taken (found x j) = empty x ≡ false → taken x ≡ false

fresh_found : (taken : Id → Bool) (f : ℕ → Id) (i n : ℕ) → FreshFound taken (fresh taken f i n)
fresh_found taken f i zero = tt
fresh_found taken f i (suc n) = grind (arith, nat_tests, fresh_found taken f (i + 1) n)

abbrev pub SeveralFound : (Id → Bool) → ℕ → Search (List Id) → Type 0
SeveralFound taken n (none_left j) = Unit {0}
SeveralFound taken n (found xs j) = Apart xs × Free taken xs × (length xs ≡ n)

several_more : (taken : Id → Bool) (n : ℕ) (x : Id) → (empty x ≡ false → taken x ≡ false) → (r : Search (List Id)) → SeveralFound (λ y. same_id y x || taken y) n r →
    SeveralFound taken (suc n) (and_then r (λ xs k. found (x ∷ xs) k))
several_more taken n x free (none_left j) g = tt
several_more taken n x free (found xs j) g = ((λ u m. both_ways (same_id x x) (or_parts _ _ (g.1 x u m)).0 ((same_id_decides x x).1 refl), g.0), all_free, ap suc g.2)
  where
    all_free : Free taken (x ∷ xs)
    all_free y u (inl e) = subst (λ (z : Id). empty z ≡ false → taken z ≡ false) (sym e) free u
    all_free y u (inr m) = (or_parts (same_id y x) (taken y) (g.1 y u m)).1

pub several_found : (taken : Id → Bool) (f : ℕ → Id) (i n : ℕ) → SeveralFound taken n (several taken f i n)
several_found taken f i zero = (tt, λ x u m. elim m [ ], refl)
several_found taken f i (suc n) = go (λ x j. several_found (λ y. same_id y x || taken y) f j n) (fresh taken f i 16) (fresh_found taken f i 16)
  where
    go : ((x : Id) (j : ℕ) → SeveralFound (λ y. same_id y x || taken y) n (several (λ y. same_id y x || taken y) f j n)) → (r : Search Id) → FreshFound taken r →
        SeveralFound taken (suc n) (and_then r (λ x j. and_then (several (λ y. same_id y x || taken y) f j n) (λ xs k. found (x ∷ xs) k)))
    go ih (none_left j) g = tt
    go ih (found x j) g = several_more taken n x g (several (λ y. same_id y x || taken y) f j n) (ih x j)

-- ## Identifiers in sequence

pub sequenced_bounds : (n q : ℕ) (x : Id) (xs : List Id) → Among (q, x) (sequenced n xs) → (n ≤ q) × (q < n + length xs)
sequenced_bounds n q x [] m = elim m [ ]
sequenced_bounds n q x (y ∷ ys) (inl e) = let s : q ≡ n = ap (λ r. r.0) e in omega arith
sequenced_bounds n q x (y ∷ ys) (inr m) = let b : (n + 1 ≤ q) × (q < n + 1 + length ys) = sequenced_bounds (n + 1) q x ys m in omega arith

pub sequenced_among : (n q : ℕ) (x : Id) (xs : List Id) → Among (q, x) (sequenced n xs) → Among x xs
sequenced_among n q x [] m = m
sequenced_among n q x (y ∷ ys) (inl e) = inl (ap (λ r. r.1) e)
sequenced_among n q x (y ∷ ys) (inr m) = inr (sequenced_among (n + 1) q x ys m)

pub among_sequenced : (n : ℕ) (x : Id) (xs : List Id) → Among x xs → (q : ℕ) × Among (q, x) (sequenced n xs)
among_sequenced n x [] m = elim m [ ]
among_sequenced n x (y ∷ ys) (inl e) = (n, inl (ap {B = ℕ × Id} (λ z. (n, z)) e))
among_sequenced n x (y ∷ ys) (inr m) = let r = among_sequenced (n + 1) x ys m in (r.0, inr r.1)

pub sequenced_single : (n q : ℕ) (x y : Id) (xs : List Id) → Among (q, x) (sequenced n xs) → Among (q, y) (sequenced n xs) → x ≡ y
sequenced_single n q x y [] m k = elim m [ ]
sequenced_single n q x y (z ∷ zs) (inl e) (inl f) = ap (λ r. r.1) e ∙ sym (ap (λ r. r.1) f)
sequenced_single n q x y (z ∷ zs) (inl e) (inr k) = let s : q ≡ n = ap (λ r. r.0) e in absurd (omega (arith, sequenced_bounds (n + 1) q y zs k))
sequenced_single n q x y (z ∷ zs) (inr m) (inl f) = let s : q ≡ n = ap (λ r. r.0) f in absurd (omega (arith, sequenced_bounds (n + 1) q x zs m))
sequenced_single n q x y (z ∷ zs) (inr m) (inr k) = sequenced_single (n + 1) q x y zs m k

pub sequenced_once : (n p q : ℕ) (x : Id) (xs : List Id) → Apart xs → empty x ≡ false → Among (p, x) (sequenced n xs) → Among (q, x) (sequenced n xs) → p ≡ q
sequenced_once n p q x [] a u m k = elim m [ ]
sequenced_once n p q x (z ∷ zs) a u (inl e) (inl f) = ap (λ r. r.0) e ∙ sym (ap (λ r. r.0) f)
sequenced_once n p q x (z ∷ zs) a u (inl e) (inr k) = grind (arith, nat_tests, sequenced_among (n + 1) q x zs k)
sequenced_once n p q x (z ∷ zs) a u (inr m) (inl f) = grind (arith, nat_tests, sequenced_among (n + 1) p x zs m)
sequenced_once n p q x (z ∷ zs) a u (inr m) (inr k) = sequenced_once (n + 1) p q x zs a.1 u m k

-- ## Naming through each change

pub none_some : {A : Type 0} (a : A) → None ≡ Some a → ⊥
none_some a e = let z : ◌≡◌ {A = ℕ} 0 1 = cc in omega arith

pub some_same : {A : Type 0} (a b : A) → Some a ≡ Some b → a ≡ b
some_same a b e = cc

to_list : (o : Option Conn) (q : ℕ) (x : Id) → HeldIn o q x → Among (q, x) (held_in o)
to_list None q x m = m
to_list (Some c) q x m = m

from_list : (o : Option Conn) (q : ℕ) (x : Id) → Among (q, x) (held_in o) → HeldIn o q x
from_list None q x m = m
from_list (Some c) q x m = m

second_among : (x : Id) (ps : List (ℕ × Id)) → Among x (second ps) → (q : ℕ) × Among (q, x) ps
second_among x [] m = elim m [ ]
second_among x (p ∷ ps) (inl e) = (p.0, inl (ap {B = ℕ × Id} (λ z. (p.0, z)) e))
second_among x (p ∷ ps) (inr m) = let r = second_among x ps m in (r.0, inr r.1)

pub new_naming : Naming (λ h. None) (λ x. None)
new_naming = grind (arith, nat_tests)

module _ {conns : ℕ → Option Conn} {ids : Id → Option ℕ} (N : Naming conns ids) (h : ℕ) where
  abbrev conn_read : (v : Option Conn) (k : ℕ) (P : Option Conn → Type 0) → (k ≡ h → P v) → ((k ≡ h → ⊥) → P (conns k)) → P (update eqb conns h v k)
  conn_read v k = up_read eqb Decides-eqb conns h v k

  moved : (k q : ℕ) (x : Id) → k ≡ h → HeldIn (conns k) q x → HeldIn (conns h) q x
  moved k q x s m = subst (λ (j : ℕ). HeldIn (conns j) q x) s m

  -- the connection h gets identifiers that nobody holds, or is made with them
  module _ (c : Conn) (xs : List Id) (a : Apart xs) (fresh : (x : Id) → empty x ≡ false → Among x xs → ids x ≡ None) (n : ℕ)
      (r : count_in (conns h) ≤ n) (held : c.held ≡ held_in (conns h) ++ sequenced n xs) (count : n + length xs ≤ c.count) where
    parts : (q : ℕ) (x : Id) → Among (q, x) c.held → HeldIn (conns h) q x ⊎ Among (q, x) (sequenced n xs)
    parts q x m =
        elim (among_append (q, x) (held_in (conns h)) (sequenced n xs) (subst (λ (l : List (ℕ × Id)). Among (q, x) l) held m)) [
          | inl o ↦ inl (from_list (conns h) q x o)
          | inr w ↦ inr w
        ]

    old : (q : ℕ) (x : Id) → HeldIn (conns h) q x → Among (q, x) c.held
    old q x m = subst (λ (l : List (ℕ × Id)). Among (q, x) l) (sym held) (among_left (q, x) (held_in (conns h)) (sequenced n xs) (to_list (conns h) q x m))

    new : (q : ℕ) (x : Id) → Among (q, x) (sequenced n xs) → Among (q, x) c.held
    new q x m = subst (λ (l : List (ℕ × Id)). Among (q, x) l) (sym held) (among_right (q, x) (held_in (conns h)) (sequenced n xs) m)

    unlike : (q : ℕ) (x : Id) → empty x ≡ false → HeldIn (conns h) q x → Among x xs → ⊥
    unlike q x u m k = none_some h (sym (fresh x u k) ∙ N.full h q x u m)

    later : (q : ℕ) (x y : Id) → HeldIn (conns h) q x → Among (q, y) (sequenced n xs) → ⊥
    later q x y m k = let l : q < count_in (conns h) = N.below h q x m in let b : (n ≤ q) × (q < n + length xs) = sequenced_bounds n q y xs k in omega arith

    issue_sound : (x : Id) (k : ℕ) → put_all ids xs (Some h) x ≡ Some k → (q : ℕ) × HeldIn (update eqb conns h (Some c) k) q x
    issue_sound x k = put_all_read ids xs (Some h) x (λ o. o ≡ Some k → (q : ℕ) × HeldIn (update eqb conns h (Some c) k) q x)
        (λ u m e. conn_read (Some c) k (λ o. (q : ℕ) × HeldIn o q x) (λ s. let w = among_sequenced n x xs m in (w.0, new w.0 x w.1)) (λ s. absurd (s (sym (some_same h k e)))))
        (λ no e. let w = N.sound x k e in conn_read (Some c) k (λ o. (q : ℕ) × HeldIn o q x) (λ s. (w.0, old w.0 x (moved k w.0 x s w.1))) (λ s. w))

    issue_full : (k q : ℕ) (x : Id) → empty x ≡ false → HeldIn (update eqb conns h (Some c) k) q x → put_all ids xs (Some h) x ≡ Some k
    issue_full k q x u = conn_read (Some c) k (λ o. HeldIn o q x → put_all ids xs (Some h) x ≡ Some k)
        (λ s m. put_all_read ids xs (Some h) x (λ o. o ≡ Some k) (λ v l. ap Some (sym s))
        (λ no. elim (parts q x m) [ inl o ↦ N.full h q x u o ∙ ap Some (sym s) | inr w ↦ absurd (no u (sequenced_among n q x xs w)) ]))
        (λ s m. put_all_read ids xs (Some h) x (λ o. o ≡ Some k) (λ v l. absurd (none_some k (sym (fresh x v l) ∙ N.full k q x u m))) (λ no. N.full k q x u m))

    issue_once_here : (p q : ℕ) (x : Id) → empty x ≡ false → HeldIn (conns h) p x ⊎ Among (p, x) (sequenced n xs) → HeldIn (conns h) q x ⊎ Among (q, x) (sequenced n xs) → p ≡ q
    issue_once_here p q x u (inl m) (inl k) = N.once h p q x u m k
    issue_once_here p q x u (inl m) (inr k) = absurd (unlike p x u m (sequenced_among n q x xs k))
    issue_once_here p q x u (inr m) (inl k) = absurd (unlike q x u k (sequenced_among n p x xs m))
    issue_once_here p q x u (inr m) (inr k) = sequenced_once n p q x xs a u m k

    issue_single_here : (q : ℕ) (x y : Id) → HeldIn (conns h) q x ⊎ Among (q, x) (sequenced n xs) → HeldIn (conns h) q y ⊎ Among (q, y) (sequenced n xs) → x ≡ y
    issue_single_here q x y (inl m) (inl k) = N.single h q x y m k
    issue_single_here q x y (inl m) (inr k) = absurd (later q x y m k)
    issue_single_here q x y (inr m) (inl k) = absurd (later q y x k m)
    issue_single_here q x y (inr m) (inr k) = sequenced_single n q x y xs m k

    issue_below_here : (q : ℕ) (x : Id) → HeldIn (conns h) q x ⊎ Among (q, x) (sequenced n xs) → q < c.count
    issue_below_here q x (inl m) = let l : q < count_in (conns h) = N.below h q x m in omega arith
    issue_below_here q x (inr m) = let b : (n ≤ q) × (q < n + length xs) = sequenced_bounds n q x xs m in omega arith

    pub issue_naming : Naming (update eqb conns h (Some c)) (put_all ids xs (Some h))
    issue_naming = record {
      sound = issue_sound;
      full = issue_full;
      once = λ k p q x u. conn_read (Some c) k (λ o. HeldIn o p x → HeldIn o q x → p ≡ q) (λ s m l. issue_once_here p q x u (parts p x m) (parts q x l)) (λ s. N.once k p q x u);
      single = λ k q x y. conn_read (Some c) k (λ o. HeldIn o q x → HeldIn o q y → x ≡ y) (λ s m l. issue_single_here q x y (parts q x m) (parts q y l)) (λ s. N.single k q x y);
      below = λ k q x. conn_read (Some c) k (λ o. HeldIn o q x → q < count_in o) (λ s m. issue_below_here q x (parts q x m)) (λ s. N.below k q x);
      some = λ x k. put_all_read ids xs (Some h) x (λ o. o ≡ Some k → empty x ≡ false) (λ u m e. u) (λ no e. N.some x k e);
    }

  -- the connection h is gone, with what it held
  drain_sound : (x : Id) (k : ℕ) → put_all ids (second (held_in (conns h))) None x ≡ Some k → (q : ℕ) × HeldIn (update eqb conns h None k) q x
  drain_sound x k = put_all_read ids (second (held_in (conns h))) None x (λ o. o ≡ Some k → (q : ℕ) × HeldIn (update eqb conns h None k) q x)
      (λ u m e. absurd (none_some k e))
      (λ no e. let w = N.sound x k e in conn_read None k (λ o. (q : ℕ) × HeldIn o q x)
      (λ s. absurd (no (N.some x k e) (among_second w.0 x (held_in (conns h)) (to_list (conns h) w.0 x (moved k w.0 x s w.1))))) (λ s. w))

  drain_full : (k q : ℕ) (x : Id) → empty x ≡ false → HeldIn (update eqb conns h None k) q x → put_all ids (second (held_in (conns h))) None x ≡ Some k
  drain_full k q x u = conn_read None k (λ o. HeldIn o q x → put_all ids (second (held_in (conns h))) None x ≡ Some k)
      (λ s m. elim m [ ])
      (λ s m. put_all_read ids (second (held_in (conns h))) None x (λ o. o ≡ Some k)
      (λ v l. let w = second_among x (held_in (conns h)) l in absurd (s (some_same k h (sym (N.full k q x u m) ∙ N.full h w.0 x u (from_list (conns h) w.0 x w.1)))))
      (λ no. N.full k q x u m))

  pub drain_naming : Naming (update eqb conns h None) (put_all ids (second (held_in (conns h))) None)
  drain_naming = record {
    sound = drain_sound;
    full = drain_full;
    once = λ k p q x u. conn_read None k (λ o. HeldIn o p x → HeldIn o q x → p ≡ q) (λ s m. elim m [ ]) (λ s. N.once k p q x u);
    single = λ k q x y. conn_read None k (λ o. HeldIn o q x → HeldIn o q y → x ≡ y) (λ s m. elim m [ ]) (λ s. N.single k q x y);
    below = λ k q x. conn_read None k (λ o. HeldIn o q x → q < count_in o) (λ s m. elim m [ ]) (λ s. N.below k q x);
    some = λ x k. put_all_read ids (second (held_in (conns h))) None x (λ o. o ≡ Some k → empty x ≡ false) (λ u m e. u) (λ no e. N.some x k e);
  }

  -- the connection h lets its sequence q go, under which it holds x
  module _ (c : Conn) (q : ℕ) (x : Id) (has : HeldIn (conns h) q x) (held : c.held ≡ filter (λ p. not (eqb p.0 q)) (held_in (conns h)))
      (count : c.count ≡ count_in (conns h)) where
    kept : (p : ℕ) (y : Id) → Among (p, y) c.held → HeldIn (conns h) p y × (p ≡ q → ⊥)
    kept p y m =
        let w = among_kept (λ r. not (eqb r.0 q)) (p, y) (held_in (conns h)) (subst (λ (l : List (ℕ × Id)). Among (p, y) l) held m) in
        (from_list (conns h) p y w.0, eqb-false p q (not-true (eqb p q) w.1))

    keeps : (p : ℕ) (y : Id) → (p ≡ q → ⊥) → HeldIn (conns h) p y → Among (p, y) c.held
    keeps p y n m = subst (λ (l : List (ℕ × Id)). Among (p, y) l) (sym held)
        (kept_among (λ r. not (eqb r.0 q)) (p, y) (held_in (conns h)) (to_list (conns h) p y m) (ap not (ne_eqb p q n)))

    retire_sound : (y : Id) (k : ℕ) → put ids x None y ≡ Some k → (p : ℕ) × HeldIn (update eqb conns h (Some c) k) p y
    retire_sound y k = put_read ids x None y (λ o. o ≡ Some k → (p : ℕ) × HeldIn (update eqb conns h (Some c) k) p y)
        (λ u s e. absurd (none_some k e))
        (λ no e. let w = N.sound y k e in conn_read (Some c) k (λ o. (p : ℕ) × HeldIn o p y)
        (λ s. let m : HeldIn (conns h) w.0 y = moved k w.0 y s w.1 in (
          w.0,
          keeps w.0 y
              (λ z. let same : y ≡ x = N.single h q y x (subst (λ (j : ℕ). HeldIn (conns h) j y) z m) has in
              no (sym (ap empty same) ∙ N.some y k e) same) m,
        ))
        (λ s. w))

    retire_full : (k p : ℕ) (y : Id) → empty y ≡ false → HeldIn (update eqb conns h (Some c) k) p y → put ids x None y ≡ Some k
    retire_full k p y u = conn_read (Some c) k (λ o. HeldIn o p y → put ids x None y ≡ Some k)
        (λ s m. let w = kept p y m in put_read ids x None y (λ o. o ≡ Some k)
        (λ v z. absurd (w.1 (N.once h p q y u w.0 (subst (λ (i : Id). HeldIn (conns h) q i) (sym z) has))))
        (λ no. N.full h p y u w.0 ∙ ap Some (sym s)))
        (λ s m. put_read ids x None y (λ o. o ≡ Some k)
        (λ v z. absurd (s (some_same k h (sym (N.full k p y u m) ∙ N.full h q y u (subst (λ (i : Id). HeldIn (conns h) q i) (sym z) has)))))
        (λ no. N.full k p y u m))

    pub retire_naming : Naming (update eqb conns h (Some c)) (put ids x None)
    retire_naming = record {
      sound = retire_sound;
      full = retire_full;
      once = λ k p r y u. conn_read (Some c) k (λ o. HeldIn o p y → HeldIn o r y → p ≡ r) (λ s m l. N.once h p r y u (kept p y m).0 (kept r y l).0) (λ s. N.once k p r y u);
      single = λ k p y z. conn_read (Some c) k (λ o. HeldIn o p y → HeldIn o p z → y ≡ z) (λ s m l. N.single h p y z (kept p y m).0 (kept p z l).0) (λ s. N.single k p y z);
      below = λ k p y. conn_read (Some c) k (λ o. HeldIn o p y → p < count_in o) (λ s m. subst (λ (j : ℕ). p < j) (sym count) (N.below h p y (kept p y m).0)) (λ s. N.below k p y);
      some = λ y k. put_read ids x None y (λ o. o ≡ Some k → empty y ≡ false) (λ u s e. absurd (none_some k e)) (λ no e. N.some y k e);
    }
