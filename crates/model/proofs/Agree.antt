-- What is told of a list of calls agrees with the state after it, through every change.
use Rattle.std.proofs.Common.{◌≡◌, ℕ, suc, ◌<◌, Bool, true, false, cond, ◌&&◌, eqb, ◌⊎◌, List, [], ◌∷◌, map, Some, None, Option, sym, refl, ap, ◌∙◌, subst, ap₂, inl, inr, arith}
use Rattle.std.specs.Map.{update}
use Rattle.std.proofs.lemmas.Bool.{cond_both, both_ways, eq-eqb, ne_eqb}
use Rattle.std.proofs.lemmas.Bool.Decides.{Decides-eqb, nat_tests}
use Rattle.model.specs.Records.{Id, Token, Sender, Datagram, Grant, Answer}
use Rattle.model.specs.Endpoint.{Conn, Waiting, grants, add_kept, without}
use Rattle.model.specs.Calls.{sealed_grants}
use Rattle.model.specs.Runs.{Call, Entry, brings, spent_by, opened_slot}
use Rattle.model.specs.Words.{Among, grants_to, begun, ends, loses, names, spends, Opens, Held, Began, Named, Waits, is_slot, occupant}
use Rattle.model.proofs.Keys.{up_read}
use Rattle.model.proofs.Naming.{none_some, some_same}
use Rattle.model.proofs.Sound.{without_among, among_without, among_map, map_among}

pub record Alive (told : List Entry) (h : ℕ) (c : Conn) : Type 0 where
  pub first : Datagram
  pub began : Began told h first
  pub opened_with : first.dst ≡ c.opened_with
  pub addresses : first.addresses ≡ c.addresses
  pub held : (q : ℕ) (x : Id) → Among (q, x) c.held → Held told h q x
  pub holds : (q : ℕ) (x : Id) → Held told h q x → Among (q, x) c.held
  pub named : (r : Sender) → c.sender ≡ Some r → Named told h r

abbrev pub At : List Entry → ℕ → Option Conn → Type 0
At told h None = ((q : ℕ) (x : Id) → Held told h q x → ⊥) × ((d : Datagram) → Began told h d → ⊥)
At told h (Some c) = Alive told h c

-- the attempts that wait are those that the host holds, each under the label of the call that opened it
pub record Placing (told : List Entry) (waiting : List Waiting) (slots : ℕ → Option ℕ) (n : ℕ) : Type 0 where
  pub waits : (v : Waiting) → Among v waiting → (k : ℕ) × (slots k ≡ Some v.slot) × Waits told k v.slot v.first
  pub label : (k m : ℕ) → slots k ≡ Some m → k < n
  pub live : (k m : ℕ) → slots k ≡ Some m → (v : Waiting) × Among v waiting × (v.slot ≡ m)
  pub occupies : (k m : ℕ) → slots k ≡ Some m → occupant told m ≡ Some k
  pub in_hand : (k m : ℕ) (d : Datagram) → Waits told k m d → slots k ≡ Some m

pub record Agrees (told : List Entry) (conns : ℕ → Option Conn) (waiting : List Waiting) (slots : ℕ → Option ℕ) (n : ℕ) : Type 0 where
  pub at : (h : ℕ) → At told h (conns h)
  pub placing : Placing told waiting slots n

-- ## Grants and their tokens

module _ (token : Id → Token) where
  pub grants_among : (q : ℕ) (x : Id) (ps : List (ℕ × Id)) → Among (q, x) ps → Among (record { sequence = q; id = x; token = token x }) (sealed_grants token (grants ps))
  grants_among q x [] m = m
  grants_among q x (p ∷ ps) (inl e) = inl (ap {B = Grant} (λ r. record { sequence = r.0; id = r.1; token = token r.1 }) e)
  grants_among q x (p ∷ ps) (inr m) = inr (grants_among q x ps m)

  pub among_grants : (q : ℕ) (x : Id) (t : Token) (ps : List (ℕ × Id)) → Among (record { sequence = q; id = x; token = t }) (sealed_grants token (grants ps)) → Among (q, x) ps
  among_grants q x t [] m = m
  among_grants q x t (p ∷ ps) (inl e) = inl (ap {B = ℕ × Id} (λ r. (r.sequence, r.id)) e)
  among_grants q x t (p ∷ ps) (inr m) = inr (among_grants q x t ps m)

-- ## One connection

-- an entry says nothing of the connection h
pub record Silent (e : Entry) (h : ℕ) : Type 0 where
  pub grants : grants_to e h ≡ []
  pub ends : ends e h ≡ false
  pub loses : (q : ℕ) → loses e h q ≡ false
  pub names : names e h ≡ None
  pub begins : begun h e.answer ≡ None

module _ (e : Entry) (told : List Entry) (h : ℕ) where
  pub at_silent : Silent e h → (o : Option Conn) → At told h o → At (e ∷ told) h o
  at_silent s None a = grind (arith, nat_tests)
  at_silent s (Some c) a = record {
    first = a.first;
    began = inr (s.ends, a.began);
    opened_with = a.opened_with;
    addresses = a.addresses;
    held = λ q x m. inr (s.loses q, a.held q x m);
    holds = λ q x m. elim m [
      | inl g ↦ absurd (subst (λ (gs : List Grant). Among (record { sequence = q; id = x; token = g.0 }) gs) s.grants g.1)
      | inr r ↦ a.holds q x r.1
    ];
    named = λ r m. inr (s.names, s.ends, a.named r m);
  }

  -- h's event changes what h holds
  module _ (token : Id → Token) (ps : List (ℕ × Id)) (c d : Conn) (grants_are : grants_to e h ≡ sealed_grants token (grants ps)) (live : ends e h ≡ false) (quiet : names e h ≡ None)
      (opened_with : d.opened_with ≡ c.opened_with) (addresses : d.addresses ≡ c.addresses) (sender : d.sender ≡ c.sender)
      (split : (q : ℕ) (x : Id) → Among (q, x) d.held → ((loses e h q ≡ false) × Among (q, x) c.held) ⊎ Among (q, x) ps)
      (old : (q : ℕ) (x : Id) → loses e h q ≡ false → Among (q, x) c.held → Among (q, x) d.held)
      (new : (q : ℕ) (x : Id) → Among (q, x) ps → Among (q, x) d.held) where
    pub at_event : Alive told h c → Alive (e ∷ told) h d
    at_event a = record {
      first = a.first;
      began = inr (live, a.began);
      opened_with = a.opened_with ∙ sym opened_with;
      addresses = a.addresses ∙ sym addresses;
      held = λ q x m. elim (split q x m) [
        | inl r ↦ inr (r.0, a.held q x r.1)
        | inr g ↦ inl (token x, subst (λ (gs : List Grant). Among (record { sequence = q; id = x; token = token x }) gs) (sym grants_are) (grants_among token q x ps g))
      ];
      holds = λ q x m. elim m [
        | inl g ↦ new q x (among_grants token q x g.0 ps (subst (λ (gs : List Grant). Among (record { sequence = q; id = x; token = g.0 }) gs) grants_are g.1))
        | inr r ↦ old q x r.0 (a.holds q x r.1)
      ];
      named = λ r m. inr (quiet, live, a.named r (sym sender ∙ m));
    }

  pub at_named : (c d : Conn) (r : Sender) → grants_to e h ≡ [] → ends e h ≡ false → ((q : ℕ) → loses e h q ≡ false) → names e h ≡ Some r →
      d.opened_with ≡ c.opened_with → d.addresses ≡ c.addresses → d.held ≡ c.held → d.sender ≡ Some r → Alive told h c → Alive (e ∷ told) h d
  at_named c d r none live keeps is opened_with addresses held sender a = record {
    first = a.first;
    began = inr (live, a.began);
    opened_with = a.opened_with ∙ sym opened_with;
    addresses = a.addresses ∙ sym addresses;
    held = λ q x m. inr (keeps q, a.held q x (subst (λ (l : List (ℕ × Id)). Among (q, x) l) held m));
    holds = λ q x m. subst (λ (l : List (ℕ × Id)). Among (q, x) l) (sym held) (elim m [
      | inl g ↦ absurd (subst (λ (gs : List Grant). Among (record { sequence = q; id = x; token = g.0 }) gs) none g.1)
      | inr s ↦ a.holds q x s.1
    ]);
    named = λ s m. inl (is ∙ sym sender ∙ m);
  }

  pub at_drained : grants_to e h ≡ [] → ends e h ≡ true → begun h e.answer ≡ None → At (e ∷ told) h None
  at_drained none gone begins = grind (arith, nat_tests)

  pub at_accepted : (token : Id → Token) (ps : List (ℕ × Id)) (c : Conn) (first : Datagram) → grants_to e h ≡ sealed_grants token (grants ps) → begun h e.answer ≡ Some first →
      first.dst ≡ c.opened_with → first.addresses ≡ c.addresses → c.held ≡ ps → c.sender ≡ None → At told h None → Alive (e ∷ told) h c
  at_accepted token ps c first are begins opened_with addresses held sender dead = record {
    first = first;
    began = inl begins;
    opened_with = opened_with;
    addresses = addresses;
    held = λ q x m. inl (
      token x,
      subst (λ (gs : List Grant). Among (record { sequence = q; id = x; token = token x }) gs) (sym are)
          (grants_among token q x ps (subst (λ (l : List (ℕ × Id)). Among (q, x) l) held m)),
    );
    holds = λ q x m. subst (λ (l : List (ℕ × Id)). Among (q, x) l) (sym held) (elim m [
      | inl g ↦ among_grants token q x g.0 ps (subst (λ (gs : List Grant). Among (record { sequence = q; id = x; token = g.0 }) gs) are g.1)
      | inr r ↦ absurd (dead.0 q x r.1)
    ]);
    named = λ r m. absurd (none_some r (sym sender ∙ m));
  }

-- ## Attempts

abbrev pub Placed : List Entry → List Waiting → (ℕ → Option ℕ) → Type 0
Placed told ws slots = (v : Waiting) → Among v ws → (k : ℕ) × (slots k ≡ Some v.slot) × Waits told k v.slot v.first

abbrev pub Labels : (ℕ → Option ℕ) → ℕ → Type 0
Labels slots n = (k m : ℕ) → slots k ≡ Some m → k < n

abbrev pub spent_slots : (ℕ → Option ℕ) → Call → Answer → (ℕ → Option ℕ)
spent_slots slots call answer k = cond (spent_by answer && brings k call) None (slots k)

module _ (told : List Entry) (waiting : List Waiting) (slots : ℕ → Option ℕ) (n : ℕ) (e : Entry) where
  pub placed_kept : ((k : ℕ) → spends e k ≡ false) → (t : ℕ) (d : Datagram) → Placed told waiting slots → Placed (e ∷ told) (map (add_kept t d) waiting) slots
  placed_kept s t d p v m =
      let r = among_map (add_kept t d) v waiting m in
      let q = p r.0 r.1 in
      subst (λ (u : Waiting). (k : ℕ) × (slots k ≡ Some u.slot) × Waits (e ∷ told) k u.slot u.first) (sym r.2) (q.0, q.1, inr (s q.0, q.2))

  pub placed_opened : ((k : ℕ) → spends e k ≡ false) → (o : Waiting) → Opens e n o.slot o.first → Labels slots n → Placed told waiting slots →
      Placed (e ∷ told) (o ∷ waiting) (update eqb slots n (Some o.slot))
  placed_opened s o is l p v (inl z) =
      subst (λ (u : Waiting). (k : ℕ) × (update eqb slots n (Some o.slot) k ≡ Some u.slot) × Waits (e ∷ told) k u.slot u.first) (sym z)
      (n, up_read eqb Decides-eqb slots n (Some o.slot) n (λ r. r ≡ Some o.slot) (λ _. refl) (λ no_way. absurd (no_way refl)), inl is)
  placed_opened s o is l p v (inr m) =
      let r = p v m in
      grind (arith, nat_tests, r)

  pub labels_opened : (t : ℕ) → Labels slots n → Labels (update eqb slots n (Some t)) (suc n)
  labels_opened t l k m = up_read eqb Decides-eqb slots n (Some t) k (λ q. q ≡ Some m → k < suc n) (λ z _. omega arith) (λ _ z. let b : k < n = l k m z in omega arith)

  pub labels_more : Labels slots n → Labels slots (suc n)
  labels_more l k m z = let b : k < n = l k m z in omega arith

  -- the attempt of the label j, whose slot is t, is spent
  pub placed_spent : (j t : ℕ) → spent_by e.answer ≡ true → ((k : ℕ) → brings k e.call ≡ eqb k j) → slots j ≡ Some t → (a : Answer) → spent_by a ≡ spent_by e.answer →
      Placed told waiting slots → Placed (e ∷ told) (without waiting t) (spent_slots slots e.call a)
  placed_spent j t spent own at a same p v m =
      let w = without_among waiting t v m in
      let r = p v w.0 in
      let other : eqb r.0 j ≡ false = ne_eqb r.0 j (λ z. w.1 (some_same v.slot t (sym r.1 ∙ ap slots z ∙ at))) in
      let off : brings r.0 e.call ≡ false = own r.0 ∙ other in
      let quiet : (spent_by e.answer && brings r.0 e.call) ≡ false = ap₂ ◌&&◌ spent off in
      (r.0, ap₂ {B = Bool} (λ x y. cond (x && y) None (slots r.0)) (same ∙ spent) off ∙ r.1, inr (quiet, r.2))

  pub labels_spent : (call : Call) (a : Answer) → Labels slots n → Labels (spent_slots slots call a) (suc n)
  labels_spent call a l k m = grind (arith, nat_tests)

  -- the label is the one that its slot was last opened under
  occupied : opened_slot e.answer ≡ None → (m : ℕ) → occupant (e ∷ told) m ≡ occupant told m
  occupied none m = ap (λ o. cond (is_slot m o) (Some e.label) (occupant told m)) none

  pub placing_silent : ((k : ℕ) → spends e k ≡ false) → opened_slot e.answer ≡ None → Placing told waiting slots n → Placing (e ∷ told) waiting slots (suc n)
  placing_silent s none P = grind (arith, nat_tests)

  pub placing_kept : ((k : ℕ) → spends e k ≡ false) → opened_slot e.answer ≡ None → (t : ℕ) (d : Datagram) → Placing told waiting slots n → Placing (e ∷ told) (map (add_kept t d) waiting) slots (suc n)
  placing_kept s none t d P = record {
    waits = placed_kept s t d P.waits;
    label = labels_more P.label;
    live = λ k m z. let r = P.live k m z in (add_kept t d r.0, map_among (add_kept t d) r.0 waiting r.1, r.2);
    occupies = λ k m z. occupied none m ∙ P.occupies k m z;
    in_hand = λ k m x z. elim z [ inl y ↦ absurd (none_some m (sym none ∙ y.slot)) | inr r ↦ P.in_hand k m x r.1 ];
  }

  pub placing_opened : ((k : ℕ) → spends e k ≡ false) → (o : Waiting) → Opens e n o.slot o.first → ((v : Waiting) → Among v waiting → v.slot ≡ o.slot → ⊥) → Placing told waiting slots n →
      Placing (e ∷ told) (o ∷ waiting) (update eqb slots n (Some o.slot)) (suc n)
  placing_opened s o is free P = record {
    waits = placed_opened s o is P.label P.waits;
    label = labels_opened o.slot P.label;
    live = λ k m. up_read eqb Decides-eqb slots n (Some o.slot) k (λ q. q ≡ Some m → (v : Waiting) × Among v (o ∷ waiting) × (v.slot ≡ m))
        (λ _ z. (o, inl refl, some_same o.slot m z)) (λ _ z. let r = P.live k m z in (r.0, inr r.1, r.2));
    occupies = λ k m. up_read eqb Decides-eqb slots n (Some o.slot) k (λ q. q ≡ Some m → occupant (e ∷ told) m ≡ Some k)
        (λ y z. ap₂ {C = Option ℕ} (λ r b. cond (is_slot m r) (Some b) (occupant told m)) is.slot is.label ∙ ap (λ b. cond b (Some n) (occupant told m)) (eq-eqb o.slot m (some_same o.slot m z)) ∙ ap Some (sym y))
        (λ y z. let r = P.live k m z in ap (λ r. cond (is_slot m r) (Some e.label) (occupant told m)) is.slot
        ∙ ap (λ b. cond b (Some e.label) (occupant told m)) (ne_eqb o.slot m (λ x. free r.0 r.1 (r.2 ∙ sym x))) ∙ P.occupies k m z);
    in_hand = λ k m d z. elim z [
      | inl x ↦ up_read eqb Decides-eqb slots n (Some o.slot) k (λ q. q ≡ Some m) (λ _. sym is.slot ∙ x.slot) (λ off. absurd (off (sym x.label ∙ is.label)))
      | inr r ↦
          (let old : slots k ≡ Some m = P.in_hand k m d r.1 in
          up_read eqb Decides-eqb slots n (Some o.slot) k (λ q. q ≡ Some m) (λ y. absurd (let b : k < n = P.label k m old in omega arith)) (λ _. old))
    ];
  }

  pub placing_spent : (j t : ℕ) → spent_by e.answer ≡ true → opened_slot e.answer ≡ None → ((k : ℕ) → brings k e.call ≡ eqb k j) → slots j ≡ Some t → (a : Answer) → spent_by a ≡ spent_by e.answer →
      Placing told waiting slots n → Placing (e ∷ told) (without waiting t) (spent_slots slots e.call a) (suc n)
  placing_spent j t spent none own at a same P = record {
    waits = placed_spent j t spent own at a same P.waits;
    label = labels_spent e.call a P.label;
    live = λ k m. cond_both (spent_by a && brings k e.call) None (slots k) (λ q. q ≡ Some m → (v : Waiting) × Among v (without waiting t) × (v.slot ≡ m))
        (λ _ z. absurd (none_some m z))
        (λ f z. let r = P.live k m z in (
          r.0,
          among_without waiting t r.0 r.1
              (λ x. let mine : k ≡ j = some_same k j (sym (P.occupies k m z) ∙ ap (occupant told) (sym r.2 ∙ x) ∙ P.occupies j t at) in
              both_ways (spent_by a && brings k e.call) f (ap₂ ◌&&◌ (same ∙ spent) (own k ∙ eq-eqb k j mine))),
          r.2,
        ));
    occupies = λ k m. cond_both (spent_by a && brings k e.call) None (slots k) (λ q. q ≡ Some m → occupant (e ∷ told) m ≡ Some k)
        (λ _ z. absurd (none_some m z)) (λ f z. occupied none m ∙ P.occupies k m z);
    in_hand = λ k m d z. elim z [
      | inl x ↦ absurd (none_some m (sym none ∙ x.slot))
      | inr r ↦ ap (λ b. cond b None (slots k)) (ap (λ b. b && brings k e.call) same ∙ r.0) ∙ P.in_hand k m d r.1
    ];
  }
