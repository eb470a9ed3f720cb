-- What the endpoint's state keeps to, through every change.
use Rattle.std.proofs.Common.{◌≡◌, ℕ, zero, suc, ◌+◌, ◌<◌, ◌≤◌, Bool, true, false, cond, not, eqb, ◌⊎◌, List, [], ◌∷◌, ◌++◌, map, length, drop, Some, None, filter, Option, sym, refl, ap, ◌∙◌, subst, inl, inr, arith}
use lib.ListN.{length-map}
use Rattle.std.specs.Map.{update}
use Rattle.std.proofs.lemmas.Bool.{cond_both, eqb-true, eqb-false, ne_eqb, not-true, not-false}
use Rattle.std.proofs.lemmas.List.{append-nil}
use Rattle.std.proofs.lemmas.Bool.Decides.{Decides-eqb, nat_tests}
use Rattle.model.specs.Records.{Id, empty, FourTuple, same_pair, Sender, same_sender, Datagram}
use Rattle.model.specs.Endpoint.{Conn, Waiting, Target, to_attempt, to_connection, State, Config, put, put_all, sequenced, second, new_state, counting, saturated, add_kept, with_kept, with_opened, without, with_spent, with_reset, with_conn, new_conn, with_accepted, forget_sender, with_drained, conn_holding, with_issued, conn_less, with_retired, with_sender}
use Rattle.model.specs.Calls.{in_slot, next_free}
use Rattle.model.specs.Words.{Among}
use Rattle.records.proofs.Same.{same_pair_decides, same_sender_decides}
use Rattle.model.proofs.Keys.{up_read, put_read, among_kept, kept_among}
use Rattle.model.proofs.Naming.{HeldIn, count_in, held_in, Naming, Apart, none_some, some_same, new_naming, issue_naming, drain_naming, retire_naming}

abbrev pub OpenedIn : Option Conn → Id → Type 0
OpenedIn None x = ⊥
OpenedIn (Some c) x = c.opened_with ≡ x

abbrev pub PairIn : Option Conn → FourTuple → Type 0
PairIn None a = ⊥
PairIn (Some c) a = c.addresses ≡ a

abbrev pub SenderIn : Option Conn → Sender → Type 0
SenderIn None r = ⊥
SenderIn (Some c) r = c.sender ≡ Some r

abbrev pub Distinct : List ℕ → Type 0
Distinct [] = Unit {0}
Distinct (x ∷ xs) = (Among x xs → ⊥) × Distinct xs

-- no two of the attempts have one slot
abbrev pub Slotted : List Waiting → Type 0
Slotted [] = Unit {0}
Slotted (w ∷ ws) = ((v : Waiting) → Among v ws → v.slot ≡ w.slot → ⊥) × Slotted ws

pub record Sound (len : ℕ) (s : State) : Type 0 where
  pub naming : Naming s.conns s.ids
  pub entry_some : (x : Id) (t : Target) → s.initial x ≡ Some t → empty x ≡ false
  pub entry_conn : (x : Id) (h : ℕ) → s.initial x ≡ Some (to_connection h) → OpenedIn (s.conns h) x
  pub entry_attempt : (x : Id) (n : ℕ) → s.initial x ≡ Some (to_attempt n) → (w : Waiting) × Among w s.waiting × (w.slot ≡ n) × (w.first.dst ≡ x)
  pub attempt_entry : (v : Waiting) → Among v s.waiting → empty v.first.dst ≡ false → s.initial v.first.dst ≡ Some (to_attempt v.slot)
  pub conn_entry : (h : ℕ) (x : Id) → empty x ≡ false → OpenedIn (s.conns h) x → s.initial x ≡ Some (to_connection h)
  pub pair_conn : (a : FourTuple) (h : ℕ) → s.pairs a ≡ Some h → PairIn (s.conns h) a × (len ≡ 0)
  pub sender_conn : (r : Sender) (h : ℕ) → s.senders r ≡ Some h → SenderIn (s.conns h) r
  pub handles_free : (h : ℕ) → Among h s.free_handles → s.conns h ≡ None
  pub handles_apart : Distinct s.free_handles
  pub slotted : Slotted s.waiting
  pub slots_free : (n : ℕ) (w : Waiting) → Among n s.free_slots → Among w s.waiting → w.slot ≡ n → ⊥
  pub slots_apart : Distinct s.free_slots
  pub slots_count : length s.waiting + length s.free_slots ≡ 64

-- ## Lists of free places

pub next_among : (free : List ℕ) → 0 < length free → Among (next_free free) free
next_among [] l = absurd (omega arith)
next_among (n ∷ free) l = inl refl

-- one more attempt has a slot
pub a_slot : (len : ℕ) (c : Config) (s : State) → Sound len s → c.settings.max_incoming ≤ 64 → saturated c s ≡ false → 0 < length s.free_slots
a_slot len c s S most f = grind (arith, nat_tests)

pub rest_among : (free : List ℕ) (n : ℕ) → Distinct free → Among n (drop 1 free) → Among n free × (n ≡ next_free free → ⊥)
rest_among [] n d m = elim m [ ]
rest_among (k ∷ free) n d m = (inr m, λ e. d.0 (subst (λ (j : ℕ). Among j free) e m))

pub rest_apart : (free : List ℕ) → Distinct free → Distinct (drop 1 free)
rest_apart [] d = tt
rest_apart (k ∷ free) d = d.1

pub rest_length : (free : List ℕ) → 0 < length free → length (drop 1 free) + 1 ≡ length free
rest_length [] l = absurd (omega arith)
rest_length (k ∷ free) l = omega arith

counting_above : (i n k : ℕ) → Among k (counting i n) → i ≤ k
counting_above i zero k m = elim m [ ]
counting_above i (suc n) k (inl e) = omega arith
counting_above i (suc n) k (inr m) = omega (arith, counting_above (i + 1) n k m)

counting_apart : (i n : ℕ) → Distinct (counting i n)
counting_apart i zero = tt
counting_apart i (suc n) = (λ m. omega (arith, counting_above (i + 1) n i m), counting_apart (i + 1) n)

-- ## Lists of attempts

pub slotted_same : (ws : List Waiting) (w v : Waiting) → Slotted ws → Among w ws → Among v ws → w.slot ≡ v.slot → w ≡ v
slotted_same [] w v a m k e = elim m [ ]
slotted_same (x ∷ ws) w v a (inl m) (inl k) e = m ∙ sym k
slotted_same (x ∷ ws) w v a (inl m) (inr k) e = absurd (a.0 v k (sym e ∙ ap (λ r. r.slot) m))
slotted_same (x ∷ ws) w v a (inr m) (inl k) e = absurd (a.0 w m (e ∙ ap (λ r. r.slot) k))
slotted_same (x ∷ ws) w v a (inr m) (inr k) e = slotted_same ws w v a.1 m k e

pub slotted_kept : (p : Waiting → Bool) (ws : List Waiting) → Slotted ws → Slotted (filter p ws)
slotted_kept p [] a = tt
slotted_kept p (w ∷ ws) a =
    cond_both (p w) (w ∷ filter p ws) (filter p ws) Slotted (λ t. (λ v m. a.0 v (among_kept p v ws m).0, slotted_kept p ws a.1)) (λ t. slotted_kept p ws a.1)

pub among_map : {A B : Type 0} (f : A → B) (b : B) (xs : List A) → Among b (map f xs) → (a : A) × Among a xs × (b ≡ f a)
among_map f b [] m = elim m [ ]
among_map f b (x ∷ xs) (inl e) = (x, inl refl, e)
among_map f b (x ∷ xs) (inr m) = let r = among_map f b xs m in (r.0, inr r.1, r.2)

pub map_among : {A B : Type 0} (f : A → B) (a : A) (xs : List A) → Among a xs → Among (f a) (map f xs)
map_among f a [] m = m
map_among f a (x ∷ xs) (inl e) = inl (ap f e)
map_among f a (x ∷ xs) (inr m) = inr (map_among f a xs m)

pub slotted_map : (n : ℕ) (d : Datagram) (ws : List Waiting) → Slotted ws → Slotted (map (add_kept n d) ws)
slotted_map n d [] a = tt
slotted_map n d (w ∷ ws) a =
    (λ v m e. let r = among_map (add_kept n d) v ws m in a.0 r.0 r.1 (sym (ap (λ z. z.slot) r.2) ∙ e), slotted_map n d ws a.1)

without_none : (ws : List Waiting) (n : ℕ) → ((v : Waiting) → Among v ws → v.slot ≡ n → ⊥) → length (without ws n) ≡ length ws
without_none [] n none = refl
without_none (w ∷ ws) n none = grind (arith, nat_tests, without_none ws n, none, none w (inl refl))

pub without_length : (ws : List Waiting) (w : Waiting) → Slotted ws → Among w ws → length (without ws w.slot) + 1 ≡ length ws
without_length [] w a m = elim m [ ]
without_length (x ∷ ws) w a m =
    cond_both (not (eqb x.slot w.slot)) (x ∷ without ws w.slot) (without ws w.slot) (λ l. length l + 1 ≡ suc (length ws))
    (λ t. let e : length (without ws w.slot) + 1 ≡ length ws = without_length ws w a.1 (behind t m) in omega arith)
    (λ t. let s : x.slot ≡ w.slot = eqb-true x.slot w.slot (not-false _ t) in
    let e : length (without ws w.slot) ≡ length ws = without_none ws w.slot (λ v k z. a.0 v k (z ∙ sym s)) in omega arith)
  where
    behind : not (eqb x.slot w.slot) ≡ true → (w ≡ x) ⊎ Among w ws → Among w ws
    behind t (inl e) = absurd (eqb-false x.slot w.slot (not-true _ t) (sym (ap (λ r. r.slot) e)))
    behind t (inr k) = k

pub without_among : (ws : List Waiting) (n : ℕ) (v : Waiting) → Among v (without ws n) → Among v ws × (v.slot ≡ n → ⊥)
without_among ws n v m = let r = among_kept (λ w. not (eqb w.slot n)) v ws m in (r.0, eqb-false v.slot n (not-true _ r.1))

pub among_without : (ws : List Waiting) (n : ℕ) (v : Waiting) → Among v ws → (v.slot ≡ n → ⊥) → Among v (without ws n)
among_without ws n v m off = kept_among (λ w. not (eqb w.slot n)) v ws m (ap not (ne_eqb v.slot n off))

pub in_slot_among : (ws : List Waiting) (n : ℕ) (w : Waiting) → in_slot ws n ≡ Some w → Among w ws × (w.slot ≡ n)
in_slot_among [] n w = λ e. absurd (none_some w e)
in_slot_among (x ∷ ws) n w = grind (arith, nat_tests, in_slot_among ws n w)

unlike_targets : (h n : ℕ) → Some (to_connection h) ≡ Some (to_attempt n) → ⊥
unlike_targets h n e = let z : ◌≡◌ {A = ℕ} 0 1 = cc in omega arith

same_handles : (h k : ℕ) → Some (to_connection h) ≡ Some (to_connection k) → h ≡ k
same_handles h k e = cc

same_slots : (h k : ℕ) → Some (to_attempt h) ≡ Some (to_attempt k) → h ≡ k
same_slots h k e = cc

-- ## A new endpoint

pub new_sound : (len : ℕ) → Sound len new_state
new_sound len = record {
  naming = new_naming;
  entry_some = λ x t e. absurd (none_some t e);
  entry_conn = λ x h e. absurd (none_some (to_connection h) e);
  entry_attempt = λ x n e. absurd (none_some (to_attempt n) e);
  attempt_entry = λ v m. elim m [ ];
  conn_entry = λ h x u m. elim m [ ];
  pair_conn = λ a h e. absurd (none_some h e);
  sender_conn = λ r h e. absurd (none_some h e);
  handles_free = λ h m. refl;
  handles_apart = counting_apart 0 128;
  slotted = tt;
  slots_free = λ n w m k. elim k [ ];
  slots_apart = counting_apart 0 64;
  slots_count = refl;
}

module _ {len : ℕ} {s : State} (S : Sound len s) where
  pub reset_sound : (now : ℕ) → Sound len (with_reset s now)
  reset_sound now = grind (arith, nat_tests)

  -- ## Attempts

  pub kept_sound : (n : ℕ) (d : Datagram) → Sound len (with_kept s n d)
  kept_sound n d = record {
    naming = S.naming;
    entry_some = S.entry_some;
    entry_conn = S.entry_conn;
    entry_attempt = λ x k e. let r = S.entry_attempt x k e in (add_kept n d r.0, map_among (add_kept n d) r.0 s.waiting r.1, r.2, r.3);
    attempt_entry = λ v m. let r = among_map (add_kept n d) v s.waiting m in
        subst (λ (z : Waiting). empty z.first.dst ≡ false → s.initial z.first.dst ≡ Some (to_attempt z.slot)) (sym r.2) (S.attempt_entry r.0 r.1);
    conn_entry = S.conn_entry;
    pair_conn = S.pair_conn;
    sender_conn = S.sender_conn;
    handles_free = S.handles_free;
    handles_apart = S.handles_apart;
    slotted = slotted_map n d s.waiting S.slotted;
    slots_free = λ k v m l e. let r = among_map (add_kept n d) v s.waiting l in S.slots_free k r.0 m r.1 (sym (ap (λ z. z.slot) r.2) ∙ e);
    slots_apart = S.slots_apart;
    slots_count = ap (λ k. k + length s.free_slots) (length-map s.waiting (add_kept n d)) ∙ S.slots_count;
  }

  module _ (d : Datagram) (some : 0 < length s.free_slots) (unrouted : empty d.dst ≡ false → s.initial d.dst ≡ None) where
    abbrev opening : Waiting
    opening = record { slot = next_free s.free_slots; first = d; kept = [] }

    open_some : (x : Id) (t : Target) → put s.initial d.dst (Some (to_attempt (next_free s.free_slots))) x ≡ Some t → empty x ≡ false
    open_some x t = grind (arith, nat_tests)

    open_conn : (x : Id) (h : ℕ) → put s.initial d.dst (Some (to_attempt (next_free s.free_slots))) x ≡ Some (to_connection h) → OpenedIn (s.conns h) x
    open_conn x h = grind (arith, nat_tests)

    open_attempt : (x : Id) (n : ℕ) → put s.initial d.dst (Some (to_attempt (next_free s.free_slots))) x ≡ Some (to_attempt n) →
        (w : Waiting) × Among w (opening ∷ s.waiting) × (w.slot ≡ n) × (w.first.dst ≡ x)
    open_attempt x n = put_read s.initial d.dst (Some (to_attempt (next_free s.free_slots))) x
        (λ o. o ≡ Some (to_attempt n) → (w : Waiting) × Among w (opening ∷ s.waiting) × (w.slot ≡ n) × (w.first.dst ≡ x))
        (λ u e z. (opening, inl refl, same_slots (next_free s.free_slots) n z, sym e))
        (λ no e. let r = S.entry_attempt x n e in (r.0, inr r.1, r.2, r.3))

    open_attempt_entry : (v : Waiting) → (v ≡ opening) ⊎ Among v s.waiting → empty v.first.dst ≡ false →
        put s.initial d.dst (Some (to_attempt (next_free s.free_slots))) v.first.dst ≡ Some (to_attempt v.slot)
    open_attempt_entry v (inl e) = subst (λ (z : Waiting). empty z.first.dst ≡ false → put s.initial d.dst (Some (to_attempt (next_free s.free_slots))) z.first.dst ≡ Some (to_attempt z.slot)) (sym e)
        (λ u. put_read s.initial d.dst (Some (to_attempt (next_free s.free_slots))) d.dst (λ o. o ≡ Some (to_attempt (next_free s.free_slots))) (λ _ _. refl) (λ off. absurd (off u refl)))
    open_attempt_entry v (inr m) = λ u. put_read s.initial d.dst (Some (to_attempt (next_free s.free_slots))) v.first.dst (λ o. o ≡ Some (to_attempt v.slot))
        (λ z e. absurd (none_some (to_attempt v.slot) (sym (unrouted z) ∙ ap s.initial (sym e) ∙ S.attempt_entry v m u))) (λ _. S.attempt_entry v m u)

    open_conn_entry : (h : ℕ) (x : Id) → empty x ≡ false → OpenedIn (s.conns h) x → put s.initial d.dst (Some (to_attempt (next_free s.free_slots))) x ≡ Some (to_connection h)
    open_conn_entry h x u m = put_read s.initial d.dst (Some (to_attempt (next_free s.free_slots))) x (λ o. o ≡ Some (to_connection h))
        (λ z e. absurd (none_some (to_connection h) (sym (unrouted z) ∙ ap s.initial (sym e) ∙ S.conn_entry h x u m))) (λ _. S.conn_entry h x u m)

    open_free : (n : ℕ) (w : Waiting) → Among n (drop 1 s.free_slots) → (w ≡ opening) ⊎ Among w s.waiting → w.slot ≡ n → ⊥
    open_free n w m (inl e) z = (rest_among s.free_slots n S.slots_apart m).1 (sym z ∙ ap (λ r. r.slot) e)
    open_free n w m (inr k) z = S.slots_free n w (rest_among s.free_slots n S.slots_apart m).0 k z

    pub open_sound : Sound len (with_opened s (next_free s.free_slots) d)
    open_sound = record {
      naming = S.naming;
      entry_some = open_some;
      entry_conn = open_conn;
      entry_attempt = open_attempt;
      attempt_entry = open_attempt_entry;
      conn_entry = open_conn_entry;
      pair_conn = S.pair_conn;
      sender_conn = S.sender_conn;
      handles_free = S.handles_free;
      handles_apart = S.handles_apart;
      slotted = (λ v m e. S.slots_free (next_free s.free_slots) v (next_among s.free_slots some) m e, S.slotted);
      slots_free = open_free;
      slots_apart = rest_apart s.free_slots S.slots_apart;
      slots_count = let c = S.slots_count in let r = rest_length s.free_slots some in omega arith;
    }

  module _ (w : Waiting) (m : Among w s.waiting) where
    -- an entry for another identifier than the attempt's leads to another slot
    spent_attempt : (x : Id) (n : ℕ) → (empty w.first.dst ≡ false → x ≡ w.first.dst → ⊥) → s.initial x ≡ Some (to_attempt n) →
        (v : Waiting) × Among v (without s.waiting w.slot) × (v.slot ≡ n) × (v.first.dst ≡ x)
    spent_attempt x n off e =
        let r = S.entry_attempt x n e in (
          r.0,
          among_without s.waiting w.slot r.0 r.1
              (λ z. let same : r.0 ≡ w = slotted_same s.waiting r.0 w S.slotted r.1 m z in
              let is : x ≡ w.first.dst = sym r.3 ∙ ap (λ y. y.first.dst) same in
              off (sym (ap empty is) ∙ S.entry_some x (to_attempt n) e) is),
          r.2,
          r.3,
        )

    spent_attempt_entry : (t : Option Target) (v : Waiting) → Among v (without s.waiting w.slot) → empty v.first.dst ≡ false → put s.initial w.first.dst t v.first.dst ≡ Some (to_attempt v.slot)
    spent_attempt_entry t v k u =
        let r = without_among s.waiting w.slot v k in
        put_read s.initial w.first.dst t v.first.dst (λ o. o ≡ Some (to_attempt v.slot))
        (λ z e. absurd (r.1 (same_slots v.slot w.slot (sym (S.attempt_entry v r.0 u) ∙ ap s.initial e ∙ S.attempt_entry w m z)))) (λ _. S.attempt_entry v r.0 u)

    spent_conn_entry : (t : Option Target) (h : ℕ) (x : Id) → empty x ≡ false → OpenedIn (s.conns h) x → put s.initial w.first.dst t x ≡ Some (to_connection h)
    spent_conn_entry t h x u k = put_read s.initial w.first.dst t x (λ o. o ≡ Some (to_connection h))
        (λ z e. absurd (unlike_targets h w.slot (sym (S.conn_entry h x u k) ∙ ap s.initial e ∙ S.attempt_entry w m z))) (λ _. S.conn_entry h x u k)

    spent_free : (n : ℕ) (v : Waiting) → (n ≡ w.slot) ⊎ Among n s.free_slots → Among v (without s.waiting w.slot) → v.slot ≡ n → ⊥
    spent_free n v (inl e) k z = (without_among s.waiting w.slot v k).1 (z ∙ e)
    spent_free n v (inr l) k z = S.slots_free n v l (without_among s.waiting w.slot v k).0 z

    spent_apart : Distinct (w.slot ∷ s.free_slots)
    spent_apart = (λ k. S.slots_free w.slot w k m refl, S.slots_apart)

    spent_count : length (without s.waiting w.slot) + length (w.slot ∷ s.free_slots) ≡ 64
    spent_count = let c = S.slots_count in let l = without_length s.waiting w S.slotted m in omega arith

    pub spent_sound : Sound len (with_spent s w None)
    spent_sound = record {
      naming = S.naming;
      entry_some = λ x t. put_read s.initial w.first.dst None x (λ o. o ≡ Some t → empty x ≡ false) (λ u e z. absurd (none_some t z)) (λ no e. S.entry_some x t e);
      entry_conn = λ x h. put_read s.initial w.first.dst None x (λ o. o ≡ Some (to_connection h) → OpenedIn (s.conns h) x)
          (λ u e z. absurd (none_some (to_connection h) z)) (λ no e. S.entry_conn x h e);
      entry_attempt = λ x n. put_read s.initial w.first.dst None x
          (λ o. o ≡ Some (to_attempt n) → (v : Waiting) × Among v (without s.waiting w.slot) × (v.slot ≡ n) × (v.first.dst ≡ x))
          (λ u e z. absurd (none_some (to_attempt n) z)) (λ no e. spent_attempt x n no e);
      attempt_entry = spent_attempt_entry None;
      conn_entry = spent_conn_entry None;
      pair_conn = S.pair_conn;
      sender_conn = S.sender_conn;
      handles_free = S.handles_free;
      handles_apart = S.handles_apart;
      slotted = slotted_kept (λ v. not (eqb v.slot w.slot)) s.waiting S.slotted;
      slots_free = spent_free;
      slots_apart = spent_apart;
      slots_count = spent_count;
    }

    -- ## A new connection

    module _ (c : Config) (is : c.len ≡ len) (some : 0 < length s.free_handles) (xs : List Id) (apart : Apart xs) (fresh : (x : Id) → empty x ≡ false → Among x xs → s.ids x ≡ None) where
      abbrev h : ℕ
      h = next_free s.free_handles

      was_free : s.conns h ≡ None
      was_free = S.handles_free h (next_among s.free_handles some)

      abbrev made : (k : ℕ) (P : Option Conn → Type 0) → (k ≡ h → P (Some (new_conn w xs))) → ((k ≡ h → ⊥) → P (s.conns k)) → P (update eqb s.conns h (Some (new_conn w xs)) k)
      made k = up_read eqb Decides-eqb s.conns h (Some (new_conn w xs)) k

      -- what holds of a live connection goes on to hold, since the handle was free
      still : (k : ℕ) (P : Option Conn → Type 0) → (P None → ⊥) → P (s.conns k) → P (update eqb s.conns h (Some (new_conn w xs)) k)
      still k P dead p = made k P (λ e. absurd (dead (subst P was_free (subst (λ (j : ℕ). P (s.conns j)) e p)))) (λ _. p)

      accept_pair : (a : FourTuple) (k : ℕ) → cond (eqb c.len 0) (update same_pair s.pairs w.first.addresses (Some h)) s.pairs a ≡ Some k →
          PairIn (update eqb s.conns h (Some (new_conn w xs)) k) a × (len ≡ 0)
      accept_pair a k = cond_both (eqb c.len 0) (update same_pair s.pairs w.first.addresses (Some h)) s.pairs
          (λ f. f a ≡ Some k → PairIn (update eqb s.conns h (Some (new_conn w xs)) k) a × (len ≡ 0))
          (λ t. up_read same_pair same_pair_decides s.pairs w.first.addresses (Some h) a (λ o. o ≡ Some k → PairIn (update eqb s.conns h (Some (new_conn w xs)) k) a × (len ≡ 0))
          (λ e z. (made k (λ o. PairIn o a) (λ _. sym e) (λ n. absurd (n (sym (some_same h k z)))), sym is ∙ eqb-true c.len 0 t))
          (λ n e. let r = S.pair_conn a k e in (still k (λ o. PairIn o a) (λ z. z) r.0, r.1)))
          (λ t e. let r = S.pair_conn a k e in (still k (λ o. PairIn o a) (λ z. z) r.0, r.1))

      accept_conn_entry : (k : ℕ) (x : Id) → empty x ≡ false → OpenedIn (update eqb s.conns h (Some (new_conn w xs)) k) x → put s.initial w.first.dst (Some (to_connection h)) x ≡ Some (to_connection k)
      accept_conn_entry k x u = made k (λ o. OpenedIn o x → put s.initial w.first.dst (Some (to_connection h)) x ≡ Some (to_connection k))
          (λ e o. put_read s.initial w.first.dst (Some (to_connection h)) x (λ r. r ≡ Some (to_connection k)) (λ _ _. ap {B = Option Target} (λ j. Some (to_connection j)) (sym e))
          (λ off. absurd (off (ap empty o ∙ u) (sym o))))
          (λ _ o. spent_conn_entry (Some (to_connection h)) k x u o)

      pub accept_sound : Sound len (with_accepted c s w h xs)
      accept_sound = record {
        naming = issue_naming S.naming h (new_conn w xs) xs apart fresh 0 (subst (λ (o : Option Conn). count_in o ≤ 0) (sym was_free) (omega arith))
            (ap (λ o. held_in o ++ sequenced 0 xs) (sym was_free)) (omega arith);
        entry_some = λ x t. put_read s.initial w.first.dst (Some (to_connection h)) x (λ o. o ≡ Some t → empty x ≡ false) (λ u e z. ap empty e ∙ u) (λ no e. S.entry_some x t e);
        entry_conn = λ x k. put_read s.initial w.first.dst (Some (to_connection h)) x
            (λ o. o ≡ Some (to_connection k) → OpenedIn (update eqb s.conns h (Some (new_conn w xs)) k) x)
            (λ u e z. made k (λ o. OpenedIn o x) (λ _. sym e) (λ n. absurd (n (sym (same_handles h k z)))))
            (λ no e. still k (λ o. OpenedIn o x) (λ z. z) (S.entry_conn x k e));
        entry_attempt = λ x n. put_read s.initial w.first.dst (Some (to_connection h)) x
            (λ o. o ≡ Some (to_attempt n) → (v : Waiting) × Among v (without s.waiting w.slot) × (v.slot ≡ n) × (v.first.dst ≡ x))
            (λ u e z. absurd (unlike_targets h n z)) (λ no e. spent_attempt x n no e);
        attempt_entry = spent_attempt_entry (Some (to_connection h));
        conn_entry = accept_conn_entry;
        pair_conn = accept_pair;
        sender_conn = λ r k e. still k (λ o. SenderIn o r) (λ z. z) (S.sender_conn r k e);
        handles_free = λ k l. let r = rest_among s.free_handles k S.handles_apart l in made k (λ o. o ≡ None) (λ e. absurd (r.1 e)) (λ _. S.handles_free k r.0);
        handles_apart = rest_apart s.free_handles S.handles_apart;
        slotted = slotted_kept (λ v. not (eqb v.slot w.slot)) s.waiting S.slotted;
        slots_free = spent_free;
        slots_apart = spent_apart;
        slots_count = spent_count;
      }

  -- ## Connections

  module _ (h : ℕ) (c : Conn) (live : s.conns h ≡ Some c) where
    abbrev change : (v : Option Conn) (k : ℕ) (P : Option Conn → Type 0) → (k ≡ h → P v) → ((k ≡ h → ⊥) → P (s.conns k)) → P (update eqb s.conns h v k)
    change v k = up_read eqb Decides-eqb s.conns h v k

    here : (P : Option Conn → Type 0) (k : ℕ) → k ≡ h → P (s.conns k) → P (Some c)
    here P k e p = subst P live (subst (λ (j : ℕ). P (s.conns j)) e p)

    forgotten : (o : Option Sender) (r : Sender) (k : ℕ) → forget_sender s.senders o r ≡ Some k → (o ≡ Some r → ⊥) × (s.senders r ≡ Some k)
    forgotten None r k = λ e. (λ z. none_some r z, e)
    forgotten (Some q) r k = up_read same_sender same_sender_decides s.senders q None r (λ o. o ≡ Some k → (Some q ≡ Some r → ⊥) × (s.senders r ≡ Some k))
        (λ _ z. absurd (none_some k z)) (λ n z. (λ y. n (sym (some_same q r y)), z))

    its_entry : empty c.opened_with ≡ false → s.initial c.opened_with ≡ Some (to_connection h)
    its_entry u = S.conn_entry h c.opened_with u (subst (λ (o : Option Conn). OpenedIn o c.opened_with) (sym live) refl)

    drain_conn_entry : (k : ℕ) (x : Id) → empty x ≡ false → OpenedIn (update eqb s.conns h None k) x → put s.initial c.opened_with None x ≡ Some (to_connection k)
    drain_conn_entry k x u = change None k (λ o. OpenedIn o x → put s.initial c.opened_with None x ≡ Some (to_connection k)) (λ _ o. elim o [ ])
        (λ off o. put_read s.initial c.opened_with None x (λ r. r ≡ Some (to_connection k))
        (λ z e. absurd (off (same_handles k h (sym (S.conn_entry k x u o) ∙ ap s.initial e ∙ its_entry z)))) (λ _. S.conn_entry k x u o))

    pub drain_sound : Sound len (with_drained s h c)
    drain_sound = record {
      naming = subst (λ (o : Option Conn). Naming (update eqb s.conns h None) (put_all s.ids (second (held_in o)) None)) live (drain_naming S.naming h);
      entry_some = λ x t. put_read s.initial c.opened_with None x (λ o. o ≡ Some t → empty x ≡ false) (λ u e z. absurd (none_some t z)) (λ no e. S.entry_some x t e);
      entry_conn = λ x k. put_read s.initial c.opened_with None x (λ o. o ≡ Some (to_connection k) → OpenedIn (update eqb s.conns h None k) x)
          (λ u e z. absurd (none_some (to_connection k) z))
          (λ no e. change None k (λ o. OpenedIn o x)
          (λ z. let same : c.opened_with ≡ x = here (λ o. OpenedIn o x) k z (S.entry_conn x k e) in no (ap empty same ∙ S.entry_some x (to_connection k) e) (sym same))
          (λ _. S.entry_conn x k e));
      entry_attempt = λ x n. put_read s.initial c.opened_with None x (λ o. o ≡ Some (to_attempt n) → (v : Waiting) × Among v s.waiting × (v.slot ≡ n) × (v.first.dst ≡ x))
          (λ u e z. absurd (none_some (to_attempt n) z)) (λ no e. S.entry_attempt x n e);
      attempt_entry = λ v m u. put_read s.initial c.opened_with None v.first.dst (λ o. o ≡ Some (to_attempt v.slot))
          (λ z e. absurd (unlike_targets h v.slot (sym (its_entry z) ∙ ap s.initial (sym e) ∙ S.attempt_entry v m u))) (λ _. S.attempt_entry v m u);
      conn_entry = drain_conn_entry;
      pair_conn = λ a k. up_read same_pair same_pair_decides s.pairs c.addresses None a (λ o. o ≡ Some k → PairIn (update eqb s.conns h None k) a × (len ≡ 0))
          (λ _ z. absurd (none_some k z))
          (λ n e. let r = S.pair_conn a k e in (change None k (λ o. PairIn o a) (λ z. absurd (n (sym (here (λ o. PairIn o a) k z r.0)))) (λ _. r.0), r.1));
      sender_conn = λ r k e. let f = forgotten c.sender r k e in
          change None k (λ o. SenderIn o r) (λ z. absurd (f.0 (here (λ o. SenderIn o r) k z (S.sender_conn r k f.1)))) (λ _. S.sender_conn r k f.1);
      handles_free = λ k l. change None k (λ o. o ≡ None) (λ _. refl) (λ n. elim l [ inl e ↦ absurd (n e) | inr m ↦ S.handles_free k m ]);
      handles_apart = (λ l. none_some c (sym (S.handles_free h l) ∙ live), S.handles_apart);
      slotted = S.slotted;
      slots_free = S.slots_free;
      slots_apart = S.slots_apart;
      slots_count = S.slots_count;
    }

    -- the connection changes in what it holds alone
    module _ (d : Conn) (opened : d.opened_with ≡ c.opened_with) (addresses : d.addresses ≡ c.addresses) where
      abbrev swap : (k : ℕ) (P : Option Conn → Type 0) → (P (Some c) → P (Some d)) → P (s.conns k) → P (update eqb s.conns h (Some d) k)
      swap k P f p = change (Some d) k P (λ e. f (here P k e p)) (λ _. p)

      swap_conn_entry : (k : ℕ) (x : Id) → empty x ≡ false → OpenedIn (update eqb s.conns h (Some d) k) x → s.initial x ≡ Some (to_connection k)
      swap_conn_entry k x u = change (Some d) k (λ o. OpenedIn o x → s.initial x ≡ Some (to_connection k))
          (λ e o. S.conn_entry h x u (subst (λ (r : Option Conn). OpenedIn r x) (sym live) (sym opened ∙ o)) ∙ ap {B = Option Target} (λ j. Some (to_connection j)) (sym e)) (λ _ o. S.conn_entry k x u o)

      swap_sound : (sender : d.sender ≡ c.sender) (ids : Id → Option ℕ) → Naming (update eqb s.conns h (Some d)) ids →
          Sound len (with_conn s h (Some d) s.free_handles ids s.initial s.pairs s.senders)
      swap_sound sender ids N = record {
        naming = N;
        entry_some = S.entry_some;
        entry_conn = λ x k e. swap k (λ o. OpenedIn o x) (λ z. opened ∙ z) (S.entry_conn x k e);
        entry_attempt = S.entry_attempt;
        attempt_entry = S.attempt_entry;
        conn_entry = swap_conn_entry;
        pair_conn = λ a k e. let r = S.pair_conn a k e in (swap k (λ o. PairIn o a) (λ z. addresses ∙ z) r.0, r.1);
        sender_conn = λ r k e. swap k (λ o. SenderIn o r) (λ z. sender ∙ z) (S.sender_conn r k e);
        handles_free = λ k l. swap k (λ o. o ≡ None) (λ z. absurd (none_some c (sym z))) (S.handles_free k l);
        handles_apart = S.handles_apart;
        slotted = S.slotted;
        slots_free = S.slots_free;
        slots_apart = S.slots_apart;
        slots_count = S.slots_count;
      }

    pub issued_sound : (xs : List Id) → Apart xs → ((x : Id) → empty x ≡ false → Among x xs → s.ids x ≡ None) → Sound len (with_issued s h c xs)
    issued_sound xs apart fresh =
        let d : Conn = conn_holding c (c.count + length xs) (c.held ++ sequenced c.count xs) in
        swap_sound d refl refl refl (put_all s.ids xs (Some h))
        (issue_naming S.naming h d xs apart fresh c.count (subst (λ (o : Option Conn). count_in o ≤ c.count) (sym live) (omega arith))
        (ap (λ o. held_in o ++ sequenced c.count xs) (sym live)) (omega arith))

    pub retired_sound : (q : ℕ) (x : Id) → Among (q, x) c.held → Sound len (with_retired s h c q x)
    retired_sound q x m =
        swap_sound (conn_less c q) refl refl refl (put s.ids x None)
        (retire_naming S.naming h (conn_less c q) q x (subst (λ (o : Option Conn). HeldIn o q x) (sym live) m)
        (ap (λ o. filter (λ p. not (eqb p.0 q)) (held_in o)) (sym live)) (ap count_in (sym live)))

    abbrev naming_sender : Sender → Conn
    naming_sender r = record { opened_with = c.opened_with; count = c.count; held = c.held; addresses = c.addresses; sender = Some r }

    pub sender_sound : (r : Sender) → Sound len (with_sender s h c r)
    sender_sound r = record {
      naming = issue_naming S.naming h (naming_sender r) [] tt (λ x u l. elim l [ ]) c.count (subst (λ (o : Option Conn). count_in o ≤ c.count) (sym live) (omega arith))
          (sym (append-nil c.held) ∙ ap (λ o. held_in o ++ []) (sym live)) (omega arith);
      entry_some = S.entry_some;
      entry_conn = λ x k e. swap (naming_sender r) refl refl k (λ o. OpenedIn o x) (λ z. z) (S.entry_conn x k e);
      entry_attempt = S.entry_attempt;
      attempt_entry = S.attempt_entry;
      conn_entry = swap_conn_entry (naming_sender r) refl refl;
      pair_conn = λ a k e. let p = S.pair_conn a k e in (swap (naming_sender r) refl refl k (λ o. PairIn o a) (λ z. z) p.0, p.1);
      sender_conn = λ q k. up_read same_sender same_sender_decides (forget_sender s.senders c.sender) r (Some h) q
          (λ o. o ≡ Some k → SenderIn (update eqb s.conns h (Some (naming_sender r)) k) q)
          (λ e z. change (Some (naming_sender r)) k (λ o. SenderIn o q) (λ _. ap Some (sym e)) (λ n. absurd (n (sym (some_same h k z)))))
          (λ n z. let f = forgotten c.sender q k z in
          change (Some (naming_sender r)) k (λ o. SenderIn o q) (λ e. absurd (f.0 (here (λ o. SenderIn o q) k e (S.sender_conn q k f.1)))) (λ _. S.sender_conn q k f.1));
      handles_free = λ k l. swap (naming_sender r) refl refl k (λ o. o ≡ None) (λ z. absurd (none_some c (sym z))) (S.handles_free k l);
      handles_apart = S.handles_apart;
      slotted = S.slotted;
      slots_free = S.slots_free;
      slots_apart = S.slots_apart;
      slots_count = S.slots_count;
    }
