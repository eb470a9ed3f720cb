-- Each of the five calls keeps the state sound, and what is told in agreement with it.
use Rattle.std.proofs.Common.{arith, ◌≡◌, ℕ, suc, ◌+◌, ◌-◌, ◌<◌, Bool, true, false, cond, not, ◌||◌, eqb, leb, ◌⊎◌, List, [], ◌∷◌, ◌++◌, length, Some, None, Option, sym, refl, ap, ◌∙◌, subst, subst₂, inl, inr, Ok, Err}
use Rattle.std.specs.Map.{update}
use Rattle.std.proofs.lemmas.Bool.{cond_both, both_ways, eq-eqb, eqb-false, ne_eqb, leb-false, not-true, or_parts, or_from, cases_eq}
use Rattle.std.proofs.lemmas.Bool.Decides.{Decides-eqb, nat_tests}
use Rattle.model.specs.Records.{Id, Token, empty, Sender, Settings, Datagram, size, Kind, Initial, Handshake, ZeroRtt, Short, Retry, VersionNegotiate, is_initial, is_early, Grant, Incoming, Event, need, retire, reset_token, drained, Answer, refused, delivered, closing, failed, ignored, done}
use Rattle.supply.specs.Meaning.{Opens as Opened}
use Rattle.supply.specs.declared.answers.Unopened.TheVariants.{Closed, ReservedBits, BadToken}
use Rattle.supply.specs.Meaning.{Greets}
use Rattle.supply.specs.declared.answers.HandshakeError.TheVariants.{TransportError, Other}
use Rattle.model.specs.Endpoint.{Conn, Waiting, Target, to_attempt, to_connection, State, Config, Supply, Outcome, first_cause, is_none, is_held, sequenced, grants, Search, none_left, found, several, without, with_spent, new_conn, with_accepted, with_drained, conn_holding, conn_less, with_retired, with_sender, or_else, held_route, initial_route, route}
use Rattle.model.specs.Calls
use Rattle.model.specs.Calls.{gives, next_free, in_slot, brought, held_at, sealed, sealed_grants, Room}
use Rattle.model.specs.Runs
use Rattle.model.specs.Runs.{Setup, config, supply_at, Attempt, own, foreign, Call, handles, accepts, refuses, ignores, handles_event, Entry, World, entry_of, brings, is_own, spent_by, opened_slot, slots_after, in_hand, incoming, with_attempt, outcome, outcome_of}
use Rattle.model.specs.Words.{Among, event_for, granted, begun, drains, retires, sends, loses, spends}
use Rattle.model.proofs.Keys.{up_read, among_append, among_left, among_right, among_kept, kept_among}
use Rattle.model.proofs.Naming.{none_some, Apart, SeveralFound, several_found}
use Rattle.model.proofs.Sound.{Sound, a_slot, next_among, in_slot_among, reset_sound, kept_sound, open_sound, spent_sound, accept_sound, drain_sound, issued_sound, retired_sound, sender_sound}
use Rattle.model.proofs.Agree.{Alive, At, Agrees, Silent, at_silent, at_event, at_named, at_drained, at_accepted, placing_silent, placing_kept, placing_opened, placing_spent, spent_slots}

-- no test of the list holds
abbrev pub Passed : List (Bool × ℕ) → Type 0
Passed [] = Unit {0}
Passed (t ∷ ts) = (t.0 ≡ false) × Passed ts

pub first_passed : (ts : List (Bool × ℕ)) → first_cause ts ≡ None → Passed ts
first_passed [] = λ e. tt
first_passed (t ∷ ts) = cond_both t.0 (Some t.1) (first_cause ts) (λ o. o ≡ None → (t.0 ≡ false) × Passed ts) (λ _ e. absurd (none_some t.1 (sym e))) (λ f e. (f, first_passed ts e))

pub held_at_some : (ps : List (ℕ × Id)) (q : ℕ) (x : Id) → held_at ps q ≡ Some x → Among (q, x) ps
held_at_some [] q x = λ e. absurd (none_some x e)
held_at_some (p ∷ ps) q x = grind (arith, nat_tests, held_at_some ps q x)

pub held_at_none : (ps : List (ℕ × Id)) (q p : ℕ) (x : Id) → held_at ps q ≡ None → Among (p, x) ps → p ≡ q → ⊥
held_at_none [] q p x = λ e m. elim m [ ]
held_at_none (r ∷ ps) q p x = grind (arith, nat_tests, held_at_none ps q p x)

pub free_none : (o : Option ℕ) → not (is_none o) ≡ false → o ≡ None
free_none None e = refl
free_none (Some h) e = absurd (both_ways true e refl)

pub or_none_left : {A : Type 0} (o p : Option A) → or_else o p ≡ None → o ≡ None
or_none_left None p e = refl
or_none_left (Some a) p e = e

pub or_none_right : {A : Type 0} (o p : Option A) → or_else o p ≡ None → p ≡ None
or_none_right None p e = e
or_none_right (Some a) p e = absurd (none_some a (sym e))

pub early : (k : Kind) → is_initial k ≡ true → is_early k ≡ true
early Initial i = refl
early Handshake i = i
early ZeroRtt i = refl
early Short i = i
early Retry i = i
early VersionNegotiate i = i

-- an entry is silent on a connection whose event, if it answers one, says nothing
pub silent_by : (e : Entry) (h : ℕ) (event : Option Event) → event_for h e.call ≡ event → granted h event e.answer ≡ [] → drains event e.answer ≡ false →
    ((q : ℕ) → retires q event e.answer ≡ false) → sends event e.answer ≡ None → begun h e.answer ≡ None → Silent e h
silent_by e h event is g d r s b = grind (arith, nat_tests)

module _ (U : Setup) (token : Id → Token) (w : World) (told : List Entry) (n : ℕ) (S : Sound U.generator.len w.state)
    (A : Agrees told w.state.conns w.state.waiting w.slots n) where
  abbrev s : State
  s = w.state

  abbrev c : Config
  c = config U

  abbrev u : Supply
  u = supply_at U w

  abbrev told_of : Call → Outcome → Entry
  told_of call o = entry_of U token w (record { label = n; call = call }) o

  pub record Good (call : Call) (o : Outcome) : Type 0 where
    pub sound : Sound U.generator.len o.state
    pub agrees : Agrees (told_of call o ∷ told) o.state.conns o.state.waiting (slots_after w.slots n call o.answer) (suc n)

  -- ## Calls that bring no event

  abbrev NoEvent : Call → Type 0
  NoEvent call = (h : ℕ) → event_for h call ≡ None

  unsaid : (e : Entry) → NoEvent e.call → ((h : ℕ) → granted h None e.answer ≡ []) → ((h : ℕ) → begun h e.answer ≡ None) → (h : ℕ) → Silent e h
  unsaid e none g b h = silent_by e h None (none h) (g h) refl (λ q. refl) refl (b h)

  quiet : (e : Entry) → ((h : ℕ) → Silent e h) → ((k : ℕ) → spends e k ≡ false) → opened_slot e.answer ≡ None → Agrees (e ∷ told) s.conns s.waiting w.slots (suc n)
  quiet e silent keeps none = record {
    at = λ h. at_silent e told h (silent h) (s.conns h) (A.at h);
    placing = placing_silent told s.waiting w.slots n e keeps none A.placing;
  }

  refused_good : (call : Call) → NoEvent call → (k : ℕ) → Good call (gives (refused k) s)
  refused_good call none k = record { sound = S; agrees = quiet (told_of call (gives (refused k) s)) (unsaid _ none (λ h. refl) (λ h. refl)) (λ j. refl) refl }

  -- ### `handle`

  module _ (d : Datagram) (room : ℕ) where
    abbrev call : Call
    call = handles d room

    reset_good : (b : Bool) → Good call (Calls.reset_by u s d b)
    reset_good true = record { sound = reset_sound S d.time; agrees = quiet (told_of call (Calls.reset_by u s d true)) (unsaid _ (λ h. refl) (λ h. refl) (λ h. refl)) (λ j. refl) refl }
    reset_good false = record { sound = reset_sound S d.time; agrees = quiet (told_of call (Calls.reset_by u s d false)) (unsaid _ (λ h. refl) (λ h. refl) (λ h. refl)) (λ j. refl) refl }

    stray_good : (o : Option ℕ) → Good call (Calls.stray_by u s d o)
    stray_good (Some k) = refused_good call (λ h. refl) k
    stray_good None = reset_good (leb (size d - 17) 26)

    closing_good : (code : ℕ) → Good call (Calls.close_now u s code d)
    closing_good code = record { sound = S; agrees = quiet (told_of call (Calls.close_now u s code d)) (unsaid _ (λ h. refl) (λ h. refl) (λ h. refl)) (λ j. refl) refl }

    open_good : 0 < length s.free_slots → (empty d.dst ≡ false → s.initial d.dst ≡ None) → (o : Opened) → Good call (Calls.open_by u s d o)
    open_good some off (Err Closed) = refused_good call (λ h. refl) 10
    open_good some off (Err ReservedBits) = refused_good call (λ h. refl) 11
    open_good some off (Err BadToken) = closing_good 0x0b
    open_good some off (Ok o) =
        let e : Entry = told_of call (Calls.open_by u s d (Ok o)) in
        let v : Waiting = record { slot = next_free s.free_slots; first = d; kept = [] } in
        record {
          sound = open_sound S d some off;
          agrees = record {
            at = λ h. at_silent e told h (unsaid e (λ h. refl) (λ h. refl) (λ h. refl) h) (s.conns h) (A.at h);
            placing = placing_opened told s.waiting w.slots n e (λ k. refl) v (record { label = refl; slot = refl; with = refl })
                (λ x m z. S.slots_free (next_free s.free_slots) x (next_among s.free_slots some) m z) A.placing;
          };
        }

    first_good : (empty d.dst ≡ false → s.initial d.dst ≡ None) → (o : Option ℕ) → first_cause (Calls.first_causes c s d) ≡ o → Good call (Calls.first_by c u s d o)
    first_good off (Some k) e = refused_good call (λ h. refl) k
    first_good off None e = cond_both (Calls.bad_length c d) (Calls.close_now u s 0x0a d) (Calls.open_by u s d (c.door.opens d)) (Good call) (λ _. closing_good 0x0a)
        (λ _. open_good (a_slot U.generator.len c s S U.few (first_passed (Calls.first_causes c s d) e).1.0) off (c.door.opens d))

    keep_good : (slot : ℕ) (o : Option ℕ) → Good call (Calls.keep_by s d slot o)
    keep_good slot (Some k) = refused_good call (λ h. refl) k
    keep_good slot None =
        let e : Entry = told_of call (Calls.keep_by s d slot None) in
        record {
          sound = kept_sound S slot d;
          agrees = record {
            at = λ h. at_silent e told h (unsaid e (λ h. refl) (λ h. refl) (λ h. refl) h) (s.conns h) (A.at h);
            placing = placing_kept told s.waiting w.slots n e (λ k. refl) refl slot d A.placing;
          };
        }

    -- an Initial that no route takes has no entry
    no_entry : route s d ≡ None → is_initial d.kind ≡ true → s.initial d.dst ≡ None
    no_entry e i = ap (λ b. cond b (s.initial d.dst) None) (sym (early d.kind i)) ∙ or_none_left (initial_route s d) _ (or_none_right (held_route s d) _ e)

    handle_good_by : (o : Option Target) → route s d ≡ o → Good call (Calls.handle_by c u s d o)
    handle_good_by (Some (to_connection h)) e = record { sound = S; agrees = quiet (told_of call (gives (delivered h) s)) (unsaid _ (λ h. refl) (λ h. refl) (λ h. refl)) (λ j. refl) refl }
    handle_good_by (Some (to_attempt slot)) e = keep_good slot _
    handle_good_by None e = cond_both (is_initial d.kind) (Calls.first_packet c u s d) (Calls.stray c u s d) (Good call) (λ i. first_good (λ _. no_entry e i) _ refl) (λ _. stray_good _)

    pub handle_good : Good call (Calls.handle c u s d room)
    handle_good = cond_both (Calls.fits c d room) (Calls.handle_by c u s d (route s d)) (gives (refused 1) s) (Good call) (λ _. handle_good_by (route s d) refl) (λ _. refused_good call (λ h. refl) 1)

  -- ### Calls that spend an attempt

  module _ (call : Call) (none : NoEvent call) (j : ℕ) (mine : (k : ℕ) → brings k call ≡ eqb k j) (v : Waiting) (m : Among v s.waiting) (here : w.slots j ≡ Some v.slot) where
    spent_good : (o : Outcome) → ((h : ℕ) → granted h None (sealed token o.answer) ≡ []) → spent_by (sealed token o.answer) ≡ true → spent_by o.answer ≡ true → opened_slot o.answer ≡ None → opened_slot (sealed token o.answer) ≡ None →
        Sound U.generator.len o.state → o.state.waiting ≡ without s.waiting v.slot → ((h : ℕ) → At (told_of call o ∷ told) h (o.state.conns h)) → Good call o
    spent_good o g t a opens opens' sound is at =
        let e : Entry = told_of call o in
        record {
          sound = sound;
          agrees = subst₂ (λ (ws : List Waiting) (b : Option ℕ). Agrees (e ∷ told) o.state.conns ws (Runs.put_slot (spent_slots w.slots call o.answer) n b) (suc n)) (sym is) (sym opens) (record {
            at = at;
            placing = placing_spent told s.waiting w.slots n e j v.slot t opens' mine here o.answer (a ∙ sym t) A.placing;
          });
        }

    still_there : (e : Entry) → NoEvent e.call → ((h : ℕ) → granted h None e.answer ≡ []) → ((h : ℕ) → begun h e.answer ≡ None) → (h : ℕ) → At (e ∷ told) h (s.conns h)
    still_there e no-event g b h = at_silent e told h (unsaid e no-event g b h) (s.conns h) (A.at h)

    spent_plain : (a : Answer) (i b : ℕ) → ((h : ℕ) → granted h None (sealed token a) ≡ []) → ((h : ℕ) → begun h (sealed token a) ≡ None) → spent_by (sealed token a) ≡ true → spent_by a ≡ true → opened_slot a ≡ None → opened_slot (sealed token a) ≡ None →
        Good call (record { answer = a; state = with_spent s v None; ids_drawn = i; bytes_drawn = b })
    spent_plain a i b g begins t z opens opens' =
        let o : Outcome = record { answer = a; state = with_spent s v None; ids_drawn = i; bytes_drawn = b } in
        spent_good o g t z opens opens' (spent_sound S v m) refl (still_there (told_of call o) none g begins)

    fail_good : (k : ℕ) → Good call (Calls.fail u s v k)
    fail_good k = cond_both (eqb k 23) (record { answer = failed k (Some (Calls.close_to u 0 0x02 v.first)); state = with_spent s v None; ids_drawn = 1; bytes_drawn = 0 })
        (gives (failed k None) (with_spent s v None)) (Good call)
        (λ _. spent_plain (failed k (Some (Calls.close_to u 0 0x02 v.first))) 1 0 (λ h. refl) (λ h. refl) refl refl refl refl) (λ _. spent_plain (failed k None) 0 0 (λ h. refl) (λ h. refl) refl refl refl refl)

    refuse_good_of : Good call (Calls.refuse_of u s (Some v))
    refuse_good_of = spent_plain (closing (Calls.close_to u 0 0x02 v.first)) 1 0 (λ h. refl) (λ h. refl) refl refl refl refl

    ignore_good_of : Good call (Calls.ignore_of s (Some v))
    ignore_good_of = spent_plain ignored 0 0 (λ h. refl) (λ h. refl) refl refl refl refl

    module _ (some : 0 < length s.free_handles) (xs : List Id) (apart : Apart xs) (fresh : (x : Id) → empty x ≡ false → Among x xs → s.ids x ≡ None) where
      abbrev h : ℕ
      h = next_free s.free_handles

      was_free : s.conns h ≡ None
      was_free = S.handles_free h (next_among s.free_handles some)

      accepted_sound : Sound U.generator.len (with_accepted c s v h xs)
      accepted_sound = accept_sound S v m c refl some xs apart fresh

      given_up_sound : Sound U.generator.len (with_drained (with_accepted c s v h xs) h (new_conn v xs))
      given_up_sound = drain_sound accepted_sound h (new_conn v xs)
          (up_read eqb Decides-eqb s.conns h (Some (new_conn v xs)) h (λ o. o ≡ Some (new_conn v xs)) (λ _. refl) (λ n. absurd (n refl)))

      -- an accepted connection that is drained at once leaves the connections as they were
      given_up_at : (e : Entry) → NoEvent e.call → ((h : ℕ) → granted h None e.answer ≡ []) → ((h : ℕ) → begun h e.answer ≡ None) → (k : ℕ) →
          At (e ∷ told) k (update eqb (update eqb s.conns h (Some (new_conn v xs))) h None k)
      given_up_at e no-event g b k = up_read eqb Decides-eqb (update eqb s.conns h (Some (new_conn v xs))) h None k (At (e ∷ told) k)
          (λ z. subst (At (e ∷ told) k) (ap s.conns z ∙ was_free) (still_there e no-event g b k))
          (λ off. up_read eqb Decides-eqb s.conns h (Some (new_conn v xs)) k (At (e ∷ told) k) (λ z. absurd (off z)) (λ _. still_there e no-event g b k))

      accepted_at : (i : ℕ) (k : ℕ) → At (told_of call (Calls.greet_by c u s v h xs i (Ok tt)) ∷ told) k (update eqb s.conns h (Some (new_conn v xs)) k)
      accepted_at i k =
          let e : Entry = told_of call (Calls.greet_by c u s v h xs i (Ok tt)) in
          let gs : List Grant = sealed_grants token (grants (sequenced 0 xs)) in
          up_read eqb Decides-eqb s.conns h (Some (new_conn v xs)) k (At (e ∷ told) k)
          (λ z. subst (λ (j : ℕ). Alive (e ∷ told) j (new_conn v xs)) (sym z)
          (at_accepted e told h token (sequenced 0 xs) (new_conn v xs) v.first
          (ap (λ b. granted h b e.answer) (none h) ∙ ap (λ b. cond b gs []) (eq-eqb h h refl)) (ap (λ b. cond b (Some v.first) None) (eq-eqb h h refl)) refl refl refl refl
          (subst (At told h) was_free (A.at h))))
          (λ off. at_silent e told k (silent_by e k None (none k) (ap (λ b. cond b gs []) (ne_eqb k h off)) refl (λ q. refl) refl (ap (λ b. cond b (Some v.first) None) (ne_eqb k h off))) (s.conns k) (A.at k))

      greet_good : (i : ℕ) (g : Greets) → Good call (Calls.greet_by c u s v h xs i g)
      greet_good i (Ok tt) =
          let e : Entry = told_of call (Calls.greet_by c u s v h xs i (Ok tt)) in
          record {
            sound = accepted_sound;
            agrees = record {
              at = accepted_at i;
              placing = placing_spent told s.waiting w.slots n e j v.slot refl refl mine here (Calls.greet_by c u s v h xs i (Ok tt)).answer refl A.placing;
            };
          }
      greet_good i (Err (TransportError code)) =
          let o : Outcome = Calls.greet_by c u s v h xs i (Err (TransportError code)) in
          spent_good o (λ h. refl) refl refl refl refl given_up_sound refl (given_up_at (told_of call o) none (λ h. refl) (λ h. refl))
      greet_good i (Err Other) =
          let o : Outcome = Calls.greet_by c u s v h xs i (Err Other) in
          spent_good o (λ h. refl) refl refl refl refl given_up_sound refl (given_up_at (told_of call o) none (λ h. refl) (λ h. refl))

    connect_good : 0 < length s.free_handles → (k : ℕ) (r : Search (List Id)) → SeveralFound (is_held s) k r → Good call (Calls.connect_by c u s v r)
    connect_good some k (none_left i) f = spent_plain (failed 25 None) i 0 (λ h. refl) (λ h. refl) refl refl refl refl
    connect_good some k (found xs i) f = greet_good some xs f.0 (λ x z l. free_none (s.ids x) (f.1 x z l)) i (c.door.greets v.first (next_free s.free_handles) xs)

    accept_good_by : (settings : Settings) (now : ℕ) (o : Option ℕ) → first_cause (Calls.accept_causes c s v settings now) ≡ o → Good call (Calls.accept_by c u s v settings o)
    accept_good_by settings now (Some k) e = fail_good k
    accept_good_by settings now None e =
        connect_good (leb-false (length s.free_handles) 0 (first_passed (Calls.accept_causes c s v settings now) e).1.1.0) (Calls.wanted c settings) _
        (several_found (is_held s) u.next_id 0 (Calls.wanted c settings))

  -- ### The attempt that a call brings

  -- where the attempt is one of this endpoint's, it is the own one of some label
  abbrev Known : Attempt → Incoming → Type 0
  Known a i = eqb i.number U.number ≡ true → (j : ℕ) × ((k : ℕ) → is_own k a ≡ eqb k j) × (w.slots j ≡ Some i.slot)

  bring : (a : Attempt) (i : Incoming) → Known a i → (v : Waiting) → brought c s i ≡ Some v →
      (j : ℕ) × ((k : ℕ) → is_own k a ≡ eqb k j) × Among v s.waiting × (w.slots j ≡ Some v.slot)
  bring a i known v = cond_both (eqb i.number U.number) (in_slot s.waiting i.slot) None
      (λ o. o ≡ Some v → (j : ℕ) × ((k : ℕ) → is_own k a ≡ eqb k j) × Among v s.waiting × (w.slots j ≡ Some v.slot))
      (λ t e. let r = known t in let q = in_slot_among s.waiting i.slot v e in (r.0, r.1, q.0, r.2 ∙ ap Some (sym q.1)))
      (λ t e. absurd (none_some v e))

  bringing : (a : Attempt) (call : Call) (none : NoEvent call) (f : Incoming → Outcome) → ((i : Incoming) → Known a i → Good call (f i)) → Good call (with_attempt s f (incoming U.number w.slots a))
  bringing (own j) call none f good = go (w.slots j) refl
    where
      go : (o : Option ℕ) → w.slots j ≡ o → Good call (with_attempt s f (in_hand U.number o))
      go None e = refused_good call none 5
      go (Some slot) e = good (record { number = U.number; slot = slot }) (λ _. (j, λ k. refl, e))
  bringing (foreign i) call none f good =
      cond_both (eqb i.number U.number) None (Some i) (λ o. Good call (with_attempt s f o)) (λ _. refused_good call none 5) (λ t. good i (λ z. absurd (both_ways _ t z)))

  -- ### `accept`, `refuse` and `ignore`

  module _ (a : Attempt) (now : ℕ) (given : Option Settings) (room : Room) (i : Incoming) (known : Known a i) where
    accept_good_of : (o : Option Waiting) → brought c s i ≡ o → Good (accepts a now given room) (Calls.accept_of c u s now given o)
    accept_good_of None e = refused_good (accepts a now given room) (λ h. refl) 5
    accept_good_of (Some v) e =
        let r = bring a i known v e in
        accept_good_by (accepts a now given room) (λ h. refl) r.0 r.1 v r.2 r.3 (Calls.settings_or given c.settings) now _ refl

    accept_good_from : (o : Option ℕ) → Good (accepts a now given room) (Calls.accept_from c u s i now given o)
    accept_good_from (Some k) = refused_good (accepts a now given room) (λ h. refl) k
    accept_good_from None = accept_good_of (brought c s i) refl

    pub accept_good : Good (accepts a now given room) (Calls.accept c u s i now given room)
    accept_good = accept_good_from (first_cause (Calls.host_causes c given room))

  module _ (a : Attempt) (i : Incoming) (known : Known a i) where
    refuse_good_by : (o : Option Waiting) → brought c s i ≡ o → Good (refuses a) (Calls.refuse_of u s o)
    refuse_good_by None e = refused_good (refuses a) (λ h. refl) 5
    refuse_good_by (Some v) e = let r = bring a i known v e in refuse_good_of (refuses a) (λ h. refl) r.0 r.1 v r.2 r.3

    ignore_good_by : (o : Option Waiting) → brought c s i ≡ o → Good (ignores a) (Calls.ignore_of s o)
    ignore_good_by None e = refused_good (ignores a) (λ h. refl) 5
    ignore_good_by (Some v) e = let r = bring a i known v e in ignore_good_of (ignores a) (λ h. refl) r.0 r.1 v r.2 r.3

  -- ## Events

  module _ (h : ℕ) (ev : Event) where
    abbrev event_call : Call
    event_call = handles_event h ev

    off_event : (k : ℕ) → (k ≡ h → ⊥) → event_for k event_call ≡ None
    off_event k off = ap (λ b. cond b (Some ev) None) (ne_eqb k h off)

    on_event : event_for h event_call ≡ Some ev
    on_event = ap (λ b. cond b (Some ev) None) (eq-eqb h h refl)

    others : (o : Outcome) → ((k : ℕ) → granted k None (sealed token o.answer) ≡ []) → ((k : ℕ) → begun k (sealed token o.answer) ≡ None) → (k : ℕ) → (k ≡ h → ⊥) → At (told_of event_call o ∷ told) k (s.conns k)
    others o g b k off = grind (arith, nat_tests, at_silent, silent_by, off_event k off, A.at k)

    event_agrees : (e : Entry) → ((k : ℕ) → spends e k ≡ false) → opened_slot e.answer ≡ None → (conns : ℕ → Option Conn) → ((k : ℕ) → At (e ∷ told) k (conns k)) → Agrees (e ∷ told) conns s.waiting w.slots (suc n)
    event_agrees e keeps none conns at = record {
      at = at;
      placing = placing_silent told s.waiting w.slots n e keeps none A.placing;
    }

    -- the connection h has changed, and no other
    changed : (e : Entry) (conns : ℕ → Option Conn) (v : Option Conn) → At (e ∷ told) h v → ((k : ℕ) → (k ≡ h → ⊥) → At (e ∷ told) k (conns k)) → (k : ℕ) → At (e ∷ told) k (update eqb conns h v k)
    changed e conns v here rest k = up_read eqb Decides-eqb conns h v k (At (e ∷ told) k) (λ z. subst (λ (j : ℕ). At (e ∷ told) j v) (sym z) here) (rest k)

    unchanged : (e : Entry) → At (e ∷ told) h (s.conns h) → ((k : ℕ) → (k ≡ h → ⊥) → At (e ∷ told) k (s.conns k)) → (k : ℕ) → At (e ∷ told) k (s.conns k)
    unchanged e here rest k = elim (cases_eq k h) [ inl z ↦ subst (λ (j : ℕ). At (e ∷ told) j (s.conns j)) (sym z) here | inr off ↦ rest k off ]

    -- a refusal that says nothing
    refused_event : (k i : ℕ) → drains (Some ev) (refused k) ≡ false → ((q : ℕ) → retires q (Some ev) (refused k) ≡ false) → sends (Some ev) (refused k) ≡ None →
        Good event_call (record { answer = refused k; state = s; ids_drawn = i; bytes_drawn = 0 })
    refused_event k i d r z =
        let o : Outcome = record { answer = refused k; state = s; ids_drawn = i; bytes_drawn = 0 } in
        let e : Entry = told_of event_call o in
        record {
          sound = S;
          agrees = event_agrees e (λ j. refl) refl s.conns (unchanged e (at_silent e told h (silent_by e h (Some ev) on_event refl d r z refl) (s.conns h) (A.at h)) (others o (λ k. refl) (λ k. refl)));
        }

    module _ (cn : Conn) (live : s.conns h ≡ Some cn) where
      alive : Alive told h cn
      alive = subst (At told h) live (A.at h)

      module _ (o : Outcome) (ps : List (ℕ × Id)) (d : Conn) (grants_are : granted h (Some ev) (sealed token o.answer) ≡ sealed_grants token (grants ps))
          (stays : drains (Some ev) (sealed token o.answer) ≡ false) (quiet' : sends (Some ev) (sealed token o.answer) ≡ None)
          (opened_with : d.opened_with ≡ cn.opened_with) (addresses : d.addresses ≡ cn.addresses) (sender : d.sender ≡ cn.sender)
          (split : (q : ℕ) (x : Id) → Among (q, x) d.held → ((retires q (Some ev) (sealed token o.answer) ≡ false) × Among (q, x) cn.held) ⊎ Among (q, x) ps)
          (old : (q : ℕ) (x : Id) → retires q (Some ev) (sealed token o.answer) ≡ false → Among (q, x) cn.held → Among (q, x) d.held)
          (new : (q : ℕ) (x : Id) → Among (q, x) ps → Among (q, x) d.held) where
        abbrev e : Entry
        e = told_of event_call o

        loses_is : (q : ℕ) → loses e h q ≡ (drains (Some ev) e.answer || retires q (Some ev) e.answer)
        loses_is q = ap (λ v. drains v e.answer || retires q v e.answer) on_event

        own_event : Alive (e ∷ told) h d
        own_event = at_event e told h token ps cn d (ap (λ v. granted h v e.answer) on_event ∙ grants_are) (ap (λ v. drains v e.answer) on_event ∙ stays)
            (ap (λ v. sends v e.answer) on_event ∙ quiet') opened_with addresses sender
            (λ q x m. elim (split q x m) [ inl r ↦ inl (loses_is q ∙ or_from _ _ stays r.0, r.1) | inr g ↦ inr g ])
            (λ q x l m. old q x (or_parts _ _ (sym (loses_is q) ∙ l)).1 m) new alive

  -- ### `NeedIdentifiers`

  module _ (h k : ℕ) (cn : Conn) (live : s.conns h ≡ Some cn) where
    need_found : (r : Search (List Id)) → SeveralFound (is_held s) k r → Good (handles_event h (need k)) (Calls.issue_by s h cn r)
    need_found (none_left i) f = refused_event h (need k) 25 i refl (λ q. refl) refl
    need_found (found xs i) f =
        let o : Outcome = Calls.issue_by s h cn (found xs i) in
        let d : Conn = conn_holding cn (cn.count + length xs) (cn.held ++ sequenced cn.count xs) in
        record {
          sound = issued_sound S h cn live xs f.0 (λ x z l. free_none (s.ids x) (f.1 x z l));
          agrees = event_agrees h (need k) (told_of (handles_event h (need k)) o) (λ j. refl) refl (update eqb s.conns h (Some d))
              (changed h (need k) (told_of (handles_event h (need k)) o) s.conns (Some d)
              (own_event h (need k) cn live o (sequenced cn.count xs) d refl refl refl refl refl refl
              (λ q x m. elim (among_append (q, x) cn.held (sequenced cn.count xs) m) [ inl a ↦ inl (refl, a) | inr b ↦ inr b ])
              (λ q x l m. among_left (q, x) cn.held (sequenced cn.count xs) m) (λ q x m. among_right (q, x) cn.held (sequenced cn.count xs) m))
              (others h (need k) o (λ j. refl) (λ j. refl)));
        }

    need_good : Good (handles_event h (need k)) (Calls.issue u s h cn k)
    need_good = cond_both (Calls.too_many cn k) (gives (refused 4) s) (Calls.issue_by s h cn (several (is_held s) u.next_id 0 k)) (Good (handles_event h (need k)))
        (λ _. refused_event h (need k) 4 0 refl (λ q. refl) refl) (λ _. need_found _ (several_found (is_held s) u.next_id 0 k))

  -- ### `RetireConnectionId`

  module _ (h q : ℕ) (more : Bool) (cn : Conn) (live : s.conns h ≡ Some cn) where
    abbrev ev : Event
    ev = retire q more

    flip : (p : ℕ) → (p ≡ q → ⊥) → eqb q p ≡ false
    flip p off = ne_eqb q p (λ z. off (sym z))

    unheld_good : held_at cn.held q ≡ None → Good (handles_event h ev) (gives done s)
    unheld_good none =
        let o : Outcome = gives done s in
        let e : Entry = told_of (handles_event h ev) o in
        record {
          sound = S;
          agrees = event_agrees h ev e (λ j. refl) refl s.conns (unchanged h ev e
              (subst (At (e ∷ told) h) (sym live) (own_event h ev cn live o [] cn refl refl refl refl refl refl
              (λ p x m. inl (flip p (held_at_none cn.held q p x none m), m)) (λ p x l m. m) (λ p x m. elim m [ ])))
              (others h ev o (λ j. refl) (λ j. refl)));
        }

    module _ (x : Id) (has : held_at cn.held q ≡ Some x) where
      abbrev less : Conn
      less = conn_less cn q

      abbrev after_it : State
      after_it = with_retired s h cn q x

      less_sound : Sound U.generator.len after_it
      less_sound = retired_sound S h cn live q x (held_at_some cn.held q x has)

      less_live : update eqb s.conns h (Some less) h ≡ Some less
      less_live = up_read eqb Decides-eqb s.conns h (Some less) h (λ o. o ≡ Some less) (λ _. refl) (λ n. absurd (n refl))

      less_split : (p : ℕ) (y : Id) → Among (p, y) less.held → (eqb q p ≡ false) × Among (p, y) cn.held
      less_split p y m = let r = among_kept (λ z. not (eqb z.0 q)) (p, y) cn.held m in (flip p (eqb-false p q (not-true _ r.1)), r.0)

      less_old : (p : ℕ) (y : Id) → eqb q p ≡ false → Among (p, y) cn.held → Among (p, y) less.held
      less_old p y l m = kept_among (λ z. not (eqb z.0 q)) (p, y) cn.held m (ap not (ne_eqb p q (λ z. eqb-false q p l (sym z))))

      -- retired, with an answer that gives nothing
      gone_good : (a : Answer) (i : ℕ) → granted h (Some ev) (sealed token a) ≡ [] → ((p : ℕ) → retires p (Some ev) (sealed token a) ≡ eqb q p) → ((k : ℕ) → granted k None (sealed token a) ≡ []) → ((k : ℕ) → begun k (sealed token a) ≡ None) →
          ((k : ℕ) → spends (told_of (handles_event h ev) (record { answer = a; state = after_it; ids_drawn = i; bytes_drawn = 0 })) k ≡ false) → slots_after w.slots n (handles_event h ev) a ≡ w.slots → opened_slot (sealed token a) ≡ None →
          Good (handles_event h ev) (record { answer = a; state = after_it; ids_drawn = i; bytes_drawn = 0 })
      gone_good a i g r g' b keeps same none =
          let o : Outcome = record { answer = a; state = after_it; ids_drawn = i; bytes_drawn = 0 } in
          let e : Entry = told_of (handles_event h ev) o in
          record {
            sound = less_sound;
            agrees = subst (λ (f : ℕ → Option ℕ). Agrees (e ∷ told) (update eqb s.conns h (Some less)) s.waiting f (suc n)) (sym same)
                (event_agrees h ev e keeps none (update eqb s.conns h (Some less)) (changed h ev e s.conns (Some less)
                (own_event h ev cn live o [] less g refl refl refl refl refl
                (λ p y m. let t = less_split p y m in inl (r p ∙ t.0, t.1)) (λ p y l m. less_old p y (sym (r p) ∙ l) m) (λ p y m. elim m [ ]))
                (others h ev o g' b)));
          }

      another : (r : Search (List Id)) → SeveralFound (is_held after_it) 1 r → Good (handles_event h ev) (Calls.issue_by after_it h less r)
      another (none_left i) f = gone_good (refused 25) i refl (λ p. refl) (λ k. refl) (λ k. refl) (λ k. refl) refl refl
      another (found xs i) f =
          let o : Outcome = Calls.issue_by after_it h less (found xs i) in
          let e : Entry = told_of (handles_event h ev) o in
          let d : Conn = conn_holding less (less.count + length xs) (less.held ++ sequenced less.count xs) in
          record {
            sound = issued_sound less_sound h less less_live xs f.0 (λ y z l. free_none (after_it.ids y) (f.1 y z l));
            agrees = event_agrees h ev e (λ j. refl) refl (update eqb (update eqb s.conns h (Some less)) h (Some d))
                (changed h ev e (update eqb s.conns h (Some less)) (Some d)
                (own_event h ev cn live o (sequenced less.count xs) d refl refl refl refl refl refl
                (λ p y m. elim (among_append (p, y) less.held (sequenced less.count xs) m) [ inl a ↦ inl (less_split p y a) | inr b ↦ inr b ])
                (λ p y l m. among_left (p, y) less.held (sequenced less.count xs) (less_old p y l m))
                (λ p y m. among_right (p, y) less.held (sequenced less.count xs) m))
                (λ k off. up_read eqb Decides-eqb s.conns h (Some less) k (At (e ∷ told) k) (λ z. absurd (off z)) (λ _. others h ev o (λ j. refl) (λ j. refl) k off)));
          }

      held_good : Good (handles_event h ev) (cond more (Calls.issue u after_it h less 1) (gives done after_it))
      held_good = cond_both more (Calls.issue u after_it h less 1) (gives done after_it) (Good (handles_event h ev))
          (λ _. cond_both (Calls.too_many less 1) (gives (refused 4) after_it) (Calls.issue_by after_it h less (several (is_held after_it) u.next_id 0 1)) (Good (handles_event h ev))
          (λ _. gone_good (refused 4) 0 refl (λ p. refl) (λ k. refl) (λ k. refl) (λ k. refl) refl refl) (λ _. another _ (several_found (is_held after_it) u.next_id 0 1)))
          (λ _. gone_good done 0 refl (λ p. refl) (λ k. refl) (λ k. refl) (λ k. refl) refl refl)

    retire_good : (o : Option Id) → held_at cn.held q ≡ o → Good (handles_event h ev) (Calls.retire_by u s h cn q more o)
    retire_good None e = unheld_good e
    retire_good (Some x) e = held_good x e

  -- ### `ResetToken` and `Drained`

  module _ (h : ℕ) (cn : Conn) (live : s.conns h ≡ Some cn) where
    drained_good : Good (handles_event h drained) (gives done (with_drained s h cn))
    drained_good =
        let o : Outcome = gives done (with_drained s h cn) in
        let e : Entry = told_of (handles_event h drained) o in
        record {
          sound = drain_sound S h cn live;
          agrees = event_agrees h drained e (λ j. refl) refl (update eqb s.conns h None) (changed h drained e s.conns None
              (at_drained e told h (ap (λ v. granted h v done) (on_event h drained)) (ap (λ v. drains v done) (on_event h drained)) refl) (others h drained o (λ j. refl) (λ j. refl)));
        }

    sender_good : (r : Sender) → Good (handles_event h (reset_token r)) (gives done (with_sender s h cn r))
    sender_good r =
        let ev : Event = reset_token r in
        let o : Outcome = gives done (with_sender s h cn r) in
        let e : Entry = told_of (handles_event h ev) o in
        let d : Conn = record { opened_with = cn.opened_with; count = cn.count; held = cn.held; addresses = cn.addresses; sender = Some r } in
        record {
          sound = sender_sound S h cn live r;
          agrees = event_agrees h ev e (λ j. refl) refl (update eqb s.conns h (Some d)) (changed h ev e s.conns (Some d)
              (at_named e told h cn d r (ap (λ v. granted h v done) (on_event h ev)) (ap (λ v. drains v done) (on_event h ev))
              (λ q. ap (λ v. drains v done || retires q v done) (on_event h ev)) (ap (λ v. sends v done) (on_event h ev)) refl refl refl refl (alive h ev cn live))
              (others h ev o (λ j. refl) (λ j. refl)));
        }

  -- ### All events

  dead_good : (h : ℕ) (ev : Event) → Good (handles_event h ev) (gives (refused 3) s)
  dead_good h (need k) = refused_event h (need k) 3 0 refl (λ q. refl) refl
  dead_good h (retire q more) = refused_event h (retire q more) 3 0 refl (λ q. refl) refl
  dead_good h (reset_token r) = refused_event h (reset_token r) 3 0 refl (λ q. refl) refl
  dead_good h drained = refused_event h drained 3 0 refl (λ q. refl) refl

  event_good_of : (h : ℕ) (ev : Event) (o : Option Conn) → s.conns h ≡ o → Good (handles_event h ev) (Calls.event_of u s h ev o)
  event_good_of h ev None e = dead_good h ev
  event_good_of h (need k) (Some cn) e = need_good h k cn e
  event_good_of h (retire q more) (Some cn) e = retire_good h q more cn e (held_at cn.held q) refl
  event_good_of h (reset_token r) (Some cn) e = sender_good h cn e r
  event_good_of h drained (Some cn) e = drained_good h cn e

  -- ## Every call

  pub every_good : (call : Call) → Good call (outcome U w call)
  unfolding outcome_of
  every_good (handles d room) = handle_good d room
  every_good (accepts a now given room) =
      bringing a (accepts a now given room) (λ h. refl) (λ i. Calls.accept c u s i now given room) (λ i known. accept_good a now given room i known)
  every_good (refuses a) = bringing a (refuses a) (λ h. refl) (λ i. Calls.refuse c u s i) (λ i known. refuse_good_by a i known (brought c s i) refl)
  every_good (ignores a) = bringing a (ignores a) (λ h. refl) (λ i. Calls.ignore c s i) (λ i known. ignore_good_by a i known (brought c s i) refl)
  every_good (handles_event h ev) = event_good_of h ev (s.conns h) refl
