-- Routing is sound after every list of calls.
use Rattle.std.proofs.lemmas.Bool.Decides.{nat_tests}
use Rattle.std.proofs.Common.{◌≡◌, ℕ, suc, ◌-◌, ◌<◌, ◌≤◌, Bool, true, false, cond, eqb, leb, List, [], ◌∷◌, length, Some, None, Option, sym, refl, ap, ◌∙◌, subst, ap₂, arith, Ok, Err}
use Rattle.std.proofs.lemmas.Bool.{cond_both, leb-false}
use Rattle.model.specs.Records.{Id, Token, FourTuple, Sender, Settings, Datagram, size, sender_of, is_initial, is_early, Incoming, Event, need, retire, reset_token, drained, Answer, refused, delivered, stored, opened, closing, reset, accepted, failed, ignored, issued, done}
use Rattle.supply.specs.Meaning.{token_of}
use Rattle.supply.specs.Meaning.{Opens as Opened}
use Rattle.supply.specs.declared.answers.Unopened.TheVariants.{Closed, ReservedBits, BadToken}
use Rattle.supply.specs.Meaning.{Greets}
use Rattle.supply.specs.declared.answers.HandshakeError.TheVariants.{TransportError, Other}
use Rattle.model.specs.Endpoint.{Conn, Waiting, Target, to_attempt, to_connection, State, Config, Supply, Outcome, or_else, toward, held_route, initial_route, pair_route, sender_route, route, first_cause, Search, none_left, found, several, is_held, with_retired, conn_less}
use Rattle.model.specs.Calls
use Rattle.model.specs.Calls.{gives, reset_by, stray_by, stray, open_by, bad_length, close_now, first_causes, first_by, first_packet, keep_by, handle_by, fits, handle, sealed, next_free, in_slot, brought, Room}
use Rattle.model.specs.Runs.{Setup, Endpoint, config, supply_at, Call, handles, accepts, refuses, ignores, handles_event, with_attempt, Attempt, own, foreign, incoming, in_hand, Labelled, labelled, Entry, World, outcome_of, after, history, answer_next}
use Rattle.model.specs.Words.{Held, Began, Live, Named, Waits, MayGo, holds, opened_with, by_pair, by_token}
use Rattle.model.specs.Theorem.{HeldOnce, ReachesItsHolder, GoesOnlyWhereItMay, KeptOnlyForItsAttempt, RoutingSoundness}
use Rattle.model.specs.Rfc9000.{Matches, has_identifier, has_first_identifier, has_addresses, has_token, Awaited, AsAsked}
use Rattle.model.proofs.Naming.{HeldIn, none_some, some_same}
use Rattle.model.proofs.Sound.{OpenedIn, PairIn, SenderIn, Sound, new_sound, a_slot, next_among, in_slot_among}
use Rattle.model.proofs.Agree.{At, Agrees}
use Rattle.model.proofs.Steps.{every_good, first_passed}
use Rattle.model.proofs.Rfc9000.{ends_with_last, ends_with_size, answers_as_asked}

-- ## After every list

pub record Kept (E : Endpoint) (cs : List Labelled) (n : ℕ) : Type 0 where
  pub sound : Sound E.setup.generator.len (after E.setup cs).state
  pub agrees : Agrees (history E cs) (after E.setup cs).state.conns (after E.setup cs).state.waiting (after E.setup cs).slots n

-- the labels of a list rise, and stay below n
abbrev pub Rising : List Labelled → ℕ → Type 0
Rising [] n = Unit {0}
Rising (c ∷ cs) n = (c.label < n) × Rising cs c.label

pub kept_more : (E : Endpoint) (cs : List Labelled) (n m : ℕ) → n ≤ m → Kept E cs n → Kept E cs m
kept_more E cs n m l k = grind (arith, nat_tests)

pub kept_next : (E : Endpoint) (c : Labelled) (cs : List Labelled) → Kept E cs c.label → Kept E (c ∷ cs) (suc c.label)
unfolding after history
kept_next E c cs k =
    let g = every_good E.setup (token_of E.signer) (after E.setup cs) (history E cs) c.label k.sound k.agrees c.call in
    record { sound = g.sound; agrees = g.agrees }

pub kept_new : (E : Endpoint) (n : ℕ) → Kept E [] n
unfolding after history
kept_new E n = record {
  sound = new_sound E.setup.generator.len;
  agrees = record {
    at = λ h. (λ q x m. elim m [ ], λ d m. elim m [ ]);
    placing = record { waits = λ v m. elim m [ ]; label = λ k m e. absurd (none_some m e); live = λ k m e. absurd (none_some m e); occupies = λ k m e. absurd (none_some m e); in_hand = λ k m d z. elim z [ ] };
  };
}

pub always : (E : Endpoint) (calls : List Call) → Kept E (labelled calls) (length calls)
always E [] = kept_new E 0
always E (c ∷ earlier) = kept_next E (record { label = length earlier; call = c }) (labelled earlier) (always E earlier)

-- ## From the state to what is told

module _ (told : List Entry) (h : ℕ) where
  in_state : (o : Option Conn) → At told h o → (q : ℕ) (x : Id) → Held told h q x → HeldIn o q x
  in_state None a q x m = absurd (a.0 q x m)
  in_state (Some c) a q x m = a.holds q x m

  in_told : (o : Option Conn) → At told h o → (q : ℕ) (x : Id) → HeldIn o q x → Live told h × Held told h q x
  in_told None a q x m = elim m [ ]
  in_told (Some c) a q x m = ((a.first, a.began), a.held q x m)

  opened_told : (o : Option Conn) → At told h o → (x : Id) → OpenedIn o x → (first : Datagram) × Began told h first × (first.dst ≡ x)
  opened_told None a x m = elim m [ ]
  opened_told (Some c) a x m = (a.first, a.began, a.opened_with ∙ m)

  pair_told : (o : Option Conn) → At told h o → (p : FourTuple) → PairIn o p → (first : Datagram) × Began told h first × (first.addresses ≡ p)
  pair_told None a p m = elim m [ ]
  pair_told (Some c) a p m = (a.first, a.began, a.addresses ∙ m)

  sender_told : (o : Option Conn) → At told h o → (r : Sender) → SenderIn o r → Live told h × Named told h r
  sender_told None a r m = elim m [ ]
  sender_told (Some c) a r m = ((a.first, a.began), a.named r m)

-- ## What is held, and where a datagram goes

module _ (E : Endpoint) (calls : List Call) where
  abbrev U : Setup
  U = E.setup

  abbrev w : World
  w = after U (labelled calls)

  abbrev s : State
  s = w.state

  abbrev told : List Entry
  told = history E (labelled calls)

  abbrev len : ℕ
  len = U.generator.len

  S : Sound len s
  S = (always E calls).sound

  A : Agrees told s.conns s.waiting w.slots (length calls)
  A = (always E calls).agrees

  held_once : HeldOnce E calls
  held_once h k p q x u m l =
      let mine : HeldIn (s.conns h) p x = in_state told h (s.conns h) (A.at h) p x m in
      let its : HeldIn (s.conns k) q x = in_state told k (s.conns k) (A.at k) q x l in
      let same : h ≡ k = some_same h k (sym (S.naming.full h p x u mine) ∙ S.naming.full k q x u its) in
      (same, S.naming.once h p q x u mine (subst (λ (j : ℕ). HeldIn (s.conns j) q x) (sym same) its))

  reaches_its_holder : ReachesItsHolder E calls
  unfolding outcome_of
  reaches_its_holder d room h q f u m =
      let held : HeldIn (s.conns h) q d.dst = in_state told h (s.conns h) (A.at h) q d.dst m in
      let is : s.ids d.dst ≡ Some h = S.naming.full h q d.dst u held in
      let first : held_route s d ≡ Some (to_connection h) = ap₂ {C = Option Target} (λ b o. cond b None (toward o)) u is in
      let whole : route s d ≡ Some (to_connection h) = ap (λ o. or_else o (or_else (initial_route s d) (or_else (pair_route s d) (sender_route s d)))) first in
      ap₂ {C = Answer} (λ b o. sealed (token_of E.signer) (cond b (handle_by (config U) (supply_at U w) s d o) (gives (refused 1) s)).answer) f whole

  module _ (d : Datagram) where
    delivers : (h : ℕ) → Matches s d h → Live told h × MayGo told len d h
    delivers h (has_identifier u m) =
        let v = S.naming.sound d.dst h m in
        let t = in_told told h (s.conns h) (A.at h) v.0 d.dst v.1 in
        (t.0, holds v.0 u t.1)
    delivers h (has_first_identifier u m) =
        let t = opened_told told h (s.conns h) (A.at h) d.dst (S.entry_conn d.dst h m) in
        ((t.0, t.1), opened_with t.0 u (S.entry_some d.dst (to_connection h) m) t.1 t.2)
    delivers h (has_addresses u m) =
        let v = S.pair_conn d.addresses h m in
        let t = pair_told told h (s.conns h) (A.at h) d.addresses v.0 in
        ((t.0, t.1), by_pair t.0 v.1 u t.1 t.2)
    delivers h (has_token x u m) =
        let it : s.senders (sender_of d) ≡ Some h = ap (λ y. s.senders (record { remote = d.addresses.remote; token = record { bytes = y } })) (ends_with_last d.bytes x u) ∙ m in
        let t = sender_told told h (s.conns h) (A.at h) (sender_of d) (S.sender_conn (sender_of d) h it) in
        (t.0, by_token (ends_with_size d.bytes x u) t.1)

    keeps : (n : ℕ) → Awaited s d n → (k : ℕ) × (first : Datagram) × Waits told k n first × (first.dst ≡ d.dst) × (is_early d.kind ≡ true)
    keeps n a =
        let v = S.entry_attempt d.dst n a.same in
        let t = A.placing.waits v.0 v.1 in
        (t.0, v.0.first, subst (λ (j : ℕ). Waits told t.0 j v.0.first) v.2 t.2, v.3, a.early)

    abbrev Asked : Answer → Type 0
    Asked = AsAsked (config U) (supply_at U w) (token_of E.signer) s d

  goes_only_where_it_may : GoesOnlyWhereItMay E calls
  goes_only_where_it_may d room h e = delivers d h (subst (Asked d) e (answers_as_asked E calls d room))

  kept_only_for_its_attempt : KeptOnlyForItsAttempt E calls
  kept_only_for_its_attempt d room n e = keeps d n (subst (Asked d) e (answers_as_asked E calls d room))

-- ## What is given anew was free

module _ (E : Endpoint) (calls : List Call) where
  abbrev dead_or_alive : (o : Option Conn) (h : ℕ) → o ≡ None → At (told E calls) h o → Live (told E calls) h → ⊥
  dead_or_alive None h e a l = a.1 l.0 l.1
  dead_or_alive (Some cn) h e a l = none_some cn (sym e)

  abbrev New : Answer → Type 0
  New (refused c) = Unit {0}
  New (delivered h) = Unit {0}
  New (stored n) = Unit {0}
  New (opened n o) = (k : ℕ) (first : Datagram) → Waits (told E calls) k n first → ⊥
  New (closing c) = Unit {0}
  New (reset a y p t) = Unit {0}
  New (accepted h gs seed ds) = Live (told E calls) h → ⊥
  New (failed c k) = Unit {0}
  New ignored = Unit {0}
  New (issued gs) = Unit {0}
  New done = Unit {0}

  new_as_sealed : (token : Id → Token) (a : Answer) → New a → New (sealed token a)
  new_as_sealed token (refused c) v = v
  new_as_sealed token (delivered h) v = v
  new_as_sealed token (stored n) v = v
  new_as_sealed token (opened k o) v = v
  new_as_sealed token (closing c) v = v
  new_as_sealed token (reset a y p t) v = v
  new_as_sealed token (accepted h gs seed ds) v = v
  new_as_sealed token (failed c k) v = v
  new_as_sealed token ignored v = v
  new_as_sealed token (issued gs) v = v
  new_as_sealed token done v = v

  abbrev NewBy : Outcome → Type 0
  NewBy o = New o.answer

  abbrev st : State
  st = s E calls

  abbrev cf : Config
  cf = config E.setup

  abbrev sp : Supply
  sp = supply_at E.setup (w E calls)

  slot_free : 0 < length st.free_slots → (k : ℕ) (first : Datagram) → Waits (told E calls) k (next_free st.free_slots) first → ⊥
  slot_free some k first z =
      let r = (A E calls).placing.live k _ ((A E calls).placing.in_hand k _ first z) in
      (S E calls).slots_free _ r.0 (next_among st.free_slots some) r.1 r.2

  handle_free : 0 < length st.free_handles → Live (told E calls) (next_free st.free_handles) → ⊥
  handle_free some = dead_or_alive (st.conns (next_free st.free_handles)) (next_free st.free_handles) ((S E calls).handles_free _ (next_among st.free_handles some)) ((A E calls).at _)

  module _ (d : Datagram) where
    new_reset : (b : Bool) → NewBy (reset_by sp st d b)
    new_reset true = tt
    new_reset false = tt

    new_stray : (o : Option ℕ) → NewBy (stray_by sp st d o)
    new_stray (Some n) = tt
    new_stray None = new_reset (leb (size d - 17) 26)

    new_open : 0 < length st.free_slots → (o : Opened) → NewBy (open_by sp st d o)
    new_open some (Err Closed) = tt
    new_open some (Err ReservedBits) = tt
    new_open some (Err BadToken) = tt
    new_open some (Ok o) = slot_free some

    new_first : (o : Option ℕ) → first_cause (first_causes cf st d) ≡ o → NewBy (first_by cf sp st d o)
    new_first (Some n) e = tt
    new_first None e = cond_both (bad_length cf d) (close_now sp st 0x0a d) (open_by sp st d (cf.door.opens d)) NewBy (λ _. tt)
        (λ _. new_open (a_slot E.setup.generator.len cf st (S E calls) E.setup.few (first_passed (first_causes cf st d) e).1.0) (cf.door.opens d))

    new_keep : (n : ℕ) (o : Option ℕ) → NewBy (keep_by st d n o)
    new_keep n (Some k) = tt
    new_keep n None = tt

    new_handle_by : (o : Option Target) → NewBy (handle_by cf sp st d o)
    new_handle_by (Some (to_connection h)) = tt
    new_handle_by (Some (to_attempt n)) = new_keep n _
    new_handle_by None = cond_both (is_initial d.kind) (first_packet cf sp st d) (stray cf sp st d) NewBy (λ _. new_first _ refl) (λ _. new_stray _)

    new_handle : (room : ℕ) → NewBy (handle cf sp st d room)
    new_handle room = cond_both (fits cf d room) (handle_by cf sp st d (route st d)) (gives (refused 1) st) NewBy (λ _. new_handle_by (route st d)) (λ _. tt)

  module _ (v : Waiting) where
    new_greet : 0 < length st.free_handles → (xs : List Id) (n : ℕ) (g : Greets) → NewBy (Calls.greet_by cf sp st v (next_free st.free_handles) xs n g)
    new_greet some xs n (Ok tt) = handle_free some
    new_greet some xs n (Err (TransportError code)) = tt
    new_greet some xs n (Err Other) = tt

    new_connect : 0 < length st.free_handles → (r : Search (List Id)) → NewBy (Calls.connect_by cf sp st v r)
    new_connect some (none_left n) = tt
    new_connect some (found xs n) = new_greet some xs n _

    new_accept_by : (settings : Settings) (now : ℕ) (o : Option ℕ) → first_cause (Calls.accept_causes cf st v settings now) ≡ o → NewBy (Calls.accept_by cf sp st v settings o)
    new_accept_by settings now (Some n) e = grind (arith, nat_tests)
    new_accept_by settings now None e = new_connect (leb-false (length st.free_handles) 0 (first_passed (Calls.accept_causes cf st v settings now) e).1.1.0) _

  new_accept_of : (now : ℕ) (given : Option Settings) (o : Option Waiting) → NewBy (Calls.accept_of cf sp st now given o)
  new_accept_of now given None = tt
  new_accept_of now given (Some v) = new_accept_by v (Calls.settings_or given cf.settings) now _ refl

  new_accept_from : (i : Incoming) (now : ℕ) (given : Option Settings) (o : Option ℕ) → NewBy (Calls.accept_from cf sp st i now given o)
  new_accept_from i now given (Some n) = tt
  new_accept_from i now given None = new_accept_of now given _

  new_refuse : (o : Option Waiting) → NewBy (Calls.refuse_of sp st o)
  new_refuse None = tt
  new_refuse (Some v) = tt

  new_ignore : (o : Option Waiting) → NewBy (Calls.ignore_of st o)
  new_ignore None = tt
  new_ignore (Some v) = tt

  new_issue_by : (t : State) (h : ℕ) (cn : Conn) (r : Search (List Id)) → NewBy (Calls.issue_by t h cn r)
  new_issue_by t h cn (none_left n) = tt
  new_issue_by t h cn (found xs n) = tt

  new_issue : (t : State) (h : ℕ) (cn : Conn) (n : ℕ) → NewBy (Calls.issue sp t h cn n)
  new_issue t h cn n = cond_both (Calls.too_many cn n) (gives (refused 4) t) (Calls.issue_by t h cn (several (is_held t) sp.next_id 0 n)) NewBy (λ _. tt) (λ _. new_issue_by t h cn _)

  new_retire : (h : ℕ) (cn : Conn) (q : ℕ) (more : Bool) (o : Option Id) → NewBy (Calls.retire_by sp st h cn q more o)
  new_retire h cn q more None = tt
  new_retire h cn q more (Some x) = cond_both more (Calls.issue sp (with_retired st h cn q x) h (conn_less cn q) 1) (gives done (with_retired st h cn q x)) NewBy (λ _. new_issue (with_retired st h cn q x) h (conn_less cn q) 1) (λ _. tt)

  new_event : (h : ℕ) (ev : Event) (o : Option Conn) → NewBy (Calls.event_of sp st h ev o)
  new_event h ev None = tt
  new_event h (need n) (Some cn) = new_issue st h cn n
  new_event h (retire q more) (Some cn) = new_retire h cn q more _
  new_event h (reset_token r) (Some cn) = tt
  new_event h drained (Some cn) = tt

  new_with : (f : Incoming → Outcome) → ((i : Incoming) → NewBy (f i)) → (o : Option Incoming) → NewBy (with_attempt st f o)
  new_with f g None = tt
  new_with f g (Some i) = g i

  new_outcome : (call : Call) → NewBy (outcome_of cf sp st (w E calls).slots call)
  unfolding outcome_of
  new_outcome (handles d room) = new_handle d room
  new_outcome (accepts a now given room) = new_with (λ i. Calls.accept cf sp st i now given room) (λ i. new_accept_from i now given _) _
  new_outcome (refuses a) = new_with (λ i. Calls.refuse cf sp st i) (λ i. new_refuse _) _
  new_outcome (ignores a) = new_with (λ i. Calls.ignore cf st i) (λ i. new_ignore _) _
  new_outcome (handles_event h ev) = new_event h ev (st.conns h)

  new_answer : (call : Call) → New (answer_next E (labelled calls) call)
  new_answer call = new_as_sealed (token_of E.signer) _ (new_outcome call)

-- ## What is accepted was opened

module _ (E : Endpoint) (calls : List Call) where
  abbrev Tied : Attempt → Waiting → Type 0
  Tied a v = (k : ℕ) × (a ≡ own k) × Waits (told E calls) k v.slot v.first

  tied_own : (k : ℕ) (o : Option ℕ) → (w E calls).slots k ≡ o → (i : Incoming) → in_hand E.setup.number o ≡ Some i → (v : Waiting) → brought (cf E calls) (st E calls) i ≡ Some v → Tied (own k) v
  tied_own k None e i z v = λ b. absurd (none_some i z)
  tied_own k (Some n) e i z v =
      let same : record { number = E.setup.number; slot = n } ≡ i = some_same (record { number = E.setup.number; slot = n }) i z in
      cond_both (eqb i.number E.setup.number) (in_slot (st E calls).waiting i.slot) None (λ o. o ≡ Some v → Tied (own k) v)
      (λ t y.
      let q = in_slot_among (st E calls).waiting i.slot v y in
      let r = (A E calls).placing.waits v q.0 in
      let here : (w E calls).slots k ≡ Some v.slot = e ∙ ap Some (ap (λ (x : Incoming). x.slot) same ∙ sym q.1) in
      let me : r.0 ≡ k = some_same r.0 k (sym ((A E calls).placing.occupies r.0 v.slot r.1) ∙ (A E calls).placing.occupies k v.slot here) in
      (k, refl, subst (λ (j : ℕ). Waits (told E calls) j v.slot v.first) me r.2))
      (λ _ y. absurd (none_some v y))

  tied : (a : Attempt) (i : Incoming) → incoming E.setup.number (w E calls).slots a ≡ Some i → (v : Waiting) → brought (cf E calls) (st E calls) i ≡ Some v → Tied a v
  tied (own k) i z v = tied_own k ((w E calls).slots k) refl i z v
  tied (foreign x) i z v = grind (arith, nat_tests)

  abbrev First : Attempt → Answer → Type 0
  First a (accepted h gs seed ds) = (k : ℕ) × (n : ℕ) × (first : Datagram) × (rest : List Datagram) × (a ≡ own k) × Waits (told E calls) k n first × (ds ≡ first ∷ rest)
  First a (refused c) = Unit {0}
  First a (delivered h) = Unit {0}
  First a (stored n) = Unit {0}
  First a (opened n o) = Unit {0}
  First a (closing c) = Unit {0}
  First a (reset b y p t) = Unit {0}
  First a (failed c k) = Unit {0}
  First a ignored = Unit {0}
  First a (issued gs) = Unit {0}
  First a done = Unit {0}

  first_sealed : (token : Id → Token) (a : Attempt) (x : Answer) → First a x → First a (sealed token x)
  first_sealed token a (refused c) v = v
  first_sealed token a (delivered h) v = v
  first_sealed token a (stored n) v = v
  first_sealed token a (opened n o) v = v
  first_sealed token a (closing c) v = v
  first_sealed token a (reset b y p t) v = v
  first_sealed token a (accepted h gs seed ds) v = v
  first_sealed token a (failed c k) v = v
  first_sealed token a ignored v = v
  first_sealed token a (issued gs) v = v
  first_sealed token a done v = v

  module _ (a : Attempt) where
    abbrev FirstBy : Outcome → Type 0
    FirstBy o = First a o.answer

    first_greet : (v : Waiting) → Tied a v → (h : ℕ) (xs : List Id) (n : ℕ) (g : Greets) → FirstBy (Calls.greet_by (cf E calls) (sp E calls) (st E calls) v h xs n g)
    first_greet v t h xs n (Ok tt) = (t.0, v.slot, v.first, v.kept, t.1, t.2, refl)
    first_greet v t h xs n (Err (TransportError code)) = tt
    first_greet v t h xs n (Err Other) = tt

    first_connect : (v : Waiting) → Tied a v → (r : Search (List Id)) → FirstBy (Calls.connect_by (cf E calls) (sp E calls) (st E calls) v r)
    first_connect v t (none_left n) = tt
    first_connect v t (found xs n) = first_greet v t _ xs n _

    first_accept_by : (v : Waiting) → Tied a v → (settings : Settings) (o : Option ℕ) → FirstBy (Calls.accept_by (cf E calls) (sp E calls) (st E calls) v settings o)
    first_accept_by v t settings (Some n) = grind (arith, nat_tests)
    first_accept_by v t settings None = first_connect v t _

    first_accept_of : (now : ℕ) (given : Option Settings) (o : Option Waiting) → ((v : Waiting) → o ≡ Some v → Tied a v) → FirstBy (Calls.accept_of (cf E calls) (sp E calls) (st E calls) now given o)
    first_accept_of now given None t = tt
    first_accept_of now given (Some v) t = first_accept_by v (t v refl) (Calls.settings_or given (cf E calls).settings) (first_cause (Calls.accept_causes (cf E calls) (st E calls) v (Calls.settings_or given (cf E calls).settings) now))

    first_accept_from : (i : Incoming) → incoming E.setup.number (w E calls).slots a ≡ Some i → (now : ℕ) (given : Option Settings) (o : Option ℕ) → FirstBy (Calls.accept_from (cf E calls) (sp E calls) (st E calls) i now given o)
    first_accept_from i z now given (Some n) = tt
    first_accept_from i z now given None = first_accept_of now given (brought (cf E calls) (st E calls) i) (tied a i z)

    first_with : (now : ℕ) (given : Option Settings) (room : Room) (o : Option Incoming) → incoming E.setup.number (w E calls).slots a ≡ o →
        FirstBy (with_attempt (st E calls) (λ i. Calls.accept (cf E calls) (sp E calls) (st E calls) i now given room) o)
    first_with now given room None z = tt
    first_with now given room (Some i) z = first_accept_from i z now given _

    first_answer : (now : ℕ) (given : Option Settings) (room : Room) → First a (answer_next E (labelled calls) (accepts a now given room))
    unfolding outcome_of
    first_answer now given room = first_sealed (token_of E.signer) a _ (first_with now given room _ refl)

pub routing_soundness : (E : Endpoint) (calls : List Call) → RoutingSoundness E calls
routing_soundness E calls = (
  held_once E calls,
  reaches_its_holder E calls,
  goes_only_where_it_may E calls,
  kept_only_for_its_attempt E calls,
  λ call h gs seed ds e. subst (New E calls) e (new_answer E calls call),
  λ call n o e. subst (New E calls) e (new_answer E calls call),
  λ a now given room h gs seed ds e. subst (First E calls a) e (first_answer E calls a now given room),
)
