-- One call to two endpoints, one of which saw nothing of the attempts that came to nothing.
use Rattle.std.proofs.Common.{◌≡◌, ℕ, ◌+◌, ◌-◌, ◌*◌, ◌%◌, ◌<◌, ◌≤◌, Bool, true, false, cond, not, ◌&&◌, ◌||◌, eqb, ltb, leb, ◌⊎◌, List, [], ◌∷◌, length, drop, Some, None, Option, sym, refl, ap, ◌∙◌, subst, ap₂, subst₂, inl, inr, arith, Ok, Err}
use mathlib.Core.Path.{fun_ext}
use Rattle.std.specs.Map.{update}
use Rattle.std.proofs.lemmas.Bool.{cond_both, both_ways, eqb-true, eq-eqb, eqb-false, ne_eqb, leb-false, lt-leb, or_parts, or_right, cases_Bool}
use Rattle.records.specs.Same.{same_id_decides}
use Rattle.records.proofs.Same.{same_pair_decides}
use Rattle.std.proofs.lemmas.Bool.Decides.{Decides-eqb, nat_tests}
use Rattle.model.specs.Records.{same_id, Id, Token, empty, FourTuple, same_pair, Sender, Settings, Datagram, size, sender_of, is_initial, is_short, is_early, Opening, Incoming, Event, need, retire, reset_token, drained, Answer, refused, delivered, stored, opened, closing, reset, accepted, failed, ignored, issued, done}
use Rattle.supply.specs.Meaning.{Opens as Opened}
use Rattle.supply.specs.declared.answers.Unopened.TheVariants.{Closed, ReservedBits, BadToken}
use Rattle.supply.specs.Meaning.{Greets}
use Rattle.supply.specs.declared.answers.HandshakeError.TheVariants.{TransportError, Other}
use Rattle.model.specs.Endpoint
use Rattle.model.specs.Endpoint.{Conn, Waiting, Target, to_attempt, to_connection, State, Config, Supply, Outcome, first_cause, put, put_all, row, sequenced, second, is_held, Search, none_left, found, several, or_else, toward, held_route, initial_route, pair_route, sender_route, route, is_exhausted, saturated, no_place, too_large, attempt_bytes, waiting_total, places_used, without, with_waiting, with_spent, with_opened, with_accepted, with_drained, new_conn, with_retired, conn_less}
use Rattle.model.specs.Calls
use Rattle.model.specs.Calls.{gives, next_free, in_slot, brought, held_at, sealed, number_of, Room}
use Rattle.model.specs.Runs.{own, foreign, Call, handles, accepts, refuses, ignores, handles_event, Entry, brings, spent_by, opened_slot, put_slot, slots_after, in_hand, with_attempt, outcome_of}
use Rattle.model.specs.Words.{Among, is_dropped, about, holds_of, slotless, to_nothing}
use Rattle.model.proofs.Keys.{up_read, put_read, put_all_read}
use Rattle.model.proofs.Naming.{none_some, some_same, SeveralFound, several_found}
use Rattle.model.proofs.Sound.{Sound, Slotted, slotted_same, in_slot_among, next_among}
use Rattle.model.proofs.Agree.{Placing}
use Rattle.model.proofs.Steps.{first_passed, free_none, or_none_left, or_none_right, early}
use Rattle.model.proofs.Match.{Injective, Match, left, both, Entries, Alike, match_sums, kept_left, spent_left, find, kept_both, match_bytes, spent_both, match_more}
use Rattle.model.proofs.Draws.{row_at, end, several_local}

-- ## What two states share

pub record Core : Type 0 where
  pub conns : ℕ → Option Conn
  pub free_handles : List ℕ
  pub ids : Id → Option ℕ
  pub pairs : FourTuple → Option ℕ
  pub senders : Sender → Option ℕ
  pub last_reset : Option ℕ

abbrev pub core_of : State → Core
core_of s = record { conns = s.conns; free_handles = s.free_handles; ids = s.ids; pairs = s.pairs; senders = s.senders; last_reset = s.last_reset }

pub record Rest (doomed : ℕ → Bool) (f g : ℕ → Option ℕ) (p q : Id → Option Target) (vs us : List Waiting) : Type 0 where
  pub entries : (x : Id) → Entries doomed f g (p x) (q x)
  pub match : Match doomed f g vs us
  pub slots : (k : ℕ) → doomed k ≡ false → Alike doomed (f k) (g k)

cond_two : {A : Type 0} (b : Bool) (x y x' y' : A) (P : A → A → Type 0) → (b ≡ true → P x x') → (b ≡ false → P y y') → P (cond b x y) (cond b x' y')
cond_two true x y x' y' P t f = t refl
cond_two false x y x' y' P t f = f refl

put_two : {A : Type 0} (f f' : Id → Option A) (x : Id) (v v' : Option A) (q : Id) (P : Option A → Option A → Type 0) → (empty x ≡ false → q ≡ x → P v v') →
    ((empty x ≡ false → q ≡ x → ⊥) → P (f q) (f' q)) → P (put f x v q) (put f' x v' q)
put_two f f' x v v' q P here there =
    cond_two (empty x) (f q) (update same_id f x v q) (f' q) (update same_id f' x v' q) P (λ t. there (λ u _. both_ways (empty x) u t))
    (λ t. cond_two (same_id x q) v (f q) v' (f' q) P (λ z. here t (sym ((same_id_decides x q).0 z))) (λ z. there (λ _ y. both_ways (same_id x q) z ((same_id_decides x q).1 (sym y)))))

module _ (doomed : ℕ → Bool) {f g f' g' : ℕ → Option ℕ} where
  entries_more : ((j s : ℕ) → f j ≡ Some s → f' j ≡ Some s) → ((j s : ℕ) → g j ≡ Some s → g' j ≡ Some s) → (o p : Option Target) → Entries doomed f g o p → Entries doomed f' g' o p
  entries_more kf kg None None e = tt
  entries_more kf kg None (Some t) e = elim e [ ]
  entries_more kf kg (Some (to_connection h)) None e = elim e [ ]
  entries_more kf kg (Some (to_connection h)) (Some (to_connection k)) e = e
  entries_more kf kg (Some (to_connection h)) (Some (to_attempt t)) e = elim e [ ]
  entries_more kf kg (Some (to_attempt m)) None e = (e.0, kf e.0 m e.1, e.2)
  entries_more kf kg (Some (to_attempt m)) (Some (to_connection h)) e = elim e [ ]
  entries_more kf kg (Some (to_attempt m)) (Some (to_attempt t)) e = (e.0, kf e.0 m e.1, kg e.0 t e.2, e.3)

  -- the label k, whose slot is m, goes; the entry leads elsewhere
  entries_spent : (k m : ℕ) → f k ≡ Some m → ((j s : ℕ) → (j ≡ k → ⊥) → f j ≡ Some s → f' j ≡ Some s) → ((j s : ℕ) → (j ≡ k → ⊥) → g j ≡ Some s → g' j ≡ Some s) →
      (o p : Option Target) → (o ≡ Some (to_attempt m) → ⊥) → Entries doomed f g o p → Entries doomed f' g' o p
  entries_spent k m fk kf kg None None off e = tt
  entries_spent k m fk kf kg None (Some t) off e = elim e [ ]
  entries_spent k m fk kf kg (Some (to_connection h)) None off e = elim e [ ]
  entries_spent k m fk kf kg (Some (to_connection h)) (Some (to_connection i)) off e = e
  entries_spent k m fk kf kg (Some (to_connection h)) (Some (to_attempt t)) off e = elim e [ ]
  entries_spent k m fk kf kg (Some (to_attempt r)) None off e = grind (arith, nat_tests)
  entries_spent k m fk kf kg (Some (to_attempt r)) (Some (to_connection h)) off e = elim e [ ]
  entries_spent k m fk kf kg (Some (to_attempt r)) (Some (to_attempt t)) off e = grind (arith, nat_tests)

no_other : (doomed : ℕ → Bool) (f g : ℕ → Option ℕ) (o p : Option Target) → o ≡ None → Entries doomed f g o p → p ≡ None
no_other doomed f g None None z e = refl
no_other doomed f g None (Some t) z e = elim e [ ]
no_other doomed f g (Some t) p z e = absurd (none_some t (sym z))

-- an entry for an attempt that is doomed has no twin
doomed_entry : (doomed : ℕ → Bool) (f g : ℕ → Option ℕ) (o p : Option Target) (m : ℕ) → o ≡ Some (to_attempt m) → ((j : ℕ) → f j ≡ Some m → doomed j ≡ false → ⊥) → Entries doomed f g o p → p ≡ None
doomed_entry doomed f g None None m z d e = refl
doomed_entry doomed f g None (Some t) m z d e = elim e [ ]
doomed_entry doomed f g (Some (to_connection h)) None m z d e = elim e [ ]
doomed_entry doomed f g (Some (to_connection h)) (Some (to_connection k)) m z d e = absurd (let y : ◌≡◌ {A = ℕ} 0 1 = cc in omega arith)
doomed_entry doomed f g (Some (to_connection h)) (Some (to_attempt t)) m z d e = elim e [ ]
doomed_entry doomed f g (Some (to_attempt r)) None m z d e = refl
doomed_entry doomed f g (Some (to_attempt r)) (Some (to_connection h)) m z d e = elim e [ ]
doomed_entry doomed f g (Some (to_attempt r)) (Some (to_attempt t)) m z d e = let y : r ≡ m = cc in absurd (d e.0 (e.1 ∙ ap Some y) e.3)

abbrev pub is_accepted : Answer → Bool
is_accepted (refused c) = false
is_accepted (delivered h) = false
is_accepted (stored s) = false
is_accepted (opened s o) = false
is_accepted (closing c) = false
is_accepted (reset a x p t) = false
is_accepted (accepted h gs seed ds) = true
is_accepted (failed c k) = false
is_accepted ignored = false
is_accepted (issued gs) = false
is_accepted done = false

pub placing_injective : {told : List Entry} {ws : List Waiting} {f : ℕ → Option ℕ} {n : ℕ} → Placing told ws f n → Injective f
placing_injective P j k m a b = some_same j k (sym (P.occupies j m a) ∙ P.occupies k m b)

abbrev Only : Option Target → Type 0
Only None = Unit {0}
Only (Some (to_connection h)) = Unit {0}
Only (Some (to_attempt m)) = ⊥

toward_only : (o : Option ℕ) → Only (toward o)
toward_only None = tt
toward_only (Some h) = tt

or_only : (o p : Option Target) → Only o → Only p → Only (or_else o p)
or_only None p a b = b
or_only (Some t) p a b = a

-- the first test that holds, of two lists that differ in what the first list's tests imply
firsts : (V : Option ℕ → Option ℕ → Type 0) → V (Some 8) (Some 8) → ((o : Option ℕ) → V (Some 20) o) → ((o : Option ℕ) → V (Some 22) o) → V (Some 9) (Some 9) →
    (a b b' c c' d : Bool) → (b ≡ false → b' ≡ false) → (c ≡ false → c' ≡ false) → (b ≡ false → V None None) →
    V (first_cause ((a, 8) ∷ (b, 20) ∷ (c, 22) ∷ (d, 9) ∷ [])) (first_cause ((a, 8) ∷ (b', 20) ∷ (c', 22) ∷ (d, 9) ∷ []))
firsts V v8 v20 v22 v9 true b b' c c' d p q v = v8
firsts V v8 v20 v22 v9 false true b' c c' d p q v = v20 (first_cause ((b', 20) ∷ (c', 22) ∷ (d, 9) ∷ []))
firsts V v8 v20 v22 v9 false false b' true c' d p q v = v22 (first_cause ((b', 20) ∷ (c', 22) ∷ (d, 9) ∷ []))
firsts V v8 v20 v22 v9 false false b' false c' d p q v = grind (arith, nat_tests)

seconds : (V : Option ℕ → Option ℕ → Type 0) → ((o : Option ℕ) → V (Some 21) o) → ((o : Option ℕ) → V (Some 22) o) → (b b' c c' : Bool) → (b ≡ false → b' ≡ false) → (c ≡ false → c' ≡ false) → V None None →
    V (first_cause ((b, 21) ∷ (c, 22) ∷ [])) (first_cause ((b', 21) ∷ (c', 22) ∷ []))
seconds V v21 v22 true b' c c' p q v = v21 (first_cause ((b', 21) ∷ (c', 22) ∷ []))
seconds V v21 v22 false b' true c' p q v = v22 (first_cause ((b', 21) ∷ (c', 22) ∷ []))
seconds V v21 v22 false b' false c' p q v = subst₂ (λ (x y : Bool). V None (first_cause ((x, 21) ∷ (y, 22) ∷ []))) (sym (p refl)) (sym (q refl)) v

strays : (V : Option ℕ → Type 0) → V (Some 12) → V (Some 13) → V (Some 14) → V (Some 15) → V (Some 16) → V None → (a b c d e : Bool) →
    V (first_cause ((a, 12) ∷ (b, 13) ∷ (c, 14) ∷ (d, 15) ∷ (e, 16) ∷ []))
strays V v12 v13 v14 v15 v16 v true b c d e = v12
strays V v12 v13 v14 v15 v16 v false true c d e = v13
strays V v12 v13 v14 v15 v16 v false false true d e = v14
strays V v12 v13 v14 v15 v16 v false false false true e = v15
strays V v12 v13 v14 v15 v16 v false false false false true = v16
strays V v12 v13 v14 v15 v16 v false false false false false = v

hosts : (V : Option ℕ → Type 0) → V (Some 1) → V (Some 2) → V None → (a b : Bool) → V (first_cause ((a, 1) ∷ (b, 2) ∷ []))
hosts V v1 v2 v true b = v1
hosts V v1 v2 v false true = v2
hosts V v1 v2 v false false = v

no_reach : (a b c : ℕ) → b ≤ a → leb c a ≡ false → leb c b ≡ false
no_reach a b c l e = lt-leb c b (let h : a < c = leb-false c a e in omega arith)

module _ (doomed : ℕ → Bool) (token : Id → Token) (c : Config) (few : c.settings.max_incoming ≤ 64) (positive : 0 < c.len)
    (u : Supply) (next₂ : ℕ → Id) (byte₂ : ℕ → ℕ) (s : State) (f : ℕ → Option ℕ) (n : ℕ) (told told₂ : List Entry)
    (initial₂ : Id → Option Target) (us : List Waiting) (free₂ : List ℕ) (g : ℕ → Option ℕ)
    (S : Sound c.len s) (P : Placing told s.waiting f n) (T : Sound c.len (with_waiting s us free₂ initial₂)) (Q : Placing told₂ us g n)
    (R : Rest doomed f g s.initial initial₂ s.waiting us) where
  abbrev s₂ : State
  s₂ = with_waiting s us free₂ initial₂

  abbrev u₂ : Supply
  u₂ = record { next_id = next₂; next_byte = byte₂; valid = u.valid }

  inf : Injective f
  inf = placing_injective P

  ing : Injective g
  ing = placing_injective Q

  abbrev left_out_of : Call → Answer → Bool
  left_out_of call a = is_dropped (sealed token a) || holds_of doomed (about told n call (sealed token a))

  -- the call is left out, and the second endpoint needs no change
  pub record Left (call : Call) (o : Outcome) : Type 0 where
    pub out : left_out_of call o.answer ≡ true
    pub core : core_of o.state ≡ core_of s
    pub rest : Rest doomed (slots_after f n call o.answer) g o.state.initial initial₂ o.state.waiting us

  -- the second endpoint gives the same answer, and the two are alike again
  pub record Follows (call : Call) (o o₂ : Outcome) : Type 0 where
    pub answer : slotless (sealed token o₂.answer) ≡ slotless (sealed token o.answer)
    pub ids : o₂.ids_drawn ≡ o.ids_drawn
    pub bytes : o₂.bytes_drawn ≡ o.bytes_drawn
    pub core : core_of o₂.state ≡ core_of o.state
    pub meant : about told₂ n call (sealed token o₂.answer) ≡ about told n call (sealed token o.answer)
    pub rest : Rest doomed (slots_after f n call o.answer) (slots_after g n call o₂.answer) o.state.initial o₂.state.initial o.state.waiting o₂.state.waiting

  pub record Drawn (o : Outcome) : Type 0 where
    pub ids : row next₂ 0 o.ids_drawn ≡ row u.next_id 0 o.ids_drawn
    pub bytes : row byte₂ 0 o.bytes_drawn ≡ row u.next_byte 0 o.bytes_drawn

  abbrev pub Verdict : Call → Outcome → Outcome → Type 0
  Verdict call o o₂ = Left call o ⊎ ((left_out_of call o.answer ≡ false) × (Drawn o → Follows call o o₂))

  refused_meant : (call : Call) (k : ℕ) → about told₂ n call (refused k) ≡ about told n call (refused k)
  refused_meant (handles d room) k = refl
  refused_meant (accepts a now given room) k = refl
  refused_meant (refuses a) k = refl
  refused_meant (ignores a) k = refl
  refused_meant (handles_event h ev) k = refl

  refusal : (call : Call) (k : ℕ) → left_out_of call (refused k) ≡ false → Verdict call (gives (refused k) s) (gives (refused k) s₂)
  refusal call k e = inr (e, λ _. record { answer = refl; ids = refl; bytes = refl; core = refl; meant = refused_meant call k; rest = R })

  -- ## `handle`

  module _ (d : Datagram) (room : ℕ) where
    abbrev call : Call
    call = handles d room

    dropped : (k : ℕ) (o₂ : Outcome) → left_out_of call (refused k) ≡ true → Verdict call (gives (refused k) s) o₂
    dropped k o₂ e = inl (record { out = e; core = refl; rest = R })

    -- ### Strays

    reset_verdict : (i k : ℕ) (l : ℕ) → (row byte₂ 0 (i + k) ≡ row u.next_byte 0 (i + k) → (l ≡ k) × (row byte₂ i k ≡ row u.next_byte i k)) →
        Verdict call (Calls.send_reset u s d i k) (Calls.send_reset u₂ s₂ d i l)
    reset_verdict i k l same = grind (arith, nat_tests)

    stray_verdict : Verdict call (Calls.stray c u s d) (Calls.stray c u₂ s₂ d)
    stray_verdict = strays (λ o. Verdict call (Calls.stray_by u s d o) (Calls.stray_by u₂ s₂ d o))
        (refusal call 12 refl) (refusal call 13 refl) (refusal call 14 refl) (refusal call 15 refl) (refusal call 16 refl) (sent (leb (size d - 17) 26))
        (not (is_short d.kind)) (not (u.valid d.dst)) (empty d.dst) (Calls.too_soon s.last_reset c.settings.min_reset_interval d.time) (ltb (size d) 22)
      where
        short : (k : ℕ) → row byte₂ 0 (0 + k) ≡ row u.next_byte 0 (0 + k) → (k ≡ k) × (row byte₂ 0 k ≡ row u.next_byte 0 k)
        short k e = (refl, subst (λ (j : ℕ). row byte₂ 0 j ≡ row u.next_byte 0 j) (omega arith) e)

        picked : (ℕ → ℕ) → ℕ
        picked b = 25 + number_of (row b 0 8) % (size d - 42)

        cut : (k : ℕ) → row byte₂ 0 (8 + k) ≡ row u.next_byte 0 (8 + k) → (row byte₂ 0 8 ≡ row u.next_byte 0 8) × (row byte₂ 8 k ≡ row u.next_byte 8 k)
        cut k e = grind (arith, nat_tests)

        sent : (b : Bool) → Verdict call (Calls.reset_by u s d b) (Calls.reset_by u₂ s₂ d b)
        sent true = reset_verdict 0 (size d - 17) (size d - 17) (short (size d - 17))
        sent false = reset_verdict 8 (25 + number_of (row u.next_byte 0 8) % (size d - 42)) (25 + number_of (row byte₂ 0 8) % (size d - 42))
            (λ e. let r = cut (25 + number_of (row u.next_byte 0 8) % (size d - 42)) e in (ap (λ (bs : List ℕ). 25 + number_of bs % (size d - 42)) r.0, r.1))

    -- ### First packets

    close_verdict : (code : ℕ) → Verdict call (Calls.close_now u s code d) (Calls.close_now u₂ s₂ code d)
    close_verdict code = grind (arith, nat_tests)

    abbrev slot₁ : ℕ
    slot₁ = next_free s.free_slots

    abbrev slot₂ : ℕ
    slot₂ = next_free free₂

    f_more : (t j m : ℕ) → f j ≡ Some m → update eqb f n (Some t) j ≡ Some m
    f_more t j m e = up_read eqb Decides-eqb f n (Some t) j (λ o. o ≡ Some m) (λ z. absurd (let b : j < n = P.label j m e in omega arith)) (λ _. e)

    g_more : (t j m : ℕ) → g j ≡ Some m → update eqb g n (Some t) j ≡ Some m
    g_more t j m e = up_read eqb Decides-eqb g n (Some t) j (λ o. o ≡ Some m) (λ z. absurd (let b : j < n = Q.label j m e in omega arith)) (λ _. e)

    f_new : (t : ℕ) → update eqb f n (Some t) n ≡ Some t
    f_new t = up_read eqb Decides-eqb f n (Some t) n (λ o. o ≡ Some t) (λ _. refl) (λ off. absurd (off refl))

    g_new : (t : ℕ) → update eqb g n (Some t) n ≡ Some t
    g_new t = up_read eqb Decides-eqb g n (Some t) n (λ o. o ≡ Some t) (λ _. refl) (λ off. absurd (off refl))

    opening_verdict : s.initial d.dst ≡ None → (o : Opening) (b : Bool) → doomed n ≡ b →
        Verdict call (gives (opened slot₁ o) (with_opened s slot₁ d)) (gives (opened slot₂ o) (with_opened s₂ slot₂ d))
    opening_verdict off o true e = inl (record {
      out = e;
      core = refl;
      rest = record {
        entries = λ x. put_read s.initial d.dst (Some (to_attempt slot₁)) x (λ r. Entries doomed (update eqb f n (Some slot₁)) g r (initial₂ x))
            (λ _ z. subst (λ (r : Option Target). Entries doomed (update eqb f n (Some slot₁)) g (Some (to_attempt slot₁)) r)
            (sym (no_other doomed f g (s.initial x) (initial₂ x) (ap s.initial z ∙ off) (R.entries x))) (n, f_new slot₁, e))
            (λ _. entries_more doomed (f_more slot₁) (λ j m z. z) (s.initial x) (initial₂ x) (R.entries x));
        match = left n (f_new slot₁) e (match_more doomed (f_more slot₁) (λ j m z. z) R.match);
        slots = λ k z. up_read eqb Decides-eqb f n (Some slot₁) k (λ r. Alike doomed r (g k)) (λ y. absurd (both_ways (doomed k) z (ap doomed y ∙ e))) (λ _. R.slots k z);
      };
    })
    opening_verdict off o false e = inr (
      e,
      λ _. record {
        answer = refl;
        ids = refl;
        bytes = refl;
        core = refl;
        meant = refl;
        rest = record {
          entries = λ x. put_two s.initial initial₂ d.dst (Some (to_attempt slot₁)) (Some (to_attempt slot₂)) x (Entries doomed (update eqb f n (Some slot₁)) (update eqb g n (Some slot₂)))
              (λ _ _. (n, f_new slot₁, g_new slot₂, e))
              (λ _. entries_more doomed (f_more slot₁) (g_more slot₂) (s.initial x) (initial₂ x) (R.entries x));
          match = both n (f_new slot₁) (g_new slot₂) e refl refl (match_more doomed (f_more slot₁) (g_more slot₂) R.match);
          slots = λ k z. cond_two (eqb n k) (Some slot₁) (f k) (Some slot₂) (g k) (Alike doomed) (λ _. tt) (λ _. R.slots k z);
        };
      },
    )

    open_verdict : s.initial d.dst ≡ None → (o : Opened) → Verdict call (Calls.open_by u s d o) (Calls.open_by u₂ s₂ d o)
    open_verdict off (Err Closed) = refusal call 10 refl
    open_verdict off (Err ReservedBits) = refusal call 11 refl
    open_verdict off (Err BadToken) = close_verdict 0x0b
    open_verdict off (Ok o) = opening_verdict off o (doomed n) refl

    sums : (length us ≤ length s.waiting) × (waiting_total us ≤ waiting_total s.waiting) × (places_used us ≤ places_used s.waiting)
    sums = match_sums doomed R.match

    less_saturated : saturated c s ≡ false → saturated c s₂ ≡ false
    less_saturated e = grind (arith, nat_tests, no_reach (length s.waiting) (length us) c.settings.max_incoming sums.0)

    more_places : no_place c s ≡ false → no_place c s₂ ≡ false
    more_places e = no_reach (places_used s.waiting) (places_used us) c.places sums.2 e

    first_verdict : s.initial d.dst ≡ None → Verdict call (Calls.first_packet c u s d) (Calls.first_packet c u₂ s₂ d)
    first_verdict off = firsts (λ o p. Verdict call (Calls.first_by c u s d o) (Calls.first_by c u₂ s₂ d p)) (refusal call 8 refl) (λ o. dropped 20 (Calls.first_by c u₂ s₂ d o) refl)
        (λ o. dropped 22 (Calls.first_by c u₂ s₂ d o) refl) (refusal call 9 refl) (ltb (size d) 1200) (saturated c s) (saturated c s₂) (no_place c s) (no_place c s₂) (not (c.door.knows d.version d.dst))
        less_saturated more_places
        (λ _. cond_two (Calls.bad_length c d) (Calls.close_now u s 0x0a d) (Calls.open_by u s d (c.door.opens d)) (Calls.close_now u₂ s₂ 0x0a d) (Calls.open_by u₂ s₂ d (c.door.opens d)) (Verdict call)
        (λ _. close_verdict 0x0a) (λ _. open_verdict off (c.door.opens d)))

    -- ### Datagrams for an attempt

    keep_doomed : (k m : ℕ) (o₂ : Outcome) → f k ≡ Some m → doomed k ≡ true → Verdict call (Calls.keep c s d m) o₂
    keep_doomed k m o₂ fk t = seconds (λ o _. Verdict call (Calls.keep_by s d m o) o₂) (λ _. dropped 21 o₂ refl) (λ _. dropped 22 o₂ refl) (too_large c s m d) (too_large c s m d) (no_place c s) (no_place c s)
        (λ z. z) (λ z. z) (inl (record {
          out = ap (holds_of doomed) (P.occupies k m fk) ∙ t;
          core = refl;
          rest = record { entries = R.entries; match = kept_left doomed inf k m fk d t R.match; slots = R.slots };
        }))

    smaller : (k m t : ℕ) → f k ≡ Some m → g k ≡ Some t → too_large c s m d ≡ false → too_large c s₂ t d ≡ false
    smaller k m t fk gk e =
        let r = or_parts (ltb c.settings.incoming_buffer_size (attempt_bytes s.waiting m + size d)) (ltb c.settings.incoming_buffer_size_total (waiting_total s.waiting + size d)) e in
        let own_bytes : attempt_bytes us t ≤ attempt_bytes s.waiting m = match_bytes doomed inf k m fk ing t gk R.match in
        let total : waiting_total us ≤ waiting_total s.waiting = sums.1 in
        grind (arith, nat_tests, r, own_bytes, total)

    keep_verdict : (k m t : ℕ) → f k ≡ Some m → g k ≡ Some t → doomed k ≡ false → Verdict call (Calls.keep c s d m) (Calls.keep c s₂ d t)
    keep_verdict k m t fk gk e = seconds (λ o p. Verdict call (Calls.keep_by s d m o) (Calls.keep_by s₂ d t p)) (λ p. dropped 21 (Calls.keep_by s₂ d t p) refl) (λ p. dropped 22 (Calls.keep_by s₂ d t p) refl)
        (too_large c s m d) (too_large c s₂ t d) (no_place c s) (no_place c s₂) (smaller k m t fk gk) more_places
        (inr (
          ap (holds_of doomed) (P.occupies k m fk) ∙ e,
          λ _. record {
            answer = refl;
            ids = refl;
            bytes = refl;
            core = refl;
            meant = Q.occupies k t gk ∙ sym (P.occupies k m fk);
            rest = record { entries = R.entries; match = kept_both doomed inf k m fk ing t gk d R.match; slots = R.slots };
          },
        ))

    -- ### Routes

    abbrev By : Option Target → Option Target → Type 0
    By o p = Verdict call (Calls.handle_by c u s d o) (Calls.handle_by c u₂ s₂ d p)

    there : (h : ℕ) → By (Some (to_connection h)) (Some (to_connection h))
    there h = inr (refl, λ _. record { answer = refl; ids = refl; bytes = refl; core = refl; meant = refl; rest = R })

    last : By None None → (r : Option Target) → Only r → By r r
    last v None a = v
    last v (Some (to_connection h)) a = there h
    last v (Some (to_attempt m)) a = elim a [ ]

    middle : (i j : Option Target) → Entries doomed f g i j → (r : Option Target) → Only r → (or_else i r ≡ None → By None None) → By (or_else i r) (or_else j r)
    middle None None e None a v = v refl
    middle None None e (Some (to_connection h)) a v = there h
    middle None None e (Some (to_attempt m)) a v = elim a [ ]
    middle None (Some t) e r a v = elim e [ ]
    middle (Some (to_connection h)) None e r a v = elim e [ ]
    middle (Some (to_connection h)) (Some (to_connection k)) e r a v = subst (λ (j : ℕ). By (Some (to_connection h)) (Some (to_connection j))) e (there h)
    middle (Some (to_connection h)) (Some (to_attempt t)) e r a v = elim e [ ]
    middle (Some (to_attempt m)) None e r a v = keep_doomed e.0 m (Calls.handle_by c u₂ s₂ d r) e.1 e.2
    middle (Some (to_attempt m)) (Some (to_connection h)) e r a v = elim e [ ]
    middle (Some (to_attempt m)) (Some (to_attempt t)) e r a v = keep_verdict e.0 m t e.1 e.2 e.3

    outer : (h i j r : Option Target) → Only h → Entries doomed f g i j → Only r → (or_else h (or_else i r) ≡ None → By None None) → By (or_else h (or_else i r)) (or_else h (or_else j r))
    outer None i j r a e b v = middle i j e r b v
    outer (Some (to_connection h)) i j r a e b v = there h
    outer (Some (to_attempt m)) i j r a e b v = elim a [ ]

    nowhere : route s d ≡ None → By None None
    nowhere e = cond_two (is_initial d.kind) (Calls.first_packet c u s d) (Calls.stray c u s d) (Calls.first_packet c u₂ s₂ d) (Calls.stray c u₂ s₂ d) (Verdict call)
        (λ i. first_verdict (ap (λ b. cond b (s.initial d.dst) None) (sym (early d.kind i)) ∙ or_none_left (initial_route s d) _ (or_none_right (held_route s d) _ e))) (λ _. stray_verdict)

    routed : By (route s d) (route s₂ d)
    routed = outer (held_route s d) (initial_route s d) (initial_route s₂ d) (or_else (pair_route s d) (sender_route s d))
        (cond_both (empty d.dst) None (toward (s.ids d.dst)) Only (λ _. tt) (λ _. toward_only (s.ids d.dst)))
        (cond_two (is_early d.kind) (s.initial d.dst) None (initial₂ d.dst) None (Entries doomed f g) (λ _. R.entries d.dst) (λ _. tt))
        (or_only (pair_route s d) (sender_route s d) (cond_both (empty d.dst) (toward (s.pairs d.addresses)) None Only (λ _. toward_only (s.pairs d.addresses)) (λ _. tt))
        (cond_both (leb 16 (size d)) (toward (s.senders (sender_of d))) None Only (λ _. toward_only (s.senders (sender_of d))) (λ _. tt)))
        nowhere

    pub handle_verdict : Verdict call (Calls.handle c u s d room) (Calls.handle c u₂ s₂ d room)
    handle_verdict = cond_two (Calls.fits c d room) (Calls.handle_by c u s d (route s d)) (gives (refused 1) s) (Calls.handle_by c u₂ s₂ d (route s₂ d)) (gives (refused 1) s₂) (Verdict call)
        (λ _. routed) (λ _. refusal call 1 refl)

  -- ## Calls that bring an attempt

  abbrev less_one : (ℕ → Option ℕ) → ℕ → (ℕ → Option ℕ)
  less_one slots k j = cond (eqb j k) None (slots j)

  less_keeps : (slots : ℕ → Option ℕ) (k j m : ℕ) → (j ≡ k → ⊥) → slots j ≡ Some m → less_one slots k j ≡ Some m
  less_keeps slots k j m off e = ap (λ b. cond b None (slots j)) (ne_eqb j k off) ∙ e

  module _ (k : ℕ) (v : Waiting) (mem : Among v s.waiting) (fk : f k ≡ Some v.slot) where
    -- an entry under another identifier leads to another slot
    elsewhere : (x : Id) → (empty v.first.dst ≡ false → x ≡ v.first.dst → ⊥) → s.initial x ≡ Some (to_attempt v.slot) → ⊥
    elsewhere x off e =
        let r = S.entry_attempt x v.slot e in
        let same : r.0 ≡ v = slotted_same s.waiting r.0 v S.slotted r.1 mem r.2 in
        let is : x ≡ v.first.dst = sym r.3 ∙ ap (λ z. z.first.dst) same in
        off (sym (ap empty is) ∙ S.entry_some x (to_attempt v.slot) e) is

    doomed_rest : doomed k ≡ true → Rest doomed (less_one f k) g (put s.initial v.first.dst None) initial₂ (without s.waiting v.slot) us
    doomed_rest t = record {
      entries = λ x. put_read s.initial v.first.dst None x (λ r. Entries doomed (less_one f k) g r (initial₂ x))
          (λ z e. subst (λ (r : Option Target). Entries doomed (less_one f k) g None r)
          (sym (doomed_entry doomed f g (s.initial x) (initial₂ x) v.slot (ap s.initial e ∙ S.attempt_entry v mem z)
          (λ j fj dj. both_ways (doomed j) dj (ap doomed (inf j k v.slot fj fk) ∙ t)) (R.entries x))) tt)
          (λ off. entries_spent doomed k v.slot fk (less_keeps f k) (λ j m _ z. z) (s.initial x) (initial₂ x) (elsewhere x off) (R.entries x));
      match = spent_left doomed inf k v.slot fk (less_one f k) (less_keeps f k) t R.match;
      slots = λ j z. subst (λ (r : Option ℕ). Alike doomed r (g j)) (sym (ap (λ b. cond b None (f j)) (ne_eqb j k (λ y. both_ways (doomed j) z (ap doomed y ∙ t))))) (R.slots j z);
    }

    both_rest : (t h : ℕ) → g k ≡ Some t → doomed k ≡ false →
        Rest doomed (less_one f k) (less_one g k) (put s.initial v.first.dst (Some (to_connection h))) (put initial₂ v.first.dst (Some (to_connection h))) (without s.waiting v.slot) (without us t)
    both_rest t h gk e = record {
      entries = λ x. put_two s.initial initial₂ v.first.dst (Some (to_connection h)) (Some (to_connection h)) x (Entries doomed (less_one f k) (less_one g k)) (λ _ _. refl)
          (λ off. entries_spent doomed k v.slot fk (less_keeps f k) (less_keeps g k) (s.initial x) (initial₂ x) (elsewhere x off) (R.entries x));
      match = spent_both doomed inf k v.slot fk ing t gk (less_one f k) (less_one g k) (less_keeps f k) (less_keeps g k) e R.match;
      slots = λ j z. cond_two (eqb j k) None (f j) None (g j) (Alike doomed) (λ _. tt) (λ _. R.slots j z);
    }

  -- ### Of a doomed attempt

  abbrev Aside : Call → Outcome → Type 0
  Aside call o = (core_of o.state ≡ core_of s) × Rest doomed (slots_after f n call o.answer) g o.state.initial initial₂ o.state.waiting us

  put_put : {A : Type 0} (i : Id → Option A) (x : Id) (a b : Option A) (q : Id) → put (put i x a) x b q ≡ put i x b q
  put_put i x a b q = put_two (put i x a) i x b b q (λ y z. y ≡ z) (λ _ _. refl) (λ off. put_read i x a q (λ y. y ≡ i q) (λ z e. absurd (off z e)) (λ _. refl))

  again : (free : List ℕ) → 0 < length free → next_free free ∷ drop 1 free ≡ free
  again [] l = absurd (omega arith)
  again (h ∷ free) l = refl

  nothing_there : (o : Option ℕ) → ((h : ℕ) → o ≡ Some h → ⊥) → o ≡ None
  nothing_there None e = refl
  nothing_there (Some h) e = absurd (e h refl)

  back : (q : ℕ) (x : Id) (xs : List Id) → Among x (second (sequenced q xs)) → Among x xs
  back q x [] m = m
  back q x (y ∷ xs) (inl e) = inl e
  back q x (y ∷ xs) (inr m) = inr (back (q + 1) x xs m)

  forth : (q : ℕ) (x : Id) (xs : List Id) → Among x xs → Among x (second (sequenced q xs))
  forth q x [] m = m
  forth q x (y ∷ xs) (inl e) = inl e
  forth q x (y ∷ xs) (inr m) = inr (forth (q + 1) x xs m)

  module _ (call : Call) (k : ℕ) (same_slots : (a : Answer) → spent_by a ≡ true → opened_slot a ≡ None → slots_after f n call a ≡ less_one f k) (t : doomed k ≡ true)
      (v : Waiting) (mem : Among v s.waiting) (fk : f k ≡ Some v.slot) where
    spent_aside : (a : Answer) (i b : ℕ) → spent_by a ≡ true → opened_slot a ≡ None → Aside call (record { answer = a; state = with_spent s v None; ids_drawn = i; bytes_drawn = b })
    spent_aside a i b sp op = (refl, subst (λ (r : ℕ → Option ℕ). Rest doomed r g (put s.initial v.first.dst None) initial₂ (without s.waiting v.slot) us) (sym (same_slots a sp op)) (doomed_rest k v mem fk t))

    fail_aside : (m : ℕ) → Aside call (Calls.fail u s v m)
    fail_aside m = cond_both (eqb m 23) (record { answer = failed m (Some (Calls.close_to u 0 0x02 v.first)); state = with_spent s v None; ids_drawn = 1; bytes_drawn = 0 })
        (gives (failed m None) (with_spent s v None)) (Aside call)
        (λ _. spent_aside (failed m (Some (Calls.close_to u 0 0x02 v.first))) 1 0 refl refl) (λ _. spent_aside (failed m None) 0 0 refl refl)

    module _ (some : 0 < length s.free_handles) (xs : List Id) (fresh : (x : Id) → empty x ≡ false → Among x xs → s.ids x ≡ None) where
      abbrev h : ℕ
      h = next_free s.free_handles

      was_free : s.conns h ≡ None
      was_free = S.handles_free h (next_among s.free_handles some)

      same_conns : (q : ℕ) → update eqb (update eqb s.conns h (Some (new_conn v xs))) h None q ≡ s.conns q
      same_conns q = up_read eqb Decides-eqb (update eqb s.conns h (Some (new_conn v xs))) h None q (λ o. o ≡ s.conns q) (λ e. sym (ap s.conns e ∙ was_free))
          (λ off. up_read eqb Decides-eqb s.conns h (Some (new_conn v xs)) q (λ o. o ≡ s.conns q) (λ e. absurd (off e)) (λ _. refl))

      same_ids : (x : Id) → put_all (put_all s.ids xs (Some h)) (second (sequenced 0 xs)) None x ≡ s.ids x
      same_ids x = put_all_read (put_all s.ids xs (Some h)) (second (sequenced 0 xs)) None x (λ o. o ≡ s.ids x) (λ z m. sym (fresh x z (back 0 x xs m)))
          (λ off. put_all_read s.ids xs (Some h) x (λ o. o ≡ s.ids x) (λ z m. absurd (off z (forth 0 x xs m))) (λ _. refl))

      no_pairs : (a : FourTuple) → s.pairs a ≡ None
      no_pairs a = nothing_there (s.pairs a) (λ h e. let z : c.len ≡ 0 = (S.pair_conn a h e).1 in omega arith)

      same_pairs : (a : FourTuple) → update same_pair (cond (eqb c.len 0) (update same_pair s.pairs v.first.addresses (Some h)) s.pairs) v.first.addresses None a ≡ s.pairs a
      same_pairs a = up_read same_pair same_pair_decides (cond (eqb c.len 0) (update same_pair s.pairs v.first.addresses (Some h)) s.pairs) v.first.addresses None a (λ o. o ≡ s.pairs a)
          (λ _. sym (no_pairs a))
          (λ _. ap (λ b. cond b (update same_pair s.pairs v.first.addresses (Some h)) s.pairs a) (ne_eqb c.len 0 (λ z. omega arith)))

      given_up_aside : (a : Answer) (i b : ℕ) → spent_by a ≡ true → opened_slot a ≡ None → Aside call (record { answer = a; state = with_drained (with_accepted c s v h xs) h (new_conn v xs); ids_drawn = i; bytes_drawn = b })
      given_up_aside a i b sp op = (
        (λ j. record { conns = fun_ext same_conns j; free_handles = again s.free_handles some j; ids = fun_ext same_ids j; pairs = fun_ext same_pairs j; senders = s.senders; last_reset = s.last_reset }),
        subst₂ (λ (r : ℕ → Option ℕ) (p : Id → Option Target). Rest doomed r g p initial₂ (without s.waiting v.slot) us) (sym (same_slots a sp op))
            (sym (fun_ext (put_put s.initial v.first.dst (Some (to_connection h)) None))) (doomed_rest k v mem fk t),
      )

      greet_aside : (i : ℕ) (gr : Greets) → is_accepted (Calls.greet_by c u s v h xs i gr).answer ≡ false → Aside call (Calls.greet_by c u s v h xs i gr)
      greet_aside i (Ok tt) e = absurd (both_ways true e refl)
      greet_aside i (Err (TransportError code)) e = given_up_aside (failed 19 (Some (Calls.close_to u i code v.first))) (i + 1) 32 refl refl
      greet_aside i (Err Other) e = given_up_aside (failed 19 None) i 32 refl refl

    connect_aside : 0 < length s.free_handles → (m : ℕ) (r : Search (List Id)) → SeveralFound (is_held s) m r → is_accepted (Calls.connect_by c u s v r).answer ≡ false → Aside call (Calls.connect_by c u s v r)
    connect_aside some m (none_left i) d e = spent_aside (failed 25 None) i 0 refl refl
    connect_aside some m (found xs i) d e = greet_aside some xs (λ x z l. free_none (s.ids x) (d.1 x z l)) i (c.door.greets v.first (next_free s.free_handles) xs) e

    accept_aside : (settings : Settings) (now : ℕ) (o : Option ℕ) → first_cause (Calls.accept_causes c s v settings now) ≡ o → is_accepted (Calls.accept_by c u s v settings o).answer ≡ false →
        Aside call (Calls.accept_by c u s v settings o)
    accept_aside settings now (Some m) e a = fail_aside m
    accept_aside settings now None e a = connect_aside (leb-false (length s.free_handles) 0 (first_passed (Calls.accept_causes c s v settings now) e).1.1.0) (Calls.wanted c settings) _
        (several_found (is_held s) u.next_id 0 (Calls.wanted c settings)) a

  among_in_slot : (ws : List Waiting) (w : Waiting) → Slotted ws → Among w ws → in_slot ws w.slot ≡ Some w
  among_in_slot [] w a m = elim m [ ]
  among_in_slot (x ∷ ws) w a m = cond_both (eqb x.slot w.slot) (Some x) (in_slot ws w.slot) (λ o. o ≡ Some w)
      (λ t. ap Some (slotted_same (x ∷ ws) x w a (inl refl) m (eqb-true x.slot w.slot t)))
      (λ t. among_in_slot ws w a.1 (behind t m))
    where
      behind : eqb x.slot w.slot ≡ false → (w ≡ x) ⊎ Among w ws → Among w ws
      behind t (inl e) = absurd (eqb-false x.slot w.slot t (sym (ap (λ r. r.slot) e)))
      behind t (inr k) = k

  -- the attempt in the slot of a label, in both
  abbrev at_slot : ℕ → Incoming
  at_slot m = record { number = c.number; slot = m }

  abbrev twin : Waiting → ℕ → Waiting
  twin v t = record { slot = t; first = v.first; kept = v.kept }

  pub record Twin (k m t : ℕ) : Type 0 where
    pub v : Waiting
    pub mem : Among v s.waiting
    pub fk : f k ≡ Some v.slot
    pub is : brought c s (at_slot m) ≡ Some v
    pub is₂ : brought c s₂ (at_slot t) ≡ Some (twin v t)

  twins : (k m t : ℕ) → f k ≡ Some m → g k ≡ Some t → doomed k ≡ false → Twin k m t
  twins k m t fk gk e =
      let r = P.live k m fk in
      let w = find doomed inf k m fk R.match r.0 r.1 r.2 e in
      let slot : w.0.slot ≡ t = some_same w.0.slot t (sym w.2 ∙ gk) in
      let same : w.0 ≡ twin r.0 t = λ i. record { slot = slot i; first = w.3 i; kept = w.4 i } in
      record {
        v = r.0;
        mem = r.1;
        fk = fk ∙ ap Some (sym r.2);
        is = ap (λ b. cond b (in_slot s.waiting m) None) (eq-eqb c.number c.number refl) ∙ ap (in_slot s.waiting) (sym r.2) ∙ among_in_slot s.waiting r.0 S.slotted r.1;
        is₂ = ap (λ b. cond b (in_slot us t) None) (eq-eqb c.number c.number refl) ∙ ap (in_slot us) (sym slot) ∙ among_in_slot us w.0 T.slotted w.1 ∙ ap Some same;
      }

  abbrev Nothing : Outcome → Type 0
  Nothing o = to_nothing o.answer ≡ true → ⊥

  -- ### `accept`

  module _ (k now : ℕ) (given : Option Settings) (room : Room) where
    abbrev accept_call : Call
    accept_call = accepts (own k) now given room

    accept_slots : (a : Answer) → spent_by a ≡ true → opened_slot a ≡ None → slots_after f n accept_call a ≡ less_one f k
    accept_slots a sp op = ap₂ {C = ℕ → Option ℕ} (λ b o. put_slot (λ j. cond (b && eqb j k) None (f j)) n o) sp op

    -- doomed
    module _ (t : doomed k ≡ true) where
      accept_aside_of : (m : ℕ) → f k ≡ Some m → (o : Option Waiting) → brought c s (at_slot m) ≡ o → is_accepted (Calls.accept_of c u s now given o).answer ≡ false → Aside accept_call (Calls.accept_of c u s now given o)
      accept_aside_of m fk None e a = (refl, R)
      accept_aside_of m fk (Some v) e a =
          let z : in_slot s.waiting m ≡ Some v = sym (ap (λ b. cond b (in_slot s.waiting m) None) (eq-eqb c.number c.number refl)) ∙ e in
          let r = in_slot_among s.waiting m v z in
          accept_aside accept_call k accept_slots t v r.0 (fk ∙ ap Some (sym r.1)) (Calls.settings_or given c.settings) now _ refl a

      accept_aside_from : (m : ℕ) → f k ≡ Some m → (o : Option ℕ) → is_accepted (Calls.accept_from c u s (at_slot m) now given o).answer ≡ false → Aside accept_call (Calls.accept_from c u s (at_slot m) now given o)
      accept_aside_from m fk (Some j) a = (refl, R)
      accept_aside_from m fk None a = accept_aside_of m fk (brought c s (at_slot m)) refl a

      accept_aside_in : (o : Option ℕ) → f k ≡ o → is_accepted (with_attempt s (λ i. Calls.accept c u s i now given room) (in_hand c.number o)).answer ≡ false →
          Aside accept_call (with_attempt s (λ i. Calls.accept c u s i now given room) (in_hand c.number o))
      accept_aside_in None e a = (refl, R)
      accept_aside_in (Some m) e a = accept_aside_from m e (first_cause (Calls.host_causes c given room)) a

    -- not doomed
    module _ (e : doomed k ≡ false) where
      module _ (m t : ℕ) (gk : g k ≡ Some t) (W : Twin k m t) where
        abbrev v : Waiting
        v = W.v

        abbrev h₁ : ℕ
        h₁ = next_free s.free_handles

        greet_good : (xs : List Id) (i : ℕ) (r₂ : Search (List Id)) → (((p : ℕ) → 0 ≤ p → p < i → next₂ p ≡ u.next_id p) → r₂ ≡ found xs i) →
            (gr : Greets) → c.door.greets v.first h₁ xs ≡ gr → Nothing (Calls.greet_by c u s v h₁ xs i gr) →
            Verdict accept_call (Calls.greet_by c u s v h₁ xs i gr) (Calls.connect_by c u₂ s₂ (twin v t) r₂)
        greet_good xs i r₂ same (Err (TransportError code)) q N = absurd (N refl)
        greet_good xs i r₂ same (Err Other) q N = absurd (N refl)
        greet_good xs i r₂ same (Ok tt) q N =
            inr (
              e,
              λ w.
                  let o : Outcome = Calls.greet_by c u s v h₁ xs i (Ok tt) in
                  let follows : Follows accept_call o (Calls.greet_by c u₂ s₂ (twin v t) h₁ xs i (Ok tt)) = record {
                    answer = ap {B = Answer} (λ bs. accepted h₁ (Calls.sealed_grants token (Endpoint.grants (sequenced 0 xs))) bs (v.first ∷ v.kept)) w.bytes;
                    ids = refl;
                    bytes = refl;
                    core = refl;
                    meant = refl;
                    rest = both_rest k v W.mem W.fk t h₁ gk e;
                  } in
                  subst (λ (r : Search (List Id)). Follows accept_call o (Calls.connect_by c u₂ s₂ (twin v t) r)) (sym (same (λ p l b. row_at u.next_id next₂ 0 i w.ids p l (omega arith))))
                  (subst (λ (y : Greets). Follows accept_call o (Calls.greet_by c u₂ s₂ (twin v t) h₁ xs i y)) (sym q) follows),
            )

        connect_good : (r r₂ : Search (List Id)) → (((p : ℕ) → 0 ≤ p → p < end r → next₂ p ≡ u.next_id p) → r₂ ≡ r) → Nothing (Calls.connect_by c u s v r) →
            Verdict accept_call (Calls.connect_by c u s v r) (Calls.connect_by c u₂ s₂ (twin v t) r₂)
        connect_good (none_left i) r₂ same N = absurd (N refl)
        connect_good (found xs i) r₂ same N = greet_good xs i r₂ same (c.door.greets v.first h₁ xs) refl N

        accept_good_by : (settings : Settings) (o : Option ℕ) → Nothing (Calls.accept_by c u s v settings o) → Verdict accept_call (Calls.accept_by c u s v settings o) (Calls.accept_by c u₂ s₂ (twin v t) settings o)
        accept_good_by settings (Some j) N = grind (arith, nat_tests)
        accept_good_by settings None N = connect_good (several (is_held s) u.next_id 0 (Calls.wanted c settings)) (several (is_held s) next₂ 0 (Calls.wanted c settings))
            (several_local (is_held s) u.next_id next₂ 0 (Calls.wanted c settings)) N

        accept_good_of : Nothing (Calls.accept_of c u s now given (brought c s (at_slot m))) →
            Verdict accept_call (Calls.accept_of c u s now given (brought c s (at_slot m))) (Calls.accept_of c u₂ s₂ now given (brought c s₂ (at_slot t)))
        accept_good_of = subst₂ (λ (a b : Option Waiting). Nothing (Calls.accept_of c u s now given a) → Verdict accept_call (Calls.accept_of c u s now given a) (Calls.accept_of c u₂ s₂ now given b))
            (sym W.is) (sym W.is₂) (accept_good_by (Calls.settings_or given c.settings) (first_cause (Calls.accept_causes c s v (Calls.settings_or given c.settings) now)))

      accept_good_in : (o p : Option ℕ) → f k ≡ o → g k ≡ p → Alike doomed o p → Nothing (with_attempt s (λ i. Calls.accept c u s i now given room) (in_hand c.number o)) →
          Verdict accept_call (with_attempt s (λ i. Calls.accept c u s i now given room) (in_hand c.number o)) (with_attempt s₂ (λ i. Calls.accept c u₂ s₂ i now given room) (in_hand c.number p))
      accept_good_in None None a b z N = refusal accept_call 5 e
      accept_good_in None (Some t) a b z N = elim z [ ]
      accept_good_in (Some m) None a b z N = elim z [ ]
      accept_good_in (Some m) (Some t) a b z N = hosts
          (λ o. Nothing (Calls.accept_from c u s (at_slot m) now given o) → Verdict accept_call (Calls.accept_from c u s (at_slot m) now given o) (Calls.accept_from c u₂ s₂ (at_slot t) now given o))
          (λ _. refusal accept_call 1 e) (λ _. refusal accept_call 2 e) (accept_good_of m t b (twins k m t a b e))
          (ltb room.records c.places || ltb room.bytes (c.places * 1500)) (not (Calls.settings_fit given)) N

  -- ### `refuse` and `ignore`

  module _ (k : ℕ) (F F₂ : Incoming → Outcome) (G : Option Waiting → Outcome) (is : (i : Incoming) → F i ≡ G (brought c s i)) (call : Call)
      (none_is : G None ≡ gives (refused 5) s) (nothing : (v : Waiting) → to_nothing (G (Some v)).answer ≡ true) where
    -- where the attempt is not doomed, a call that could only spend it to nothing was refused
    spend_good_in : (o p : Option ℕ) → f k ≡ o → g k ≡ p → Alike doomed o p → doomed k ≡ false → left_out_of call (refused 5) ≡ false → Nothing (with_attempt s F (in_hand c.number o)) →
        Verdict call (with_attempt s F (in_hand c.number o)) (with_attempt s₂ F₂ (in_hand c.number p))
    spend_good_in None None a b z e l N = refusal call 5 l
    spend_good_in None (Some t) a b z e l N = elim z [ ]
    spend_good_in (Some m) None a b z e l N = elim z [ ]
    spend_good_in (Some m) (Some t) a b z e l N =
        let W : Twin k m t = twins k m t a b e in
        absurd (N (ap (λ (o : Outcome). to_nothing o.answer) (is (at_slot m) ∙ ap G W.is) ∙ nothing W.v))

  module _ (k : ℕ) (t : doomed k ≡ true) where
    refuse_slots : (a : Answer) → spent_by a ≡ true → opened_slot a ≡ None → slots_after f n (refuses (own k)) a ≡ less_one f k
    refuse_slots a sp op = ap₂ {C = ℕ → Option ℕ} (λ b o. put_slot (λ j. cond (b && eqb j k) None (f j)) n o) sp op

    ignore_slots : (a : Answer) → spent_by a ≡ true → opened_slot a ≡ None → slots_after f n (ignores (own k)) a ≡ less_one f k
    ignore_slots a sp op = ap₂ {C = ℕ → Option ℕ} (λ b o. put_slot (λ j. cond (b && eqb j k) None (f j)) n o) sp op

    in_its_slot : (m : ℕ) (v : Waiting) → brought c s (at_slot m) ≡ Some v → Among v s.waiting × (v.slot ≡ m)
    in_its_slot m v e = in_slot_among s.waiting m v (sym (ap (λ b. cond b (in_slot s.waiting m) None) (eq-eqb c.number c.number refl)) ∙ e)

    refuse_aside_of : (m : ℕ) → f k ≡ Some m → (o : Option Waiting) → brought c s (at_slot m) ≡ o → Aside (refuses (own k)) (Calls.refuse_of u s o)
    refuse_aside_of m fk None e = (refl, R)
    refuse_aside_of m fk (Some v) e = let r = in_its_slot m v e in
        spent_aside (refuses (own k)) k refuse_slots t v r.0 (fk ∙ ap Some (sym r.1)) (closing (Calls.close_to u 0 0x02 v.first)) 1 0 refl refl

    refuse_aside_in : (o : Option ℕ) → f k ≡ o → Aside (refuses (own k)) (with_attempt s (λ i. Calls.refuse c u s i) (in_hand c.number o))
    refuse_aside_in None e = (refl, R)
    refuse_aside_in (Some m) e = refuse_aside_of m e (brought c s (at_slot m)) refl

    ignore_aside_of : (m : ℕ) → f k ≡ Some m → (o : Option Waiting) → brought c s (at_slot m) ≡ o → Aside (ignores (own k)) (Calls.ignore_of s o)
    ignore_aside_of m fk None e = (refl, R)
    ignore_aside_of m fk (Some v) e = let r = in_its_slot m v e in
        spent_aside (ignores (own k)) k ignore_slots t v r.0 (fk ∙ ap Some (sym r.1)) ignored 0 0 refl refl

    ignore_aside_in : (o : Option ℕ) → f k ≡ o → Aside (ignores (own k)) (with_attempt s (λ i. Calls.ignore c s i) (in_hand c.number o))
    ignore_aside_in None e = (refl, R)
    ignore_aside_in (Some m) e = ignore_aside_of m e (brought c s (at_slot m)) refl

  -- ### Attempts of another number

  -- ## Events

  module _ (h : ℕ) (ev : Event) where
    abbrev event_call : Call
    event_call = handles_event h ev

    -- from a state with the attempts of s
    module _ (b : State) (B : Rest doomed f g b.initial initial₂ b.waiting us) where
      abbrev b₂ : State
      b₂ = with_waiting b us free₂ initial₂

      issue_verdict_by : (cn : Conn) (r r₂ : Search (List Id)) → (((p : ℕ) → 0 ≤ p → p < end r → next₂ p ≡ u.next_id p) → r₂ ≡ r) → Verdict event_call (Calls.issue_by b h cn r) (Calls.issue_by b₂ h cn r₂)
      issue_verdict_by cn (none_left i) r₂ same = inr (
        refl,
        λ w.
            subst (λ (r : Search (List Id)). Follows event_call (Calls.issue_by b h cn (none_left i)) (Calls.issue_by b₂ h cn r)) (sym (same (λ p l z. row_at u.next_id next₂ 0 i w.ids p l (omega arith))))
            (record { answer = refl; ids = refl; bytes = refl; core = refl; meant = refl; rest = B }),
      )
      issue_verdict_by cn (found xs i) r₂ same = inr (
        refl,
        λ w.
            subst (λ (r : Search (List Id)). Follows event_call (Calls.issue_by b h cn (found xs i)) (Calls.issue_by b₂ h cn r)) (sym (same (λ p l z. row_at u.next_id next₂ 0 i w.ids p l (omega arith))))
            (record { answer = refl; ids = refl; bytes = refl; core = refl; meant = refl; rest = B }),
      )

      issue_verdict : (cn : Conn) (k : ℕ) → Verdict event_call (Calls.issue u b h cn k) (Calls.issue u₂ b₂ h cn k)
      issue_verdict cn k = cond_two (Calls.too_many cn k) (gives (refused 4) b) (Calls.issue_by b h cn (several (is_held b) u.next_id 0 k)) (gives (refused 4) b₂)
          (Calls.issue_by b₂ h cn (several (is_held b) next₂ 0 k)) (Verdict event_call)
          (λ _. inr (refl, λ _. record { answer = refl; ids = refl; bytes = refl; core = refl; meant = refl; rest = B }))
          (λ _. issue_verdict_by cn (several (is_held b) u.next_id 0 k) (several (is_held b) next₂ 0 k) (several_local (is_held b) u.next_id next₂ 0 k))

      done_verdict : Verdict event_call (gives done b) (gives done b₂)
      done_verdict = inr (refl, λ _. record { answer = refl; ids = refl; bytes = refl; core = refl; meant = refl; rest = B })

    retire_verdict : (cn : Conn) (q : ℕ) (more : Bool) (o : Option Id) → Verdict event_call (Calls.retire_by u s h cn q more o) (Calls.retire_by u₂ s₂ h cn q more o)
    retire_verdict cn q more None = done_verdict s R
    retire_verdict cn q more (Some x) = cond_two more (Calls.issue u (with_retired s h cn q x) h (conn_less cn q) 1) (gives done (with_retired s h cn q x))
        (Calls.issue u₂ (with_retired s₂ h cn q x) h (conn_less cn q) 1) (gives done (with_retired s₂ h cn q x)) (Verdict event_call)
        (λ _. issue_verdict (with_retired s h cn q x) R (conn_less cn q) 1) (λ _. done_verdict (with_retired s h cn q x) R)

  drained_verdict : (h : ℕ) (cn : Conn) → Verdict (handles_event h drained) (gives done (with_drained s h cn)) (gives done (with_drained s₂ h cn))
  drained_verdict h cn = grind (arith, nat_tests)

  event_verdict : (h : ℕ) (ev : Event) (o : Option Conn) → Verdict (handles_event h ev) (Calls.event_of u s h ev o) (Calls.event_of u₂ s₂ h ev o)
  event_verdict h ev None = inr (refl, λ _. record { answer = refl; ids = refl; bytes = refl; core = refl; meant = refl; rest = R })
  event_verdict h (need k) (Some cn) = issue_verdict h (need k) s R cn k
  event_verdict h (retire q more) (Some cn) = retire_verdict h (retire q more) cn q more (held_at cn.held q)
  event_verdict h (reset_token r) (Some cn) = inr (refl, λ _. record { answer = refl; ids = refl; bytes = refl; core = refl; meant = refl; rest = R })
  event_verdict h drained (Some cn) = drained_verdict h cn

  -- ## Every call

  abbrev pub One : Call → Outcome
  One call = outcome_of c u s f call

  abbrev pub Two : Call → Outcome
  Two call = outcome_of c u₂ s₂ g call

  module _ (k : ℕ) (call : Call) (its : brings k call ≡ true) (D₁ : (to_nothing (One call).answer && brings k call) ≡ true → doomed k ≡ true)
      (D₂ : (is_accepted (One call).answer && brings k call) ≡ true → doomed k ≡ false) where
    not_nothing : doomed k ≡ false → Nothing (One call)
    not_nothing e z = both_ways (doomed k) e (D₁ (ap₂ ◌&&◌ z its))

    not_accepted : doomed k ≡ true → is_accepted (One call).answer ≡ false
    not_accepted e = elim (cases_Bool (is_accepted (One call).answer)) [ inl z ↦ absurd (both_ways (doomed k) (D₂ (ap₂ ◌&&◌ z its)) e) | inr z ↦ z ]

  aside_left : (call : Call) (o : Outcome) → left_out_of call o.answer ≡ true → Aside call o → Left call o
  aside_left call o e a = record { out = e; core = a.0; rest = a.1 }

  pub every_verdict : (call : Call) → ((k : ℕ) → (to_nothing (One call).answer && brings k call) ≡ true → doomed k ≡ true) → ((k : ℕ) → (is_accepted (One call).answer && brings k call) ≡ true → doomed k ≡ false) →
      Verdict call (One call) (Two call)
  unfolding outcome_of
  every_verdict (handles d room) D₁ D₂ = handle_verdict d room
  every_verdict (accepts (own k) now given room) D₁ D₂ = elim (cases_Bool (doomed k)) [
    | inl t ↦ inl (aside_left (accepts (own k) now given room) (One (accepts (own k) now given room)) (or_right _ _ t)
        (accept_aside_in k now given room t (f k) refl (not_accepted k (accepts (own k) now given room) (eq-eqb k k refl) (D₁ k) (D₂ k) t)))
    | inr e ↦ accept_good_in k now given room e (f k) (g k) refl refl (R.slots k e) (not_nothing k (accepts (own k) now given room) (eq-eqb k k refl) (D₁ k) (D₂ k) e)
  ]
  every_verdict (accepts (foreign i) now given room) D₁ D₂ = grind (arith, nat_tests)
  every_verdict (refuses (own k)) D₁ D₂ = elim (cases_Bool (doomed k)) [
    | inl t ↦ inl (aside_left (refuses (own k)) (One (refuses (own k))) (or_right _ _ t) (refuse_aside_in k t (f k) refl))
    | inr e ↦ spend_good_in k (λ i. Calls.refuse c u s i) (λ i. Calls.refuse c u₂ s₂ i) (Calls.refuse_of u s) (λ i. refl) (refuses (own k)) refl (λ v. refl) (f k) (g k) refl refl (R.slots k e) e e
        (not_nothing k (refuses (own k)) (eq-eqb k k refl) (D₁ k) (D₂ k) e)
  ]
  every_verdict (refuses (foreign i)) D₁ D₂ = grind (arith, nat_tests)
  every_verdict (ignores (own k)) D₁ D₂ = elim (cases_Bool (doomed k)) [
    | inl t ↦ inl (aside_left (ignores (own k)) (One (ignores (own k))) (or_right _ _ t) (ignore_aside_in k t (f k) refl))
    | inr e ↦ spend_good_in k (λ i. Calls.ignore c s i) (λ i. Calls.ignore c s₂ i) (Calls.ignore_of s) (λ i. refl) (ignores (own k)) refl (λ v. refl) (f k) (g k) refl refl (R.slots k e) e e
        (not_nothing k (ignores (own k)) (eq-eqb k k refl) (D₁ k) (D₂ k) e)
  ]
  every_verdict (ignores (foreign i)) D₁ D₂ = grind (arith, nat_tests)
  every_verdict (handles_event h ev) D₁ D₂ = event_verdict h ev (s.conns h)
