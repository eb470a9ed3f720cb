-- `handle` and `refuse` answer as RFC 9000 asks.
use Rattle.std.proofs.lemmas.Bool.Decides.{nat_tests}
use Rattle.std.proofs.Common.{◌≡◌, ℕ, zero, suc, ◌+◌, ◌-◌, ◌/◌, ◌%◌, ◌<◌, ◌≤◌, min, Bool, true, false, cond, leb, ◌⊎◌, List, [], ◌∷◌, ◌++◌, length, get_or, take, Some, None, Option, sym, refl, ap, ◌∙◌, ap₂, inl, inr, mod-lt, arith, length-append, length-drop, take-append-drop, length-take, Ok, Err}
use Rattle.std.proofs.lemmas.List.{drop_at}
use Rattle.std.proofs.lemmas.Bool.{not-false, ltb-false, leb-true, leb-false, le-leb, lt-leb, cond_both}
use Rattle.records.specs.Ids.{id_bytes}
use Rattle.supply.specs.Meaning.{token_of}
use Rattle.supply.specs.Meaning.{Opens}
use Rattle.supply.specs.declared.answers.Unopened.TheVariants.{Closed, ReservedBits, BadToken}
use Rattle.model.specs.Records.{Id, Token, empty, Datagram, size, is_initial, is_short, is_early, last_16, sender_of, Incoming}
use Rattle.model.specs.Endpoint.{Waiting, Target, to_attempt, to_connection, State, Config, Supply, Outcome, row, first_cause, or_else, toward, held_route, initial_route, pair_route, sender_route, route}
use Rattle.model.specs.Calls.{number_of, marked, reset_by, stray_causes, stray_by, stray, close_now, open_by, bad_length, first_causes, first_by, first_packet, keep_by, handle_by, brought, refuse_of, sealed}
use Rattle.model.specs.Runs.{Setup, Endpoint, config, supply_at, Call, handles, labelled, World, outcome_of, after, answer_next}
use Rattle.model.specs.Rfc9000
use Rattle.model.specs.Rfc9000.{LongEnough, EndsWith, StatelessReset, Matches, has_identifier, has_first_identifier, has_addresses, has_token, Awaited, AsAsked, KeepsToRfc9000, RefusedAsAsked, RefusesByRfc9000}
use Rattle.model.proofs.Naming.{none_some}
use Rattle.model.proofs.Draws.{row_length}
use Rattle.model.proofs.Steps.{first_passed, or_none_right}

-- ## The last 16 bytes

pub last_token : (p t : List ℕ) → length t ≡ 16 → last_16 (p ++ t) ≡ t
last_token p t e = drop_at p t (length (p ++ t) - 16) (omega (arith, length-append p t))

pub ends_with_last : (bytes t : List ℕ) → EndsWith bytes t → last_16 bytes ≡ t
ends_with_last bytes t e = ap last_16 e.whole ∙ last_token e.front t e.sixteen

pub ends_with_size : (bytes t : List ℕ) → EndsWith bytes t → 16 ≤ length bytes
ends_with_size bytes t e = omega (arith, ap length e.whole, length-append e.front t, e.sixteen)

last_ends : (bytes : List ℕ) → 16 ≤ length bytes → EndsWith bytes (last_16 bytes)
last_ends bytes l = record {
  front = take (length bytes - 16) bytes;
  whole = sym (take-append-drop (length bytes - 16) bytes);
  sixteen = length-drop (length bytes - 16) bytes ∙ omega arith;
}

-- ## Ways through the routes

or_else_cases : {A : Type 0} (o p : Option A) (t : A) → or_else o p ≡ Some t → (o ≡ Some t) ⊎ (p ≡ Some t)
or_else_cases None p t e = inr e
or_else_cases (Some a) p t e = inl e

toward_is : (o : Option ℕ) (h : ℕ) → toward o ≡ Some (to_connection h) → o ≡ Some h
toward_is None h e = absurd (none_some (to_connection h) e)
toward_is (Some k) h e = cc

pub cond_none_left : {A : Type 0} (b : Bool) (o : Option A) (t : A) → cond b None o ≡ Some t → (b ≡ false) × (o ≡ Some t)
cond_none_left true o t e = absurd (none_some t e)
cond_none_left false o t e = (refl, e)

cond_none_right : {A : Type 0} (b : Bool) (o : Option A) (t : A) → cond b o None ≡ Some t → (b ≡ true) × (o ≡ Some t)
cond_none_right false o t e = absurd (none_some t e)
cond_none_right true o t e = (refl, e)

module _ (s : State) (d : Datagram) where
  matches : (h : ℕ) → route s d ≡ Some (to_connection h) → Matches s d h
  matches h e = elim (or_else_cases (held_route s d) _ (to_connection h) e) [
    | inl p ↦
        (let r = cond_none_left (empty d.dst) (toward (s.ids d.dst)) (to_connection h) p in
        has_identifier r.0 (toward_is (s.ids d.dst) h r.1))
    | inr p ↦ elim (or_else_cases (initial_route s d) _ (to_connection h) p) [
      | inl q ↦
          (let r = cond_none_right (is_early d.kind) (s.initial d.dst) (to_connection h) q in
          has_first_identifier r.0 r.1)
      | inr q ↦ elim (or_else_cases (pair_route s d) (sender_route s d) (to_connection h) q) [
        | inl z ↦
            (let r = cond_none_right (empty d.dst) (toward (s.pairs d.addresses)) (to_connection h) z in
            has_addresses r.0 (toward_is (s.pairs d.addresses) h r.1))
        | inr z ↦
            (let r = cond_none_right (leb 16 (size d)) (toward (s.senders (sender_of d))) (to_connection h) z in
            has_token (last_16 d.bytes) (last_ends d.bytes (leb-true 16 (size d) r.0)) (toward_is (s.senders (sender_of d)) h r.1))
      ]
    ]
  ]

  awaited : (n : ℕ) → route s d ≡ Some (to_attempt n) → Awaited s d n
  awaited n e = grind (arith, nat_tests)

  unmatched : route s d ≡ None → (h : ℕ) → Matches s d h → ⊥
  unmatched e h (has_identifier u m) = grind (arith, nat_tests)
  unmatched e h (has_first_identifier u m) = grind (arith, nat_tests)
  unmatched e h (has_addresses u m) = grind (arith, nat_tests)
  unmatched e h (has_token t u m) =
      grind (arith, nat_tests, le-leb 16 (size d) (ends_with_size d.bytes t u), ends_with_size d.bytes t u, ends_with_last d.bytes t u, or_none_right (pair_route s d), or_none_right (initial_route s d), or_none_right (held_route s d))

-- ## The form of a reset

marked_length : (bs : List ℕ) → length (marked bs) ≡ length bs
marked_length [] = refl
marked_length (b ∷ bs) = refl

padding_length : (f : ℕ → ℕ) (i n : ℕ) → length (marked (row f i n)) ≡ n
padding_length f i n = marked_length (row f i n) ∙ row_length f i n

module _ (f : ℕ → ℕ) (fit : (i : ℕ) → f i < 256) (i : ℕ) where
  fixed : (n : ℕ) (t : List ℕ) → 0 < n → get_or (marked (row f i n) ++ t) 0 0 / 64 ≡ 1
  fixed zero t l = absurd (omega arith)
  fixed (suc n) t l = let b : f i < 256 = fit i in omega arith

  form : (size n : ℕ) (t : List ℕ) → length t ≡ 16 → 5 ≤ n → (size ≤ 43 → n + 17 ≡ size) → n + 16 < size → StatelessReset size (marked (row f i n) ++ t) t
  form size n t l five less fewer =
      let long : length (marked (row f i n) ++ t) ≡ n + 16 = length-append (marked (row f i n)) t ∙ ap₂ ◌+◌ (padding_length f i n) l in
      grind (arith, nat_tests, long)

  drawn : (j n : ℕ) → i ≡ j → marked (row f i n) ≡ marked (row f j (length (marked (row f i n))))
  drawn j n e = ap₂ {C = List ℕ} (λ a b. marked (row f a b)) e (sym (padding_length f i n))

-- ## Every answer of `handle`

module _ (c : Config) (u : Supply) (token : Id → Token) (s : State) (d : Datagram) (fit : (i : ℕ) → u.next_byte i < 256) (wide : (x : Id) → length (token x) ≡ 16) where
  abbrev Asked : Outcome → Type 0
  Asked o = AsAsked c u token s d (sealed token o.answer)

  module _ (off : route s d ≡ None) where
    reset_asked : is_short d.kind ≡ true → 22 ≤ size d → (b : Bool) → leb (size d - 17) 26 ≡ b → Asked (reset_by u s d b)
    reset_asked short large true e =
        let few : size d - 17 ≤ 26 = leb-true (size d - 17) 26 e in
        record {
          short = short;
          unmatched = unmatched s d off;
          addresses = refl;
          identifier = refl;
          form = form u.next_byte fit 0 (size d) (size d - 17) (token d.dst) (wide d.dst) (omega arith) (λ _. omega arith) (omega arith);
          drawn = drawn u.next_byte fit 0 (cond (leb (size d) 43) 0 8) (size d - 17) (ap (λ b. cond b 0 8) (sym (le-leb (size d) 43 (omega arith))));
        }
    reset_asked short large false e =
        let many : 26 < size d - 17 = leb-false (size d - 17) 26 e in
        let pick : ℕ = number_of (row u.next_byte 0 8) % (size d - 42) in
        let below : pick < size d - 42 = mod-lt (number_of (row u.next_byte 0 8)) (omega arith) in
        record {
          short = short;
          unmatched = unmatched s d off;
          addresses = refl;
          identifier = refl;
          form = form u.next_byte fit 8 (size d) (25 + pick) (token d.dst) (wide d.dst) (omega arith) (λ k. absurd (omega arith)) (omega arith);
          drawn = drawn u.next_byte fit 8 (cond (leb (size d) 43) 0 8) (25 + pick) (ap (λ b. cond b 0 8) (sym (lt-leb (size d) 43 (omega arith))));
        }

    stray_asked : (o : Option ℕ) → first_cause (stray_causes c u s d) ≡ o → Asked (stray_by u s d o)
    stray_asked (Some n) e = tt
    stray_asked None e =
        let p = first_passed (stray_causes c u s d) e in
        reset_asked (not-false (is_short d.kind) p.0) (ltb-false (size d) 22 p.1.1.1.1.0) (leb (size d - 17) 26) refl

    module _ (initial : is_initial d.kind ≡ true) (large : 1200 ≤ size d) where
      first : Rfc9000.First s d
      first = record { initial = initial; unmatched = unmatched s d off; large = large }

      long_enough : bad_length c d ≡ false → LongEnough c.len d
      long_enough e = grind (arith, nat_tests)

      too_short : bad_length c d ≡ true → LongEnough c.len d → ⊥
      too_short e l = grind (arith, nat_tests)

      open_asked : LongEnough c.len d → (o : Opens) → c.door.opens d ≡ o → Asked (open_by u s d o)
      open_asked long (Err Closed) e = tt
      open_asked long (Err ReservedBits) e = tt
      open_asked long (Err BadToken) e = record { first = first; back = record { addresses = refl; version = refl; peer = refl }; code = inr (refl, e) }
      open_asked long (Ok o) e = (first, long)

      length_asked : Asked (cond (bad_length c d) (close_now u s 0x0a d) (open_by u s d (c.door.opens d)))
      length_asked = cond_both (bad_length c d) (close_now u s 0x0a d) (open_by u s d (c.door.opens d)) Asked
          (λ e. record { first = first; back = record { addresses = refl; version = refl; peer = refl }; code = inl (refl, too_short e) })
          (λ e. open_asked (long_enough e) (c.door.opens d) refl)

    first_asked : is_initial d.kind ≡ true → (o : Option ℕ) → first_cause (first_causes c s d) ≡ o → Asked (first_by c u s d o)
    first_asked initial (Some n) e = tt
    first_asked initial None e = length_asked initial (ltb-false (size d) 1200 (first_passed (first_causes c s d) e).0)

  keep_asked : (n : ℕ) → route s d ≡ Some (to_attempt n) → (o : Option ℕ) → Asked (keep_by s d n o)
  keep_asked n e (Some k) = tt
  keep_asked n e None = awaited s d n e

  asked_by : (o : Option Target) → route s d ≡ o → Asked (handle_by c u s d o)
  asked_by (Some (to_connection h)) e = matches s d h e
  asked_by (Some (to_attempt n)) e = keep_asked n e _
  asked_by None e = cond_both (is_initial d.kind) (first_packet c u s d) (stray c u s d) Asked (λ i. first_asked e i _ refl) (λ _. stray_asked e _ refl)

pub keeps_to_rfc9000 : (c : Config) (u : Supply) (token : Id → Token) (s : State) (d : Datagram) (room : ℕ) →
    ((i : ℕ) → u.next_byte i < 256) → ((x : Id) → length (token x) ≡ 16) → KeepsToRfc9000 c u token s d room
keeps_to_rfc9000 c u token s d room fit wide = grind (arith, nat_tests, asked_by c u token s d fit wide (route s d) refl)

pub token_length : (signer : List ℕ → List ℕ) → ((message : List ℕ) → length (signer message) ≡ 32) → (x : Id) → length (token_of signer x) ≡ 16
token_length signer long x = length-take 16 (signer (id_bytes x)) ∙ ap (min 16) (long (id_bytes x))

-- the same after any list of calls on a new endpoint
pub answers_as_asked : (E : Endpoint) (calls : List Call) (d : Datagram) (room : ℕ) →
    let U : Setup = E.setup in
    let w : World = after U (labelled calls) in
    AsAsked (config U) (supply_at U w) (token_of E.signer) w.state d (answer_next E (labelled calls) (handles d room))
unfolding outcome_of
answers_as_asked E calls d room =
    let U : Setup = E.setup in
    let w : World = after U (labelled calls) in
    keeps_to_rfc9000 (config U) (supply_at U w) (token_of E.signer) w.state d room (λ i. U.bytes_fit (w.bytes_used + i)) (token_length E.signer E.long)

-- ## Every answer of `refuse`

refuse_asked : (c : Config) (u : Supply) (s : State) (a : Incoming) (o : Option Waiting) → brought c s a ≡ o → RefusedAsAsked c s a (refuse_of u s o).answer
refuse_asked c u s a None e = tt
refuse_asked c u s a (Some w) e = (w, e, record { addresses = refl; version = refl; peer = refl }, refl)

pub refuses_by_rfc9000 : (c : Config) (u : Supply) (s : State) (a : Incoming) → RefusesByRfc9000 c u s a
refuses_by_rfc9000 c u s a = refuse_asked c u s a (brought c s a) refl
