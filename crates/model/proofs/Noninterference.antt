-- A list of calls, and the list without what came to nothing: every call in both is answered alike.
use Rattle.std.proofs.lemmas.Bool.Decides.{nat_tests}
use Rattle.std.proofs.Common.{◌≡◌, ℕ, suc, ◌+◌, ◌<◌, Bool, true, false, cond, ◌&&◌, List, [], ◌∷◌, ◌++◌, map, length, Option, sym, refl, ap, ◌∙◌, subst, ap₂, subst₂, inl, inr, arith, length-append}
use Rattle.std.proofs.lemmas.Bool.{or_left, or_right}
use Rattle.model.specs.Records.{Id, Answer}
use Rattle.supply.specs.Meaning.{token_of}
use Rattle.model.specs.Endpoint.{State, Outcome, row, with_waiting}
use Rattle.model.specs.Calls.{sealed}
use Rattle.model.specs.Runs.{Endpoint, config, supply_at, Call, Labelled, labelled, Entry, World, brings, slots_after, outcome, outcome_of, after, entry, history}
use Rattle.model.specs.Words
use Rattle.model.specs.Words.{came_to_nothing, about, left_out, remaining, attempts, attempts_remaining, recalled, drawn_ids, drawn_bytes, slotless, show, Shown}
use Rattle.model.specs.Theorem
use Rattle.model.specs.Theorem.{SameValid, Noninterference}
use Rattle.model.proofs.Sound.{Sound}
use Rattle.model.proofs.Routing.{Kept, kept_more, kept_next, kept_new, always}
use Rattle.model.proofs.Match.{none}
use Rattle.model.proofs.Draws.{row_length, row_shift, row_front}
use Rattle.model.proofs.Twins.{core_of, Rest, Verdict, every_verdict}
use Rattle.model.proofs.Fates.{accepted_in, nothing_sealed, accepted_sealed, fates}

module _ (E F : Endpoint) (like : Theorem.Alike E F) (positive : 0 < E.setup.generator.len) (all : List Entry) where
  abbrev doomed : ℕ → Bool
  doomed = came_to_nothing all

  abbrev draw₂ : ℕ → Id
  draw₂ = F.setup.generator.draw

  abbrev byte₂ : ℕ → ℕ
  byte₂ = F.setup.source

  abbrev first_world : List Call → World
  first_world calls = after E.setup (labelled calls)

  abbrev told_of : List Call → List Entry
  told_of calls = history E (labelled calls)

  abbrev second_world : List Entry → World
  second_world r = after F.setup (recalled r)

  -- the two endpoints after a list, r being what remains of it
  record Twinned (n : ℕ) (told : List Entry) (w : World) (r : List Entry) (ats : List (Option ℕ)) : Type 0 where
    kept : Kept F (recalled r) n
    shown : map (show slotless) (history F (recalled r)) ≡ map (show slotless) r
    meant : attempts (history F (recalled r)) ≡ ats
    core : core_of (second_world r).state ≡ core_of w.state
    rest : Rest doomed w.slots (second_world r).slots w.state.initial (second_world r).state.initial w.state.waiting (second_world r).state.waiting
    ids : (second_world r).ids_used ≡ length (drawn_ids r)
    bytes : (second_world r).bytes_used ≡ length (drawn_bytes r)
    first_ids : w.ids_used ≡ length (drawn_ids told)

  -- the second's supplies begin with what was drawn
  record Prefix (r : List Entry) : Type 0 where
    ids : row draw₂ 0 (length (drawn_ids r)) ≡ drawn_ids r
    bytes : row byte₂ 0 (length (drawn_bytes r)) ≡ drawn_bytes r

  record More (r : List Entry) (e : Entry) : Type 0 where
    ids : row draw₂ (length (drawn_ids r)) (length e.ids) ≡ e.ids
    bytes : row byte₂ (length (drawn_bytes r)) (length e.bytes) ≡ e.bytes

  prefix_less : (r : List Entry) (e : Entry) → Prefix (e ∷ r) → Prefix r × More r e
  prefix_less r e p =
      let i = row_front draw₂ (drawn_ids r) e.ids p.ids (length-append (drawn_ids r) e.ids) in
      let b = row_front byte₂ (drawn_bytes r) e.bytes p.bytes (length-append (drawn_bytes r) e.bytes) in
      (record { ids = i.0; bytes = b.0 }, record { ids = i.1; bytes = b.1 })

  prefix_down : (b : Bool) (r : List Entry) (e : Entry) → Prefix (cond b r (e ∷ r)) → Prefix r
  prefix_down true r e p = p
  prefix_down false r e p = (prefix_less r e p).0

  same_config : config F.setup ≡ config E.setup
  same_config = λ i. record { settings = like.settings i; places = like.places i; number = like.number i; len = like.len i; door = like.door i }

  same_token : token_of F.signer ≡ token_of E.signer
  same_token = ap token_of like.signer

  begin : Twinned 0 [] (first_world []) [] []
  unfolding after history
  begin = record {
    kept = kept_new F 0;
    shown = refl;
    meant = refl;
    core = refl;
    rest = record { entries = λ x. tt; match = none; slots = λ k e. tt };
    ids = refl;
    bytes = refl;
    first_ids = refl;
  }

  module _ (c : Call) (earlier : List Call) (r : List Entry) (ats : List (Option ℕ)) (I : Twinned (length earlier) (told_of earlier) (first_world earlier) r ats) where
    abbrev n : ℕ
    n = length earlier

    abbrev w : World
    w = first_world earlier

    abbrev w₂ : World
    w₂ = second_world r

    abbrev it : Labelled
    it = record { label = n; call = c }

    abbrev o : Outcome
    o = outcome E.setup w c

    abbrev e : Entry
    e = entry E w it

    abbrev mine : Option ℕ
    mine = about (told_of earlier) e.label e.call e.answer

    abbrev mixed : State
    mixed = with_waiting w.state w₂.state.waiting w₂.state.free_slots w₂.state.initial

    same_state : w₂.state ≡ mixed
    same_state = grind (arith, nat_tests)

    sound₂ : Sound E.setup.generator.len mixed
    sound₂ = subst₂ (λ (l : ℕ) (s : State). Sound l s) like.len same_state I.kept.sound

    abbrev next₂ : ℕ → Id
    next₂ i = draw₂ (w₂.ids_used + i)

    abbrev next_byte₂ : ℕ → ℕ
    next_byte₂ i = byte₂ (w₂.bytes_used + i)

    abbrev VerdictType : Type 0
    VerdictType = Verdict doomed (token_of E.signer) (config E.setup) E.setup.few positive (supply_at E.setup w) next₂ next_byte₂ w.state w.slots n (told_of earlier) (history F (recalled r))
        w₂.state.initial w₂.state.waiting w₂.state.free_slots w₂.slots (always E earlier).sound (always E earlier).agrees.placing sound₂ I.kept.agrees.placing I.rest c o
        (outcome_of (config E.setup) (record { next_id = next₂; next_byte = next_byte₂; valid = (supply_at E.setup w).valid }) mixed w₂.slots c)

    verdict : ((k : ℕ) → came_to_nothing (e ∷ told_of earlier) k ≡ true → doomed k ≡ true) → ((k : ℕ) → accepted_in (e ∷ told_of earlier) k ≡ true → doomed k ≡ false) → VerdictType
    verdict D₁ D₂ = every_verdict doomed (token_of E.signer) (config E.setup) E.setup.few positive (supply_at E.setup w) next₂ next_byte₂ w.state w.slots n (told_of earlier) (history F (recalled r))
        w₂.state.initial w₂.state.waiting w₂.state.free_slots w₂.slots (always E earlier).sound (always E earlier).agrees.placing sound₂ I.kept.agrees.placing I.rest c
        (λ k z. D₁ k (or_left _ _ (ap (λ b. b && brings k c) (nothing_sealed (token_of E.signer) o.answer) ∙ z)))
        (λ k z. D₂ k (or_left _ _ (ap (λ b. b && brings k c) (accepted_sealed (token_of E.signer) o.answer) ∙ z)))

    more_ids : w.ids_used + o.ids_drawn ≡ length (drawn_ids (told_of earlier) ++ e.ids)
    more_ids =
        let a : length (drawn_ids (told_of earlier) ++ e.ids) ≡ length (drawn_ids (told_of earlier)) + length e.ids = length-append (drawn_ids (told_of earlier)) e.ids in
        let b : length e.ids ≡ o.ids_drawn = row_length (supply_at E.setup w).next_id 0 o.ids_drawn in
        let d : w.ids_used ≡ length (drawn_ids (told_of earlier)) = I.first_ids in
        omega arith

    same_supply : ((x : Id) → F.setup.generator.valid (length (drawn_ids r)) x ≡ E.setup.generator.valid (length (drawn_ids (told_of earlier))) x) →
        supply_at F.setup w₂ ≡ record { next_id = next₂; next_byte = next_byte₂; valid = (supply_at E.setup w).valid }
    same_supply v = grind (arith, nat_tests)

    same_outcome : ((x : Id) → F.setup.generator.valid (length (drawn_ids r)) x ≡ E.setup.generator.valid (length (drawn_ids (told_of earlier))) x) →
        outcome F.setup w₂ c ≡ outcome_of (config E.setup) (record { next_id = next₂; next_byte = next_byte₂; valid = (supply_at E.setup w).valid }) mixed w₂.slots c
    same_outcome v = λ i. outcome_of (same_config i) (same_supply v i) (same_state i) w₂.slots c

    drawn_ids_same : More r e → row next₂ 0 o.ids_drawn ≡ row (supply_at E.setup w).next_id 0 o.ids_drawn
    drawn_ids_same m =
        row_shift draw₂ w₂.ids_used 0 o.ids_drawn
        ∙ ap₂ {C = List Id} (λ i k. row draw₂ i k) (let a : w₂.ids_used ≡ length (drawn_ids r) = I.ids in omega arith) (sym (row_length (supply_at E.setup w).next_id 0 o.ids_drawn))
        ∙ m.ids

    drawn_bytes_same : More r e → row next_byte₂ 0 o.bytes_drawn ≡ row (supply_at E.setup w).next_byte 0 o.bytes_drawn
    drawn_bytes_same m =
        row_shift byte₂ w₂.bytes_used 0 o.bytes_drawn
        ∙ ap₂ {C = List ℕ} (λ i k. row byte₂ i k) (let a : w₂.bytes_used ≡ length (drawn_bytes r) = I.bytes in omega arith) (sym (row_length (supply_at E.setup w).next_byte 0 o.bytes_drawn))
        ∙ m.bytes

    step : (valid : left_out all (told_of earlier) e ≡ false → (x : Id) → F.setup.generator.valid (length (drawn_ids r)) x ≡ E.setup.generator.valid (length (drawn_ids (told_of earlier))) x) →
        Prefix (cond (left_out all (told_of earlier) e) r (e ∷ r)) → VerdictType → Twinned (suc n) (e ∷ told_of earlier) (first_world (c ∷ earlier)) (cond (left_out all (told_of earlier) e) r (e ∷ r)) (cond (left_out all (told_of earlier) e) ats (mine ∷ ats))
    unfolding after history
    step valid p (inl L) = subst (λ (b : Bool). Twinned (suc n) (e ∷ told_of earlier) (first_world (c ∷ earlier)) (cond b r (e ∷ r)) (cond b ats (mine ∷ ats))) (sym L.out) (record {
      kept = kept_more F (recalled r) n (suc n) (omega arith) I.kept;
      shown = I.shown;
      meant = I.meant;
      core = I.core ∙ sym L.core;
      rest = L.rest;
      ids = I.ids;
      bytes = I.bytes;
      first_ids = more_ids;
    })
    step valid p (inr K) =
        let m : More r e = (prefix_less r e (subst (λ (b : Bool). Prefix (cond b r (e ∷ r))) K.0 p)).1 in
        let X = K.1 (record { ids = drawn_ids_same m; bytes = drawn_bytes_same m }) in
        let same = same_outcome (valid K.0) in
        subst (λ (b : Bool). Twinned (suc n) (e ∷ told_of earlier) (first_world (c ∷ earlier)) (cond b r (e ∷ r)) (cond b ats (mine ∷ ats))) (sym K.0) (record {
          kept = kept_next F it (recalled r) I.kept;
          shown = ap₂ {B = List Shown} (λ a t. Words.shown n c a ∷ t) (ap₂ {C = Answer} (λ tk (x : Outcome). slotless (sealed tk x.answer)) same_token same ∙ X.answer) I.shown;
          meant = ap₂ {C = List (Option ℕ)} (λ a t. a ∷ t) (ap₂ {C = Option ℕ} (λ tk (x : Outcome). about (history F (recalled r)) n c (sealed tk x.answer)) same_token same ∙ X.meant) I.meant;
          core = ap (λ (x : Outcome). core_of x.state) same ∙ X.core;
          rest = subst (λ (x : Outcome). Rest doomed (slots_after w.slots n c o.answer) (slots_after w₂.slots n c x.answer) o.state.initial x.state.initial o.state.waiting x.state.waiting)
              (sym same) X.rest;
          ids =
              (let a : (outcome F.setup w₂ c).ids_drawn ≡ o.ids_drawn = ap (λ (x : Outcome). x.ids_drawn) same ∙ X.ids in
              let b : length (drawn_ids r ++ e.ids) ≡ length (drawn_ids r) + length e.ids = length-append (drawn_ids r) e.ids in
              let d : length e.ids ≡ o.ids_drawn = row_length (supply_at E.setup w).next_id 0 o.ids_drawn in
              let f : w₂.ids_used ≡ length (drawn_ids r) = I.ids in
              ap₂ ◌+◌ f a ∙ ap (λ k. length (drawn_ids r) + k) (sym d) ∙ sym b);
          bytes =
              (let a : (outcome F.setup w₂ c).bytes_drawn ≡ o.bytes_drawn = ap (λ (x : Outcome). x.bytes_drawn) same ∙ X.bytes in
              let b : length (drawn_bytes r ++ e.bytes) ≡ length (drawn_bytes r) + length e.bytes = length-append (drawn_bytes r) e.bytes in
              let d : length e.bytes ≡ o.bytes_drawn = row_length (supply_at E.setup w).next_byte 0 o.bytes_drawn in
              let f : w₂.bytes_used ≡ length (drawn_bytes r) = I.bytes in
              ap₂ ◌+◌ f a ∙ ap (λ k. length (drawn_bytes r) + k) (sym d) ∙ sym b);
          first_ids = more_ids;
        })

  twinned : (calls : List Call) → ((k : ℕ) → came_to_nothing (told_of calls) k ≡ true → doomed k ≡ true) → ((k : ℕ) → accepted_in (told_of calls) k ≡ true → doomed k ≡ false) →
      Prefix (remaining all (told_of calls)) → SameValid E F all (told_of calls) → Twinned (length calls) (told_of calls) (first_world calls) (remaining all (told_of calls)) (attempts_remaining all (told_of calls))
  unfolding history
  twinned [] D₁ D₂ p v = begin
  twinned (c ∷ earlier) D₁ D₂ p v =
      let t : List Entry = told_of earlier in
      let e : Entry = entry E (first_world earlier) (record { label = length earlier; call = c }) in
      let I : Twinned (length earlier) t (first_world earlier) (remaining all t) (attempts_remaining all t) =
      twinned earlier (λ k z. D₁ k (or_right _ _ z)) (λ k z. D₂ k (or_right _ _ z)) (prefix_down (left_out all t e) (remaining all t) e p) v.1 in
      step c earlier (remaining all t) (attempts_remaining all t) I v.0 p (verdict c earlier (remaining all t) (attempts_remaining all t) I D₁ D₂)

pub noninterference : (E : Endpoint) (calls : List Call) → Noninterference E calls
noninterference E calls F like positive given =
    let all : List Entry = history E (labelled calls) in
    let t = twinned E F like positive all calls (λ k z. z) (λ k z. (fates E calls).once k z) (record { ids = given.ids; bytes = given.bytes }) given.valid in
    (t.shown, t.meant)
