-- An attempt is spent once: none that was accepted came to nothing.
use Rattle.std.proofs.Common.{◌≡◌, ℕ, suc, ◌<◌, ◌≤◌, Bool, true, false, cond, ◌&&◌, ◌||◌, List, [], ◌∷◌, length, Some, None, Option, sym, refl, ap, ◌∙◌, inl, inr, arith}
use Rattle.std.proofs.lemmas.Bool.{cond_both, both_ways, eqb-true, and_parts, or_from, or_cases, cases_Bool}
use Rattle.std.proofs.lemmas.Bool.Decides.{nat_tests}
use Rattle.model.specs.Records.{Id, Token, Incoming, Answer, refused, delivered, stored, opened, closing, reset, accepted, failed, ignored, issued, done}
use Rattle.supply.specs.Meaning.{token_of}
use Rattle.model.specs.Endpoint.{State, Config, Supply, Outcome}
use Rattle.model.specs.Calls
use Rattle.model.specs.Calls.{sealed}
use Rattle.model.specs.Runs
use Rattle.model.specs.Runs.{Endpoint, own, foreign, Call, handles, accepts, refuses, ignores, handles_event, labelled, Entry, World, brings, spent_by, opened_slot, put_slot, slots_after, in_hand, with_attempt, outcome_of, after, history}
use Rattle.model.specs.Words.{to_nothing, came_to_nothing}
use Rattle.model.proofs.Naming.{none_some}
use Rattle.model.proofs.Routing.{always}
use Rattle.model.proofs.Twins.{is_accepted}

abbrev pub accepted_in : List Entry → ℕ → Bool
accepted_in [] k = false
accepted_in (e ∷ told) k = (is_accepted e.answer && brings k e.call) || accepted_in told k

pub nothing_sealed : (token : Id → Token) (a : Answer) → to_nothing (sealed token a) ≡ to_nothing a
nothing_sealed token (refused c) = refl
nothing_sealed token (delivered h) = refl
nothing_sealed token (stored s) = refl
nothing_sealed token (opened s o) = refl
nothing_sealed token (closing c) = refl
nothing_sealed token (reset a x p t) = refl
nothing_sealed token (accepted h gs seed ds) = refl
nothing_sealed token (failed c k) = refl
nothing_sealed token ignored = refl
nothing_sealed token (issued gs) = refl
nothing_sealed token done = refl

pub accepted_sealed : (token : Id → Token) (a : Answer) → is_accepted (sealed token a) ≡ is_accepted a
accepted_sealed token (refused c) = refl
accepted_sealed token (delivered h) = refl
accepted_sealed token (stored s) = refl
accepted_sealed token (opened s o) = refl
accepted_sealed token (closing c) = refl
accepted_sealed token (reset a x p t) = refl
accepted_sealed token (accepted h gs seed ds) = refl
accepted_sealed token (failed c k) = refl
accepted_sealed token ignored = refl
accepted_sealed token (issued gs) = refl
accepted_sealed token done = refl

-- what an answer says of the attempt that its call brought
pub record Says (a : Answer) : Type 0 where
  pub nothing : to_nothing a ≡ true → spent_by a ≡ true
  pub success : is_accepted a ≡ true → spent_by a ≡ true
  pub apart : is_accepted a ≡ true → to_nothing a ≡ false
  pub opening : (m : ℕ) → opened_slot a ≡ Some m → (to_nothing a ≡ false) × (is_accepted a ≡ false)

says : (a : Answer) → Says a
says (refused c) = record { nothing = λ e. e; success = λ e. e; apart = λ e. refl; opening = λ m e. (refl, refl) }
says (delivered h) = record { nothing = λ e. refl; success = λ e. refl; apart = λ e. refl; opening = λ m e. (refl, refl) }
says (stored s) = record { nothing = λ e. refl; success = λ e. refl; apart = λ e. refl; opening = λ m e. (refl, refl) }
says (opened s o) = record { nothing = λ e. refl; success = λ e. refl; apart = λ e. refl; opening = λ m e. (refl, refl) }
says (closing c) = record { nothing = λ e. refl; success = λ e. refl; apart = λ e. absurd (both_ways false refl e); opening = λ m e. absurd (none_some m e) }
says (reset a x p t) = record { nothing = λ e. refl; success = λ e. refl; apart = λ e. refl; opening = λ m e. (refl, refl) }
says (accepted h gs seed ds) = record { nothing = λ e. refl; success = λ e. refl; apart = λ e. refl; opening = λ m e. absurd (none_some m e) }
says (failed c k) = record { nothing = λ e. refl; success = λ e. refl; apart = λ e. absurd (both_ways false refl e); opening = λ m e. absurd (none_some m e) }
says ignored = record { nothing = λ e. refl; success = λ e. refl; apart = λ e. absurd (both_ways false refl e); opening = λ m e. absurd (none_some m e) }
says (issued gs) = record { nothing = λ e. refl; success = λ e. refl; apart = λ e. refl; opening = λ m e. (refl, refl) }
says done = record { nothing = λ e. refl; success = λ e. refl; apart = λ e. refl; opening = λ m e. (refl, refl) }

and_stronger : (x y b : Bool) → (x ≡ true → y ≡ true) → (x && b) ≡ true → (y && b) ≡ true
and_stronger true y b i e = ap (λ z. z && b) (i refl) ∙ e
and_stronger false y b i e = absurd (both_ways false refl e)

held : (c : Config) (s : State) (f : ℕ → Option ℕ) (j k : ℕ) (F : Incoming → Outcome) (o : Option ℕ) → f j ≡ o → spent_by (with_attempt s F (in_hand c.number o)).answer ≡ true → k ≡ j → (m : ℕ) × (f k ≡ Some m)
held c s f j k F None z e i = absurd (both_ways false refl e)
held c s f j k F (Some m) z e i = (m, ap f i ∙ z)

-- only an attempt that the host holds is spent
spends_held : (c : Config) (u : Supply) (s : State) (f : ℕ → Option ℕ) (call : Call) (k : ℕ) → (spent_by (outcome_of c u s f call).answer && brings k call) ≡ true → (m : ℕ) × (f k ≡ Some m)
unfolding outcome_of
spends_held c u s f (handles d room) k e = absurd (both_ways false refl (and_parts _ _ e).1)
spends_held c u s f (accepts (own j) now given room) k e = held c s f j k (λ i. Calls.accept c u s i now given room) (f j) refl (and_parts _ _ e).0 (eqb-true k j (and_parts _ _ e).1)
spends_held c u s f (accepts (foreign i) now given room) k e = absurd (both_ways false refl (and_parts _ _ e).1)
spends_held c u s f (refuses (own j)) k e = held c s f j k (λ i. Calls.refuse c u s i) (f j) refl (and_parts _ _ e).0 (eqb-true k j (and_parts _ _ e).1)
spends_held c u s f (refuses (foreign i)) k e = absurd (both_ways false refl (and_parts _ _ e).1)
spends_held c u s f (ignores (own j)) k e = held c s f j k (λ i. Calls.ignore c s i) (f j) refl (and_parts _ _ e).0 (eqb-true k j (and_parts _ _ e).1)
spends_held c u s f (ignores (foreign i)) k e = absurd (both_ways false refl (and_parts _ _ e).1)
spends_held c u s f (handles_event h ev) k e = absurd (both_ways false refl (and_parts _ _ e).1)

-- what is told so far of the attempts by their labels
pub record Fate (told : List Entry) (slots : ℕ → Option ℕ) (n : ℕ) : Type 0 where
  pub opened_yet : (k m : ℕ) → slots k ≡ Some m → (came_to_nothing told k ≡ false) × (accepted_in told k ≡ false)
  pub once : (k : ℕ) → accepted_in told k ≡ true → came_to_nothing told k ≡ false
  pub later : (k : ℕ) → n ≤ k → (came_to_nothing told k ≡ false) × (accepted_in told k ≡ false)

module _ (token : Id → Token) (c : Config) (u : Supply) (s : State) (f : ℕ → Option ℕ) (n : ℕ) (told : List Entry) (low : (k m : ℕ) → f k ≡ Some m → k < n) (F : Fate told f n) (e : Entry)
    (is : e.answer ≡ sealed token (outcome_of c u s f e.call).answer) where
  abbrev a : Answer
  a = (outcome_of c u s f e.call).answer

  abbrev named : ℕ → Bool
  named k = brings k e.call

  its_nothing : to_nothing e.answer ≡ to_nothing a
  its_nothing = ap to_nothing is ∙ nothing_sealed token a

  its_success : is_accepted e.answer ≡ is_accepted a
  its_success = ap is_accepted is ∙ accepted_sealed token a

  quiet : (k : ℕ) → (spent_by a && named k) ≡ false → ((to_nothing e.answer && named k) ≡ false) × ((is_accepted e.answer && named k) ≡ false)
  quiet k z = grind (arith, nat_tests)

  still : (k : ℕ) → (spent_by a && named k) ≡ false → (came_to_nothing told k ≡ false) × (accepted_in told k ≡ false) → (came_to_nothing (e ∷ told) k ≡ false) × (accepted_in (e ∷ told) k ≡ false)
  still k z r = (or_from _ _ (quiet k z).0 r.0, or_from _ _ (quiet k z).1 r.1)

  next_later : (k : ℕ) → suc n ≤ k → (came_to_nothing (e ∷ told) k ≡ false) × (accepted_in (e ∷ told) k ≡ false)
  next_later k l = grind (arith, nat_tests, spends_held c u s f e.call k, still k, F.later k (omega arith))

  next_once : (k : ℕ) → accepted_in (e ∷ told) k ≡ true → came_to_nothing (e ∷ told) k ≡ false
  next_once k z = elim (or_cases _ _ z) [
    | inl now ↦
        (let both : (is_accepted a && named k) ≡ true = sym (ap (λ b. b && named k) its_success) ∙ now in
        let r = spends_held c u s f e.call k (and_stronger (is_accepted a) (spent_by a) (named k) (says a).success both) in
        or_from _ _ (ap (λ b. b && named k) (its_nothing ∙ (says a).apart (and_parts _ _ both).0)) (F.opened_yet k r.0 r.1).0)
    | inr before ↦ elim (cases_Bool (spent_by a && named k)) [
      | inl y ↦ absurd (let r = spends_held c u s f e.call k y in both_ways (accepted_in told k) (F.opened_yet k r.0 r.1).1 before)
      | inr y ↦ or_from _ _ (quiet k y).0 (F.once k before)
    ]
  ]

  open_old : (k m : ℕ) → cond (spent_by a && named k) None (f k) ≡ Some m → (came_to_nothing (e ∷ told) k ≡ false) × (accepted_in (e ∷ told) k ≡ false)
  open_old k m = cond_both (spent_by a && named k) None (f k) (λ o. o ≡ Some m → (came_to_nothing (e ∷ told) k ≡ false) × (accepted_in (e ∷ told) k ≡ false))
      (λ _ z. absurd (none_some m z)) (λ y z. still k y (F.opened_yet k m z))

  next_open_by : (o : Option ℕ) → opened_slot a ≡ o → (k m : ℕ) → put_slot (λ j. cond (spent_by a && named j) None (f j)) n o k ≡ Some m → (came_to_nothing (e ∷ told) k ≡ false) × (accepted_in (e ∷ told) k ≡ false)
  next_open_by None z k m = open_old k m
  next_open_by (Some t) z k m = grind (arith, nat_tests)

  next_fate : Fate (e ∷ told) (slots_after f n e.call a) (suc n)
  next_fate = record { opened_yet = next_open_by (opened_slot a) refl; once = next_once; later = next_later }

pub fates : (E : Endpoint) (calls : List Call) → Fate (history E (labelled calls)) (after E.setup (labelled calls)).slots (length calls)
unfolding after history
fates E [] = record { opened_yet = λ k m e. absurd (none_some m e); once = λ k e. absurd (both_ways false refl e); later = λ k l. (refl, refl) }
fates E (c ∷ earlier) =
    let w : World = after E.setup (labelled earlier) in
    next_fate (token_of E.signer) (Runs.config E.setup) (Runs.supply_at E.setup w) w.state w.slots (length earlier) (history E (labelled earlier)) (always E earlier).agrees.placing.label (fates E earlier)
    (Runs.entry E w (record { label = length earlier; call = c })) refl
