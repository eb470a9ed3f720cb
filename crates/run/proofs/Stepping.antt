-- What one call of a list leaves in the pool, and what it answers.
use Rattle.std.proofs.Common.{◌≡◌, ℕ, zero, suc, ◌<◌, Bool, true, false, cond, ◌&&◌, eqb, leb, List, length, get_or, set, Some, None, Ok, Err, Option, Result, sym, refl, ap, ◌∙◌, subst, inl, inr, arith}
use Rattle.std.proofs.lemmas.List.{get_or-set_same, get_or-set_other, get_or_past, set-set, set-get_or, length-set}
use Rattle.std.proofs.lemmas.Bool.{cond-true, cond-false, cond_both, cases_eq, cases_lt, eqb-true, eqb-false, ne_eqb, and_left, and_right}
use Rattle.records.specs.declared.cause.Cause.{Cause}
use Rattle.records.specs.declared.packet.Close.{Close}
use Rattle.records.specs.declared.incoming.Attempt.{Attempt}
use Rattle.records.specs.Ids.{no_id}
use Rattle.records.specs.Received.{Datagram}
use Rattle.supply.specs.declared.answers.Unopened.TheVariants.{Closed}
use Rattle.supply.specs.declared.answers.HandshakeError.TheVariants.{Other}
use Rattle.supply.specs.Meaning.{Supplied, token_of}
use Rattle.supply.proofs.Spending.{spent_none}
use Rattle.model.specs.Records.{Id, Token, Answer, refused, delivered, stored, opened, closing, reset, accepted, failed, ignored, issued, done}
use Rattle.model.specs.Endpoint.{Outcome, Waiting, is_none}
use Rattle.model.specs.Calls.{gives, sealed, handle, fits, ignore, ignore_of, brought}
use Rattle.model.specs.Runs as runs
use Rattle.model.specs.Runs.{outcome_of, opened_slot, put_slot, slots_after, spent_by, in_hand, incoming, with_attempt}
use Rattle.endpoint.specs.declared.handled.Handled.{Handled}
use Rattle.endpoint.specs.declared.handled.Handled.TheVariants as handled
use Rattle.endpoint.specs.declared.handled.HandedBack.{HandedBack}
use Rattle.endpoint.specs.State.{View, config_of, supply_of, Frame}
use Rattle.endpoint.specs.Answers.{answer_of, Numbered, Answered}
use Rattle.endpoint.specs.Ignoring.{Ignored, ignored_of, Back}
use Rattle.endpoint.proofs.Answering.{same_frame}
use Rattle.calls.specs.declared.call.Brought as code
use Rattle.calls.specs.declared.call.Brought.TheVariants.{Opened, Foreign}
use Rattle.calls.specs.declared.call.Call.TheVariants.{Handle, Ignore}
use Rattle.calls.specs.declared.answer.Answer as said
use Rattle.calls.specs.declared.answer.Answer.TheVariants as says
use Rattle.calls.specs.Lists.{Lent, attempt_of, arrived, room_of, call_of, answer_to}
use Rattle.run.specs.Pools.{all_none, Holds, StillEmpty, EmptyPast}
use Rattle.run.specs.Steps.{outcome, Stepped, noted, pooled, Ignores}

-- ## The pool

-- where an attempt is, not all places are empty
pub not_all_none : (pool : List (Option Attempt)) (n i : ℕ) → i < n → is_none (get_or pool i None) ≡ false → all_none pool n ≡ false
not_all_none pool zero i h e = absurd (omega arith)
not_all_none pool (suc n) i h e =
    elim (cases_eq i n) [
      | inl p ↦ and_left _ _ (ap (λ j. is_none (get_or pool j None)) (sym p) ∙ e)
      | inr q ↦ and_right (is_none (get_or pool n None)) _ (not_all_none pool n i (omega (arith, q)) e)
    ]

-- sealing opens the same slot
opens_sealed : (token : Id → Token) (a : Answer) → opened_slot (sealed token a) ≡ opened_slot a
opens_sealed token (refused c) = refl
opens_sealed token (delivered h) = refl
opens_sealed token (stored s) = refl
opens_sealed token (opened s o) = refl
opens_sealed token (closing c) = refl
opens_sealed token (reset a x p t) = refl
opens_sealed token (accepted h gs seed ds) = refl
opens_sealed token (failed c k) = refl
opens_sealed token ignored = refl
opens_sealed token (issued gs) = refl
opens_sealed token done = refl

-- a call that brings nothing leaves the slots but for what it opens
put_as : (f : ℕ → Option ℕ) (b : Bool) (i : ℕ) (o : Option ℕ) (k : ℕ) → put_slot (λ j. cond (b && false) None (f j)) i o k ≡ put_slot f i o k
put_as f true i None k = refl
put_as f false i None k = refl
put_as f true i (Some s) k = refl
put_as f false i (Some s) k = refl

-- a new attempt goes to its place
holds_put : (number : ℕ) (p : List (Option Attempt)) (i : ℕ) (slots : ℕ → Option ℕ) (a : Attempt) → a.number ≡ number → i < length p → Holds number p slots →
    Holds number (set p i (Some a)) (put_slot slots i (Some a.slot))
holds_put number p i slots a is w H k =
    cond_both (eqb i k) (Some a.slot) (slots k) (λ o. get_or (set p i (Some a)) k None ≡ in_hand number o)
    (λ t. ap (λ j. get_or (set p i (Some a)) j None) (sym (eqb-true i k t)) ∙ get_or-set_same p i (Some a) None w ∙ ap (λ n. Some (record { number = n; slot = a.slot })) is)
    (λ t. get_or-set_other p i k (Some a) None (λ e. eqb-false i k t (sym e)) ∙ H k)

-- a spent attempt leaves its place
holds_spent : (number : ℕ) (p : List (Option Attempt)) (k : ℕ) (slots : ℕ → Option ℕ) → k < length p → Holds number p slots →
    Holds number (set p k None) (λ j. cond (eqb j k) None (slots j))
holds_spent number p k slots w H j =
    cond_both (eqb j k) None (slots j) (λ o. get_or (set p k None) j None ≡ in_hand number o)
    (λ t. ap (λ i. get_or (set p k None) i None) (eqb-true j k t) ∙ get_or-set_same p k None None w)
    (λ t. get_or-set_other p k j None None (eqb-false j k t) ∙ H j)

-- to take an attempt that is not there changes nothing
pub took_none : (p : List (Option Attempt)) (k : ℕ) {p' : List (Option Attempt)} → p' ≡ set p k None → None ≡ get_or p k None → p' ≡ p
took_none p k took none = took ∙ ap (set p k) none ∙ set-get_or p k None

-- an empty place stays empty where nothing changes
pub still_same : {p p' : List (Option Attempt)} → p' ≡ p → StillEmpty p p'
still_same same k e = ap (λ q. get_or q k None) same ∙ e

-- and where an attempt is taken
pub still_taken : (p : List (Option Attempt)) (k : ℕ) {p' : List (Option Attempt)} → p' ≡ set p k None → StillEmpty p p'
still_taken p k took j e =
    ap (λ q. get_or q j None) took
    ∙ elim (cases_eq j k) as (λ _. get_or (set p k None) j None ≡ None) [
      | inl q ↦ elim (cases_lt k (length p)) as (λ _. get_or (set p k None) j None ≡ None) [
        | inl h ↦ ap (λ n. get_or (set p k None) n None) q ∙ get_or-set_same p k None None h
        | inr h ↦ get_or_past (set p k None) j None (simp length-set (omega (arith, q, h)))
      ]
      | inr q ↦ get_or-set_other p k j None None q ∙ e
    ]

-- and where it is put back
pub still_put : (p : List (Option Attempt)) (k : ℕ) (b : Attempt) {a : Attempt} {p' p'' : List (Option Attempt)} → p' ≡ set p k None → Some a ≡ get_or p k None → p'' ≡ set p' k (Some b) → StillEmpty p p''
still_put p k b took there put j e =
    ap (λ q. get_or q j None) (put ∙ ap (λ q. set q k (Some b)) took ∙ set-set p k None (Some b))
    ∙ elim (cases_eq j k) as (λ _. get_or (set p k (Some b)) j None ≡ None) [
      | inl q ↦ let z : ◌≡◌ {A = ℕ} 0 1 = cc in absurd (omega arith)
      | inr q ↦ get_or-set_other p k j (Some b) None q ∙ e
    ]

-- what is put back is where it was
put_back : (p : List (Option Attempt)) (k : ℕ) (b : Attempt) {a : Attempt} {p' p'' : List (Option Attempt)} → p' ≡ set p k None → Some a ≡ get_or p k None → p'' ≡ set p' k (Some b) → b ≡ a → p'' ≡ p
put_back p k b took there put same =
    put ∙ ap (λ q. set q k (Some b)) took ∙ set-set p k None (Some b) ∙ ap (set p k) (ap (λ x. Some x) same ∙ there) ∙ set-get_or p k None

-- ## `handle`

-- a new attempt at i changes no place past i
pub past_pooled : (r : Result Handled Cause) (p : List (Option Attempt)) (i : ℕ) {p' : List (Option Attempt)} → p' ≡ pooled r p i → EmptyPast i p p'
past_pooled r p i goes k h e = ap (λ q. get_or q k None) goes ∙ stays r
  where
    stays : (x : Result Handled Cause) → get_or (pooled x p i) k None ≡ None
    stays (Err c) = e
    stays (Ok (handled.Delivered n)) = e
    stays (Ok (handled.Kept s)) = e
    stays (Ok (handled.Opened a o)) = get_or-set_other p i k (Some a) None (λ q. omega (arith, q, h)) ∙ e
    stays (Ok handled.Closed) = e
    stays (Ok (handled.Reset n)) = e

-- the pool after an answer holds the slot that it opens
holds_pooled : (number : ℕ) (p : List (Option Attempt)) (i : ℕ) (slots : ℕ → Option ℕ) → i < length p → Holds number p slots →
    (r : Result Handled Cause) → Numbered number r → (d : Datagram) (out : List ℕ) (k : Close) → Holds number (pooled r p i) (put_slot slots i (opened_slot (answer_of d out k r)))
holds_pooled number p i slots w H (Err c) is d out k = H
holds_pooled number p i slots w H (Ok (handled.Delivered h)) is d out k = H
holds_pooled number p i slots w H (Ok (handled.Kept s)) is d out k = H
holds_pooled number p i slots w H (Ok (handled.Opened a o)) is d out k = holds_put number p i slots a is w H
holds_pooled number p i slots w H (Ok handled.Closed) is d out k = H
holds_pooled number p i slots w H (Ok (handled.Reset n)) is d out k = H

-- the plain value says what the answer says
noted_as : (a : Lent) (out : List ℕ) (k : Close) (r : Result Handled Cause) → answer_to (Handle a) out (noted r k) ≡ answer_of (arrived a) out k r
noted_as a out k (Err c) = refl
noted_as a out k (Ok (handled.Delivered h)) = refl
noted_as a out k (Ok (handled.Kept s)) = refl
noted_as a out k (Ok (handled.Opened b o)) = refl
noted_as a out k (Ok handled.Closed) = refl
noted_as a out k (Ok (handled.Reset n)) = refl

-- and a refusal is the same whatever the block
refusal_noted : (a : Lent) (d : Datagram) (out block : List ℕ) (k : Close) (n : ℕ) (r : Result Handled Cause) → answer_of d out k r ≡ refused n →
    answer_to (Handle a) block (noted r k) ≡ refused n
refusal_noted a d out block k n (Err c) e = e
refusal_noted a d out block k n (Ok (handled.Delivered h)) e = e
refusal_noted a d out block k n (Ok (handled.Kept s)) e = e
refusal_noted a d out block k n (Ok (handled.Opened b o)) e = e
refusal_noted a d out block k n (Ok handled.Closed) e = e
refusal_noted a d out block k n (Ok (handled.Reset m)) e = let z : ◌≡◌ {A = ℕ} 0 1 = cc in absurd (omega arith)

-- the plain value is s, and the pool after it p'
module _ (e f : View) (u v : Supplied) (out out' : List ℕ) (k k' : Close) (r : Result Handled Cause) (a : Lent)
    (p p' : List (Option Attempt)) (i : ℕ) (s : said.Answer) (w : i < length p)
    (says : s ≡ noted r k') (goes : p' ≡ pooled r p i) (slots : ℕ → Option ℕ) (H : Holds e.number p slots) where
  -- the outcome of the datagram with so much room
  abbrev came_to : ℕ → Outcome
  came_to room = handle (config_of e u) (supply_of u) e.state (arrived a) room

  -- the datagram had this outcome
  abbrev As : Outcome → Type 0
  As o = Answered e f u v out out' k k' (arrived a) r o

  -- the pool holds the slots after it
  handled_pool : (o : Outcome) → As o → Holds e.number p' (slots_after slots i (call_of (Handle a)) o.answer)
  handled_pool o A j =
      let d = arrived a in
      let slot : opened_slot (answer_of d out' k' r) ≡ opened_slot o.answer = ap opened_slot A.answer ∙ opens_sealed (token_of u.signer) o.answer in
      ap (λ q. get_or q j None) goes ∙ holds_pooled e.number p i slots w H r A.number d out' k' j
      ∙ ap (in_hand e.number) (ap (λ x. put_slot slots i x j) slot ∙ sym (put_as slots (spent_by o.answer) i (opened_slot o.answer) j))

  -- the whole block is lent
  pub handled_whole : a.small ≡ false → length out ≡ 1500 → As (came_to (length out)) →
      Stepped e f u v p p' out out' i (Handle a) slots s (outcome e u slots (call_of (Handle a)))
  unfolding outcome_of
  handled_whole large long A =
      let room : length out ≡ room_of a = long ∙ sym (cond-false a.small 1499 1500 large) in
      let B : As (came_to (room_of a)) = subst (λ n. As (came_to n)) room A in
      record {
        answer = ap (answer_to (Handle a) out') says ∙ noted_as a out' k' r ∙ B.answer;
        state = B.state;
        drawn = B.drawn;
        pool = handled_pool (came_to (room_of a)) B;
        block = B.output;
        frame = B.frame;
      }

  -- one byte less is lent, and the block is as it was
  pub handled_short : (block : List ℕ) → a.small ≡ true → length out ≡ 1499 → As (came_to (length out)) →
      Stepped e f u v p p' block block i (Handle a) slots s (outcome e u slots (call_of (Handle a)))
  unfolding outcome_of
  handled_short block small long A =
      let o = gives (refused 1) e.state in
      let refuses : (n : ℕ) → n ≡ 1499 → came_to n ≡ o = λ n is. cond-false (fits (config_of e u) (arrived a) n) _ _ (and_right _ _ (ap (leb 1500) is)) in
      let B : As o = subst As (refuses (length out) long) A in
      subst (Stepped e f u v p p' block block i (Handle a) slots s) (sym (refuses (room_of a) (cond-true a.small 1499 1500 small)))
      (record {
        answer = ap (answer_to (Handle a) block) says ∙ refusal_noted a (arrived a) out' block k' 1 r B.answer;
        state = B.state;
        drawn = B.drawn;
        pool = handled_pool o B;
        block = refl;
        frame = B.frame;
      })

-- ## `ignore`

-- an attempt that the host does not hold: nothing is called
pub voids : (e : View) (p p' : List (Option Attempt)) (b : code.Brought) → p' ≡ p →
    ((slots : ℕ → Option ℕ) → Holds e.number p slots → incoming e.number slots (attempt_of b) ≡ None) → Ignores e e p p' b says.Void
unfolding outcome_of
voids e p p' b same none u block i slots H =
    subst (Stepped e e u u p p' block block i (Ignore b) slots says.Void)
    (sym (ap (with_attempt e.state (λ a. ignore (config_of e u) e.state a)) (none slots H)))
    (record { answer = refl; state = refl; drawn = sym (spent_none u); pool = subst (λ q. Holds e.number q slots) (sym same) H; block = refl; frame = same_frame e })

-- as where no call of the list opened one, or it is spent
pub void_opened : (e : View) (p p' : List (Option Attempt)) (k : ℕ) → p' ≡ p → None ≡ get_or p k None → Ignores e e p p' (Opened k) says.Void
void_opened e p p' k same none = voids e p p' (Opened k) same (λ slots H. sym (H k) ∙ sym none)

-- what `ignore` says, as a plain value
abbrev pub said_of : {A : Type 0} → Result A HandedBack → said.Answer
said_of (Ok x) = says.Ignored
said_of (Err b) = says.Refused b.cause

-- it says what the answer says
said_as : {A : Type 0} (b : code.Brought) (block : List ℕ) (r : Result A HandedBack) → answer_to (Ignore b) block (said_of r) ≡ ignored_of r
said_as b block (Ok x) = refl
said_as b block (Err h) = refl

module _ {A : Type 0} (e f : View) (p p' : List (Option Attempt)) (b : code.Brought) (a : Attempt) (r : Result A HandedBack) where
  -- the pool after it
  abbrev Leaves : Type 0
  Leaves = (i : ℕ) (slots : ℕ → Option ℕ) (m : Option Waiting) → ignored_of r ≡ (ignore_of e.state m).answer → Back a r → Holds e.number p slots →
      Holds e.number p' (slots_after slots i (runs.ignores (attempt_of b)) (ignore_of e.state m).answer)

  -- the call had its outcome, whichever attempt waits
  ignored_by : Leaves → (u : Supplied) (block : List ℕ) (i : ℕ) (slots : ℕ → Option ℕ) (m : Option Waiting) → Ignored e f a r (ignore_of e.state m) →
      Holds e.number p slots → Stepped e f u u p p' block block i (Ignore b) slots (said_of r) (ignore_of e.state m)
  ignored_by L u block i slots None I H = record {
    answer = said_as b block r ∙ I.answer;
    state = I.state;
    drawn = sym (spent_none u);
    pool = L i slots None I.answer I.back H;
    block = refl;
    frame = I.frame;
  }
  ignored_by L u block i slots (Some w) I H = record {
    answer = said_as b block r ∙ I.answer;
    state = I.state;
    drawn = sym (spent_none u);
    pool = L i slots (Some w) I.answer I.back H;
    block = refl;
    frame = I.frame;
  }

  -- the attempt that the host holds goes to the endpoint
  pub ignores : ((slots : ℕ → Option ℕ) → Holds e.number p slots → incoming e.number slots (attempt_of b) ≡ Some a) → Leaves →
      ((u : Supplied) → Ignored e f a r (ignore (config_of e u) e.state a)) → Ignores e f p p' b (said_of r)
  unfolding outcome_of
  ignores some L I u block i slots H =
      subst (Stepped e f u u p p' block block i (Ignore b) slots (said_of r))
      (sym (ap (with_attempt e.state (λ x. ignore (config_of e u) e.state x)) (some slots H)))
      (ignored_by L u block i slots (brought (config_of e u) e.state a) (I u) H)

-- suppliers that give nothing
abbrev nothing : Supplied
nothing = record {
  generator = record { len = 0; draw = λ i. no_id; valid = λ i x. false };
  source = λ i. 0;
  signer = λ message. message;
  door = record { knows = λ version x. false; opens = λ d. Err Closed; proves = λ d. false; greets = λ d h xs. Err Other };
}

-- whatever the suppliers, it leaves what no call changes
pub ignored_frame : {A : Type 0} (e f : View) (a : Attempt) (r : Result A HandedBack) → ((u : Supplied) → Ignored e f a r (ignore (config_of e u) e.state a)) → Frame e f
ignored_frame e f a r I = (I nothing).frame

-- one that a call of the list opened is spent
pub ignores_opened : {A : Type 0} (e f : View) (p p' : List (Option Attempt)) (k : ℕ) (a : Attempt) (x : A) → k < length p → Some a ≡ get_or p k None → p' ≡ set p k None →
    ((u : Supplied) → Ignored e f a (Ok x) (ignore (config_of e u) e.state a)) → Ignores e f p p' (Opened k) says.Ignored
ignores_opened e f p p' k a x w is took =
    ignores e f p p' (Opened k) a (Ok x) (λ slots H. sym (H k) ∙ sym is)
    (λ i slots m says _ H.
    subst (λ t. Holds e.number p' (slots_after slots i (runs.ignores (runs.own k)) t)) says
    (subst (λ q. Holds e.number q (λ j. cond (eqb j k) None (slots j))) (sym took) (holds_spent e.number p k slots w H)))

-- or handed back
pub keeps_opened : {A : Type 0} (e f : View) (p p' p'' : List (Option Attempt)) (k : ℕ) (a : Attempt) (h : HandedBack) →
    p' ≡ set p k None → Some a ≡ get_or p k None → p'' ≡ set p' k (Some h.attempt) →
    ((u : Supplied) → Ignored {A = A} e f a (Err h) (ignore (config_of e u) e.state a)) → Ignores e f p p'' (Opened k) (says.Refused h.cause)
keeps_opened {A} e f p p' p'' k a h took there put =
    ignores {A = A} e f p p'' (Opened k) a (Err h) (λ slots H. sym (H k) ∙ sym there)
    (λ i slots m says back H.
    subst (λ t. Holds e.number p'' (slots_after slots i (runs.ignores (runs.own k)) t)) says
    (subst (λ q. Holds e.number q slots) (sym (put_back p k h.attempt took there put back)) H))

-- one of another endpoint has no place in the pool
pub ignores_foreign : {A : Type 0} (e f : View) (p : List (Option Attempt)) (number slot : ℕ) (a : Attempt) (r : Result A HandedBack) →
    a ≡ record { number = number; slot = slot } → (number ≡ e.number → ⊥) →
    ((u : Supplied) → Ignored e f a r (ignore (config_of e u) e.state a)) → Ignores e f p p (Foreign number slot) (said_of r)
ignores_foreign e f p number slot a r is other =
    ignores e f p p (Foreign number slot) a r
    (λ slots H. cond-false (eqb number e.number) None _ (ne_eqb number e.number other) ∙ ap (λ x. Some x) (sym is)) leaves
  where
    leaves : (i : ℕ) (slots : ℕ → Option ℕ) (m : Option Waiting) → ignored_of r ≡ (ignore_of e.state m).answer → Back a r → Holds e.number p slots →
        Holds e.number p (slots_after slots i (runs.ignores (runs.foreign (record { number = number; slot = slot }))) (ignore_of e.state m).answer)
    leaves i slots None says _ H = H
    leaves i slots (Some w) says _ H = H
