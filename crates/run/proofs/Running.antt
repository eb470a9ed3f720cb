-- One more call of a list.
use Rattle.std.proofs.Common.{◌≡◌, ℕ, zero, suc, ◌+◌, ◌<◌, ◌≤◌, true, ◌&&◌, ltb, leb, ◌≢◌, List, [], ◌∷◌, map, length, get_or, set, Some, None, Option, sym, refl, ap, ◌∙◌, subst, ap₂, inl, inr, arith, get_or-set_other, get_or-set_same}
use Rattle.std.proofs.lemmas.List.{get_or_past}
use Rattle.std.proofs.lemmas.Bool.{cases_eq, cases_Bool, and_parts, leb-true, ltb-true, ltb-false}
use Rattle.records.specs.declared.incoming.Attempt.{Attempt}
use Rattle.supply.specs.Meaning.{Supplied, spent, token_of}
use Rattle.supply.proofs.Spending.{spent_add, spent_none}
use Rattle.model.specs.Records.{written}
use Rattle.model.specs.Endpoint.{Outcome, is_none, new_state}
use Rattle.model.specs.Calls.{sealed}
use Rattle.model.specs.Runs as runs
use Rattle.model.specs.Runs.{after, history}
use Rattle.resets.specs.Bytes.{over}
use Rattle.endpoint.specs.State.{View, config_of, supply_of, Frame}
use Rattle.calls.specs.declared.answer.Answer as said
use Rattle.calls.specs.declared.answer.Answer.TheVariants.{Void}
use Rattle.calls.specs.Lists.{LentCall, call_of, answer_to}
use Rattle.run.specs.Pools.{all_none, Holds}
use Rattle.run.specs.Steps.{outcome, Stepped}
use Rattle.run.specs.Runs.{room_fits, no_call, calls_so, answer_at, answers_so, Built, world_so, Ran}

-- there are as many calls as were made
pub calls_so_length : (calls : List LentCall) (n : ℕ) → length (calls_so calls n) ≡ n
calls_so_length calls zero = refl
calls_so_length calls (suc n) = ap suc (calls_so_length calls n)

module _ (calls : List LentCall) (blocks : List (List ℕ)) (answers : List said.Answer) (i : ℕ) (b : List ℕ) (r : said.Answer) where
  -- the answers to other calls stay
  other_answer : (j : ℕ) → j ≢ i → answer_at calls (set blocks i b) (set answers i r) j ≡ answer_at calls blocks answers j
  other_answer j ne = ap₂ (λ x y. answer_to (get_or calls j no_call) x y) (get_or-set_other blocks i j b [] ne) (get_or-set_other answers i j r Void ne)

  earlier_answers : (n : ℕ) → n ≤ i → answers_so calls (set blocks i b) (set answers i r) n ≡ answers_so calls blocks answers n
  earlier_answers zero h = refl
  earlier_answers (suc n) h = let ne : n ≢ i = omega arith in ap₂ (λ x y. x ∷ y) (other_answer n ne) (earlier_answers n (omega arith))

  this_answer : i < length blocks → i < length answers → answer_at calls (set blocks i b) (set answers i r) i ≡ answer_to (get_or calls i no_call) b r
  this_answer h k = ap₂ (λ x y. answer_to (get_or calls i no_call) x y) (get_or-set_same blocks i b [] h) (get_or-set_same answers i r Void k)

-- the code's endpoint and suppliers are those of the definitions after the calls that were made
pub record Fitting (E : runs.Endpoint) (u : Supplied) (w : runs.World) (e : View) (v : Supplied) : Type 0 where
  pub settings : e.settings ≡ E.setup.settings
  pub places : e.width ≡ E.setup.places
  pub number : e.number ≡ E.setup.number
  pub generator : E.setup.generator ≡ u.generator
  pub source : E.setup.source ≡ u.source
  pub door : E.setup.door ≡ u.door
  pub signer : E.signer ≡ u.signer
  pub drawn : v ≡ spent w.ids_used w.bytes_used u
  pub state : e.state ≡ w.state

module _ (E : runs.Endpoint) (u : Supplied) (w : runs.World) (e : View) (v : Supplied) (f : Fitting E u w e v) where
  same_config : config_of e v ≡ runs.config E.setup
  same_config = λ j. record {
    settings = f.settings j;
    places = f.places j;
    number = f.number j;
    len = (ap (λ x. x.generator.len) f.drawn ∙ ap (λ g. g.len) (sym f.generator)) j;
    door = (ap (λ x. x.door) f.drawn ∙ sym f.door) j;
  }

  same_supply : supply_of v ≡ runs.supply_at E.setup w
  same_supply =
      ap supply_of f.drawn
      ∙ (let z : w.ids_used + 0 ≡ w.ids_used = omega arith in λ j. record {
        next_id = λ i. (sym f.generator j).draw (w.ids_used + i);
        next_byte = λ i. sym f.source j (w.bytes_used + i);
        valid = (ap (λ n. u.generator.valid n) z ∙ ap (λ g. g.valid w.ids_used) (sym f.generator)) j;
      })

  pub same_outcome : (call : runs.Call) → outcome e v w.slots call ≡ runs.outcome E.setup w call
  same_outcome call = λ j. runs.outcome_of (same_config j) (same_supply j) (f.state j) w.slots call

  pub same_token : token_of v.signer ≡ token_of E.signer
  same_token = ap token_of (ap (λ x. x.signer) f.drawn ∙ sym f.signer)

pub same_frames : (e f g : View) → Frame e f → Frame f g → Frame e g
same_frames e f g a b = record { ready = b.ready ∙ a.ready; settings = b.settings ∙ a.settings; number = b.number ∙ a.number; width = b.width ∙ a.width }

pub fitting : (E : runs.Endpoint) (e f : View) (u v : Supplied) (w : runs.World) → Built E e.settings e.width e.number u → Frame e f →
    v ≡ spent w.ids_used w.bytes_used u → f.state ≡ w.state → Fitting E u w f v
fitting E e f u v w built frame drawn state = record {
  settings = frame.settings ∙ sym built.settings;
  places = frame.width ∙ sym built.places;
  number = frame.number ∙ sym built.number;
  generator = built.generator;
  source = built.source;
  door = built.door;
  signer = built.signer;
  drawn = drawn;
  state = state;
}

pub holds_at : (E : runs.Endpoint) (e : View) (pool : List (Option Attempt)) (slots : ℕ → Option ℕ) → e.number ≡ E.setup.number → Holds E.setup.number pool slots → Holds e.number pool slots
holds_at E e pool slots is held = subst (λ n. Holds n pool slots) (sym is) held

-- ## One call more

-- where a list stands after its first i calls
pub record Progress (E : runs.Endpoint) (calls : List LentCall) (i : ℕ) (e : View) (u v : Supplied) (pool : List (Option Attempt))
    (blocks blocks' : List (List ℕ)) (answers answers' : List said.Answer) : Type 0 where
  pub ran : Ran E calls i u v pool blocks blocks' answers answers'
  pub state : e.state ≡ (world_so E calls i).state

module _ (E : runs.Endpoint) (calls : List LentCall) (i : ℕ) (e f : View) (u v v' : Supplied) (pool pool' : List (Option Attempt))
    (blocks blocks' : List (List ℕ)) (answers answers' : List said.Answer) (b : List ℕ) (r : said.Answer)
    (fit : Fitting E u (world_so E calls i) e v) (ran : Ran E calls i u v pool blocks blocks' answers answers')
    (in_blocks : i < length blocks') (in_answers : i < length answers')
    (stepped : Stepped e f v v' pool pool' (get_or blocks' i []) b i (get_or calls i no_call) (world_so E calls i).slots r
    (outcome e v (world_so E calls i).slots (call_of (get_or calls i no_call)))) where
  abbrev w : runs.World
  w = world_so E calls i

  abbrev call : runs.Call
  call = call_of (get_or calls i no_call)

  abbrev o : Outcome
  o = runs.outcome E.setup w call

  is : outcome e v w.slots call ≡ o
  is = same_outcome E u w e v fit call

  abbrev label : runs.Labelled
  label = record { label = length (calls_so calls i); call = call }

  world_more : world_so E calls (suc i) ≡ runs.world_with w label o
  unfolding after
  world_more = refl

  told : sealed (token_of v.signer) (outcome e v w.slots call).answer ≡ sealed (token_of E.signer) o.answer
  told = ap₂ (λ t x. sealed t x.answer) (same_token E u w e v fit) is

  said_now : answer_to (get_or calls i no_call) b r ≡ sealed (token_of E.signer) o.answer
  said_now = stepped.answer ∙ told

  answered_more : answers_so calls (set blocks' i b) (set answers' i r) (suc i) ≡ map (λ x. x.answer) (runs.history E (runs.labelled (calls_so calls (suc i))))
  unfolding history
  answered_more =
      ap₂ (λ x y. x ∷ y) (this_answer calls blocks' answers' i b r in_blocks in_answers ∙ said_now)
      (earlier_answers calls blocks' answers' i b r i (omega arith) ∙ ran.answered)

  drawn_more : v' ≡ spent (w.ids_used + o.ids_drawn) (w.bytes_used + o.bytes_drawn) u
  drawn_more =
      stepped.drawn ∙ ap₂ (λ x y. spent x.ids_drawn x.bytes_drawn y) is fit.drawn ∙ spent_add o.ids_drawn o.bytes_drawn w.ids_used w.bytes_used u

  held_more : Holds E.setup.number pool' (runs.slots_after w.slots (length (calls_so calls i)) call o.answer)
  held_more =
      subst (λ n. Holds n pool' (runs.slots_after w.slots (length (calls_so calls i)) call o.answer)) fit.number
      (subst (λ l. Holds e.number pool' (runs.slots_after w.slots l call o.answer)) (sym (calls_so_length calls i))
      (subst (λ x. Holds e.number pool' (runs.slots_after w.slots i call x.answer)) is stepped.pool))

  wrote_more : (j : ℕ) → j < suc i → get_or (set blocks' i b) j [] ≡ over (written (answer_at calls (set blocks' i b) (set answers' i r) j)) (get_or blocks j [])
  wrote_more j h = elim (cases_eq j i) [
    | inl e' ↦ subst (λ n. get_or (set blocks' i b) n [] ≡ over (written (answer_at calls (set blocks' i b) (set answers' i r) n)) (get_or blocks n [])) (sym e') here
    | inr ne ↦
        get_or-set_other blocks' i j b [] ne ∙ ran.wrote j (omega arith) ∙ ap (λ a. over (written a) (get_or blocks j [])) (sym (other_answer calls blocks' answers' i b r j ne))
  ]
    where
      here : get_or (set blocks' i b) i [] ≡ over (written (answer_at calls (set blocks' i b) (set answers' i r) i)) (get_or blocks i [])
      here =
          get_or-set_same blocks' i b [] in_blocks ∙ stepped.block
          ∙ ap₂ (λ a x. over (written a) x) (told ∙ sym said_now ∙ sym (this_answer calls blocks' answers' i b r in_blocks in_answers)) (ran.spared i (omega arith)).0

  spared_more : (j : ℕ) → suc i ≤ j → (get_or (set blocks' i b) j [] ≡ get_or blocks j []) × (get_or (set answers' i r) j Void ≡ get_or answers j Void)
  spared_more j h =
      let ne : j ≢ i = omega arith in
      let k : i ≤ j = omega arith in
      (get_or-set_other blocks' i j b [] ne ∙ (ran.spared j k).0, get_or-set_other answers' i j r Void ne ∙ (ran.spared j k).1)

  progress_suc : Progress E calls (suc i) f u v' pool' blocks (set blocks' i b) answers (set answers' i r)
  unfolding after
  progress_suc = record {
    ran = record { answered = answered_more; drawn = drawn_more; held = held_more; wrote = wrote_more; spared = spared_more };
    state = stepped.state ∙ ap (λ x. x.state) is;
  }

  pub progress_more : Progress E calls (i + 1) f u v' pool' blocks (set blocks' i b) answers (set answers' i r)
  progress_more = let k : suc i ≡ i + 1 = omega arith in subst (λ n. Progress E calls n f u v' pool' blocks (set blocks' i b) answers (set answers' i r)) k progress_suc

-- ## Before the first call

none_is : {A : Type 0} (o : Option A) → is_none o ≡ true → o ≡ None
none_is None e = refl
none_is (Some a) e = let z : ◌≡◌ {A = ℕ} 0 1 = cc in absurd (omega arith)

all_none_at : (pool : List (Option Attempt)) (n : ℕ) → all_none pool n ≡ true → (k : ℕ) → k < n → get_or pool k None ≡ None
all_none_at pool zero e k h = absurd (omega arith)
all_none_at pool (suc n) e k h =
    let p = and_parts (is_none (get_or pool n None)) (all_none pool n) e in
    elim (cases_eq k n) [
      | inl s ↦ ap (λ m. get_or pool m None) s ∙ none_is (get_or pool n None) p.0
      | inr ne ↦ all_none_at pool n p.1 k (omega arith)
    ]

-- a pool without attempts has none anywhere
pub pool_empty : (pool : List (Option Attempt)) → all_none pool (length pool) ≡ true → (k : ℕ) → get_or pool k None ≡ None
pool_empty pool e k = elim (cases_Bool (ltb k (length pool))) [
  | inl t ↦ all_none_at pool (length pool) e k (ltb-true k (length pool) t)
  | inr f ↦ get_or_past pool k None (ltb-false k (length pool) f)
]

-- what the host lends
pub record Lent (n : ℕ) (pool : List (Option Attempt)) (blocks answers : ℕ) : Type 0 where
  pub places : n ≤ length pool
  pub outputs : n ≤ blocks
  pub records : n ≤ answers
  pub clear : (k : ℕ) → get_or pool k None ≡ None

pub lent : (n : ℕ) (pool : List (Option Attempt)) (blocks answers : ℕ) → room_fits n pool blocks answers ≡ true → Lent n pool blocks answers
lent n pool blocks answers e =
    let a = and_parts (leb n (length pool)) (leb n blocks && (leb n answers && all_none pool (length pool))) e in
    let b = and_parts (leb n blocks) (leb n answers && all_none pool (length pool)) a.1 in
    let c = and_parts (leb n answers) (all_none pool (length pool)) b.1 in
    record { places = leb-true n (length pool) a.0; outputs = leb-true n blocks b.0; records = leb-true n answers c.0; clear = pool_empty pool c.1 }

pub progress_none : (E : runs.Endpoint) (calls : List LentCall) (e : View) (u : Supplied) (pool : List (Option Attempt))
    (blocks : List (List ℕ)) (answers : List said.Answer) → e.state ≡ new_state → ((k : ℕ) → get_or pool k None ≡ None) →
    Progress E calls 0 e u u pool blocks blocks answers answers
unfolding after history
progress_none E calls e u pool blocks answers fresh clear = record {
  ran = record { answered = refl; drawn = sym (spent_none u); held = clear; wrote = λ i h. absurd (omega arith); spared = λ i h. (refl, refl) };
  state = fresh;
}

pub ran_as : (E : runs.Endpoint) (calls : List LentCall) (n m : ℕ) (u v : Supplied) (pool : List (Option Attempt)) (blocks blocks' : List (List ℕ)) (answers answers' : List said.Answer) →
    n ≡ m → Ran E calls n u v pool blocks blocks' answers answers' → Ran E calls m u v pool blocks blocks' answers answers'
ran_as E calls n m u v pool blocks blocks' answers answers' e ran = subst (λ k. Ran E calls k u v pool blocks blocks' answers answers') e ran
