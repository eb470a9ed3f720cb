-- Lists of calls, and what an endpoint that began new tells of one.
-- A list of calls, and what is told of it, stand with the last call first.
use Rattle.std.specs.Prelude.{◌≡◌, ℕ, ◌+◌, ◌<◌, ◌≤◌, Bool, true, false, cond, ◌&&◌, List, [], ◌∷◌, length, Some, None, Option, ◌==◌, nat_eq}
use Rattle.std.specs.Map.{update}
use Rattle.model.specs.Records.{Id, Token, Settings, Datagram, Incoming, Event, Answer, refused, delivered, stored, opened, closing, reset, accepted, failed, ignored, issued, done}
use Rattle.supply.specs.Meaning.{Generator, Lawful, DoorAnswers, token_of}
use Rattle.model.specs.Endpoint.{State, Config, Supply, Outcome, new_state, row}
use Rattle.model.specs.Calls.{gives, handle, accept, refuse, ignore, handle_event, Room, sealed}

-- what an endpoint is set up with, the signer apart
pub record Setup : Type 0 where
  pub settings : Settings
  pub places : ℕ
  pub number : ℕ
  pub generator : Generator
  pub source : ℕ → ℕ
  pub door : DoorAnswers
  pub lawful : Lawful generator
  pub bytes_fit : (i : ℕ) → source i < 256
  pub few : settings.max_incoming ≤ 64
  pub some : 1 ≤ places
  pub most : places ≤ 128

-- an endpoint: what it is set up with, and its signer
pub record Endpoint : Type 0 where
  pub setup : Setup
  pub signer : List ℕ → List ℕ
  pub long : (message : List ℕ) → length (signer message) ≡ 32

-- a setup, its supplies apart
abbrev pub config : Setup → Config
config U = record { settings = U.settings; places = U.places; number = U.number; len = U.generator.len; door = U.door }

-- an attempt that a call brings: the one that the call of this label opened, or one of another number
pub data Attempt : Type 0 where
  own : ℕ → Attempt
  foreign : Incoming → Attempt

-- a call of each of the five kinds, with its arguments
pub data Call : Type 0 where
  handles : Datagram → ℕ → Call
  accepts : Attempt → ℕ → Option Settings → Room → Call
  refuses : Attempt → Call
  ignores : Attempt → Call
  handles_event : ℕ → Event → Call

-- a call with its label, by which a later call names the attempt that it opened
pub record Labelled : Type 0 where
  pub label : ℕ
  pub call : Call

-- each call of a list, labelled by the number of calls before it
abbrev pub labelled : List Call → List Labelled
labelled [] = []
labelled (c ∷ earlier) = record { label = length earlier; call = c } ∷ labelled earlier

-- what is told of a call: its label, itself, its answer, and the identifiers and bytes that it drew
pub record Entry : Type 0 where
  pub label : ℕ
  pub call : Call
  pub answer : Answer
  pub ids : List Id
  pub bytes : List ℕ

-- the endpoint after a list of calls, the slots of the attempts that the host holds, by the labels of the calls that opened them,
-- and how much of the supplies is drawn
pub record World : Type 0 where
  pub state : State
  pub slots : ℕ → Option ℕ
  pub ids_used : ℕ
  pub bytes_used : ℕ

-- a new endpoint, before any call
abbrev pub new_world : World
new_world = record { state = new_state; slots = λ k. None; ids_used = 0; bytes_used = 0 }

-- the supplies as they stand after the calls so far
abbrev pub supply_at : Setup → World → Supply
supply_at U w = record {
  next_id = λ i. U.generator.draw (w.ids_used + i);
  next_byte = λ i. U.source (w.bytes_used + i);
  valid = U.generator.valid w.ids_used;
}

-- an attempt as the host holds it; none, where it was spent, was never opened or has this endpoint's number without being its own
abbrev pub in_hand : ℕ → Option ℕ → Option Incoming
in_hand number None = None
in_hand number (Some slot) = Some (record { number = number; slot = slot })

-- the attempt that a call brings
abbrev pub incoming : ℕ → (ℕ → Option ℕ) → Attempt → Option Incoming
incoming number slots (own k) = in_hand number (slots k)
incoming number slots (foreign a) = cond (a.number == number) None (Some a)

-- a call with an attempt that no host can hold does nothing
abbrev pub with_attempt : State → (Incoming → Outcome) → Option Incoming → Outcome
with_attempt s f None = gives (refused 5) s
with_attempt s f (Some a) = f a

-- what a call comes to
unfoldable pub outcome_of : Config → Supply → State → (ℕ → Option ℕ) → Call → Outcome
outcome_of c u s slots (handles d room) = handle c u s d room
outcome_of c u s slots (accepts a now given room) = with_attempt s (λ i. accept c u s i now given room) (incoming c.number slots a)
outcome_of c u s slots (refuses a) = with_attempt s (λ i. refuse c u s i) (incoming c.number slots a)
outcome_of c u s slots (ignores a) = with_attempt s (λ i. ignore c s i) (incoming c.number slots a)
outcome_of c u s slots (handles_event h e) = handle_event u s h e

-- what a call comes to after the calls so far
abbrev pub outcome : Setup → World → Call → Outcome
outcome U w call = outcome_of (config U) (supply_at U w) w.state w.slots call

-- an answer other than a refusal spends the attempt that its call brought
abbrev pub spent_by : Answer → Bool
spent_by (refused c) = false
spent_by (delivered h) = true
spent_by (stored s) = true
spent_by (opened s o) = true
spent_by (closing c) = true
spent_by (reset a x p t) = true
spent_by (accepted h gs seed ds) = true
spent_by (failed c k) = true
spent_by ignored = true
spent_by (issued gs) = true
spent_by done = true

-- whether an attempt is the one that the call labelled k opened
abbrev pub is_own : ℕ → Attempt → Bool
is_own k (own j) = k == j
is_own k (foreign a) = false

-- whether a call brings the attempt that the call labelled k opened
abbrev pub brings : ℕ → Call → Bool
brings k (handles d room) = false
brings k (accepts a now given room) = is_own k a
brings k (refuses a) = is_own k a
brings k (ignores a) = is_own k a
brings k (handles_event h e) = false

-- the slot that an answer opens
abbrev pub opened_slot : Answer → Option ℕ
opened_slot (refused c) = None
opened_slot (delivered h) = None
opened_slot (stored s) = None
opened_slot (opened s o) = Some s
opened_slot (closing c) = None
opened_slot (reset a x p t) = None
opened_slot (accepted h gs seed ds) = None
opened_slot (failed c k) = None
opened_slot ignored = None
opened_slot (issued gs) = None
opened_slot done = None

-- the slots with one more, if there is one
abbrev pub put_slot : (ℕ → Option ℕ) → ℕ → Option ℕ → (ℕ → Option ℕ)
put_slot f k None = f
put_slot f k (Some s) = update nat_eq f k (Some s)

-- the slots of the attempts that the host holds after a call
abbrev pub slots_after : (ℕ → Option ℕ) → ℕ → Call → Answer → (ℕ → Option ℕ)
slots_after f label call answer = put_slot (λ k. cond (spent_by answer && brings k call) None (f k)) label (opened_slot answer)

-- the world after a call that came to this
abbrev pub world_with : World → Labelled → Outcome → World
world_with w c o = record {
  state = o.state;
  slots = slots_after w.slots c.label c.call o.answer;
  ids_used = w.ids_used + o.ids_drawn;
  bytes_used = w.bytes_used + o.bytes_drawn;
}

-- the world after one more call
abbrev pub next : Setup → World → Labelled → World
next U w c = world_with w c (outcome U w c.call)

-- the world after a list of calls on a new endpoint; its signer has no part in it
unfoldable pub after : Setup → List Labelled → World
after U [] = new_world
after U (c ∷ earlier) = next U (after U earlier) c

-- what is told of a call that came to this
abbrev pub entry_of : Setup → (Id → Token) → World → Labelled → Outcome → Entry
entry_of U token w c o = record {
  label = c.label;
  call = c.call;
  answer = sealed token o.answer;
  ids = row (supply_at U w).next_id 0 o.ids_drawn;
  bytes = row (supply_at U w).next_byte 0 o.bytes_drawn;
}

-- what is told of one more call
abbrev pub entry : Endpoint → World → Labelled → Entry
entry E w c = entry_of E.setup (token_of E.signer) w c (outcome E.setup w c.call)

-- what is told of a list of calls on a new endpoint, the last call first
unfoldable pub history : Endpoint → List Labelled → List Entry
history E [] = []
history E (c ∷ earlier) = entry E (after E.setup earlier) c ∷ history E earlier

-- what one more call after the list is answered
abbrev pub answer_next : Endpoint → List Labelled → Call → Answer
answer_next E cs c = sealed (token_of E.signer) (outcome E.setup (after E.setup cs) c).answer
