-- What a run of a list of calls answers and leaves.
use Rattle.std.specs.Prelude.{◌≡◌, ℕ, zero, suc, ◌<◌, ◌≤◌, Bool, ◌&&◌, List, [], ◌∷◌, map, length, Option, nat_le, slice_index_or}
use Rattle.records.specs.declared.config.Settings.{Settings}
use Rattle.records.specs.declared.incoming.Attempt.{Attempt}
use Rattle.supply.specs.Meaning.{Supplied, spent}
use Rattle.model.specs.Records as records
use Rattle.model.specs.Runs as runs
use Rattle.resets.specs.Bytes.{over}
use Rattle.calls.specs.declared.call.Call.TheVariants.{Ignore}
use Rattle.calls.specs.declared.call.Brought.TheVariants.{Opened}
use Rattle.calls.specs.declared.answer.Answer as said
use Rattle.calls.specs.declared.answer.Answer.TheVariants.{Void}
use Rattle.calls.specs.Lists.{LentCall, call_of, answer_to}
use Rattle.run.specs.Pools.{all_none, Holds}

-- what a read past a list of calls gives
abbrev pub no_call : LentCall
no_call = Ignore (Opened 0)

-- the first n calls, the last one first
abbrev pub calls_so : List LentCall → ℕ → List runs.Call
calls_so calls zero = []
calls_so calls (suc n) = call_of (slice_index_or calls n no_call) ∷ calls_so calls n

-- the answer to the call of number i
abbrev pub answer_at : List LentCall → List (List ℕ) → List said.Answer → ℕ → records.Answer
answer_at calls blocks answers i = answer_to (slice_index_or calls i no_call) (slice_index_or blocks i []) (slice_index_or answers i Void)

-- the answers to the first n calls, the last one first
abbrev pub answers_so : List LentCall → List (List ℕ) → List said.Answer → ℕ → List records.Answer
answers_so calls blocks answers zero = []
answers_so calls blocks answers (suc n) = answer_at calls blocks answers n ∷ answers_so calls blocks answers n

-- the endpoint of the definitions that was set up with these
pub record Built (E : runs.Endpoint) (given : Settings) (w n : ℕ) (u : Supplied) : Type 0 where
  pub settings : E.setup.settings ≡ given
  pub places : E.setup.places ≡ w
  pub number : E.setup.number ≡ n
  pub generator : E.setup.generator ≡ u.generator
  pub source : E.setup.source ≡ u.source
  pub door : E.setup.door ≡ u.door
  pub signer : E.signer ≡ u.signer

-- the endpoint's world after the first n calls
abbrev pub world_so : runs.Endpoint → List LentCall → ℕ → runs.World
world_so E calls n = runs.after E.setup (runs.labelled (calls_so calls n))

-- The first n calls ran: their answers are those of the definitions, call by call; so much was drawn; the pool holds the attempts that still wait;
-- the block of each call has what its answer writes, and all else is as it was.
pub record Ran (E : runs.Endpoint) (calls : List LentCall) (n : ℕ) (u v : Supplied) (pool : List (Option Attempt))
    (blocks blocks' : List (List ℕ)) (answers answers' : List said.Answer) : Type 0 where
  pub answered : answers_so calls blocks' answers' n ≡ map (λ e. e.answer) (runs.history E (runs.labelled (calls_so calls n)))
  pub drawn : v ≡ spent (world_so E calls n).ids_used (world_so E calls n).bytes_used u
  pub held : Holds E.setup.number pool (world_so E calls n).slots
  pub wrote : (i : ℕ) → i < n → slice_index_or blocks' i [] ≡ over (records.written (answer_at calls blocks' answers' i)) (slice_index_or blocks i [])
  pub spared : (i : ℕ) → n ≤ i → (slice_index_or blocks' i [] ≡ slice_index_or blocks i []) × (slice_index_or answers' i Void ≡ slice_index_or answers i Void)

-- the host lends a place of the pool, a block and an answer for each of n calls, and no attempt is in the pool
abbrev pub room_fits : ℕ → List (Option Attempt) → ℕ → ℕ → Bool
room_fits n pool blocks answers = nat_le n (length pool) && (nat_le n blocks && (nat_le n answers && all_none pool (length pool)))
