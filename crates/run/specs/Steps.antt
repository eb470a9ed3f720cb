-- What one call of a list answers and leaves.
use Rattle.std.specs.Prelude.{◌≡◌, ℕ, List, Some, Option, slice_set, Ok, Err, Result}
use Rattle.records.specs.declared.incoming.Attempt.{Attempt}
use Rattle.supply.specs.Meaning.{Supplied, spent, token_of}
use Rattle.model.specs.Records.{written}
use Rattle.model.specs.Endpoint.{Outcome}
use Rattle.model.specs.Calls.{sealed}
use Rattle.model.specs.Runs as runs
use Rattle.resets.specs.Bytes.{over}
use Rattle.records.specs.declared.cause.Cause.{Cause}
use Rattle.records.specs.declared.packet.Close.{Close}
use Rattle.endpoint.specs.declared.handled.Handled.{Handled}
use Rattle.endpoint.specs.declared.handled.Handled.TheVariants as handled
use Rattle.endpoint.specs.State.{View, config_of, supply_of, Frame}
use Rattle.calls.specs.declared.call.Call.TheVariants.{Ignore}
use Rattle.calls.specs.declared.call.Brought as code
use Rattle.calls.specs.declared.answer.Answer as said
use Rattle.calls.specs.declared.answer.Answer.TheVariants as says
use Rattle.calls.specs.Lists.{LentCall, call_of, answer_to}
use Rattle.run.specs.Pools.{Holds}

-- what a call has as its outcome, the host holding the attempts of these slots
abbrev pub outcome : View → Supplied → (ℕ → Option ℕ) → runs.Call → Outcome
outcome e u slots call = runs.outcome_of (config_of e u) (supply_of u) e.state slots call

-- the call of number i had the outcome o: its answer, the state, what was drawn, the attempts in the host's hands, and its block of output
pub record Stepped (e f : View) (u v : Supplied) (p p' : List (Option Attempt)) (b b' : List ℕ) (i : ℕ) (call : LentCall) (slots : ℕ → Option ℕ) (r : said.Answer) (o : Outcome) : Type 0 where
  pub answer : answer_to call b' r ≡ sealed (token_of u.signer) o.answer
  pub state : f.state ≡ o.state
  pub drawn : v ≡ spent o.ids_drawn o.bytes_drawn u
  pub pool : Holds e.number p' (runs.slots_after slots i (call_of call) o.answer)
  pub block : b' ≡ over (written (sealed (token_of u.signer) o.answer)) b
  pub frame : Frame e f

-- what `handle` says, as a plain value
abbrev pub noted : Result Handled Cause → Close → said.Answer
noted (Err c) k = says.Refused c
noted (Ok (handled.Delivered h)) k = says.Delivered h
noted (Ok (handled.Kept s)) k = says.Kept s
noted (Ok (handled.Opened a o)) k = says.Opened a.slot o
noted (Ok handled.Closed) k = says.Closed k
noted (Ok (handled.Reset n)) k = says.Reset n

-- the pool after it: a new attempt stands at i
abbrev pub pooled : Result Handled Cause → List (Option Attempt) → ℕ → List (Option Attempt)
pooled (Err c) pool i = pool
pooled (Ok (handled.Delivered h)) pool i = pool
pooled (Ok (handled.Kept s)) pool i = pool
pooled (Ok (handled.Opened a o)) pool i = slice_set pool i (Some a)
pooled (Ok handled.Closed) pool i = pool
pooled (Ok (handled.Reset n)) pool i = pool

-- an `ignore` of a list, whatever the suppliers, the block and the number of the call
abbrev pub Ignores : View → View → List (Option Attempt) → List (Option Attempt) → code.Brought → said.Answer → Type 0
Ignores e f pool pool' b r =
    (u : Supplied) (block : List ℕ) (i : ℕ) (slots : ℕ → Option ℕ) → Holds e.number pool slots →
    Stepped e f u u pool pool' block block i (Ignore b) slots r (outcome e u slots (call_of (Ignore b)))
