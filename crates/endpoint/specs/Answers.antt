-- What the answers of the code mean, and what a call leaves.
use Rattle.std.specs.Prelude.{◌≡◌, ℕ, ◌-◌, List, Some, None, Option, Ok, Err, Result, length, take, drop}
use Rattle.records.specs.declared.cause.Cause.{Cause}
use Rattle.records.specs.declared.packet.Close.{Close}
use Rattle.records.specs.Causes.{cause_number}
use Rattle.records.specs.Received.{Datagram}
use Rattle.supply.specs.Meaning.{Supplied, spent, token_of}
use Rattle.model.specs.Records.{Answer, refused, delivered, stored, opened, closing, reset, accepted, failed, ignored, issued, done, written}
use Rattle.model.specs.Endpoint.{Outcome}
use Rattle.model.specs.Calls.{sealed}
use Rattle.resets.specs.Bytes.{over}
use Rattle.endpoint.specs.declared.handled.Handled.{Handled}
use Rattle.endpoint.specs.declared.handled.Handled.TheVariants.{Delivered, Kept, Opened, Closed, Reset}
use Rattle.endpoint.specs.State.{View, Frame}

-- a reset's bytes: the padding, and the token behind it
abbrev pub reset_of : Datagram → List ℕ → Answer
reset_of d bs = reset d.addresses d.dst (take (length bs - 16) bs) (drop (length bs - 16) bs)

-- the answer to a datagram, with the close in the lent place and the bytes of the output
abbrev pub answer_of : Datagram → List ℕ → Close → Result Handled Cause → Answer
answer_of d out k (Err c) = refused (cause_number c)
answer_of d out k (Ok (Delivered h)) = delivered h
answer_of d out k (Ok (Kept s)) = stored s
answer_of d out k (Ok (Opened a o)) = opened a.slot o
answer_of d out k (Ok Closed) = closing k
answer_of d out k (Ok (Reset n)) = reset_of d (take n out)

-- a new attempt has the endpoint's number
abbrev pub Numbered : ℕ → Result Handled Cause → Type 0
Numbered n (Err c) = Unit {0}
Numbered n (Ok (Delivered h)) = Unit {0}
Numbered n (Ok (Kept s)) = Unit {0}
Numbered n (Ok (Opened a o)) = a.number ≡ n
Numbered n (Ok Closed) = Unit {0}
Numbered n (Ok (Reset m)) = Unit {0}

-- the lent place after an answer: a close goes there, and nothing else does
abbrev pub close_after : Answer → Close → Close
close_after (refused c) k = k
close_after (delivered h) k = k
close_after (stored s) k = k
close_after (opened s o) k = k
close_after (closing c) k = c
close_after (reset a x p t) k = k
close_after (accepted h gs seed ds) k = k
close_after (failed c o) k = k
close_after ignored k = k
close_after (issued gs) k = k
close_after done k = k

-- the datagram d, which the endpoint e got with the suppliers u, an output and a place for a close, had the outcome o: the answer r, the state, what was
-- drawn, and every byte that was lent
pub record Answered (e f : View) (u v : Supplied) (out out' : List ℕ) (k k' : Close) (d : Datagram) (r : Result Handled Cause) (o : Outcome) : Type 0 where
  pub answer : answer_of d out' k' r ≡ sealed (token_of u.signer) o.answer
  pub number : Numbered e.number r
  pub state : f.state ≡ o.state
  pub drawn : v ≡ spent o.ids_drawn o.bytes_drawn u
  pub output : out' ≡ over (written (sealed (token_of u.signer) o.answer)) out
  pub close : k' ≡ close_after o.answer k
  pub frame : Frame e f

-- the cause that a test finds, by its number
abbrev pub cause_in : {A : Type 0} → Result A Cause → Option ℕ
cause_in (Ok x) = None
cause_in (Err c) = Some (cause_number c)
