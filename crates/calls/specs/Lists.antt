-- What lists of calls and their answers mean.
use Rattle.std.specs.Prelude.{ℕ, ◌-◌, cond, List, length, take, drop}
use Rattle.std.specs.Borrow.{Bor}
use Rattle.records.specs.Causes.{cause_number}
use Rattle.records.specs.Received.{Datagram, datagram_of}
use Rattle.model.specs.Records as records
use Rattle.model.specs.Runs as runs
use Rattle.calls.specs.declared.call.Brought as brought
use Rattle.calls.specs.declared.call.Brought.TheVariants.{Opened, Foreign}
use Rattle.calls.specs.declared.call.Arrival.{Arrival}
use Rattle.calls.specs.declared.call.Call as call
use Rattle.calls.specs.declared.call.Call.TheVariants.{Handle, Ignore}
use Rattle.calls.specs.declared.answer.Answer as answer
use Rattle.calls.specs.declared.answer.Answer.TheVariants as says

-- the attempt that a call brings
abbrev pub attempt_of : brought.Brought → runs.Attempt
attempt_of (Opened k) = runs.own k
attempt_of (Foreign number slot) = runs.foreign (record { number = number; slot = slot })

-- a datagram that borrows its bytes, and a call that brings one
abbrev pub Lent : Type 0
Lent = Arrival (Bor (List ℕ))

abbrev pub LentCall : Type 0
LentCall = call.Call Lent

-- the datagram of an arrival, with its bytes
abbrev pub arrived : Lent → Datagram
arrived a = datagram_of a.datagram a.bytes.now

-- how many bytes of output it is lent
abbrev pub room_of : Lent → ℕ
room_of a = cond a.small 1499 1500

-- a call of a list
abbrev pub call_of : LentCall → runs.Call
call_of (Handle a) = runs.handles (arrived a) (room_of a)
call_of (Ignore b) = runs.ignores (attempt_of b)

-- a reset's bytes: the padding, and the token behind it
abbrev pub reset_of : Datagram → List ℕ → records.Answer
reset_of d bs = records.reset d.addresses d.dst (take (length bs - 16) bs) (drop (length bs - 16) bs)

-- what an answer to a call says, a reset with the bytes of the call's block; where nothing was called for want of the attempt, it is refused by 5
abbrev pub answer_to : LentCall → List ℕ → answer.Answer → records.Answer
answer_to c block (says.Refused n) = records.refused (cause_number n)
answer_to c block (says.Delivered h) = records.delivered h
answer_to c block (says.Kept s) = records.stored s
answer_to c block (says.Opened s o) = records.opened s o
answer_to c block (says.Closed k) = records.closing k
answer_to (Handle a) block (says.Reset n) = reset_of (arrived a) (take n block)
answer_to (Ignore b) block (says.Reset n) = records.done
answer_to c block says.Ignored = records.ignored
answer_to c block says.Void = records.refused 5
