-- What `ignore` answers and leaves.
use Rattle.std.specs.Prelude.{◌≡◌, cond, None, Ok, Err, Option, Result, ◌==◌}
use Rattle.records.specs.declared.packet.Datagram.{Datagram}
use Rattle.records.specs.declared.incoming.Attempt.{Attempt}
use Rattle.records.specs.Causes.{cause_number}
use Rattle.places.specs.Entries.{first_of}
use Rattle.places.specs.Held.{entries}
use Rattle.model.specs.Records.{Answer, refused, ignored}
use Rattle.model.specs.Endpoint.{Outcome}
use Rattle.endpoint.specs.declared.endpoint.Ready.{Ready}
use Rattle.endpoint.specs.declared.handled.HandedBack.{HandedBack}
use Rattle.endpoint.specs.State.{View, Frame}

-- the first datagram of the attempt that is brought, if it waits here
abbrev pub first_brought : Ready → Attempt → Option Datagram
first_brought e a = cond (a.number == e.number) (first_of (entries e.places) a.slot) None

-- what `ignore` answers: the attempt is spent, or why it is not
abbrev pub ignored_of : {A : Type 0} → Result A HandedBack → Answer
ignored_of (Ok x) = ignored
ignored_of (Err b) = refused (cause_number b.cause)

-- a refusal hands back what was brought
abbrev pub Back : {A : Type 0} → Attempt → Result A HandedBack → Type 0
Back a (Ok x) = Unit {0}
Back a (Err b) = b.attempt ≡ a

-- the call had the outcome o: its answer, what it hands back, and the state
pub record Ignored {A : Type 0} (e f : View) (a : Attempt) (r : Result A HandedBack) (o : Outcome) : Type 0 where
  pub answer : ignored_of r ≡ o.answer
  pub back : Back a r
  pub state : f.state ≡ o.state
  pub frame : Frame e f
