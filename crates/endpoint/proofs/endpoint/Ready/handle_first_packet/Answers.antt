use Rattle.std.proofs.Common.{◌≡◌, ℕ, Bool, true, false, not, ◌&&◌, ◌||◌, eqb, ltb, sym, ap, ◌∙◌, subst, ap₂, Ok, Err, rules}
use Rattle.std.proofs.lemmas.Bool.{leb-false}
use Rattle.records.specs.declared.cause.Cause.TheVariants.{Undecodable, ReservedBits}
use Rattle.records.specs.Received.{Datagram, seen}
use Rattle.supply.specs.declared.answers.Unopened.TheVariants as unopened
use Rattle.supply.specs.Meaning.{Supplied}
use Rattle.model.specs.Calls.{first_by, first_packet, bad_length}
use Rattle.endpoint.specs.declared.endpoint.Ready.{Ready}
use Rattle.endpoint.specs.declared.handled.Handled.TheVariants.{Closed}
use Rattle.endpoint.specs.State.{state_in, view_of, config_of, supply_of}
use Rattle.endpoint.specs.Answers.{Answered, cause_in}
use Rattle.endpoint.proofs.Answering.{fails, refuses, closes, admits, admits_few, is_bad, is_open}
use Rattle.endpoint.proofs.endpoint.Ready.handle_first_packet.Goals as goal

pub returns-in_err-check_first : goal.returns-in_err-check_first
returns-in_err-check_first g c =
    let e = c.args.self.now in
    let u = g.S.Supplies.all c.args.supplies.now in
    let d = seen c.args.received.now in
    let k = c.args.close.now in
    let x = c.in_err-check_first.field-0.0 in
    let is : c.from_residual.result ≡ Err x = search rules in
    let why = ap (first_by (config_of (view_of e) u) (supply_of u) (state_in e) d) (ap cause_in (sym c.in_err-check_first.was) ∙ c.check_first.ensures) in
    λ o. fails (view_of e) u o k d x c.from_residual.result (first_packet (config_of (view_of e) u) (supply_of u) (state_in e) d) is why

-- the test of the code is that of the definition
length_test : (e : Ready) (u : Supplied) (d : Datagram) (a b : ℕ) (r : Bool) → r ≡ (ltb a 8 && (not (eqb a b) || not d.token_mark)) → a ≡ d.dst.len → b ≡ u.generator.len → bad_length (config_of (view_of e) u) d ≡ r
length_test e u d a b r is p q = sym (is ∙ ap₂ (λ x y. ltb x 8 && (not (eqb x y) || not d.token_mark)) p q)

pub returns-then-bad_length : goal.returns-then-bad_length
returns-then-bad_length g c =
    let e = c.args.self.now in
    let u = g.S.Supplies.all c.args.supplies.now in
    let d = seen c.args.received.now in
    let k = c.args.close.now in
    let passed = ap cause_in (sym c.in_ok-check_first.was) ∙ c.check_first.ensures in
    let bad = length_test e u d c.len.result c.cid_len.result true c.if-bad_length.ensures c.len.ensures.value c.cid_len.ensures in
    λ o. subst (Answered (view_of e) (view_of e) u _ o o k _ d (Ok Closed)) (is_bad (config_of (view_of e) u) (supply_of u) (state_in e) d passed bad)
    (closes (view_of e) u _ o k _ d 0x0a c.initial_close.ensures.close c.initial_close.ensures.after)

pub open-requires : goal.open-requires
open-requires g c =
    let e = c.args.self.now in
    let u = g.S.Supplies.all c.args.supplies.now in
    let d = seen c.args.received.now in
    let passed = ap cause_in (sym c.in_ok-check_first.was) ∙ c.check_first.ensures in
    let a = admits (config_of (view_of e) u) (state_in e) d (sym passed) in
    record {
      short = c.requires.short;
      few = admits_few (config_of (view_of e) u) (state_in e) a e.few_incoming;
      room = leb-false _ _ a.placed;
      absent = c.requires.absent;
    }

pub returns-in-Err-Closed : goal.returns-in-Err-Closed
returns-in-Err-Closed g c =
    let e = c.args.self.now in
    let u = g.S.Supplies.all c.args.supplies.now in
    let d = seen c.args.received.now in
    let k = c.args.close.now in
    let passed = ap cause_in (sym c.in_ok-check_first.was) ∙ c.check_first.ensures in
    let good = length_test e u d c.len.result c.cid_len.result false c.if-bad_length.ensures c.len.ensures.value c.cid_len.ensures in
    λ o. subst (Answered (view_of e) (view_of e) u u o o k k d (Err Undecodable)) (is_open (config_of (view_of e) u) (supply_of u) (state_in e) d passed good (Err unopened.Closed) (rw c.in-Err-Closed.field-0-is at c.in-Err-Closed.ensures)) (refuses (view_of e) u o k d Undecodable)

pub returns-in-Err-ReservedBits : goal.returns-in-Err-ReservedBits
returns-in-Err-ReservedBits g c =
    let e = c.args.self.now in
    let u = g.S.Supplies.all c.args.supplies.now in
    let d = seen c.args.received.now in
    let k = c.args.close.now in
    let passed = ap cause_in (sym c.in_ok-check_first.was) ∙ c.check_first.ensures in
    let good = length_test e u d c.len.result c.cid_len.result false c.if-bad_length.ensures c.len.ensures.value c.cid_len.ensures in
    λ o. subst (Answered (view_of e) (view_of e) u u o o k k d (Err ReservedBits)) (is_open (config_of (view_of e) u) (supply_of u) (state_in e) d passed good (Err unopened.ReservedBits) (rw c.in-Err-ReservedBits.field-0-is at c.in-Err-ReservedBits.ensures)) (refuses (view_of e) u o k d ReservedBits)

pub returns-in-Err-BadToken : goal.returns-in-Err-BadToken
returns-in-Err-BadToken g c =
    let e = c.args.self.now in
    let u = g.S.Supplies.all c.args.supplies.now in
    let d = seen c.args.received.now in
    let k = c.args.close.now in
    let passed = ap cause_in (sym c.in_ok-check_first.was) ∙ c.check_first.ensures in
    let good = length_test e u d c.len.result c.cid_len.result false c.if-bad_length.ensures c.len.ensures.value c.cid_len.ensures in
    let close = c.initial_close-in-Err-BadToken.ensures in
    λ o. subst (Answered (view_of e) (view_of e) u _ o o k _ d (Ok Closed)) (is_open (config_of (view_of e) u) (supply_of u) (state_in e) d passed good (Err unopened.BadToken) (rw c.in-Err-BadToken.field-0-is at c.in-Err-BadToken.ensures))
    (closes (view_of e) u _ o k _ d 0x0b close.close close.after)

pub returns-in-Ok : goal.returns-in-Ok
returns-in-Ok g c =
    let e = c.args.self.now in
    let u = g.S.Supplies.all c.args.supplies.now in
    let d = seen c.args.received.now in
    let k = c.args.close.now in
    let passed = ap cause_in (sym c.in_ok-check_first.was) ∙ c.check_first.ensures in
    let good = length_test e u d c.len.result c.cid_len.result false c.if-bad_length.ensures c.len.ensures.value c.cid_len.ensures in
    λ o. subst (Answered (view_of e) _ u u o o k k d _) (is_open (config_of (view_of e) u) (supply_of u) (state_in e) d passed good (Ok c.in-Ok.opening) c.in-Ok.ensures) (c.open.ensures u o k)
