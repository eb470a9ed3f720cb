use Rattle.std.proofs.Common.{◌≡◌, ℕ, Bool, true, false, ◌&&◌, leb, length, Some, Ok, Err, sym, ap, ◌∙◌, subst}
use Rattle.std.proofs.lemmas.Bool.{cond-false}
use Rattle.records.specs.declared.cause.Cause.TheVariants.{Malformed}
use Rattle.records.specs.Received.{Datagram, seen, well_formed}
use Rattle.supply.specs.Meaning.{Supplied}
use Rattle.index.specs.Routes.{target_of}
use Rattle.model.specs.Calls.{fits}
use Rattle.endpoint.specs.declared.endpoint.Ready.{Ready}
use Rattle.endpoint.specs.declared.handled.Handled.TheVariants.{Delivered}
use Rattle.endpoint.specs.State.{state_in, view_of, config_of, supply_of}
use Rattle.endpoint.specs.Answers.{Answered}
use Rattle.endpoint.proofs.Answering.{refuses, delivers, is_handled, is_first, is_stray}
use Rattle.endpoint.proofs.endpoint.Ready.handle.Goals as goal

-- the test of the code is that of the definition
input_test : (e : Ready) (u : Supplied) (d : Datagram) (room a : ℕ) (r : Bool) → r ≡ (well_formed a d && leb 1500 room) → a ≡ u.generator.len → fits (config_of (view_of e) u) d room ≡ r
input_test e u d room a r is p = sym (is ∙ ap (λ n. well_formed n d && leb 1500 room) p)

pub returns-then-not-fits_input : goal.returns-then-not-fits_input
returns-then-not-fits_input g c =
    let e = c.args.self.now in
    let u = g.S.Supplies.all c.args.supplies.now in
    let d = seen c.args.received.now in
    let o = c.args.out.now in
    let k = c.args.close.now in
    let unfit = input_test e u d (length o) c.cid_len.result false c.if-not-fits_input.ensures c.cid_len.ensures in
    subst (Answered (view_of e) (view_of e) u u o o k k d (Err Malformed)) (sym (cond-false (fits (config_of (view_of e) u) d (length o)) _ _ unfit)) (refuses (view_of e) u o k d Malformed)

pub returns-in-Some-Connection : goal.returns-in-Some-Connection
returns-in-Some-Connection g c =
    let e = c.args.self.now in
    let u = g.S.Supplies.all c.args.supplies.now in
    let d = seen c.args.received.now in
    let o = c.args.out.now in
    let k = c.args.close.now in
    let fit = input_test e u d (length o) c.cid_len.result true c.if-not-fits_input.ensures c.cid_len.ensures in
    let to = ap (λ x. Some (target_of x)) (sym c.in-Some-Connection.field-0-is) ∙ c.in-Some-Connection.ensures in
    subst (Answered (view_of e) (view_of e) u u o o k k d (Ok (Delivered c.in-Some-Connection.handle))) (is_handled (config_of (view_of e) u) (supply_of u) (state_in e) d (length o) fit _ to)
    (delivers (view_of e) u o k d c.in-Some-Connection.handle)

pub returns-in-Some-Incoming : goal.returns-in-Some-Incoming
returns-in-Some-Incoming g c =
    let e = c.args.self.now in
    let u = g.S.Supplies.all c.args.supplies.now in
    let d = seen c.args.received.now in
    let o = c.args.out.now in
    let k = c.args.close.now in
    let fit = input_test e u d (length o) c.cid_len.result true c.if-not-fits_input.ensures c.cid_len.ensures in
    let to = ap (λ x. Some (target_of x)) (sym c.in-Some-Incoming.field-0-is) ∙ c.in-Some-Incoming.ensures in
    subst (Answered (view_of e) _ u u o o k k d _) (is_handled (config_of (view_of e) u) (supply_of u) (state_in e) d (length o) fit _ to) (c.keep.ensures u o k)

pub returns-then-is_initial : goal.returns-then-is_initial
returns-then-is_initial g c =
    let e = c.args.self.now in
    let u = g.S.Supplies.all c.args.supplies.now in
    let d = seen c.args.received.now in
    let o = c.args.out.now in
    let fit = input_test e u d (length o) c.cid_len.result true c.if-not-fits_input.ensures c.cid_len.ensures in
    subst (Answered (view_of e) _ u _ o o _ _ d _) (is_first (config_of (view_of e) u) (supply_of u) (state_in e) d (length o) fit c.in-None.ensures (sym c.if-is_initial.ensures)) (c.handle_first_packet.ensures o)

pub returns-else-is_initial : goal.returns-else-is_initial
returns-else-is_initial g c =
    let e = c.args.self.now in
    let u = g.S.Supplies.all c.args.supplies.now in
    let d = seen c.args.received.now in
    let o = c.args.out.now in
    let k = c.args.close.now in
    let fit = input_test e u d (length o) c.cid_len.result true c.if-not-fits_input.ensures c.cid_len.ensures in
    subst (Answered (view_of e) _ u _ o _ k k d _) (is_stray (config_of (view_of e) u) (supply_of u) (state_in e) d (length o) fit c.in-None.ensures (sym c.if-is_initial.ensures)) (c.stateless_reset.ensures k)
