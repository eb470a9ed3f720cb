use Rattle.std.proofs.Common.{◌≡◌, ℕ, length, sym, ap, subst}
use Rattle.std.proofs.lemmas.Bool.{both_ways}
use Rattle.records.specs.declared.cause.Cause.TheVariants.{SetUp}
use Rattle.records.specs.Received.{Datagram, seen}
use Rattle.supply.specs.Meaning.{Supplied, AllLawful, token_of}
use Rattle.model.specs.Calls.{handle}
use Rattle.model.specs.Rfc9000.{KeepsToRfc9000}
use Rattle.model.proofs.Rfc9000.{keeps_to_rfc9000, token_length}
use Rattle.endpoint.specs.State.{View, view_of, view_as, view, config_of, supply_of}
use Rattle.endpoint.specs.Answers.{Answered}
use Rattle.endpoint.proofs.Answering.{refuses}
use Rattle.endpoint.proofs.endpoint.Endpoint.handle.Goals as goal

by_rfc : (e : View) (u : Supplied) (d : Datagram) (room : ℕ) → AllLawful u → KeepsToRfc9000 (config_of e u) (supply_of u) (token_of u.signer) e.state d room
by_rfc e u d room laws = keeps_to_rfc9000 (config_of e u) (supply_of u) (token_of u.signer) e.state d room laws.source (token_length u.signer laws.signer)

pub returns-in-Ok : goal.returns-in-Ok
returns-in-Ok g c =
    let e = view c.args.self.now in
    let u = g.S.Supplies.all c.args.supplies.now in
    let v = g.S.Supplies.all c.handle.new.supplies in
    let d = seen c.args.received.now in
    let o = c.args.out.now in
    let is : e ≡ view_of c.in-Ok.ready = ap view_as c.in-Ok.is in
    record {
      refused = λ n. absurd (both_ways e.ready n (ap (λ (w : View). w.ready) is));
      answered = λ _. subst (λ w. Answered w (view_of c.handle.new.self) u v o c.handle.new.out c.args.close.now c.handle.new.close d c.handle.result (handle (config_of w u) (supply_of u) w.state d (length o))) (sym is) c.handle.ensures;
      rfc = by_rfc e u d (length o) (g.met.S.Supplies.lawful c.args.supplies.now);
    }

pub returns-in-Err : goal.returns-in-Err
returns-in-Err g c =
    let e = view c.args.self.now in
    let u = g.S.Supplies.all c.args.supplies.now in
    let d = seen c.args.received.now in
    let o = c.args.out.now in
    record {
      refused = λ _. refuses e u o c.args.close.now d SetUp;
      answered = λ r. absurd (both_ways e.ready (ap (λ x. (view_as x).ready) c.in-Err.is) r);
      rfc = by_rfc e u d (length o) (g.met.S.Supplies.lawful c.args.supplies.now);
    }
