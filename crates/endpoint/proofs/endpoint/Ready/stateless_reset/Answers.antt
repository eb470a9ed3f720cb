use Rattle.std.proofs.Common.{◌≡◌, ◌+◌, length, take, Ok, Err, sym, refl, ap, ◌∙◌, subst, rules}
use Rattle.records.specs.Received.{seen, size}
use Rattle.supply.specs.Meaning.{token_of}
use Rattle.model.specs.Endpoint.{row}
use Rattle.model.specs.Calls.{marked, stray, stray_by}
use Rattle.model.proofs.Draws.{row_length}
use Rattle.model.proofs.Rfc9000.{token_length}
use Rattle.resets.specs.Bytes.{picked, padding}
use Rattle.resets.proofs.Writing.{marked_length}
use Rattle.endpoint.specs.declared.handled.Handled.TheVariants.{Reset}
use Rattle.endpoint.specs.State.{state_in, view_of, config_of, supply_of}
use Rattle.endpoint.specs.Answers.{reset_of, Answered, cause_in}
use Rattle.endpoint.proofs.Answering.{fails, reset_outcome, reset_read}
use Rattle.endpoint.proofs.endpoint.Ready.stateless_reset.Goals as goal

pub returns-in_err-check_stray : goal.returns-in_err-check_stray
returns-in_err-check_stray g c =
    let e = c.args.self.now in
    let u = g.S.Supplies.all c.args.supplies.now in
    let d = seen c.args.received.now in
    let o = c.args.out.now in
    let x = c.in_err-check_stray.field-0.0 in
    let is : c.from_residual.result ≡ Err x = search rules in
    let why = ap (stray_by (supply_of u) (state_in e) d) (ap cause_in (sym c.in_err-check_stray.was) ∙ c.check_stray.ensures) in
    λ k. fails (view_of e) u o k d x c.from_residual.result (stray (config_of (view_of e) u) (supply_of u) (state_in e) d) is why

pub returns : goal.returns
returns g c =
    let e = c.args.self.now in
    let u = g.S.Supplies.all c.args.supplies.now in
    let d = seen c.args.received.now in
    let o = c.args.out.now in
    let n = size d in
    let w = c.write_reset-n.ensures in
    let xs = marked (row u.source (picked n) (padding u.source n)) in
    let long : length xs ≡ padding u.source n = marked_length (row u.source (picked n) (padding u.source n)) ∙ row_length u.source (picked n) (padding u.source n) in
    let token = token_of u.signer d.dst in
    let sixteen = token_length u.signer (g.met.S.Supplies.lawful c.args.supplies.now).signer d.dst in
    let is = ap (stray_by (supply_of u) (state_in e) d) (ap cause_in (sym c.in_ok-check_stray.was) ∙ c.check_stray.ensures) in
    λ k. subst (Answered (view_of e) _ u _ o _ k k d (Ok (Reset c.write_reset-n.result))) (reset_outcome u (state_in e) d ∙ is) (record {
      answer =
          ap (λ r. reset_of d (take c.write_reset-n.result r)) w.bytes
          ∙ reset_read d xs token o c.write_reset-n.result sixteen (w.value ∙ ap (λ m. m + 16) (sym long));
      number = tt;
      state = refl;
      drawn = w.after;
      output = w.bytes;
      close = refl;
      frame = record { ready = refl; settings = refl; number = refl; width = refl };
    })
