use Rattle.std.proofs.Common.{◌≡◌, true, sym, ◌∙◌}
use Rattle.std.proofs.lemmas.Bool.{both_ways}
use Rattle.endpoint.specs.State.{view}
use Rattle.run.proofs.run.run_ready.Goals as goal

pub returns : goal.returns
returns g c =
    let ready : (view c.args.e.now).ready ≡ true = sym c.if-not-is_ready.ensures in
    record {
      ready = c.run_all.ensures.ready ∙ sym ready;
      refused = λ f. absurd (both_ways (view c.args.e.now).ready f ready);
      ran = λ _ E built. (c.run_all.ensures.ran E built, c.run_all.ensures.state E built);
    }
