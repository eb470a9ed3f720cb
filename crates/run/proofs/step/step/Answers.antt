use Rattle.std.proofs.Common.{sym, subst}
use Rattle.calls.specs.Lists.{call_of}
use Rattle.endpoint.specs.State.{view}
use Rattle.run.specs.Steps.{outcome, Stepped}
use Rattle.run.proofs.step.step.Goals as goal

pub returns-in-Ignore : goal.returns-in-Ignore
returns-in-Ignore g c =
    let e = view c.args.e.now in
    let u = g.S.Supplies.all c.args.supplies.now in
    let p = c.args.pool.now in
    let block = c.args.block.now in
    record {
      stepped = λ slots H.
          subst (λ call. Stepped e (view c.ignore_at.new.e) u u p c.ignore_at.new.pool block block c.args.i call slots c.ignore_at.result (outcome e u slots (call_of call)))
          (sym c.in-Ignore.is) (c.ignore_at.ensures.ignores u block c.args.i slots H);
      later = λ k h e. c.ignore_at.ensures.empty k e;
      frame = c.ignore_at.ensures.frame;
    }
