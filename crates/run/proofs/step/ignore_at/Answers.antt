use Rattle.std.proofs.Common.{sym, subst}
use Rattle.endpoint.specs.State.{view}
use Rattle.run.specs.Steps.{Ignores}
use Rattle.run.proofs.step.ignore_at.Goals as goal

pub returns-in-Opened : goal.returns-in-Opened
returns-in-Opened c =
    record {
      ignores = subst (λ b. Ignores (view c.args.e.now) (view c.ignore_opened.new.e) c.args.pool.now c.ignore_opened.new.pool b c.ignore_opened.result) (sym c.in-Opened.is)
          c.ignore_opened.ensures.ignores;
      empty = c.ignore_opened.ensures.empty;
      frame = c.ignore_opened.ensures.frame;
    }

pub returns-in-Foreign : goal.returns-in-Foreign
returns-in-Foreign c =
    record {
      ignores = subst (λ b. Ignores (view c.args.e.now) (view c.ignore_foreign.new.e) c.args.pool.now c.args.pool.now b c.ignore_foreign.result) (sym c.in-Foreign.is)
          c.ignore_foreign.ensures.ignores;
      empty = λ k e. e;
      frame = c.ignore_foreign.ensures.frame;
    }
