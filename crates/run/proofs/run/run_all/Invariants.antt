use Rattle.std.proofs.Common.{◌≡◌, ℕ, ◌≤◌, get_or, None}
use Rattle.model.specs.Runs as runs
use Rattle.endpoint.specs.State.{view, Frame}
use Rattle.run.specs.Runs.{Built}
use Rattle.run.proofs.Running.{Progress}
use Rattle.run.proofs.run.run_all.Given as goal

abbrev pub invariant-loop-i : goal.invariant-loop-i
invariant-loop-i g l =
    let all = g.S.Supplies.all in
    let u = all l.initial.supplies in
    Frame (view l.initial.e) (view l.e)
    × ((k : ℕ) → l.i ≤ k → get_or l.pool k None ≡ None)
    × ((E : runs.Endpoint) → Built E (view l.initial.e).settings (view l.initial.e).width (view l.initial.e).number u →
    Progress E l.calls l.i (view l.e) u (all l.supplies) l.pool l.initial.blocks l.blocks l.initial.answers l.answers)
