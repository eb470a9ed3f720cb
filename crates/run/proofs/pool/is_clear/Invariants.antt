use Rattle.std.proofs.Common.{◌≡◌, true}
use Rattle.run.specs.Pools.{all_none}
use Rattle.run.proofs.pool.is_clear.Given as goal

-- there is no attempt so far
abbrev pub invariant-loop-attempt : goal.invariant-loop-attempt
invariant-loop-attempt l = all_none l.pool l.attempt-index ≡ true
