use Rattle.std.proofs.Common.{vec_len}
use Rattle.run_calls.proofs.session.end_pool.Given as goal

abbrev pub decreases-loop-attempt : goal.decreases-loop-attempt
decreases-loop-attempt l = vec_len l.pool
