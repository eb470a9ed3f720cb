use Rattle.std.proofs.Common.{ℕ, zero, suc, ◌^◌, ◌<◌, ◌≤◌, arith, lit<}
use Rattle.endpoint.proofs.limits.space.Goals as goal

few : (n : ℕ) → n ≤ 4 → 256 ^ n < 2 ^ 64
few zero h = lit< tt
few (suc zero) h = lit< tt
few (suc (suc zero)) h = lit< tt
few (suc (suc (suc zero))) h = lit< tt
few (suc (suc (suc (suc zero)))) h = lit< tt
few (suc (suc (suc (suc (suc n))))) h = absurd (omega arith)

pub pow-requires : goal.pow-requires
pow-requires c = few c.args.len c.requires
