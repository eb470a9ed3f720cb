use Rattle.std.proofs.lemmas.Bool.{cases_lt}
use Rattle.std.proofs.Common.{◌≡◌, ℕ, ◌+◌, ◌-◌, ◌<◌, ◌≤◌, inl, inr, arith}
use Rattle.std.proofs.lemmas.Bool.Decides.{nat_tests}
use Rattle.table.specs.Slots.{around}

-- One step on from d steps is d + 1 steps.
pub around_more : (n s d : ℕ) → s < n → d < n → around n (around n s d) 1 ≡ around n s (d + 1)
around_more n s d h i = grind (arith, nat_tests)

-- Going round does not leave the n places.
pub around_less : (n s d : ℕ) → s < n → d ≤ n → around n s d < n
around_less n s d h i = grind (arith, nat_tests)

-- No two distances below n lead to one place.
pub around_one : (n s d e : ℕ) → s < n → d < n → e < n → around n s d ≡ around n s e → d ≡ e
around_one n s d e h i j q = grind (arith, nat_tests)

-- Every place is at some distance.
pub around_to : (n s p : ℕ) → s < n → p < n → (d : ℕ) × (d < n) × (p ≡ around n s d)
around_to n s p h i = elim (cases_lt p s) [ inl q ↦ (p + n - s, omega arith, grind (arith, nat_tests)) | inr q ↦ (p - s, omega arith, grind (arith, nat_tests)) ]
