use Rattle.std.proofs.Common.{◌≡◌, true, false, is_some, Some, None, Option, length, sym, refl, ◌∙◌}
use Rattle.std.proofs.lemmas.Bool.{both_ways}
use Rattle.model.specs.Endpoint.{is_none}
use Rattle.run.proofs.Stepping.{not_all_none}
use Rattle.run.proofs.pool.is_clear.Goals as goal

some_there : {A : Type 0} (o : Option A) → is_some o ≡ true → is_none o ≡ false
some_there None e = absurd (both_ways false refl e)
some_there (Some x) e = refl

pub returns-then-is_some : goal.returns-then-is_some
returns-then-is_some c =
    let pool = c.args.pool.now in
    sym (not_all_none pool (length pool) c.loop-attempt.attempt-index c.loop-attempt-test.true (some_there _ (sym c.is_some.ensures ∙ c.if-is_some.true)))
