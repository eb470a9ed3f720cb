use Rattle.std.proofs.Common.{rules, tests, ◌≡◌, ◌≤◌, ◌==◌, sym, length, ◌∙◌}
use Rattle.std.proofs.lemmas.Iterator.{YieldsList-from_slice}
use Rattle.std.proofs.lemmas.Iterator.Search.{all_from_yields_List}
use Rattle.suppliers.specs.Lists.{all_of}
use Rattle.suppliers.proofs.Fitting.{fits_from}
use Rattle.suppliers.proofs.list.ListGenerator.new.Goals as goal

pub invariant_of-result-clause-fits : goal.invariant_of-result-clause-fits
invariant_of-result-clause-fits c =
    let taken : (length c.args.ids.now ≤ 32) × (c.in_ok-ids.ids.items ≡ c.args.ids.now) = search rules in
    let every : c.all.result ≡ all_of c.len_of-len.result c.args.ids.now = all_from_yields_List (λ x. x.len == c.len_of-len.result) _ _ c.all.result c.all.ensures.ran (YieldsList-from_slice c.args.ids.now cc) (λ x b q k. search (rules, tests)) in
    fits_from c.args.ids.now _ _ (sym c.is_empty.ensures ∙ c.if-is_empty.false) taken.0 c.len_of-len.ensures (sym every ∙ c.if-not-all.false) taken.1
