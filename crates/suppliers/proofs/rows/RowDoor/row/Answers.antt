use Rattle.std.proofs.Common.{rules, tests, ◌∙◌, ◌==◌}
use Rattle.std.proofs.lemmas.Iterator.{YieldsList-from_slice}
use Rattle.std.proofs.lemmas.Iterator.Search.{find_from_yields_List}
use Rattle.suppliers.proofs.rows.RowDoor.row.Goals as goal

pub returns : goal.returns
returns c = c.copied.ensures ∙ find_from_yields_List (λ r. r.version == c.args.version) _ _ _ c.find.ensures.ran (YieldsList-from_slice c.args.self.now.rows.items cc) (λ x b q k. search (rules, tests))
