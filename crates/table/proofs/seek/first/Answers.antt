use Rattle.std.proofs.Common.{rules}
use Rattle.std.proofs.lemmas.Iterator.{YieldsList-from_slice}
use Rattle.std.proofs.lemmas.Iterator.Search.{position_from_yields_List}
use Rattle.table.proofs.seek.first.Goals as goal

pub returns-clause-first : goal.returns-clause-first
returns-clause-first g c p h = position_from_yields_List p _ _ _ c.position.ensures.ran (YieldsList-from_slice c.args.items.now cc) (λ x b q k. (search rules, h x b (search rules)))
