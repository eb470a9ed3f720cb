use Rattle.std.proofs.Common.{sym, ◌∙◌}
use Rattle.holders.proofs.Tables.{put_some}
use Rattle.holders.proofs.entries.set_holder.Goals as goal

pub returns-then-not-is_empty-clause-maps : goal.returns-then-not-is_empty-clause-maps
returns-then-not-is_empty-clause-maps c = c.set.ensures.maps ∙ put_some _ c.args.id c.args.holder (sym c.is_empty.ensures ∙ c.if-not-is_empty.true)
