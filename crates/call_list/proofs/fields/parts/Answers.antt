use Rattle.std.proofs.lemmas.Iterator.Consumers.{map_from_collect}
use Rattle.std.proofs.lemmas.Iterator.Splits.{YieldsList-from_str_split}
use Rattle.call_list.proofs.Reading.{ok_later}
use Rattle.call_list.proofs.fields.parts.Goals as goal

pub returns : goal.returns
returns c = ok_later _ _ _ (λ small. map_from_collect _ c.collect.ensures.ran (YieldsList-from_str_split c.args.by c.args.text.now small c.split.ensures.text c.split.ensures.has_more c.split.ensures.pattern))
