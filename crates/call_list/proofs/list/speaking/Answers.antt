use Rattle.std.proofs.Common.{rules, tests, ℕ, List}
use Rattle.std.proofs.lemmas.Iterator.{YieldsList-from_map_by}
use Rattle.std.proofs.lemmas.Iterator.Consumers.{map_from_collect, YieldsList-at, YieldsList-from_enumerate, YieldsList-from_filter}
use Rattle.std.proofs.lemmas.Iterator.Splits.{YieldsList-from_lines}
use Rattle.call_list.specs.declared.list.Numbered.{Numbered}
use Rattle.call_list.specs.Lines.{speaks}
use Rattle.call_list.proofs.Reading.{filter_numbered}
use Rattle.call_list.proofs.list.speaking.Goals as goal

pub returns : goal.returns
returns c =
    let text = c.args.text.now in
    rw (← filter_numbered speaks 0 _)
    (map_from_collect _ c.collect.ensures.ran
    (YieldsList-from_map_by _ (λ (l : Numbered). l.text.now) (λ (p : ℕ × List ℕ). p.1)
    (YieldsList-at c.map.ensures.source
    (YieldsList-from_filter _ (λ (p : ℕ × List ℕ). speaks p.1)
    (YieldsList-at c.filter.ensures.source
    (YieldsList-from_enumerate (YieldsList-at c.enumerate.ensures.source (YieldsList-from_lines text c.lines.ensures.rest)) c.enumerate.ensures.count))
    c.filter.ensures.closure (λ x b q k. search (rules, tests))))
    c.map.ensures.closure (λ x r q k. search rules)))
