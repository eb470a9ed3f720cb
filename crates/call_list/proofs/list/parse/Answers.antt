use Rattle.std.proofs.Common.{◌≡◌, List, ap, ◌∙◌, length, map, min, arith}
use Rattle.call_list.specs.declared.list.Numbered.{Numbered}
use Rattle.call_list.proofs.Reading.{read_rest}
use Rattle.call_list.proofs.list.parse.Goals as goal

pub returns-clause-read : goal.returns-clause-read
returns-clause-read c =
    let texts : List Numbered → _ = map (λ (l : Numbered). l.text.now) in
    let lines = c.as_slice-lines.result.now in
    let read = ap texts c.as_slice-lines.ensures.value ∙ c.in_ok-lines.ensures in
    let few : c.min.result ≡ min 6 (length lines) = omega arith in
    rw (read_rest lines _ _ 6 c.min.result c.split_at.ensures.back few read) at c.with_calls.ensures.read
