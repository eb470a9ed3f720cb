use Rattle.std.proofs.Common.{◌≡◌, length, map, vec_items}
use Rattle.std.specs.List.{AllByRecursion}
use Rattle.call_list.specs.declared.list.Numbered.{Numbered}
use Rattle.call_list.specs.Lines.{ReadInTurn, Short}
use Rattle.call_list.proofs.list.with_calls.Given as goal

abbrev pub invariant-loop-line : goal.invariant-loop-line
invariant-loop-line l = record {
  short : AllByRecursion Short (vec_items l.calls);
  read : ReadInTurn l.set_up.number (map (λ (n : Numbered). n.text.now) l.lines) (vec_items l.calls);
  many : length (vec_items l.calls) ≡ l.line-index;
}
