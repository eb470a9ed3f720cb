use Rattle.std.proofs.Common.{rules, ◌≡◌, ◌++◌, ◌∷◌, [], ap, ◌∙◌, Ok, vec_items, arith, lit<}
use Rattle.std.proofs.lemmas.Grind.{common_steps}
use Rattle.call_list.specs.Lines.{texts}
use Rattle.call_list.proofs.Reading.{read_line}
use Rattle.call_list.proofs.list.with_calls.Goals as goal

pub loop-line-preserved : goal.loop-line-preserved
loop-line-preserved c =
    let e : c.call.result ≡ Ok c.in-Ok.call = search rules in
    let items : vec_items c.push.new.self ≡ vec_items c.loop-line.calls ++ (c.in-Ok.call ∷ []) = search rules in
    let cut = ap texts c.as_slice.ensures.value ∙ c.in_ok-words.ensures (lit< tt) in
    let bytes = rw e at c.call.ensures.bytes in
    let attempt = rw e at c.call.ensures.attempt in
    let before = c.loop-line.invariant in
    record {
      short = grind (arith, common_steps);
      read = rw items (read_line _ _ _ _ c.as_slice.result.now c.loop-line.line-index _ before.read before.many (omega arith) cut bytes attempt);
      many = search rules;
    }
