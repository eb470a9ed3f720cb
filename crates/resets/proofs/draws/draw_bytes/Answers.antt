use Rattle.std.proofs.Common.{[], ◌∷◌, ◌++◌, ap, ◌∙◌, arith}
use Rattle.std.proofs.lemmas.List.{take_more_set}
use Rattle.supply.specs.Meaning.{spent}
use Rattle.supply.proofs.Spending.{spent_add}
use Rattle.resets.proofs.Writing.{row_more}
use Rattle.resets.proofs.draws.draw_bytes.Goals as goal

pub loop-byte-preserved : goal.loop-byte-preserved
loop-byte-preserved g c =
    let s = g.S.Supplies.all c.args.supplies.now in
    let i = c.loop-byte.byte-index in
    let b = c.next_byte.result in
    let inv = c.loop-byte.invariant in
    let is = c.next_byte.ensures.drawn ∙ ap (λ u. u.source 0) inv.after in
    record {
      drawn = take_more_set c.loop-byte.byte-items i b (omega arith) ∙ ap (λ t. t ++ b ∷ []) inv.drawn ∙ row_more s.source i b is;
      after = c.next_byte.ensures.after ∙ ap (spent 0 1) inv.after ∙ spent_add 0 1 0 i s;
    }
