use Rattle.std.proofs.Common.{◌≡◌, ◌<◌, length, get_or, sym, ap, ◌∙◌, arith}
use Rattle.std.proofs.lemmas.List.{get_or_read}
use Rattle.table.specs.declared.slot.Slot.TheVariants.{Empty}
use Rattle.table.specs.Slots.{around, is_freed, is_empty}
use Rattle.table.proofs.Rounds.{around_less}
use Rattle.table.proofs.Searches.{freed_is, empty_is}
use Rattle.table.proofs.Tables.{tidied_more}
use Rattle.table.proofs.ops.tidy.Goals as goal

pub loop-turn-preserved : goal.loop-turn-preserved
loop-turn-preserved g c =
    let s = c.args.slots.now in
    let t = c.loop-turn.slots in
    let at = c.loop-turn.at in
    let inv = c.loop-turn.invariant in
    let lg : length t ≡ length s = c.loop-turn.auto.slots in
    let il : at < length t = omega arith in
    let al : around (length t) at 1 < length t = around_less (length t) at 1 il (omega arith) in
    let af : c.next-after.result ≡ around (length t) at 1 = c.next-after.ensures.is ∙ ap (λ n. around n at 1) (sym lg) in
    let fr = freed_is (get_or t at Empty) (ap is_freed (sym (get_or_read t at c.index-slots-at.result il c.index-slots-at.is Empty) ∙ c.index-slots-at.is) ∙ sym c.is_freed.ensures ∙ c.if-not-is_freed.false) in
    let em = empty_is (get_or t c.next-after.result Empty) (ap is_empty (sym (get_or_read t c.next-after.result c.index-slots-after.result (omega arith) c.index-slots-after.is Empty) ∙ c.index-slots-after.is) ∙ sym c.is_empty.ensures ∙ c.if-not-is_empty.false) in (
      c.prev-at.ensures,
      λ h. tidied_more g.K.PartialEq.eq g.met.K.Key.exact g.met.K.Eq.laws.refl g.K.Key.code s t at il (inv.1 h) fr (ap (λ i. get_or t i Empty) (sym af) ∙ em),
    )
