use Rattle.std.proofs.Common.{◌<◌, length, get_or, sym, ◌∙◌, arith}
use Rattle.std.proofs.lemmas.List.{get_or_default}
use Rattle.std.proofs.lemmas.List.Filters.{FiltersInPlace-more_no, FiltersInPlace-more_swap}
use Rattle.std.proofs.lemmas.List.Sorted.{IsPermutation-trans}
use Rattle.std.proofs.lemmas.Bool.{not_from_true, not_from_false}
use Rattle.places.proofs.ops.Stack+Place.spend.Goals as goal
use Rattle.places.proofs.ops.Stack+Place.spend.Goals.{then-other, else-other}

pub loop-i-preserved : goal.loop-i-preserved
loop-i-preserved c =
    let ys = c.loop-i.items in
    let x = get_or ys c.loop-i.i c.index-items-i.result in
    let lt : c.loop-i.i < length ys = omega (arith, c.loop-i.invariant.0.long) in
    let e = get_or_default ys c.loop-i.i c.index-items-i.result x lt in
    elim c.if-other.branch [
      | then-other w ↦
          rw (w.items-is, w.kept-is) (
            FiltersInPlace-more_swap {x = x} c.loop-i.invariant.0 lt (not_from_false _ (sym c.is_of-other.ensures ∙ w.if-other.true)) e w.swap.ensures.by_index,
            IsPermutation-trans _ _ _ c.loop-i.invariant.1 w.swap.ensures.permutation,
          )
      | else-other w ↦
          rw (w.items-is, w.kept-is)
          (FiltersInPlace-more_no {x = x} c.loop-i.invariant.0 lt (not_from_true _ (sym c.is_of-other.ensures ∙ w.if-other.false)) e, c.loop-i.invariant.1)
    ]
