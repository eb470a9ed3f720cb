use Rattle.std.proofs.Common.{◌≡◌, ◌<◌, length, get_or, set, sym, ap, ◌∙◌, subst, arith}
use lib.ListN.{length-map}
use Rattle.places.specs.Entries.{entry, HasBytes}
use Rattle.places.specs.Stacks.{held}
use Rattle.places.specs.Held.{entries}
use Rattle.places.proofs.Views.{entry_at}
use Rattle.places.proofs.Writes.{kept_no, kept_yes, writing_no, writing_yes}
use Rattle.places.proofs.places.Places.write.Goals as goal
use Rattle.places.proofs.places.Places.write.Goals.{then-is_of, else-is_of}

pub loop-p-preserved : goal.loop-p-preserved
loop-p-preserved c =
    let w = c.args.self.now in
    let bs = w.blocks.items.now in
    let ps = held w.records in
    let i = c.loop-p.p-index in
    let p = c.p-item.result in
    let x = entry bs p in
    let lt : i < length ps = omega (arith, ap length c.as_slice-p-items.ensures) in
    let is : p ≡ get_or ps i p = c.p-item.is ∙ ap (λ qs. get_or qs i p) c.as_slice-p-items.ensures in
    let le : i < length (entries w) = rw length-map lt in
    let at = entry_at bs ps i p lt is in
    let h : HasBytes bs p = subst (HasBytes bs) (sym is) (w.whole i p lt) in
    let v = c.loop-p.invariant in
    elim c.if-is_of.branch [
      | then-is_of b ↦
          let e = b.extend_from_slice.ensures in
          let k = b.push.ensures in
          let r = ap (λ n. set c.loop-p.kept.items.now c.loop-p.kept.used (record { datagram = p.kept.datagram; len = n })) h.0 in
          rw (b.kept-is, b.laid-is, kept_yes _ _ i x x le at (sym c.is_of.ensures ∙ b.if-is_of.true)) (
            writing_yes x v.0 (omega (arith, h.0, h.1)) (omega (arith, c.requires.room, ap length c.empty-kept.ensures.items)) (k.items ∙ r) k.used e.items e.used,
            k.same ∙ v.1,
            e.same ∙ v.2,
          )
      | else-is_of b ↦ rw (b.kept-is, b.laid-is, kept_no _ _ i x x le at (sym c.is_of.ensures ∙ b.if-is_of.false)) (writing_no v.0, v.1, v.2)
    ]
