use Rattle.std.proofs.Common.{◌≡◌, ◌++◌, drop, ap, ◌∙◌, ap₂, arith}
use Rattle.supply.specs.Meaning.{token_of}
use Rattle.model.specs.Endpoint.{row}
use Rattle.model.specs.Calls.{marked}
use Rattle.model.proofs.Draws.{row_length, row_shift}
use Rattle.resets.specs.Bytes.{over, picked, padding}
use Rattle.resets.proofs.Writing.{marked_length, over_behind}
use Rattle.resets.proofs.reset.write_reset.Goals as goal

pub returns-clause-bytes : goal.returns-clause-bytes
returns-clause-bytes g c =
    let s = g.S.Supplies.all c.args.supplies.now in
    let i = picked c.args.n in
    let p = padding s.source c.args.n in
    let pe = c.padding_len-padding.ensures in
    let split = c.split_at_mut-drawn.ensures in
    let drawn = c.draw_bytes.ensures in
    let bytes : c.draw_bytes.new.out ≡ row s.source i p =
    drawn.bytes ∙ ap₂ (λ u k. row u.source 0 k) pe.after (split.front_len ∙ pe.value) ∙ row_shift s.source i 0 p ∙ ap (λ k. row s.source k p) (omega arith) in
    let signer = ap (λ u. u.signer) drawn.after ∙ ap (λ u. u.signer) pe.after in
    ap₂ (λ xs ys. xs ++ ys) (c.mark.ensures ∙ ap marked bytes)
    (c.write_token.ensures ∙ ap₂ (λ f ys. over (token_of f c.args.cid.now) ys) signer (split.back ∙ ap (λ k. drop k c.args.out.now) pe.value))
    ∙ over_behind (marked (row s.source i p)) (token_of s.signer c.args.cid.now) c.args.out.now p (marked_length (row s.source i p) ∙ row_length s.source i p)
