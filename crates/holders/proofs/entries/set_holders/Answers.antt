use Rattle.std.proofs.Common.{ap, ◌∙◌, arith}
use Rattle.model.specs.Endpoint.{put}
use Rattle.holders.proofs.Tables.{put_all_more}
use Rattle.holders.proofs.entries.set_holders.Goals as goal

pub loop-cid-preserved : goal.loop-cid-preserved
loop-cid-preserved g c =
    let before = c.loop-cid.invariant in
    let set = c.set_holder.ensures in
    let v = c.args.holder in
    let x = c.cid.result in
    record {
      long = set.long ∙ before.long;
      few = omega (arith, set.few, before.few);
      maps =
          set.maps ∙ ap (λ f. put f x v) before.maps
          ∙ put_all_more _ v g.T.Named.named c.args.cids.now c.loop-cid.cid-index c.cid-item.result x (omega (arith, c.loop-cid-test.true)) c.cid-item.is c.cid.ensures;
    }
