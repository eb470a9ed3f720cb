use Rattle.std.proofs.Common.{arith}
use Rattle.places.proofs.Views.{added, room, in_blocks}
use Rattle.places.proofs.places.Places.keep.Goals as goal

pub lay-requires-clause-b_in_bounds : goal.lay-requires-clause-b_in_bounds
lay-requires-clause-b_in_bounds c = in_blocks _ _ _ _ (room c.args.self.now c.requires.room) c.args.self.now.named c.free_block-block.ensures

pub invariant_of-self : goal.invariant_of-self
invariant_of-self c =
    let w = c.args.self.now in
    let a = added w c.args.slot c.args.first c.args.received.now.datagram.now c.args.received.now.bytes.now c.requires.room c.requires.short c.free_block-block.ensures c.lay.ensures c.push.ensures.items c.push.ensures.used in
    record { few = omega (arith, c.push.ensures.long, w.few); apart = a.apart; named = a.named; whole = a.whole }

pub returns-clause-entries : goal.returns-clause-entries
returns-clause-entries c =
    (added c.args.self.now c.args.slot c.args.first c.args.received.now.datagram.now c.args.received.now.bytes.now c.requires.room c.requires.short c.free_block-block.ensures c.lay.ensures c.push.ensures.items c.push.ensures.used).entries
