use Rattle.std.proofs.Common.{replicate, refl}
use Rattle.endpoint.specs.State.{view}
use Rattle.run.proofs.Stepping.{past_pooled, handled_whole, handled_short}
use Rattle.run.proofs.step.handle_at.Goals as goal

pub returns-then-arrival : goal.returns-then-arrival
returns-then-arrival g c =
    let p = c.args.pool.now in
    let r = c.handle-handled.result in
    record {
      stepped = λ slots H.
          handled_short (view c.args.e.now) (view c.handle-handled.new.self) (g.S.Supplies.all c.args.supplies.now) (g.S.Supplies.all c.handle-handled.new.supplies)
          (replicate 1499 0) c.handle-handled.new.out c.default-close.result c.handle-handled.new.close r
          c.args.arrival.now p c.note.new.pool c.args.i c.note.result c.requires.within
          c.note.ensures.answer c.note.ensures.pool slots H c.args.block.now c.if-arrival.true refl (c.handle-handled.ensures.answered c.requires.ready);
      later = past_pooled r p c.args.i c.note.ensures.pool;
      frame = (c.handle-handled.ensures.answered c.requires.ready).frame;
    }

pub returns : goal.returns
returns g c =
    let p = c.args.pool.now in
    let r = c.handle-handled-2.result in
    record {
      stepped = λ slots H.
          handled_whole (view c.args.e.now) (view c.handle-handled-2.new.self) (g.S.Supplies.all c.args.supplies.now) (g.S.Supplies.all c.handle-handled-2.new.supplies)
          c.args.block.now c.handle-handled-2.new.out c.default-close.result c.handle-handled-2.new.close r
          c.args.arrival.now p c.note-2.new.pool c.args.i c.note-2.result c.requires.within
          c.note-2.ensures.answer c.note-2.ensures.pool slots H c.if-arrival.false c.told-block (c.handle-handled-2.ensures.answered c.requires.ready);
      later = past_pooled r p c.args.i c.note-2.ensures.pool;
      frame = (c.handle-handled-2.ensures.answered c.requires.ready).frame;
    }
