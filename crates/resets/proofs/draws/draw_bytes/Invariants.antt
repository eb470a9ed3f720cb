use Rattle.std.proofs.Common.{◌≡◌, take}
use Rattle.supply.specs.Meaning.{spent}
use Rattle.model.specs.Endpoint.{row}
use Rattle.resets.proofs.draws.draw_bytes.Given as goal

abbrev pub invariant-loop-byte : goal.invariant-loop-byte
invariant-loop-byte g l =
    let all = g.S.Supplies.all in
    record {
      drawn : take l.byte-index l.byte-items ≡ row (all l.initial.supplies).source 0 l.byte-index;
      after : all l.supplies ≡ spent 0 l.byte-index (all l.initial.supplies);
    }
