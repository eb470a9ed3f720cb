use Rattle.std.proofs.Common.{◌≡◌, ◌+◌, ◌≤◌, map, length, take}
use Rattle.table.specs.Slots.{lookup}
use Rattle.records.specs.Ids.{same_id}
use Rattle.model.specs.Endpoint.{put_all}
use Rattle.holders.proofs.entries.set_holders.Given as goal

abbrev pub invariant-loop-cid : goal.invariant-loop-cid
invariant-loop-cid g l =
    record {
      long : length l.ids.slots.now ≡ length l.initial.ids.slots.now;
      few : l.ids.count ≤ l.initial.ids.count + l.cid-index;
      maps : lookup same_id l.ids.slots.now ≡ put_all (lookup same_id l.initial.ids.slots.now) (map g.T.Named.named (take l.cid-index l.cids)) l.holder;
    }
