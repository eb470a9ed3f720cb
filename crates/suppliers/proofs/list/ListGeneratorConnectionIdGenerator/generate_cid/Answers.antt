use Rattle.std.proofs.Common.{length, ap}
use Rattle.suppliers.specs.Turns.{in_turn_after}
use Rattle.suppliers.proofs.list.ListGeneratorConnectionIdGenerator.generate_cid.Goals as goal

pub returns-clause-after : goal.returns-clause-after
returns-clause-after c = rw (c.place_after-self.ensures) (in_turn_after c.args.self.now.ids.items c.args.self.now.at _ (ap length c.as_slice-ids.ensures.value))
