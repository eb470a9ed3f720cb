use Rattle.std.proofs.Common.{sym}
use Rattle.table.proofs.Lookups.{used_none}
use Rattle.table.proofs.Tables.{reached_cleared}
use Rattle.table.proofs.table.Table.new.Goals as goal

pub invariant_of-result : goal.invariant_of-result
invariant_of-result g c =
    record { reached = reached_cleared g.K.PartialEq.eq g.K.Key.code c.clear.new.slots c.clear.ensures; counted = sym (used_none c.clear.new.slots c.clear.ensures) }
