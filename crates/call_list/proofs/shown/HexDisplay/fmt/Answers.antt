use Rattle.std.proofs.Common.{get_or, arith, rules}
use Rattle.std.specs.Fmt.{HasWritten}
use Rattle.std.proofs.Output.{has_written_append}
use Rattle.call_list.proofs.Printed.{printed, hex_more}
use Rattle.call_list.proofs.shown.HexDisplay.fmt.Goals as goal

pub loop-byte-preserved : goal.loop-byte-preserved
loop-byte-preserved g c p =
    let bs = c.args.self.now.0.now in
    let i = c.loop-byte.byte-index in
    let byte : HasWritten g.W.Write.write_str_gives c.loop-byte.f (printed (get_or bs i 0)) c.write.new.self = search rules in
    rw (← hex_more bs i (omega arith) (omega arith)) (has_written_append _ _ _ _ _ _ (c.loop-byte.invariant p) byte)
