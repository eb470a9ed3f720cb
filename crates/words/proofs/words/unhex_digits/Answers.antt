use Rattle.std.proofs.Common.{arith, rules}
use Rattle.words.proofs.Hex.{odd, no_digit, hex_more}
use Rattle.words.proofs.words.unhex_digits.Goals as goal

pub returns-in_default : goal.returns-in_default
returns-in_default c = odd c.args.digits.now (search rules)

pub returns-in_default-nibble : goal.returns-in_default-nibble
returns-in_default-nibble c = no_digit c.args.digits.now _ c.loop-high.high-index 0 c.as_chunks.ensures.front (omega arith) (omega arith) c.in_default-nibble.ensures

pub returns-in_default-nibble-2 : goal.returns-in_default-nibble-2
returns-in_default-nibble-2 c = no_digit c.args.digits.now _ c.loop-high.high-index 1 c.as_chunks.ensures.front (omega arith) (omega arith) c.in_default-nibble-2.ensures

pub loop-high-preserved : goal.loop-high-preserved
loop-high-preserved c =
    let high = c.in-Some.ensures in
    let low = c.in-Some-nibble.ensures in
    rw c.in_ok-push.ensures.items
    (hex_more c.args.digits.now _ _ c.loop-high.high-index _ _ c.as_chunks.ensures.front c.loop-high.invariant (omega arith) high.0 low.0 high.1 low.1)
