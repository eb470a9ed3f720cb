use Rattle.std.proofs.Common.{◌≡◌, ◌*◌, take, vec_items}
use Rattle.words.specs.Words.{hex_of}
use Rattle.words.proofs.words.unhex_digits.Given as goal

abbrev pub invariant-loop-high : goal.invariant-loop-high
invariant-loop-high l = hex_of (vec_items l.bytes) ≡ take (2 * l.high-index) l.digits
