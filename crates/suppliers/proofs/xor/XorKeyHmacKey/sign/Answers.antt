use Rattle.std.proofs.Common.{ℕ, ◌%◌, length, get_or, sym, ◌∙◌, rules, tests, arith}
use lib.Bits.{bit_xor}
use Rattle.suppliers.proofs.Signed.{xor_done, from_fn_at}
use Rattle.suppliers.proofs.xor.XorKeyHmacKey.sign.Goals as goal

pub returns : goal.returns
returns c =
    let xored = λ (i : ℕ). bit_xor (get_or c.args.self.now.key i 0) (get_or c.args.message.now (i % length c.args.message.now) 0) in
    xor_done c.args.self.now.key c.args.message.now _ (sym c.is_empty.ensures ∙ c.if-is_empty.false) c.from_fn.ensures.items.long
    (λ k h. from_fn_at _ _ _ xored 32 32 0 (omega arith) c.from_fn.ensures.items.each (λ i y q l e. search (rules, tests)) k 0 (omega arith) h)
