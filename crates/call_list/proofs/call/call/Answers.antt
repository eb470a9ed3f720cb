use Rattle.std.proofs.Common.{◌-◌, drop, length, arith, length-drop}
use Rattle.std.proofs.lemmas.List.{length-take, take_all}
use Rattle.call_list.proofs.Reading.{front_bytes}
use Rattle.call_list.proofs.call.call.Goals as goal

pub returns-in-handle-clause-bytes : goal.returns-in-handle-clause-bytes
returns-in-handle-clause-bytes c =
    let rest = drop 1 c.args.words.now in
    let n = length c.args.words.now - 1 - 1 in
    front_bytes _ rest n (omega (arith, length-take n rest)) c.handle.ensures.bytes

pub returns-in-handle-2-clause-bytes : goal.returns-in-handle-2-clause-bytes
returns-in-handle-2-clause-bytes c =
    let words = c.args.words.now in
    rw (take_all (length words - 1) (drop 1 words) (omega (arith, length-drop 1 words))) at c.handle-in-handle-2.ensures.bytes
