use Rattle.std.proofs.Common.{None, Ok, Err, sym, refl}
use Rattle.std.proofs.lemmas.List.{get_or_past}
use Rattle.endpoint.proofs.Answering.{same_frame}
use Rattle.endpoint.specs.State.{view}
use Rattle.run.proofs.Stepping.{took_none, still_same, still_taken, still_put, void_opened, ignored_frame, ignores_opened, keeps_opened}
use Rattle.run.proofs.step.ignore_opened.Goals as goal

pub returns-then-k-pool : goal.returns-then-k-pool
returns-then-k-pool c =
    let e = view c.args.e.now in
    let p = c.args.pool.now in
    let k = c.args.k in
    record { ignores = void_opened e p p k refl (sym (get_or_past p k None c.if-k-pool.true)); empty = still_same {p = p} refl; frame = same_frame e }

pub returns-in-None : goal.returns-in-None
returns-in-None c =
    let e = view c.args.e.now in
    let p = c.args.pool.now in
    let k = c.args.k in
    let none = c.in-None.ensures.value in
    let same = took_none p k c.in-None.ensures.after none in
    record { ignores = void_opened e p c.take.new.pool k same none; empty = still_same same; frame = same_frame e }

pub returns-in-Ok : goal.returns-in-Ok
returns-in-Ok c =
    let e = view c.args.e.now in
    let f = view c.ignore.new.self in
    let a = c.in-Some.attempt in
    let had = c.in-Ok.ensures.ignored c.requires in
    let p = c.args.pool.now in
    let k = c.args.k in
    let took = c.in-Some.ensures.after in
    record {
      ignores = ignores_opened e f p c.take.new.pool k a c.in-Ok.field-0 c.if-k-pool.false c.in-Some.ensures.value took had;
      empty = still_taken p k took;
      frame = ignored_frame e f a (Ok c.in-Ok.field-0) had;
    }

pub returns-in-Err : goal.returns-in-Err
returns-in-Err c =
    let e = view c.args.e.now in
    let f = view c.ignore.new.self in
    let a = c.in-Some.attempt in
    let h = c.in-Err.field-0 in
    let had = c.in-Err.ensures.ignored c.requires in
    let p = c.args.pool.now in
    let k = c.args.k in
    let took = c.in-Some.ensures.after in
    let there = c.in-Some.ensures.value in
    record {
      ignores = keeps_opened e f p c.take.new.pool c.put.new.pool k a h took there c.put.ensures had;
      empty = still_put p k h.attempt took there c.put.ensures;
      frame = ignored_frame e f a (Err h) had;
    }
