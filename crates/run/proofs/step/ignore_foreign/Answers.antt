use Rattle.std.proofs.Common.{Ok, Err, sym, refl, ◌∙◌}
use Rattle.std.proofs.lemmas.Bool.{cond-true, eq-eqb}
use Rattle.endpoint.proofs.Answering.{same_frame}
use Rattle.calls.specs.declared.call.Brought.TheVariants.{Foreign}
use Rattle.endpoint.specs.State.{view}
use Rattle.run.proofs.Stepping.{voids, ignored_frame, ignores_foreign}
use Rattle.run.proofs.step.ignore_foreign.Goals as goal

pub returns-then-number : goal.returns-then-number
returns-then-number c =
    let e = view c.args.e.now in
    let p = c.args.pool.now in
    record {
      ignores = voids e p p (Foreign c.args.number c.args.slot) refl (λ slots H. cond-true _ _ _ (eq-eqb c.args.number e.number (c.if-number.true ∙ c.number.ensures)));
      frame = same_frame e;
    }

pub returns-in-Ok : goal.returns-in-Ok
returns-in-Ok c =
    let e = view c.args.e.now in
    let f = view c.ignore.new.self in
    let a = c.new.result in
    let r = Ok c.in-Ok.field-0 in
    let had = c.in-Ok.ensures.ignored c.requires in
    record {
      ignores = ignores_foreign e f c.args.pool.now c.args.number c.args.slot a r c.new.ensures (λ same. c.if-number.false (same ∙ sym c.number.ensures)) had;
      frame = ignored_frame e f a r had;
    }

pub returns-in-Err : goal.returns-in-Err
returns-in-Err c =
    let e = view c.args.e.now in
    let f = view c.ignore.new.self in
    let a = c.new.result in
    let r = Err c.in-Err.field-0 in
    let had = c.in-Err.ensures.ignored c.requires in
    record {
      ignores = ignores_foreign e f c.args.pool.now c.args.number c.args.slot a r c.new.ensures (λ same. c.if-number.false (same ∙ sym c.number.ensures)) had;
      frame = ignored_frame e f a r had;
    }
