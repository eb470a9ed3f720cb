use Rattle.std.proofs.Common.{◌≡◌, [], length, get_or, refl, ◌∙◌, subst, arith}
use Rattle.std.proofs.lemmas.List.{get_or_read}
use Rattle.endpoint.specs.State.{view}
use Rattle.run.specs.Steps.{outcome, Stepped}
use Rattle.calls.specs.Lists.{call_of}
use Rattle.run.specs.Runs.{no_call, world_so}
use Rattle.run.proofs.Running.{ran_as, progress_more, progress_none, lent, same_frames, fitting, holds_at}
use Rattle.run.proofs.run.run_all.Goals as goal

pub loop-i-init : goal.loop-i-init
loop-i-init g c =
    let l = lent (length c.args.calls.now) c.args.pool.now (length c.args.blocks.now) (length c.args.answers.now) c.requires.room in (
      record { ready = refl; settings = refl; number = refl; width = refl },
      (λ k h. l.clear k),
      (λ E built. progress_none E c.args.calls.now (view c.args.e.now) (g.S.Supplies.all c.args.supplies.now) c.args.pool.now c.args.blocks.now c.args.answers.now c.requires.new l.clear),
    )

pub step-requires : goal.step-requires
step-requires g c =
    let l = lent (length c.args.calls.now) c.args.pool.now (length c.args.blocks.now) (length c.args.answers.now) c.requires.room in
    record {
      ready = c.loop-i.invariant.0.ready ∙ c.requires.ready;
      within = omega (arith, l.places);
      free = c.loop-i.invariant.1 c.loop-i.i (omega arith);
    }

pub loop-i-preserved : goal.loop-i-preserved
loop-i-preserved g c =
    let all = g.S.Supplies.all in
    let e = view c.loop-i.e in
    let u = all c.args.supplies.now in
    let v = all c.loop-i.supplies in
    let calls = c.args.calls.now in
    let i = c.loop-i.i in
    let pool = c.loop-i.pool in
    let blocks = c.loop-i.blocks in
    let step = c.step in
    let l = lent (length calls) c.args.pool.now (length c.args.blocks.now) (length c.args.answers.now) c.requires.room in
    let at : c.index-calls-i.result ≡ get_or calls i no_call = get_or_read calls i c.index-calls-i.result c.loop-i-test.true c.index-calls-i.is no_call in (
      same_frames (view c.args.e.now) e (view step.new.e) c.loop-i.invariant.0 step.ensures.frame,
      (λ k h. step.ensures.later k (omega arith) (c.loop-i.invariant.1 k (omega arith))),
      (λ E built.
          let p = c.loop-i.invariant.2 E built in
          let w = world_so E calls i in
          let fit = fitting E (view c.args.e.now) e u v w built c.loop-i.invariant.0 p.ran.drawn p.state in
          let stepped = step.ensures.stepped w.slots (holds_at E e pool w.slots fit.number p.ran.held) in
          progress_more E calls i e (view step.new.e) u v (all step.new.supplies) pool step.new.pool c.args.blocks.now blocks c.args.answers.now c.loop-i.answers
          step.new.block step.result fit p.ran (omega (arith, l.outputs)) (omega (arith, l.records))
          (subst (λ x. Stepped e (view step.new.e) v (all step.new.supplies) pool step.new.pool (get_or blocks i []) step.new.block i x w.slots step.result (outcome e v w.slots (call_of x))) at stepped)),
    )

pub returns : goal.returns
returns g c =
    let n : c.loop-i.i ≡ length c.args.calls.now = omega (arith, c.loop-i-test.false) in
    let calls = c.args.calls.now in
    record {
      ready = c.loop-i.invariant.0.ready ∙ c.requires.ready;
      ran = λ E built. ran_as E calls _ _ _ _ _ _ _ _ _ n (c.loop-i.invariant.2 E built).ran;
      state = λ E built. subst (λ k. (view c.loop-i.e).state ≡ (world_so E calls k).state) n (c.loop-i.invariant.2 E built).state;
    }
