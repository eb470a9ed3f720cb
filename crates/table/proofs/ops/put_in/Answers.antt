use Rattle.std.proofs.Common.{◌≡◌, Some, None, Err, subst, sym, ◌∙◌, ◌<◌, length, rules}
use Rattle.table.specs.declared.ops.Full.{Full}
use Rattle.table.specs.declared.slot.Slot.TheVariants.{Empty}
use Rattle.table.specs.Slots.{vacates, Put}
use Rattle.table.proofs.Searches.{round_is}
use Rattle.table.proofs.Tables.{put_known, put_new, put_full}
use Rattle.table.proofs.ops.put_in.Goals as goal

pub returns-in-Some : goal.returns-in-Some
returns-in-Some g c =
    let e = c.in-Some.ensures in
    let w = put_known g.K.PartialEq.eq g.met.K.Key.exact g.met.K.Eq.laws.refl Full g.K.Key.code c.args.slots.now c.args.k c.args.v c.in-Some.x.value c.in-Some.x.at e.0 e.1 in
    record { reached = λ h. (w h).0; done = λ h. (w h).1 }

pub returns : goal.returns
returns g c =
    let s = c.args.slots.now in
    let found : c.vacant.result ≡ Some c.in_ok-p.p = search rules in
    let vac = round_is vacates Empty s c.home_of.result _ (Some c.in_ok-p.p) c.home_of.ensures.is c.home_of.ensures.below (sym found ∙ c.vacant.ensures) in
    let w = put_new g.K.PartialEq.eq g.met.K.Key.exact g.met.K.Eq.laws.refl Full g.K.Key.code s c.args.k c.args.v c.in_ok-p.p c.in_default.ensures vac in
    record { reached = λ h. (w h).0; done = λ h. (w h).1 }

pub returns-in_err-p-clause-done : goal.returns-in_err-p-clause-done
returns-in_err-p-clause-done g c h =
    let s = c.args.slots.now in
    let none : c.vacant.result ≡ None = search rules in
    let out : c.from_residual.result ≡ Err (record {}) = search rules in
    let vac = round_is vacates Empty s c.home_of.result _ None c.home_of.ensures.is c.home_of.ensures.below (sym none ∙ c.vacant.ensures) in
    subst (λ r. Put g.K.PartialEq.eq s s c.args.k c.args.v r) (sym out) (put_full g.K.PartialEq.eq g.met.K.Key.exact g.met.K.Eq.laws.refl {E = Full} s c.args.k c.args.v _ (record {}) (subst (λ o. o < length s) c.home_of.ensures.is c.home_of.ensures.below) (c.in_default.ensures h) vac)
