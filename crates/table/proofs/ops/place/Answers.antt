use Rattle.std.proofs.Common.{◌≡◌, ◌<◌, length, Some, None, sym, subst, ◌∙◌, rules}
use Rattle.std.proofs.lemmas.List.{get_or_read}
use Rattle.table.specs.declared.slot.Slot.TheVariants.{Empty}
use Rattle.table.specs.Slots.{stops, Stands}
use Rattle.table.proofs.Searches.{round_is}
use Rattle.table.proofs.Tables.{spread, found, absent_none, absent_some}
use Rattle.table.proofs.ops.place.Goals as goal

pub returns-in-Used : goal.returns-in-Used
returns-in-Used g c =
    let s = c.args.slots.now in
    let p = c.in_ok-at.at in
    let e = round_is (stops g.K.PartialEq.eq c.args.k) Empty s c.home_of.result _ (Some p) c.home_of.ensures.is c.home_of.ensures.below c.in_ok-at.ensures in
    let r = get_or_read s p c.index-slots-at.result e.0 c.index-slots-at.is Empty in
    (e.0, found g.K.PartialEq.eq g.met.K.Key.exact g.met.K.Eq.laws.refl s c.args.k c.in-Used.field-0 p c.in-Used.value (sym r ∙ c.in-Used.is) e.1)

pub returns-in_default : goal.returns-in_default
returns-in_default g c h =
    let s = c.args.slots.now in
    let k = c.args.k in
    let p = c.in_ok-at.at in
    let e = round_is (stops g.K.PartialEq.eq k) Empty s c.home_of.result _ (Some p) c.home_of.ensures.is c.home_of.ensures.below c.in_ok-at.ensures in
    let r = get_or_read s p c.index-slots-at.result e.0 c.index-slots-at.is Empty in
    absent_some g.K.PartialEq.eq g.met.K.Key.exact g.met.K.Eq.laws.refl g.K.Key.code s k p (spread _ _ _ h) e (λ v f. c.in_default.not-Used k v (r ∙ f))

pub returns-in_err-at : goal.returns-in_err-at
returns-in_err-at g c =
    let s = c.args.slots.now in
    let k = c.args.k in
    let none : c.seek.result ≡ None = search rules in
    let out : c.from_residual.result ≡ None = search rules in
    let e = round_is (stops g.K.PartialEq.eq k) Empty s c.home_of.result _ None c.home_of.ensures.is c.home_of.ensures.below (sym none ∙ c.seek.ensures) in
    subst (λ o. Stands g.K.PartialEq.eq g.K.Key.code s k o) (sym out) (λ h. absent_none g.K.PartialEq.eq g.met.K.Key.exact g.met.K.Eq.laws.refl s k _ (subst (λ o. o < length s) c.home_of.ensures.is c.home_of.ensures.below) e)
