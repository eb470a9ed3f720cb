use Rattle.std.proofs.Common.{◌≡◌, None, set, subst, sym, refl, rules}
use Rattle.table.specs.declared.slot.Slot.TheVariants.{Freed}
use Rattle.table.specs.Slots.{Removed, Stands}
use Rattle.table.proofs.Lookups.{lookup_absent}
use Rattle.table.proofs.Tables.{remove_known, removed_tidied}
use Rattle.table.proofs.ops.remove_in.Goals as goal

pub returns : goal.returns
returns g c =
    let s = c.args.slots.now in
    let k = c.args.k in
    let v = c.in_ok-x.x.value in
    let p = c.in_ok-x.x.at in
    let e = c.in_ok-x.ensures in
    let w = remove_known g.K.PartialEq.eq g.met.K.Key.exact g.met.K.Eq.laws.refl g.K.Key.code s k v p e.0 e.1 in
    record {
      reached = λ h. (c.tidy.ensures (w h).0).reached;
      done = λ h. removed_tidied g.K.PartialEq.eq g.met.K.Key.exact g.met.K.Eq.laws.refl g.K.Key.code s (set s p Freed) c.tidy.new.slots k v (w h).1 (c.tidy.ensures (w h).0);
    }

pub returns-in_err-x-clause-done : goal.returns-in_err-x-clause-done
returns-in_err-x-clause-done g c h =
    let s = c.args.slots.now in
    let k = c.args.k in
    let none : c.place.result ≡ None = search rules in
    let out : c.from_residual.result ≡ None = search rules in
    subst (λ o. Removed g.K.PartialEq.eq s s k o) (sym out)
    (lookup_absent g.K.PartialEq.eq s k (subst (λ o. Stands g.K.PartialEq.eq g.K.Key.code s k o) none c.place.ensures h), refl)
