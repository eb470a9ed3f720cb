use Rattle.std.proofs.Common.{◌≡◌, ◌∙◌, rules}
use Rattle.std.specs.Option.{option_map}
use Rattle.table.proofs.Tables.{stands_answer}
use Rattle.table.proofs.ops.get_in.Goals as goal

pub returns : goal.returns
returns g c h =
    let e : c.map.result ≡ option_map (λ x. x.value) c.place.result = search rules in
    e ∙ stands_answer g.K.PartialEq.eq g.met.K.Key.exact g.met.K.Eq.laws.refl g.K.Key.code c.args.slots.now c.args.k c.place.result c.place.ensures h
