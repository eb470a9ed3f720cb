use Rattle.std.proofs.Common.{◌≡◌, refl, sym, ap, subst}
use Rattle.std.proofs.lemmas.Bool.{both_ways}
use Rattle.model.specs.Calls.{ignore}
use Rattle.endpoint.specs.State.{View, view_of, view_as, view, config_of}
use Rattle.endpoint.specs.Ignoring.{Ignored}
use Rattle.endpoint.proofs.Answering.{same_frame}
use Rattle.endpoint.proofs.endpoint.Endpoint.ignore.Goals as goal

pub returns-in-Ok : goal.returns-in-Ok
returns-in-Ok c =
    let e = view c.args.self.now in
    let is : e ≡ view_of c.in-Ok.ready = ap view_as c.in-Ok.is in
    record {
      refused = λ n. absurd (both_ways e.ready n (ap (λ (w : View). w.ready) is));
      ignored = λ _ u. subst (λ w. Ignored w (view_of c.ignore.new.self) c.args.attempt c.ignore.result (ignore (config_of w u) w.state c.args.attempt)) (sym is) (c.ignore.ensures u);
    }

pub returns-in-Err : goal.returns-in-Err
returns-in-Err c =
    let e = view c.args.self.now in
    record {
      refused = λ _. record { answer = refl; back = refl; state = refl; frame = same_frame e };
      ignored = λ r. absurd (both_ways e.ready (ap (λ x. (view_as x).ready) c.in-Err.is) r);
    }
