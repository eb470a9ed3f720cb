use Rattle.std.proofs.Common.{◌≡◌, ℕ, Bool, true, false, cond, ◌&&◌, leb, sym, refl, ap, ◌∙◌}
use Rattle.std.proofs.lemmas.Bool.{and_parts, cond-true}
use Rattle.records.specs.declared.config.Settings.{Settings}
use Rattle.supply.specs.Meaning.{Supplied, AllLawful}
use Rattle.model.specs.Runs as runs
use Rattle.model.proofs.Laws.{endpoint_laws}
use Rattle.endpoint.specs.SetUps.{Sizes, sizes_of, set_up_fits, places_fit, numbers_fit, tables_fit}
use Rattle.endpoint.proofs.Starting.{Fits, fits_so}
use Rattle.endpoint.specs.State.{view}
use Rattle.run.proofs.run.run.Goals as goal

-- without a place for a datagram a set-up is refused
none_fit : (b rest : Bool) → ((b && false) && rest) ≡ false
none_fit true rest = refl
none_fit false rest = refl

both_fit : (room : Bool) (x w : ℕ) (m : Sizes) → set_up_fits x (cond room w 0) m ≡ (room && set_up_fits x w m)
both_fit true x w m = refl
both_fit false x w m = none_fit (leb x 64) (places_fit 0 m && (numbers_fit m && tables_fit m))

-- the endpoint of the definitions
abbrev built : (given : Settings) (w n : ℕ) (u : Supplied) (m : Sizes) → Fits given.max_incoming w m → AllLawful u → runs.Endpoint
built given w n u m fit laws = record {
  setup = record {
    settings = given;
    places = w;
    number = n;
    generator = u.generator;
    source = u.source;
    door = u.door;
    lawful = laws.generator;
    bytes_fit = laws.source;
    few = fit.few;
    some = fit.some;
    most = fit.most;
  };
  signer = u.signer;
  long = laws.signer;
}

pub returns : goal.returns
returns g c =
    let given = c.args.settings in
    let m = sizes_of c.args.memory in
    let u = g.S.Supplies.all c.args.supplies.now in
    let room = c.room_fits-fits.result in
    let e = c.new-e.ensures in
    let is : (view c.new-e.result).ready ≡ (room && set_up_fits given.max_incoming c.args.w m) =
    e.ready ∙ ap (λ k. set_up_fits given.max_incoming k m) c.places_for.ensures ∙ both_fit room given.max_incoming c.args.w m in
    record {
      taken = c.run_ready.ensures.ready ∙ is ∙ ap (λ b. b && set_up_fits given.max_incoming c.args.w m) c.room_fits-fits.ensures;
      refused = λ f. c.run_ready.ensures.refused (sym c.run_ready.ensures.ready ∙ f);
      ran = λ t.
          let ready : (view c.new-e.result).ready ≡ true = sym c.run_ready.ensures.ready ∙ t in
          let both = and_parts room (set_up_fits given.max_incoming c.args.w m) (sym is ∙ ready) in
          let E = built given c.args.w c.args.number u m (fits_so given.max_incoming c.args.w m both.1) (g.met.S.Supplies.lawful c.args.supplies.now) in
          let p = c.run_ready.ensures.ran ready E (record {
            settings = sym e.settings;
            places = sym (e.width ready ∙ c.places_for.ensures ∙ cond-true room c.args.w 0 both.0);
            number = sym e.number;
            generator = refl;
            source = refl;
            door = refl;
            signer = refl;
          }) in
          (E, record { settings = refl; places = refl; number = refl; generator = refl; source = refl; door = refl; signer = refl }, p.0, p.1, endpoint_laws E _);
    }
