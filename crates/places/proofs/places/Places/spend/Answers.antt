use Rattle.std.proofs.Common.{◌<◌, length, cond, ℕ, arith}
use Rattle.std.proofs.lemmas.List.Elements.{All-same, All-filter}
use Rattle.std.proofs.lemmas.List.Sorted.{All-permutation, sum_by-IsPermutation}
use Rattle.places.specs.declared.record.Place.{Place}
use Rattle.places.specs.Entries.{names_block, HasBytes, place_other}
use Rattle.places.specs.Stacks.{held}
use Rattle.places.proofs.Views.{spent}
use Rattle.places.proofs.places.Places.spend.Goals as goal

pub invariant_of-self : goal.invariant_of-self
invariant_of-self c =
    let w = c.args.self.now in
    let e = c.spend.ensures in
    let bs = w.blocks.items.now in
    record {
      few = omega (arith, e.long, w.few);
      apart = λ b. omega (arith, sum_by-IsPermutation (λ (p : Place). cond {A = ℕ} (names_block b p) 1 0) _ _ e.moved, w.apart b);
      named = All-permutation (λ (p : Place). p.block < length bs) _ _ e.moved w.named;
      whole = All-same (HasBytes bs) _ _ e.front (All-filter (place_other c.args.slot) (HasBytes bs) (held w.records) w.whole);
    }

pub returns-clause-entries : goal.returns-clause-entries
returns-clause-entries c =
    spent c.args.self.now _ c.args.slot c.spend.ensures.front
