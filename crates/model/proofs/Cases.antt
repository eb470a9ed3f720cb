-- The worked cases, by computation.
use Rattle.std.proofs.Common.{◌≡◌, ℕ, List, [], ◌∷◌, length, replicate, sym, refl, subst}
use Rattle.model.specs.Records.{Id}
use Rattle.model.specs.Endpoint.{row}
use Rattle.model.specs.Runs.{outcome_of, after, history}
use Rattle.model.specs.Words.{remaining, drawn_ids, drawn_bytes}
use Rattle.model.specs.Theorem.{SameValid, Supplied}
use Rattle.model.specs.Cases.{ResetsComeOut, ExhaustionComesOut, TimeoutsComeOut, BuffersComeOut, IdentifiersComeOut, RoutesComeOut, id_of, from, endpoint_from, told, ListComesOut, CasesStand}

resets_come_out : ResetsComeOut
resets_come_out = (refl, refl, refl, refl, refl, refl, refl)

exhaustion_comes_out : ExhaustionComesOut
exhaustion_comes_out = (refl, refl)

timeouts_come_out : TimeoutsComeOut
timeouts_come_out = (refl, refl, refl, refl)

buffers_come_out : BuffersComeOut
buffers_come_out = (refl, refl, refl)

identifiers_come_out : IdentifiersComeOut
identifiers_come_out = (refl, refl, refl, refl, refl, refl, refl)

routes_come_out : RoutesComeOut
routes_come_out = (refl, refl, refl, refl, refl, refl, refl)

its_ids : drawn_ids (remaining told told) ≡ id_of 1 ∷ id_of 2 ∷ id_of 3 ∷ []
unfolding after history outcome_of
its_ids = refl

its_bytes : drawn_bytes (remaining told told) ≡ replicate 32 0
unfolding after history outcome_of
its_bytes = refl

both_valid : SameValid (endpoint_from 0) (endpoint_from 1) told told
unfolding after history outcome_of
both_valid = ((λ z x. refl), ((λ z x. refl), ((λ z x. refl), ((λ z x. refl), ((λ z x. refl), ((λ z x. refl), ((λ z x. refl), ((λ z x. refl), tt))))))))

second_supplied : Supplied (endpoint_from 0) (endpoint_from 1) told
second_supplied = record {
  ids = subst (λ (xs : List Id). row (from 1).draw 0 (length xs) ≡ xs) (sym its_ids) refl;
  bytes = subst (λ (xs : List ℕ). row (λ (i : ℕ). 0) 0 (length xs) ≡ xs) (sym its_bytes) refl;
  valid = both_valid;
}

list_comes_out : ListComesOut
unfolding after history outcome_of
list_comes_out = (refl, its_ids, second_supplied, refl, refl)

pub cases_stand : CasesStand
cases_stand = (resets_come_out, exhaustion_comes_out, timeouts_come_out, buffers_come_out, identifiers_come_out, routes_come_out, list_comes_out)
