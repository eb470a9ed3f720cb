-- What all connections hold, counted from the front.
use Rattle.std.proofs.Common.{add-one, ◌≡◌, ℕ, zero, suc, ◌≤◌, List, length, take, None, Option, sum_by, sym, refl, ap, ◌∙◌, arith, take_all}
use Rattle.std.proofs.lemmas.List.Sums.{sum_by_more}
use Rattle.model.specs.Endpoint.{held_by, held_below}
use Rattle.index.specs.declared.connection.ConnectionMeta.{ConnectionMeta}
use Rattle.index.specs.Conns.{conn_of, conns_of}

held_front : (ms : List (Option ConnectionMeta)) (n : ℕ) → n ≤ length ms → sum_by (λ m. held_by (conn_of m)) (take n ms) ≡ held_below (conns_of ms) n
held_front ms zero h = refl
held_front ms (suc n) h =
    let f : Option ConnectionMeta → ℕ = λ m. held_by (conn_of m) in
    omega (arith, rw add-one at (sum_by_more f ms n None (omega arith)), held_front ms n (omega arith))

pub held_sum : (ms : List (Option ConnectionMeta)) → sum_by (λ m. held_by (conn_of m)) ms ≡ held_below (conns_of ms) (length ms)
held_sum ms = ap (sum_by (λ m. held_by (conn_of m))) (sym (take_all (length ms) ms (omega arith))) ∙ held_front ms (length ms) (omega arith)
