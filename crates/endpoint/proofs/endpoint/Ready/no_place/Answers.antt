use Rattle.std.proofs.Common.{◌≡◌, ℕ, not, ltb, leb, length, sym, ap, ◌∙◌, inl, inr}
use Rattle.std.proofs.lemmas.Bool.{cases_lt, lt-ltb, le-ltb, le-leb, lt-leb, not_from_true, not_from_false}
use Rattle.places.specs.Held.{entries, width}
use Rattle.waiting.proofs.Grouping.{places}
use Rattle.endpoint.proofs.endpoint.Ready.no_place.Goals as goal

-- two tests of one fact
not_below : (m n : ℕ) → not (ltb m n) ≡ leb n m
not_below m n =
    elim (cases_lt m n) [
      | inl p ↦ not_from_true (ltb m n) (lt-ltb m n p) ∙ sym (lt-leb n m p)
      | inr q ↦ not_from_false (ltb m n) (le-ltb m n q) ∙ sym (le-leb n m q)
    ]

pub returns : goal.returns
returns c =
    let e = c.args.self.now in
    let es = entries e.places in
    ap not c.has_room.ensures ∙ not_below (length es) (width e.places) ∙ ap (leb (width e.places)) (sym (places es e.proper))
