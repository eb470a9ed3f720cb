use Rattle.std.proofs.Common.{◌≡◌, ◌+◌, ◌||◌, ltb, sym, ap, ◌∙◌}
use Rattle.std.proofs.lemmas.Bool.{or_left}
use Rattle.places.specs.Held.{entries}
use Rattle.model.specs.Endpoint.{attempt_bytes, waiting_total}
use Rattle.waiting.specs.Groups.{groups}
use Rattle.waiting.proofs.Grouping.{parts, totals}
use Rattle.endpoint.proofs.endpoint.Ready.too_large.Goals as goal

pub returns-then-sum_exceeds : goal.returns-then-sum_exceeds
returns-then-sum_exceeds c =
    let e = c.args.self.now in
    let es = entries e.places in
    let limit = e.settings.incoming_buffer_size in
    let a : ltb limit (attempt_bytes (groups es) c.args.slot + c.args.n) ≡ c.sum_exceeds.result =
    ap (λ t. ltb limit (t + c.args.n)) (parts es c.args.slot e.proper ∙ sym c.bytes_of.ensures) ∙ sym c.sum_exceeds.ensures in
    c.if-sum_exceeds.true ∙ sym (or_left _ _ (a ∙ c.if-sum_exceeds.true))

pub returns-else-sum_exceeds : goal.returns-else-sum_exceeds
returns-else-sum_exceeds c =
    let e = c.args.self.now in
    let es = entries e.places in
    let n = c.args.n in
    let limit = e.settings.incoming_buffer_size in
    let all = e.settings.incoming_buffer_size_total in
    let a : ltb limit (attempt_bytes (groups es) c.args.slot + n) ≡ c.sum_exceeds.result =
    ap (λ t. ltb limit (t + n)) (parts es c.args.slot e.proper ∙ sym c.bytes_of.ensures) ∙ sym c.sum_exceeds.ensures in
    c.sum_exceeds-else-sum_exceeds.ensures ∙ ap (λ t. ltb all (t + n)) (c.total.ensures ∙ sym (totals es e.proper))
    ∙ sym (ap (λ x. x || ltb all (waiting_total (groups es) + n)) (a ∙ c.if-sum_exceeds.false))
