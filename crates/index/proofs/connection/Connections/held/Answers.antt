use Rattle.std.proofs.Common.{◌≡◌, ◌∙◌, sum_by, rules}
use Rattle.model.specs.Endpoint.{held_by}
use Rattle.index.specs.Conns.{conn_of}
use Rattle.index.proofs.Holding.{held_sum}
use Rattle.index.proofs.connection.Connections.held.Goals as goal

pub returns : goal.returns
returns c =
    let ms = c.args.self.now.items.now in
    let s : c.sum.result ≡ sum_by (λ m. held_by (conn_of m)) ms = search rules in
    s ∙ held_sum ms
