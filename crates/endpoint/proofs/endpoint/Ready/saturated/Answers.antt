use Rattle.std.proofs.Common.{◌≡◌, ◌-◌, false, ◌||◌, leb, length, sym, ap, ◌∙◌, arith}
use Rattle.places.specs.Held.{entries}
use Rattle.waiting.specs.Groups.{groups}
use Rattle.index.specs.Conns.{conns_of}
use Rattle.model.specs.Endpoint.{exhausted, held_below}
use Rattle.endpoint.proofs.endpoint.Ready.saturated.Goals as goal

pub returns-else-cids_exhausted : goal.returns-else-cids_exhausted
returns-else-cids_exhausted c =
    let e = c.args.self.now in
    let cs = conns_of e.connections.items.now in
    let ws = groups (entries e.places) in
    let h : c.held.result ≡ held_below cs 128 = c.held.ensures ∙ ap (held_below cs) e.all_connections in
    let no : exhausted c.args.len (held_below cs 128) ≡ false = ap (exhausted c.args.len) (sym h) ∙ sym c.cids_exhausted.ensures ∙ c.if-cids_exhausted.false in
    let w : 64 - e.slots.used ≡ length ws = omega (arith, e.shared) in
    ap (leb e.settings.max_incoming) w ∙ sym (ap (λ b. b || leb e.settings.max_incoming (length ws)) no)
