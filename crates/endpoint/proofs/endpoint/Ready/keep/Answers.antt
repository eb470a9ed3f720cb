use Rattle.std.proofs.Common.{◌≡◌, false, map, length, Some, None, sym, refl, ap, ◌∙◌, arith}
use Rattle.std.proofs.lemmas.List.{length-map}
use Rattle.std.proofs.lemmas.Bool.{cond-false, eq-eqb, leb-false}
use Rattle.supply.proofs.Spending.{spent_none}
use Rattle.places.specs.Entries.{arrival}
use Rattle.places.specs.Free.{free_list}
use Rattle.places.specs.Held.{entries}
use Rattle.model.specs.Records.{stored}
use Rattle.model.specs.Endpoint.{add_kept, too_large, no_place, with_kept}
use Rattle.model.specs.Calls as model
use Rattle.model.specs.Calls.{gives, keep_by}
use Rattle.waiting.specs.Groups.{groups, holding, sent}
use Rattle.waiting.specs.Leads.{attempt_of, entered}
use Rattle.waiting.proofs.Grouping.{adds, places}
use Rattle.waiting.proofs.Leading.{entered_kept}
use Rattle.waiting.proofs.Slots.{once_kept, once_as}
use Rattle.waiting.proofs.Entered.{named_kept, pointed_kept, named_as, pointed_as, pointed_held}
use Rattle.index.specs.Routes.{initial_of}
use Rattle.endpoint.specs.State.{state_in, view_of, config_of}
use Rattle.endpoint.proofs.Arriving.{arrives, same_state, answered_as}
use Rattle.endpoint.proofs.endpoint.Ready.keep.Goals as goal

pub keep-requires : goal.keep-requires
keep-requires c =
    let e = c.args.self.now in
    let es = entries e.places in
    record {
      short = c.requires.short;
      room = omega (arith, leb-false _ _ (sym c.if-no_place.ensures), places es e.proper);
    }

pub invariant_of-self : goal.invariant_of-self
invariant_of-self c =
    let e = c.args.self.now in
    let slot = c.args.slot in
    let x = c.args.received.now.datagram.now.dst_cid in
    let a = arrival slot false c.args.received.now.datagram.now c.args.received.now.bytes.now in
    let d = sent a in
    let es = entries e.places in
    let ws = groups es in
    let ws' = groups (entries c.keep.new.self) in
    let vs = map (add_kept slot d) ws in
    let free = free_list e.slots in
    let f = initial_of e.index in
    let held = pointed_held ws x slot (f x) (e.pointed x) (sym (ap attempt_of c.requires.entry)) in
    let one : holding slot ws ≡ 1 = omega (arith, held, e.once slot) in
    let n = arrives es (entries c.keep.new.self) a c.keep.ensures.entries e.proper (eq-eqb (holding slot ws) 1 one) in
    let long = ap length n.groups_are ∙ length-map ws (add_kept slot d) in
    let fewer = ap entered n.groups_are ∙ entered_kept slot d ws in
    record {
      few_incoming = e.few_incoming;
      roomy = e.roomy;
      all_connections = e.all_connections;
      all_slots = e.all_slots;
      proper = n.proper_is;
      shared = omega (arith, long, e.shared);
      few_entries = omega (arith, fewer, e.few_entries);
      once = once_as free free vs ws' refl n.groups_are (once_kept free ws slot d e.once);
      named = named_as f f vs ws' refl n.groups_are (named_kept f ws slot d e.named);
      pointed = pointed_as f f vs ws' refl n.groups_are (pointed_kept f ws slot d e.pointed);
      no_empty = e.no_empty;
    }

pub returns : goal.returns
returns c u out k =
    let e = c.args.self.now in
    let s = state_in e in
    let slot = c.args.slot in
    let a = arrival slot false c.args.received.now.datagram.now c.args.received.now.bytes.now in
    let d = sent a in
    let g = config_of (view_of e) u in
    let q : model.keep g s d slot ≡ gives (stored slot) (with_kept s slot d) =
    ap (keep_by s d slot)
    (cond-false (too_large g s slot d) (Some 21) _ (sym c.if-too_large.ensures) ∙ cond-false (no_place g s) (Some 22) None (sym c.if-no_place.ensures)) in
    answered_as q
    (record {
      answer = refl;
      number = tt;
      state = same_state s (ap groups c.keep.ensures.entries ∙ adds (entries e.places) a) refl refl;
      drawn = sym (spent_none u);
      output = refl;
      close = refl;
      frame = record { ready = refl; settings = refl; number = refl; width = c.keep.ensures.width };
    })
