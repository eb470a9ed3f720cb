use Rattle.std.proofs.Common.{◌≡◌, true, ◌∷◌, length, get_or, drop, Some, sym, refl, ap, ◌∙◌, arith}
use Rattle.std.proofs.lemmas.Bool.{eq-eqb}
use Rattle.records.specs.declared.incoming.Attempt.{Attempt}
use Rattle.supply.proofs.Spending.{spent_none}
use Rattle.places.specs.Entries.{arrival}
use Rattle.places.specs.Free.{free_list}
use Rattle.places.specs.Held.{entries}
use Rattle.places.proofs.Tops.{free_length, top_cons}
use Rattle.model.specs.Records.{opened as opened_answer}
use Rattle.model.specs.Endpoint.{to_attempt, put, with_opened}
use Rattle.model.specs.Calls.{gives, next_free}
use Rattle.waiting.specs.Groups.{groups, holding, opened, sent}
use Rattle.waiting.specs.Leads.{entered}
use Rattle.waiting.proofs.Grouping.{adds, places}
use Rattle.waiting.proofs.Leading.{lead_none}
use Rattle.waiting.proofs.Slots.{once_opened, once_as, top_unheld}
use Rattle.waiting.proofs.Entered.{named_opened, pointed_opened, named_as, pointed_as, no_empty_as, no_empty_put, no_empty_tells, no_empty_told}
use Rattle.index.specs.Routes.{initial_of}
use Rattle.endpoint.specs.State.{state_in}
use Rattle.endpoint.proofs.Arriving.{initial_in, enters, initial_room, some_free, arrives, same_state, answered_as}
use Rattle.endpoint.proofs.endpoint.Ready.open.Goals as goal

-- a free slot is on top
pub unwrap-slot-requires : goal.unwrap-slot-requires
unwrap-slot-requires c =
    let e = c.args.self.now in
    let long = free_length e.slots.items.now e.slots.used (omega (arith, e.all_slots, e.shared)) in
    some_free (free_list e.slots) (omega (arith, c.requires.few, e.shared, long)) c.pop.result c.pop.ensures.top

pub keep-requires : goal.keep-requires
keep-requires c =
    let e = c.args.self.now in
    record { short = c.requires.short; room = omega (arith, c.requires.room, places (entries e.places) e.proper) }

pub set_initial-requires : goal.set_initial-requires
set_initial-requires c =
    let e = c.args.self.now in
    initial_room e

pub invariant_of-self : goal.invariant_of-self
invariant_of-self c =
    let e = c.args.self.now in
    let slot = c.unwrap-slot.result in
    let x = c.args.received.now.datagram.now.dst_cid in
    let a = arrival slot true c.args.received.now.datagram.now c.args.received.now.bytes.now in
    let w = opened a in
    let es = entries e.places in
    let ws = groups es in
    let ws' = groups (entries c.keep.new.self) in
    let free = free_list e.slots in
    let f = initial_of e.index in
    let g = put f x (Some (to_attempt slot)) in
    let f' = initial_in c.set_initial.new.initial.slots.now in
    let top = top_cons free slot (sym c.unwrap-slot.ensures ∙ c.pop.ensures.top) in
    let un = top_unheld free ws slot top e.once in
    let n = arrives es (entries c.keep.new.self) a c.keep.ensures.entries e.proper (eq-eqb (holding slot ws) 0 un) in
    let t = enters e.index.connection_ids_initial.slots.now c.set_initial.new.initial.slots.now e.index.connection_ids_initial.count c.set_initial.new.initial.count x slot c.set_initial.ensures.changed c.requires.absent in
    record {
      few_incoming = e.few_incoming;
      roomy = omega (arith, c.set_initial.ensures.long, e.roomy);
      all_connections = e.all_connections;
      all_slots = ap length c.pop.ensures.items ∙ e.all_slots;
      proper = n.proper_is;
      shared = omega (arith, c.pop.ensures.used, ap length n.groups_are, e.shared, c.requires.few);
      few_entries = omega (arith, t.count, ap entered n.groups_are, e.few_entries);
      once = once_as (drop 1 free) _ (w ∷ ws) ws' c.pop.ensures.held n.groups_are (once_opened free ws w top e.once);
      named = named_as g f' (w ∷ ws) ws' t.maps n.groups_are (named_opened f ws w e.named c.requires.absent);
      pointed = pointed_as g f' (w ∷ ws) ws' t.maps n.groups_are (pointed_opened f ws w e.pointed (lead_none slot ws un));
      no_empty = no_empty_tells f' (no_empty_as g f' t.maps (no_empty_put f x (Some (to_attempt slot)) (no_empty_told f e.no_empty)));
    }

pub returns : goal.returns
returns c u out k =
    let e = c.args.self.now in
    let s = state_in e in
    let slot = c.unwrap-slot.result in
    let x = c.args.received.now.datagram.now.dst_cid in
    let a = arrival slot true c.args.received.now.datagram.now c.args.received.now.bytes.now in
    let t = enters e.index.connection_ids_initial.slots.now c.set_initial.new.initial.slots.now e.index.connection_ids_initial.count c.set_initial.new.initial.count x slot c.set_initial.ensures.changed c.requires.absent in
    let next : next_free s.free_slots ≡ slot = ap (λ l. get_or l 0 0) (top_cons s.free_slots slot (sym c.unwrap-slot.ensures ∙ c.pop.ensures.top)) in
    answered_as (ap (λ n. gives (opened_answer n c.args.opening) (with_opened s n (sent a))) next)
    (record {
      answer = ap (λ (y : Attempt). opened_answer y.slot c.args.opening) c.new.ensures;
      number = ap (λ (y : Attempt). y.number) c.new.ensures;
      state = same_state s (ap groups c.keep.ensures.entries ∙ adds (entries e.places) a) c.pop.ensures.held t.maps;
      drawn = sym (spent_none u);
      output = refl;
      close = refl;
      frame = record { ready = refl; settings = refl; number = refl; width = c.keep.ensures.width };
    })
