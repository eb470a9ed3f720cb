use Rattle.std.proofs.Common.{◌≡◌, ◌∷◌, length, None, sym, refl, ap, ◌∙◌, arith}
use Rattle.places.specs.Free.{free_list}
use Rattle.places.specs.Held.{entries}
use Rattle.model.specs.Endpoint.{put, without}
use Rattle.model.specs.Calls.{ignore_of}
use Rattle.waiting.specs.Groups.{groups, proper}
use Rattle.waiting.specs.Leads.{entered}
use Rattle.waiting.proofs.Leading.{spends, spends_proper, in_slot_held, length_without, entered_spent}
use Rattle.waiting.proofs.Slots.{once_spent, once_as, once_held}
use Rattle.waiting.proofs.Entered.{named_spent, pointed_spent, named_as, pointed_as, no_empty_as, no_empty_put, no_empty_tells, no_empty_told}
use Rattle.index.specs.Routes.{initial_of}
use Rattle.endpoint.specs.State.{state_in, view_of}
use Rattle.endpoint.proofs.Answering.{same_frame}
use Rattle.endpoint.proofs.Arriving.{initial_in, initial_room, same_state}
use Rattle.endpoint.proofs.Leaving.{brought_none, brings, leaves, ignored_as}
use Rattle.endpoint.proofs.endpoint.Ready.ignore.Goals as goal

pub set_initial-requires : goal.set_initial-requires
set_initial-requires c =
    let e = c.args.self.now in
    initial_room e

pub push-requires : goal.push-requires
push-requires c =
    let e = c.args.self.now in
    let slot = c.spend-slot.result in
    let ws = groups (entries e.places) in
    let b = brings e c.args.attempt c.in-Some.first slot c.spend-slot.ensures c.in-Some.ensures in
    omega (arith, e.all_slots, e.shared, in_slot_held slot ws b.attempt b.there, length_without slot ws)

pub invariant_of-self : goal.invariant_of-self
invariant_of-self c =
    let e = c.args.self.now in
    let slot = c.spend-slot.result in
    let x = c.in-Some.first.dst_cid in
    let b = brings e c.args.attempt c.in-Some.first slot c.spend-slot.ensures c.in-Some.ensures in
    let w = b.attempt in
    let d = w.first in
    let es = entries e.places in
    let ws = groups es in
    let vs = without ws slot in
    let ws' = groups (entries c.spend.new.self) in
    let free = free_list e.slots in
    let f = initial_of e.index in
    let g = put f d.dst None in
    let f' = initial_in c.set_initial.new.initial.slots.now in
    let none = no_empty_told f e.no_empty in
    let held = in_slot_held slot ws w b.there in
    let m : ws' ≡ vs = ap groups c.spend.ensures.entries ∙ spends es slot in
    let t = leaves e c.set_initial.new.initial.slots.now c.set_initial.new.initial.count c.args.attempt x slot b c.set_initial.ensures.changed in
    record {
      few_incoming = e.few_incoming;
      roomy = omega (arith, c.set_initial.ensures.long, e.roomy);
      all_connections = e.all_connections;
      all_slots = c.push.ensures.long ∙ e.all_slots;
      proper = ap proper c.spend.ensures.entries ∙ spends_proper es slot e.proper;
      shared = omega (arith, c.push.ensures.used, ap length m, length_without slot ws, e.shared, e.once slot, held);
      few_entries = omega (arith, t.count, ap entered m, entered_spent slot ws w b.there (once_held free ws slot e.once), e.few_entries);
      once = once_as (slot ∷ free) _ vs ws' c.push.ensures.held m (once_spent free ws slot e.once held);
      named = named_as g f' vs ws' t.maps m (named_spent f ws slot d None e.named b.leads);
      pointed = pointed_as g f' vs ws' t.maps m (pointed_spent f ws slot d None e.pointed none b.leads refl);
      no_empty = no_empty_tells f' (no_empty_as g f' t.maps (no_empty_put f d.dst None none));
    }

pub returns-in-None : goal.returns-in-None
returns-in-None c u =
    let e = c.args.self.now in
    ignored_as (ap (ignore_of (state_in e)) (brought_none e c.args.attempt c.in-None.ensures))
    (record { answer = refl; back = refl; state = refl; frame = same_frame (view_of e) })

pub returns-in-Some : goal.returns-in-Some
returns-in-Some c u =
    let e = c.args.self.now in
    let s = state_in e in
    let slot = c.spend-slot.result in
    let b = brings e c.args.attempt c.in-Some.first slot c.spend-slot.ensures c.in-Some.ensures in
    let t = leaves e c.set_initial.new.initial.slots.now c.set_initial.new.initial.count c.args.attempt c.in-Some.first.dst_cid slot b c.set_initial.ensures.changed in
    ignored_as (ap (ignore_of s) b.is)
    (record {
      answer = refl;
      back = tt;
      state =
          same_state s (ap groups c.spend.ensures.entries ∙ spends (entries e.places) slot ∙ ap (without s.waiting) (sym b.slot_is))
          (c.push.ensures.held ∙ ap (λ n. n ∷ s.free_slots) (sym b.slot_is)) t.maps;
      frame = record { ready = refl; settings = refl; number = refl; width = c.spend.ensures.width };
    })
