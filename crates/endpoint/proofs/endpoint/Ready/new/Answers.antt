use Rattle.std.proofs.Common.{◌≡◌, [], length, None, refl, ap, ◌∙◌, arith, length-take-le}
use Rattle.std.specs.Option.{option_map}
use Rattle.records.specs.Ids.{same_id}
use Rattle.records.specs.Keys.{same_pair, same_sender}
use Rattle.places.specs.Free.{free_list, counting}
use Rattle.places.specs.Held.{entries}
use Rattle.waiting.specs.Groups.{groups, proper}
use Rattle.waiting.proofs.Slots.{once_as, once_new, counting_same}
use Rattle.waiting.proofs.Entered.{named_as, pointed_as, no_empty_new, no_empty_as, no_empty_tells}
use Rattle.index.specs.Routes.{initial_of, target_of}
use Rattle.endpoint.proofs.Starting.{none, no_conns, no_entries}
use Rattle.endpoint.proofs.endpoint.Ready.new.Goals as goal

pub invariant_of-result : goal.invariant_of-result
invariant_of-result c =
    let ws = groups (entries c.new-places.result) in
    let long = length-take-le 64 c.args.memory.slots.now c.requires.slots in
    let f = initial_of (record { connection_ids_initial = c.new-connection_ids_initial.result; connection_ids = c.new-connection_ids.result; incoming_connection_remotes = c.new-incoming_connection_remotes.result; connection_reset_tokens = c.new-connection_reset_tokens.result }) in
    let ew : ws ≡ [] = ap groups c.new-places.ensures.empty in
    let ef : f ≡ none = ap (λ m x. option_map target_of (m x)) (no_entries same_id c.new-connection_ids_initial.result.slots.now c.new-connection_ids_initial.ensures.cleared) in
    record {
      few_incoming = c.requires.incoming;
      roomy = omega (arith, c.new-connection_ids_initial.ensures.same_size, c.requires.initial);
      all_connections = c.new-connections.ensures.long ∙ length-take-le 128 c.args.memory.connections.now c.requires.connections;
      all_slots = c.new-slots.ensures.long ∙ long;
      proper = ap proper c.new-places.ensures.empty;
      shared = omega (arith, c.new-slots.ensures.used, long, ap length ew);
      few_entries = omega (arith, c.new-connection_ids_initial.ensures.empty);
      once = once_as (counting 0 64) (free_list c.new-slots.result) [] ws (c.new-slots.ensures.free ∙ ap (counting 0) long) ew (once_new 64);
      named = named_as none f [] ws ef ew (λ s. refl);
      pointed = pointed_as none f [] ws ef ew (λ k. refl);
      no_empty = no_empty_tells f (no_empty_as none f ef no_empty_new);
    }

pub returns-clause-state : goal.returns-clause-state
returns-clause-state c = λ i. record {
  conns = no_conns _ c.new-connections.ensures.dead i;
  free_handles = (c.new-handles.ensures.free ∙ ap (counting 0) (length-take-le 128 c.args.memory.handles.now c.requires.handles) ∙ counting_same 0 128) i;
  ids = no_entries same_id c.new-connection_ids.result.slots.now c.new-connection_ids.ensures.cleared i;
  initial = ap (λ m x. option_map target_of (m x)) (no_entries same_id c.new-connection_ids_initial.result.slots.now c.new-connection_ids_initial.ensures.cleared) i;
  pairs = no_entries same_pair c.new-incoming_connection_remotes.result.slots.now c.new-incoming_connection_remotes.ensures.cleared i;
  senders = no_entries same_sender c.new-connection_reset_tokens.result.slots.now c.new-connection_reset_tokens.ensures.cleared i;
  waiting = ap groups c.new-places.ensures.empty i;
  free_slots = (c.new-slots.ensures.free ∙ ap (counting 0) (length-take-le 64 c.args.memory.slots.now c.requires.slots) ∙ counting_same 0 64) i;
  last_reset = None;
}
