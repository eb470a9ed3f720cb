-- What the tables mean.
use Rattle.std.specs.Prelude.{[], None, Option}
use Rattle.std.specs.Option.{option_map}
use Rattle.table.specs.Slots.{lookup}
use Rattle.records.specs.declared.shared.ConnectionId.{ConnectionId}
use Rattle.records.specs.Ids.{same_id}
use Rattle.records.specs.Keys.{same_pair, same_sender}
use Rattle.model.specs.Endpoint.{State, Target, to_attempt, to_connection}
use Rattle.index.specs.declared.target.RouteDatagramTo.{RouteDatagramTo}
use Rattle.index.specs.declared.target.RouteDatagramTo.TheVariants.{Incoming, Connection}
use Rattle.index.specs.declared.index.ConnectionIndex.{ConnectionIndex}

-- what an Initial entry names
abbrev pub target_of : RouteDatagramTo → Target
target_of (Incoming s) = to_attempt s
target_of (Connection h) = to_connection h

-- the Initial entries
abbrev pub initial_of : ConnectionIndex → ConnectionId → Option Target
initial_of i x = option_map target_of (lookup same_id i.connection_ids_initial.slots.now x)

-- a state with the four maps of an index
abbrev pub index_state : ConnectionIndex → State
index_state i = record {
  conns = λ h. None;
  free_handles = [];
  ids = lookup same_id i.connection_ids.slots.now;
  initial = initial_of i;
  pairs = lookup same_pair i.incoming_connection_remotes.slots.now;
  senders = lookup same_sender i.connection_reset_tokens.slots.now;
  waiting = [];
  free_slots = [];
  last_reset = None;
}
