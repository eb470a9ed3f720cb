-- What an endpoint means: its state and its configuration.
use Rattle.std.specs.Prelude.{◌≡◌, ℕ, Bool, true, false, Ok, Err, Result}
use Rattle.records.specs.declared.config.Settings.{Settings}
use Rattle.records.specs.Ids.{same_id}
use Rattle.records.specs.Keys.{same_pair, same_sender}
use Rattle.table.specs.Slots.{lookup}
use Rattle.supply.specs.Meaning.{Supplied}
use Rattle.places.specs.Free.{free_list}
use Rattle.places.specs.Held.{entries, width}
use Rattle.waiting.specs.Groups.{groups}
use Rattle.index.specs.Conns.{conns_of}
use Rattle.index.specs.Routes.{initial_of}
use Rattle.model.specs.Endpoint.{State, Config, Supply, new_state}
use Rattle.endpoint.specs.declared.endpoint.Endpoint.{Endpoint}
use Rattle.endpoint.specs.declared.endpoint.Ready.{Ready}
use Rattle.endpoint.specs.declared.endpoint.Refused.{Refused}

-- the state that the memory holds
abbrev pub state_in : Ready → State
state_in e = record {
  conns = conns_of e.connections.items.now;
  free_handles = free_list e.handles;
  ids = lookup same_id e.index.connection_ids.slots.now;
  initial = initial_of e.index;
  pairs = lookup same_pair e.index.incoming_connection_remotes.slots.now;
  senders = lookup same_sender e.index.connection_reset_tokens.slots.now;
  waiting = groups (entries e.places);
  free_slots = free_list e.slots;
  last_reset = e.last_stateless_reset;
}

-- what contracts see of an endpoint: whether its set-up was taken, what it was set up with, and its state
pub record View : Type 0 where
  pub ready : Bool
  pub settings : Settings
  pub number : ℕ
  pub width : ℕ
  pub state : State

-- an endpoint whose set-up was taken
abbrev pub view_of : Ready → View
view_of e = record { ready = true; settings = e.settings; number = e.number; width = width e.places; state = state_in e }

-- an endpoint, its set-up taken or refused; a refused one has nothing
abbrev pub view_as : Result Ready Refused → View
view_as (Ok e) = view_of e
view_as (Err x) = record { ready = false; settings = x.settings; number = x.number; width = 0; state = new_state }

-- any endpoint
abbrev pub view : Endpoint → View
view e = view_as e.ready

-- what the endpoint is set up with, at these suppliers
abbrev pub config_of : View → Supplied → Config
config_of e u = record { settings = e.settings; places = e.width; number = e.number; len = u.generator.len; door = u.door }

-- what the suppliers give next
abbrev pub supply_of : Supplied → Supply
supply_of u = record { next_id = u.generator.draw; next_byte = u.source; valid = u.generator.valid 0 }

-- what no call changes
pub record Frame (e f : View) : Type 0 where
  pub ready : f.ready ≡ e.ready
  pub settings : f.settings ≡ e.settings
  pub number : f.number ≡ e.number
  pub width : f.width ≡ e.width
