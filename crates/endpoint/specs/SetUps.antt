-- When a set-up is taken.
use Rattle.std.specs.Prelude.{ℕ, Bool, ◌&&◌, length, nat_le, nat_lt}
use Rattle.endpoint.specs.declared.memory.Memory.{Memory}

-- the sizes of the memory that is given
pub record Sizes : Type 0 where
  pub places : ℕ
  pub blocks : ℕ
  pub connections : ℕ
  pub handles : ℕ
  pub slots : ℕ
  pub initial : ℕ
  pub ids : ℕ
  pub remotes : ℕ
  pub tokens : ℕ

-- the sizes of this memory
abbrev pub sizes_of : Memory → Sizes
sizes_of m = record {
  places = length m.places.now;
  blocks = length m.blocks.now;
  connections = length m.connections.now;
  handles = length m.handles.now;
  slots = length m.slots.now;
  initial = length m.connection_ids_initial.now;
  ids = length m.connection_ids.now;
  remotes = length m.incoming_connection_remotes.now;
  tokens = length m.connection_reset_tokens.now;
}

-- there is a place and a block for each of w datagrams
abbrev pub places_fit : ℕ → Sizes → Bool
places_fit w m = nat_le w m.places && nat_le w m.blocks

-- 128 connections and their handles, and 64 slots
abbrev pub numbers_fit : Sizes → Bool
numbers_fit m = nat_le 128 m.connections && (nat_le 128 m.handles && nat_le 64 m.slots)

-- no table can fill: 192 Initial entries, 1,024 identifiers, and 128 address pairs and tokens leave a place over
abbrev pub tables_fit : Sizes → Bool
tables_fit m = nat_lt 192 m.initial && (nat_lt 1024 m.ids && (nat_lt 128 m.remotes && nat_lt 128 m.tokens))

-- at most 64 attempts may wait, and 1 to 128 datagrams
abbrev pub limits_fit : ℕ → ℕ → Bool
limits_fit max_incoming w = nat_le max_incoming 64 && (nat_le 1 w && nat_le w 128)

-- the settings and W are in their bounds, and the memory is enough
abbrev pub set_up_fits : ℕ → ℕ → Sizes → Bool
set_up_fits max_incoming w m = limits_fit max_incoming w && (places_fit w m && (numbers_fit m && tables_fit m))
