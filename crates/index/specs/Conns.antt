-- What the places of connections mean.
use Rattle.std.specs.Prelude.{ℕ, cond, List, map, take, Some, None, Option, slice_index_or}
use Rattle.std.specs.Option.{option_map}
use Rattle.records.specs.Ids.{empty}
use Rattle.model.specs.Records.{Id}
use Rattle.model.specs.Endpoint.{Conn}
use Rattle.index.specs.declared.connection.Held.{Held}
use Rattle.index.specs.declared.connection.ConnectionMeta.{ConnectionMeta}

-- an identifier with its sequence
abbrev pub held_of : Held → ℕ × Id
held_of h = (h.sequence, h.id)

-- what a connection is
abbrev pub conn : ConnectionMeta → Conn
conn m = record {
  opened_with = m.init_cid;
  count = m.cids_issued;
  held = map held_of (take m.held m.loc_cids);
  addresses = m.addresses;
  sender = m.reset_token;
}

-- the connection in a place, if there is one
abbrev pub conn_of : Option ConnectionMeta → Option Conn
conn_of = option_map conn

-- the connections by handle
abbrev pub conns_of : List (Option ConnectionMeta) → ℕ → Option Conn
conns_of ms h = conn_of (slice_index_or ms h None)

-- 1 where a connection has an Initial entry
abbrev pub entered_by : Option ConnectionMeta → ℕ
entered_by None = 0
entered_by (Some m) = cond (empty m.init_cid) 0 1
