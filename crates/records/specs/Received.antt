-- A received datagram with its bytes.
use Rattle.std.specs.Prelude.{ℕ, ◌-◌, Bool, true, false, not, ◌&&◌, ◌||◌, List, length, drop, Some, None, Option, ◌==◌, nat_le}
use Rattle.records.specs.declared.shared.ConnectionId.{ConnectionId}
use Rattle.records.specs.declared.address.FourTuple.{FourTuple}
use Rattle.records.specs.declared.token.RemoteToken.{RemoteToken}
use Rattle.records.specs.declared.packet.Kind.{Kind}
use Rattle.records.specs.declared.packet.Kind.TheVariants.{Initial, Handshake, ZeroRtt, Short, Retry, VersionNegotiate}
use Rattle.records.specs.declared.packet.Datagram as code
use Rattle.records.specs.declared.packet.Received.{Received}

-- an Initial packet
abbrev pub is_initial : Kind → Bool
is_initial Initial = true
is_initial Handshake = false
is_initial ZeroRtt = false
is_initial Short = false
is_initial Retry = false
is_initial VersionNegotiate = false

-- a packet with a short header
abbrev pub is_short : Kind → Bool
is_short Initial = false
is_short Handshake = false
is_short ZeroRtt = false
is_short Short = true
is_short Retry = false
is_short VersionNegotiate = false

-- an Initial and a 0-RTT packet bear an identifier that the client chose
abbrev pub is_early : Kind → Bool
is_early Initial = true
is_early Handshake = false
is_early ZeroRtt = true
is_early Short = false
is_early Retry = false
is_early VersionNegotiate = false

-- a datagram: its bytes, what its first packet says, where it came from and when
pub record Datagram : Type 0 where
  pub bytes : List ℕ
  pub first_length : ℕ
  pub kind : Kind
  pub dst : ConnectionId
  pub src : ConnectionId
  pub version : ℕ
  pub token_mark : Bool
  pub addresses : FourTuple
  pub ecn : Option ℕ
  pub time : ℕ

-- the datagram of a record and its bytes
abbrev pub datagram_of : code.Datagram → List ℕ → Datagram
datagram_of d bs = record {
  bytes = bs;
  first_length = d.first_len;
  kind = d.kind;
  dst = d.dst_cid;
  src = d.src_cid;
  version = d.version;
  token_mark = d.token_mark;
  addresses = d.addresses;
  ecn = d.ecn;
  time = d.time;
}

-- the same of the two together
abbrev pub seen : Received → Datagram
seen r = datagram_of r.datagram.now r.bytes.now

-- how many bytes it has
abbrev pub size : Datagram → ℕ
size d = length d.bytes

-- the last 16 bytes, where a stateless reset has its token
abbrev pub last_16 : List ℕ → List ℕ
last_16 bs = drop (length bs - 16) bs

-- the datagram's last 16 bytes as a token of its sender
abbrev pub sender_of : Datagram → RemoteToken
sender_of d = record { remote = d.addresses.remote; token = record { bytes = last_16 d.bytes } }

-- an ECN mark is 1 to 3, or there is none
abbrev pub ecn_fits : Option ℕ → Bool
ecn_fits None = true
ecn_fits (Some m) = nat_le 1 m && nat_le m 3

-- whether a datagram keeps the bounds of its parts; an identifier, an address and a number of a fixed width keep theirs by their type
abbrev pub within_records : Datagram → Bool
within_records d =
    nat_le 1 (size d) && (nat_le (size d) 1500 && (nat_le 1 d.first_length && (nat_le d.first_length (size d)
    && ((not d.token_mark || is_initial d.kind) && ecn_fits d.ecn))))

-- what a datagram must be at an endpoint whose identifiers have the length L
abbrev pub well_formed : ℕ → Datagram → Bool
well_formed len d = within_records d && (not (is_short d.kind) || d.dst.len == len)
