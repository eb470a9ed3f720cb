-- What the endpoint's calls take and give. The leaves are the types of the code.
use Rattle.std.specs.Prelude.{ℕ, Bool, List, [], ◌∷◌, ◌++◌, Option}
use Rattle.records.specs.declared.shared.ConnectionId.{ConnectionId}
pub use Rattle.std.specs.declared.net.socket_addr.SocketAddr.{SocketAddr as Remote}
pub use Rattle.records.specs.declared.address.FourTuple.{FourTuple}
pub use Rattle.records.specs.declared.token.RemoteToken.{RemoteToken as Sender}
pub use Rattle.records.specs.declared.config.Settings.{Settings}
pub use Rattle.records.specs.declared.packet.Kind.{Kind}
pub use Rattle.records.specs.declared.packet.Kind.TheVariants.{Initial, Handshake, ZeroRtt, Short, Retry, VersionNegotiate}
pub use Rattle.records.specs.declared.packet.Close.{Close}
pub use Rattle.records.specs.declared.incoming.Attempt.{Attempt as Incoming}
pub use Rattle.records.specs.Ids.{empty, same_id}
pub use Rattle.records.specs.Keys.{same_pair, same_sender}
pub use Rattle.records.specs.Received.{is_initial, is_short, is_early, Datagram, size, last_16, sender_of, well_formed}
pub use Rattle.supply.specs.declared.answers.Opening.{Opening}

-- an identifier is the code's, of 0 to 20 bytes
abbrev pub Id : Type 0
Id = ConnectionId

-- a token is its bytes, 16 of them
abbrev pub Token : Type 0
Token = List ℕ

-- an identifier given to a connection, with its sequence and its token
pub record Grant : Type 0 where
  pub sequence : ℕ
  pub id : Id
  pub token : Token

-- what a connection tells the endpoint
--     need n          it wants n more identifiers
--     retire q more   its identifier of the sequence q goes, and it wants another in its place, or none
--     reset_token r   its peer's resets bear this token and come from this remote
--     drained         it is over
pub data Event : Type 0 where
  need : ℕ → Event
  retire : ℕ → Bool → Event
  reset_token : Sender → Event
  drained : Event

-- What a call answers, with all that it writes.
--     refused c              nothing was done: the cause's number
--     delivered h            the datagram is the connection h's
--     stored s               the datagram waits for the attempt of slot s
--     opened s o             a new attempt of slot s, and what the door said
--     closing c              a close to send
--     reset a x p t          to the address pair a a reset for the identifier x: its bytes are p and then the token t
--     accepted h gs seed ds  a new connection h, its identifiers, its seed, and the datagrams kept for it, in order of arrival
--     failed c k             the attempt is spent, for the cause c, with a close or none
--     ignored                the attempt is spent
--     issued gs              more identifiers
--     done                   the event was taken in
pub data Answer : Type 0 where
  refused : ℕ → Answer
  delivered : ℕ → Answer
  stored : ℕ → Answer
  opened : ℕ → Opening → Answer
  closing : Close → Answer
  reset : FourTuple → Id → List ℕ → Token → Answer
  accepted : ℕ → List Grant → List ℕ → List Datagram → Answer
  failed : ℕ → Option Close → Answer
  ignored : Answer
  issued : List Grant → Answer
  done : Answer

-- the bytes of some datagrams, one after the other
abbrev pub end_to_end : List Datagram → List ℕ
end_to_end [] = []
end_to_end (d ∷ ds) = d.bytes ++ end_to_end ds

-- the bytes that a call writes
abbrev pub written : Answer → List ℕ
written (refused c) = []
written (delivered h) = []
written (stored s) = []
written (opened s o) = []
written (closing c) = []
written (reset a x p t) = p ++ t
written (accepted h gs seed ds) = end_to_end ds
written (failed c k) = []
written ignored = []
written (issued gs) = []
written done = []
