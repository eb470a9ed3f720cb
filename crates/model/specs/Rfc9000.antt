-- What RFC 9000 asks of datagrams, and of what an endpoint answers to them. The numbers in parentheses are sections of RFC 9000.
use Rattle.std.specs.Prelude.{◌≡◌, ℕ, ◌+◌, ◌/◌, ◌<◌, ◌≤◌, true, false, cond, ◌⊎◌, List, ◌++◌, length, Some, nat_le, slice_index_or, Err}
use Rattle.supply.specs.declared.answers.Unopened.TheVariants.{BadToken}
use Rattle.model.specs.Records.{Id, Token, empty, FourTuple, Datagram, size, is_initial, is_short, is_early, Close, Incoming, Answer, refused, delivered, stored, opened, closing, reset, accepted, failed, ignored, issued, done, written}
use Rattle.model.specs.Endpoint.{Waiting, to_attempt, to_connection, State, Config, Supply, row}
use Rattle.model.specs.Calls.{marked, handle, brought, refuse, sealed}

-- ## Error codes (20.1)

-- CONNECTION_REFUSED: the server refuses to accept a new connection
abbrev pub connection_refused : ℕ
connection_refused = 0x02

-- PROTOCOL_VIOLATION: an error of protocol compliance that no other code describes
abbrev pub protocol_violation : ℕ
protocol_violation = 0x0a

-- INVALID_TOKEN: an Initial of the client bears an invalid token
abbrev pub invalid_token : ℕ
invalid_token = 0x0b

-- ## First packets

-- an Initial in a datagram of fewer than 1,200 bytes is discarded (14.1)
abbrev pub LargeEnough : Datagram → Type 0
LargeEnough d = 1200 ≤ size d

-- the identifier that a client addresses first has at least 8 bytes (7.2); one of the server's own length passes in an Initial that bears a token, since
-- a client that was sent a Retry packet addresses the identifier in it, and returns its token (8.1.2, 17.2.5)
abbrev pub LongEnough : ℕ → Datagram → Type 0
LongEnough len d = (8 ≤ d.dst.len) ⊎ ((d.token_mark ≡ true) × (d.dst.len ≡ len))

-- ## Stateless resets

-- the last 16 of the bytes are the token (10.3)
pub record EndsWith (bytes token : List ℕ) : Type 0 where
  pub front : List ℕ
  pub whole : bytes ≡ front ++ token
  pub sixteen : length token ≡ 16

-- the bytes are a stateless reset with the token, in answer to n bytes: the first two bits are 01, the token stands last, there are at least 21 bytes,
-- and one less than n where n is at most 43 (10.3); there are fewer than n, so that two endpoints do not answer each other for ever (10.3.3)
pub record StatelessReset (n : ℕ) (bytes token : List ℕ) : Type 0 where
  pub fixed_bits : slice_index_or bytes 0 0 / 64 ≡ 1
  pub token_last : EndsWith bytes token
  pub least : 21 ≤ length bytes
  pub one_less : n ≤ 43 → length bytes + 1 ≡ n
  pub fewer : length bytes < n

-- ## Which connection a datagram is for

-- the connection h is the one of the datagram's destination identifier; or the one whose client addressed it first, and may do so in Initial and 0-RTT
-- packets until it has the server's; or, where that identifier is empty, the one of its addresses (5.2, 7.2); or the one that goes with its remote and
-- its last 16 bytes, since it may be a stateless reset (10.3.1)
pub data Matches (s : State) (d : Datagram) (h : ℕ) : Type 0 where
  has_identifier : empty d.dst ≡ false → s.ids d.dst ≡ Some h → Matches s d h
  has_first_identifier : is_early d.kind ≡ true → s.initial d.dst ≡ Some (to_connection h) → Matches s d h
  has_addresses : empty d.dst ≡ true → s.pairs d.addresses ≡ Some h → Matches s d h
  has_token : (token : List ℕ) → EndsWith d.bytes token → s.senders (record { remote = d.addresses.remote; token = record { bytes = token } }) ≡ Some h → Matches s d h

-- the datagram has the identifier that the client of the waiting attempt addressed first, which the client keeps to until it has the server's (7.2)
pub record Awaited (s : State) (d : Datagram) (slot : ℕ) : Type 0 where
  pub early : is_early d.kind ≡ true
  pub same : s.initial d.dst ≡ Some (to_attempt slot)

-- ## What is asked of each answer

-- a datagram that opens an attempt or is closed at once: an Initial, large enough, of no connection
pub record First (s : State) (d : Datagram) : Type 0 where
  pub initial : is_initial d.kind ≡ true
  pub unmatched : (h : ℕ) → Matches s d h → ⊥
  pub large : LargeEnough d

-- a close goes back where the datagram came from, in its version, to the identifier that its sender chose (7.2)
pub record GoesBack (d : Datagram) (k : Close) : Type 0 where
  pub addresses : k.addresses ≡ d.addresses
  pub version : k.version ≡ d.version
  pub peer : k.dst_cid ≡ d.src

-- a close in answer to a datagram: its code is PROTOCOL_VIOLATION, where the identifier that the client addressed is too short, or INVALID_TOKEN, where the
-- door finds the token bad
pub record Closes (c : Config) (s : State) (d : Datagram) (k : Close) : Type 0 where
  pub first : First s d
  pub back : GoesBack d k
  pub code : ((k.code ≡ protocol_violation) × (LongEnough c.len d → ⊥)) ⊎ ((k.code ≡ invalid_token) × (c.door.opens d ≡ Err BadToken))

-- a reset answers a packet with a short header that is of no connection, goes back where that came from, and is a stateless reset with the token of the
-- identifier that it has; what stands before the token is drawn from the byte source, two bits of the first byte apart, where the draws for a datagram of
-- more than 43 bytes begin with 8 that choose how many bytes there are (10.3)
pub record Resets (u : Supply) (token : Id → Token) (s : State) (d : Datagram) (a : FourTuple) (x : Id) (padding t : List ℕ) : Type 0 where
  pub short : is_short d.kind ≡ true
  pub unmatched : (h : ℕ) → Matches s d h → ⊥
  pub addresses : a ≡ d.addresses
  pub identifier : x ≡ d.dst
  pub form : StatelessReset (size d) (written (reset a x padding t)) (token d.dst)
  pub drawn : padding ≡ marked (row u.next_byte (cond (nat_le (size d) 43) 0 8) (length padding))

-- what is asked of an answer to a datagram
abbrev pub AsAsked : Config → Supply → (Id → Token) → State → Datagram → Answer → Type 0
AsAsked c u token s d (refused n) = Unit {0}
AsAsked c u token s d (delivered h) = Matches s d h
AsAsked c u token s d (stored slot) = Awaited s d slot
AsAsked c u token s d (opened slot o) = First s d × LongEnough c.len d
AsAsked c u token s d (closing k) = Closes c s d k
AsAsked c u token s d (reset a x p t) = Resets u token s d a x p t
AsAsked c u token s d (accepted h gs seed ds) = ⊥
AsAsked c u token s d (failed n k) = ⊥
AsAsked c u token s d ignored = ⊥
AsAsked c u token s d (issued gs) = ⊥
AsAsked c u token s d done = ⊥

-- `handle` answers as is asked
abbrev pub KeepsToRfc9000 : Config → Supply → (Id → Token) → State → Datagram → ℕ → Type 0
KeepsToRfc9000 c u token s d room = AsAsked c u token s d (sealed token (handle c u s d room).answer)

-- what is asked of an answer to the host's refusal of an attempt: a close with CONNECTION_REFUSED goes back to where its first datagram came from (5.2.2)
abbrev pub RefusedAsAsked : Config → State → Incoming → Answer → Type 0
RefusedAsAsked c s a (refused n) = Unit {0}
RefusedAsAsked c s a (delivered h) = ⊥
RefusedAsAsked c s a (stored slot) = ⊥
RefusedAsAsked c s a (opened slot o) = ⊥
RefusedAsAsked c s a (closing k) = (w : Waiting) × (brought c s a ≡ Some w) × GoesBack w.first k × (k.code ≡ connection_refused)
RefusedAsAsked c s a (reset b x p t) = ⊥
RefusedAsAsked c s a (accepted h gs seed ds) = ⊥
RefusedAsAsked c s a (failed n k) = ⊥
RefusedAsAsked c s a ignored = ⊥
RefusedAsAsked c s a (issued gs) = ⊥
RefusedAsAsked c s a done = ⊥

-- `refuse` answers as is asked
abbrev pub RefusesByRfc9000 : Config → Supply → State → Incoming → Type 0
RefusesByRfc9000 c u s a = RefusedAsAsked c s a (refuse c u s a).answer
