-- Worked cases: what the definitions come to at given numbers.
use Rattle.std.specs.Prelude.{◌≡◌, ℕ, zero, suc, ◌+◌, ◌≤◌, Bool, true, false, List, [], ◌∷◌, ◌++◌, map, length, replicate, Some, None, Option, slice_index, refl, Ok}
use Rattle.std.proofs.Common.{le_of_suc-le-suc, not-suc-le-zero, lit≤, lit<}
use Rattle.std.specs.declared.net.socket_addr.SocketAddr.TheVariants.{V4}
use Rattle.records.specs.Ids.{no_id, zeros_at}
use Rattle.supply.specs.Meaning.{Generator, DoorAnswers}
use Rattle.model.specs.Records.{Id, FourTuple, Settings, Kind, Initial, ZeroRtt, Short, Datagram, Incoming, need, retire, reset_token, drained, Answer, refused, delivered, stored, opened, closing, reset, accepted, failed, ignored, issued, done, written}
use Rattle.model.specs.Endpoint.{State, Config, Supply, Outcome, new_state, with_reset, exhausted}
use Rattle.model.specs.Calls.{handle, accept, handle_event, Room, sealed}
use Rattle.model.specs.Runs.{Endpoint, own, Call, handles, accepts, refuses, handles_event, labelled, Entry, history}
use Rattle.model.specs.Words.{remaining, recalled, drawn_ids}
use Rattle.model.specs.Theorem.{Supplied}

-- ## What the cases are made of

-- past m bytes of n there are zeros
pub zeros_past : (m r n k : ℕ) → m ≤ k → slice_index (replicate m n ++ replicate r 0) k ≡ 0
zeros_past zero r n k h = zeros_at r k
zeros_past (suc m) r n zero h = absurd (not-suc-le-zero h)
zeros_past (suc m) r n (suc k) h = zeros_past m r n k (le_of_suc-le-suc h)

-- the identifier of m bytes, each n, with r bytes left of 20
abbrev pub filled : (m r n : ℕ) → m ≤ 20 → length (replicate m n ++ replicate r 0) ≡ 20 → Id
filled m r n short wide = record { len = m; bytes = replicate m n ++ replicate r 0; short = short; wide = wide; zeros = zeros_past m r n }

-- the identifier of 8 bytes, each n
abbrev pub id_of : ℕ → Id
id_of n = filled 8 12 n (lit≤ tt) refl

-- a peer at 127.0.0.1, port 443, where the local address is not known
abbrev pub addresses : FourTuple
addresses = record { remote = V4 (record { ip = record { octets = 127 ∷ 0 ∷ 0 ∷ 1 ∷ [] }; port = 443 }); local_ip = None }

-- settings with this many bytes for all that waits, this timeout, and a preferred address or none
abbrev pub settings_with : ℕ → Option ℕ → Bool → Settings
settings_with bytes timeout preferred = record {
  max_incoming = 64;
  incoming_buffer_size = bytes;
  incoming_buffer_size_total = bytes;
  min_reset_interval = 20;
  max_idle_timeout = timeout;
  preferred_address = preferred;
}

-- a door that knows, opens, proves and greets all
abbrev pub open_door : DoorAnswers
open_door = record {
  knows = λ v x. true;
  opens = λ d. Ok (record { validated = false; original = d.dst; retry = None });
  proves = λ d. true;
  greets = λ d h xs. Ok tt;
}

-- an endpoint with identifiers of this length and these settings
abbrev pub config_of : ℕ → Settings → Config
config_of len settings = record { settings = settings; places = 128; number = 7; len = len; door = open_door }

-- one with identifiers of 8 bytes, 3,000 bytes for what waits, and this timeout
abbrev pub config_with : Option ℕ → Config
config_with timeout = config_of 8 (settings_with 3000 timeout false)

-- supplies with these identifiers to come, and the bytes 0, 1, 2, ..
abbrev pub supply_of : (ℕ → Id) → Supply
supply_of ids = record { next_id = ids; next_byte = λ i. i; valid = λ x. true }

-- a datagram of this kind with these bytes, to this identifier, at this time
abbrev pub datagram : Kind → List ℕ → Id → Bool → ℕ → Datagram
datagram kind bytes dst mark now = record {
  bytes = bytes;
  first_length = length bytes;
  kind = kind;
  dst = dst;
  src = id_of 5;
  version = 1;
  token_mark = mark;
  addresses = addresses;
  ecn = None;
  time = now;
}

-- n zeros to the identifier of nines
abbrev pub zeros_to_nines : Kind → ℕ → ℕ → Datagram
zeros_to_nines kind n now = datagram kind (replicate n 0) (id_of 9) false now

-- room for all that `accept` may write
abbrev pub room : Room
room = record { records = 128; bytes = 192000 }

-- the attempt of slot 0
abbrev pub first_attempt : Incoming
first_attempt = record { number = 7; slot = 0 }

-- an answer's kind, with a number of it
abbrev pub gist : Answer → ℕ
gist (refused c) = c
gist (delivered h) = 100 + h
gist (stored s) = 200 + s
gist (opened s o) = 300 + s
gist (closing c) = 400
gist (reset a x p t) = 500
gist (accepted h gs seed ds) = 600 + length ds
gist (failed c k) = 700 + c
gist ignored = 800
gist (issued gs) = 900 + length gs
gist done = 1000

-- how many identifiers an answer gives
abbrev pub how_many : Answer → ℕ
how_many (refused c) = 0
how_many (delivered h) = 0
how_many (stored s) = 0
how_many (opened s o) = 0
how_many (closing c) = 0
how_many (reset a x p t) = 0
how_many (accepted h gs seed ds) = length gs
how_many (failed c k) = 0
how_many ignored = 0
how_many (issued gs) = length gs
how_many done = 0

-- ## Resets

-- what a short packet of n bytes that nobody is to get is answered at a time
abbrev pub stray_answer : State → ℕ → ℕ → Answer
stray_answer s n now = sealed (λ x. replicate 16 1) (handle (config_with None) (supply_of id_of) s (zeros_to_nines Short n now) 1500).answer

-- 21 bytes get no reset; 22, 42 and 43 get one of one byte less; at 100 the first eight bytes drawn, 0 to 7, pick 35, so there are 25 + 35 + 16 bytes;
-- after a reset at 1,000 the next may go at 1,020
abbrev pub ResetsComeOut : Type 0
ResetsComeOut =
    (stray_answer new_state 21 0 ≡ refused 16)
    × (length (written (stray_answer new_state 22 0)) ≡ 21)
    × (length (written (stray_answer new_state 42 0)) ≡ 41)
    × (length (written (stray_answer new_state 43 0)) ≡ 42)
    × (length (written (stray_answer new_state 100 0)) ≡ 76)
    × (stray_answer (with_reset new_state 1000) 22 1019 ≡ refused 15)
    × (length (written (stray_answer (with_reset new_state 1000) 22 1020)) ≡ 21)

-- ## Exhaustion

-- of the 256 identifiers of one byte, 192 may be held, and 193 are too many
abbrev pub ExhaustionComesOut : Type 0
ExhaustionComesOut = (exhausted 1 192 ≡ false) × (exhausted 1 193 ≡ true)

-- ## Timeouts

-- an endpoint with this timeout opens an attempt at a time
abbrev pub opened_at : Option ℕ → ℕ → Outcome
opened_at timeout now = handle (config_with timeout) (supply_of id_of) new_state (zeros_to_nines Initial 1200 now) 1500

-- it opens one at 100, and accepts it at a time
abbrev pub accepted_at : Option ℕ → ℕ → Answer
accepted_at timeout now = (accept (config_with timeout) (supply_of id_of) (opened_at timeout 100).state first_attempt now None room).answer

-- with a timeout of 30 the attempt of 100 is accepted at 129, and is too old at 130; with a timeout of 0 it is never too old
abbrev pub TimeoutsComeOut : Type 0
TimeoutsComeOut =
    (gist (opened_at None 100).answer ≡ 300)
    × (gist (accepted_at (Some 30) 129) ≡ 601)
    × (accepted_at (Some 30) 130 ≡ failed 17 None)
    × (gist (accepted_at (Some 0) 130) ≡ 601)

-- ## Buffers

-- n more bytes come for the attempt
abbrev pub fed : State → ℕ → Outcome
fed s n = handle (config_with None) (supply_of id_of) s (zeros_to_nines ZeroRtt n 0) 1500

-- where 3,000 bytes may wait, two datagrams of 1,500 do, and not a byte more
abbrev pub BuffersComeOut : Type 0
BuffersComeOut =
    let once : Outcome = fed (opened_at None 0).state 1500 in
    let twice : Outcome = fed once.state 1500 in
    (once.answer ≡ stored 0) × (twice.answer ≡ stored 0) × ((fed twice.state 1).answer ≡ refused 21)

-- ## Identifiers

-- an endpoint with identifiers of this length opens an attempt to dst and accepts it
abbrev pub connected : ℕ → (ℕ → Id) → Bool → Id → Outcome
connected len ids preferred dst =
    let c : Config = config_of len (settings_with 3000 None preferred) in
    accept c (supply_of ids) (handle c (supply_of ids) new_state (datagram Initial (replicate 1200 0) dst true 0) 1500).state first_attempt 0 None room

-- one with identifiers of 8 bytes, the first of which is of zeros
abbrev pub connected_8 : State
connected_8 = (connected 8 id_of false (id_of 9)).state

-- a connection gets two identifiers with a preferred address, and one without, or where identifiers are empty; it may hold eight; a handle without a
-- connection is refused, and so is a generator that repeats itself
abbrev pub IdentifiersComeOut : Type 0
IdentifiersComeOut =
    let stuck : Supply = supply_of (λ i. id_of 1) in
    (how_many (connected 8 id_of true (id_of 9)).answer ≡ 2)
    × (how_many (connected 8 id_of false (id_of 9)).answer ≡ 1)
    × (how_many (connected 0 (λ i. no_id) true no_id).answer ≡ 1)
    × (how_many (handle_event (supply_of id_of) connected_8 0 (need 7)).answer ≡ 7)
    × ((handle_event (supply_of id_of) connected_8 0 (need 8)).answer ≡ refused 4)
    × ((handle_event (supply_of id_of) connected_8 1 (need 1)).answer ≡ refused 3)
    × ((handle_event stuck (handle_event stuck connected_8 0 (need 1)).state 0 (need 1)).answer ≡ refused 25)

-- ## Routes

-- what a datagram is answered by an endpoint with identifiers of this length
abbrev pub routed : ℕ → State → Datagram → Answer
routed len s d = (handle (config_of len (settings_with 3000 None false)) (supply_of id_of) s d 1500).answer

-- a short packet to this identifier, n bytes of b
abbrev pub short_to : Id → ℕ → ℕ → Datagram
short_to dst n b = datagram Short (replicate n b) dst false 0

-- a datagram reaches the connection by its identifier, by the one that the client addressed first, by its addresses, and by its last 16 bytes; not once the
-- connection is drained or the identifier retired; and a short packet with an identifier of another length is malformed
abbrev pub RoutesComeOut : Type 0
RoutesComeOut =
    let named : State = (handle_event (supply_of id_of) connected_8 0 (reset_token (record { remote = addresses.remote; token = record { bytes = replicate 16 3 } }))).state in
    let over : State = (handle_event (supply_of id_of) connected_8 0 drained).state in
    let less : State = (handle_event (supply_of id_of) connected_8 0 (retire 0 false)).state in
    (routed 8 connected_8 (short_to (id_of 0) 40 0) ≡ delivered 0)
    × (routed 8 connected_8 (zeros_to_nines ZeroRtt 100 0) ≡ delivered 0)
    × (routed 0 (connected 0 (λ i. no_id) false no_id).state (short_to no_id 40 0) ≡ delivered 0)
    × (routed 8 named (short_to (id_of 77) 40 3) ≡ delivered 0)
    × (routed 8 over (short_to (id_of 0) 21 0) ≡ refused 16)
    × (routed 8 less (short_to (id_of 0) 21 0) ≡ refused 16)
    × (routed 8 new_state (short_to (filled 7 13 0 (lit≤ tt) refl) 40 0) ≡ refused 1)

-- ## A list of calls

-- the identifiers id_of n, id_of (n + 1), ..
abbrev pub from : ℕ → Generator
from n = record { len = 8; draw = λ i. id_of (n + i); valid = λ i x. true }

-- an endpoint with 8 places, whose identifiers are those from the n-th on, and whose bytes are zeros
abbrev pub endpoint_from : ℕ → Endpoint
endpoint_from n = record {
  setup = record {
    settings = settings_with 3000 None false;
    places = 8;
    number = 7;
    generator = from n;
    source = λ i. 0;
    door = open_door;
    lawful = record { short = lit≤ tt; sized = λ i. refl; stays = λ i j l. refl };
    bytes_fit = λ i. lit< tt;
    few = lit≤ tt;
    some = lit≤ tt;
    most = lit≤ tt;
  };
  signer = λ m. replicate 32 9;
  long = λ m. refl;
}

-- the last call first: 0 and 1 open attempts, 2 and 3 feed them, 4 finds no room, 5 refuses the second, 6 accepts the first, 7 asks for two identifiers
abbrev pub calls : List Call
calls =
    handles_event 0 (need 2) ∷ accepts (own 0) 0 None room ∷ refuses (own 1)
    ∷ handles (early ZeroRtt 1500 10) 1500 ∷ handles (early ZeroRtt 1000 11) 1500 ∷ handles (early ZeroRtt 1000 10) 1500
    ∷ handles (early Initial 1200 11) 1500 ∷ handles (early Initial 1200 10) 1500 ∷ []
  where
    early : Kind → ℕ → ℕ → Datagram
    early kind n x = datagram kind (replicate n 0) (id_of x) false 0

-- what the endpoint with the identifiers from 0 on tells of these calls
abbrev pub told : List Entry
told = history (endpoint_from 0) (labelled calls)

-- what some entries answer
abbrev pub gists : List Entry → List ℕ
gists = map (λ e. gist e.answer)

-- the calls 1, 3, 4 and 5 are left out; the refusal drew the first identifier, for its close, so the supplies of the endpoint with the identifiers from 1 on
-- give what those of the first gave to the others, and it answers them alike
abbrev pub ListComesOut : Type 0
ListComesOut =
    (map (λ e. e.label) (remaining told told) ≡ 7 ∷ 6 ∷ 2 ∷ 0 ∷ [])
    × (drawn_ids (remaining told told) ≡ id_of 1 ∷ id_of 2 ∷ id_of 3 ∷ [])
    × Supplied (endpoint_from 0) (endpoint_from 1) told
    × (gists told ≡ 902 ∷ 602 ∷ 400 ∷ 21 ∷ 201 ∷ 200 ∷ 301 ∷ 300 ∷ [])
    × (gists (history (endpoint_from 1) (recalled (remaining told told))) ≡ 902 ∷ 602 ∷ 200 ∷ 300 ∷ [])

-- ## The whole

-- all of these come out so
abbrev pub CasesStand : Type 0
CasesStand =
    ResetsComeOut × ExhaustionComesOut × TimeoutsComeOut × BuffersComeOut × IdentifiersComeOut × RoutesComeOut × ListComesOut
