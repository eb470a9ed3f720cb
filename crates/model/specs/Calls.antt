-- What each of the five calls answers and leaves.
-- Answers stand here without tokens: the signer puts them in last (`sealed`), and nothing else asks it.
use Rattle.std.specs.Prelude.{ℕ, ◌+◌, ◌-◌, ◌*◌, ◌/◌, ◌%◌, Bool, true, false, cond, not, ◌&&◌, ◌||◌, List, [], ◌∷◌, length, Some, None, Option, ◌==◌, nat_le, nat_lt, slice_index, Ok, Err}
use Rattle.model.specs.Records.{Id, Token, empty, Settings, Datagram, size, is_initial, is_short, well_formed, Close, Grant, Incoming, Event, need, retire, reset_token, drained, Answer, refused, delivered, stored, opened, closing, reset, accepted, failed, ignored, issued, done}
use Rattle.supply.specs.Meaning.{Opens}
use Rattle.supply.specs.declared.answers.Unopened.TheVariants.{Closed, ReservedBits, BadToken}
use Rattle.supply.specs.Meaning.{Greets}
use Rattle.supply.specs.declared.answers.HandshakeError.TheVariants.{TransportError, Other}
use Rattle.model.specs.Endpoint.{Conn, Waiting, Target, to_attempt, to_connection, State, Config, Supply, Outcome, first_cause, row, sequenced, grants, Search, none_left, found, several, is_held, is_exhausted, too_large, no_place, saturated, route, with_kept, with_opened, with_spent, with_reset, with_accepted, with_drained, new_conn, with_issued, conn_less, with_retired, with_sender}

-- an answer and a state, where nothing is drawn
abbrev pub gives : Answer → State → Outcome
gives a s = record { answer = a; state = s; ids_drawn = 0; bytes_drawn = 0 }

-- a close draws one more identifier, from the i-th on, and records it nowhere
abbrev pub close_to : Supply → ℕ → ℕ → Datagram → Close
close_to u i code d = record { code = code; version = d.version; addresses = d.addresses; dst_cid = d.src; src_cid = u.next_id i }

-- ## `handle`

-- the number that bytes spell, the first of them the highest
abbrev pub number_of : List ℕ → ℕ
number_of bs = value 0 bs
  where
    value : ℕ → List ℕ → ℕ
    value v [] = v
    value v (b ∷ rest) = value (256 * v + b) rest

-- bytes with the first two bits of the first one at 01, as a short header has them, and then the six highest of that byte
abbrev pub marked : List ℕ → List ℕ
marked [] = []
marked (b ∷ bs) = (64 + b / 4) ∷ bs

-- from the i-th byte on, n bytes of padding
abbrev pub send_reset : Supply → State → Datagram → ℕ → ℕ → Outcome
send_reset u s d i n = record {
  answer = reset d.addresses d.dst (marked (row u.next_byte i n)) [];
  state = with_reset s d.time;
  ids_drawn = 0;
  bytes_drawn = i + n;
}

-- up to 43 bytes are answered by one byte less, and more by 25 bytes of padding and a drawn number of others, so that less goes out than came in
abbrev pub reset_by : Supply → State → Datagram → Bool → Outcome
reset_by u s d true = send_reset u s d 0 (size d - 17)
reset_by u s d false = send_reset u s d 8 (25 + number_of (row u.next_byte 0 8) % (size d - 42))

-- a reset in answer to a datagram
abbrev pub reset_for : Supply → State → Datagram → Outcome
reset_for u s d = reset_by u s d (nat_le (size d - 17) 26)

-- whether less than the interval has passed since the last reset
abbrev pub too_soon : Option ℕ → ℕ → ℕ → Bool
too_soon None interval now = false
too_soon (Some t) interval now = nat_lt now (t + interval)

-- why a datagram that nobody is to get has no reset: it is not short, its identifier is not one of ours, or empty, the last reset was just now, or it is small
abbrev pub stray_causes : Config → Supply → State → Datagram → List (Bool × ℕ)
stray_causes c u s d =
    (not (is_short d.kind), 12) ∷ (not (u.valid d.dst), 13) ∷ (empty d.dst, 14)
    ∷ (too_soon s.last_reset c.settings.min_reset_interval d.time, 15) ∷ (nat_lt (size d) 22, 16) ∷ []

-- a refusal for the cause found, or a reset
abbrev pub stray_by : Supply → State → Datagram → Option ℕ → Outcome
stray_by u s d (Some n) = gives (refused n) s
stray_by u s d None = reset_for u s d

-- what a datagram is answered that nobody is to get, and that is no Initial
abbrev pub stray : Config → Supply → State → Datagram → Outcome
stray c u s d = stray_by u s d (first_cause (stray_causes c u s d))

-- a close with this code in answer to a datagram
abbrev pub close_now : Supply → State → ℕ → Datagram → Outcome
close_now u s code d = record { answer = closing (close_to u 0 code d); state = s; ids_drawn = 1; bytes_drawn = 0 }

-- the number that is given next
abbrev pub next_free : List ℕ → ℕ
next_free free = slice_index free 0

-- what a first datagram is answered after the door was asked: nothing is there to open, reserved bits are set, the token is invalid, or an attempt is opened
abbrev pub open_by : Supply → State → Datagram → Opens → Outcome
open_by u s d (Err Closed) = gives (refused 10) s
open_by u s d (Err ReservedBits) = gives (refused 11) s
open_by u s d (Err BadToken) = close_now u s 0x0b d
open_by u s d (Ok o) = gives (opened (next_free s.free_slots) o) (with_opened s (next_free s.free_slots) d)

-- a first identifier below 8 bytes passes only in an Initial with a token, at our own length
abbrev pub bad_length : Config → Datagram → Bool
bad_length c d = nat_lt d.dst.len 8 && (not (d.dst.len == c.len) || not d.token_mark)

-- why a first datagram is dropped: it is small, there is no room for an attempt or no place for a datagram, or its version is not known
abbrev pub first_causes : Config → State → Datagram → List (Bool × ℕ)
first_causes c s d =
    (nat_lt (size d) 1200, 8) ∷ (saturated c s, 20) ∷ (no_place c s, 22) ∷ (not (c.door.knows d.version d.dst), 9) ∷ []

-- a refusal for the cause found, or a close where the identifier is too short, or what the door says
abbrev pub first_by : Config → Supply → State → Datagram → Option ℕ → Outcome
first_by c u s d (Some n) = gives (refused n) s
first_by c u s d None = cond (bad_length c d) (close_now u s 0x0a d) (open_by u s d (c.door.opens d))

-- what an Initial is answered that nobody is to get
abbrev pub first_packet : Config → Supply → State → Datagram → Outcome
first_packet c u s d = first_by c u s d (first_cause (first_causes c s d))

-- a refusal for the cause found, or the datagram is kept for the attempt
abbrev pub keep_by : State → Datagram → ℕ → Option ℕ → Outcome
keep_by s d slot (Some n) = gives (refused n) s
keep_by s d slot None = gives (stored slot) (with_kept s slot d)

-- a datagram for a waiting attempt is kept if its bytes have room and there is a place
abbrev pub keep : Config → State → Datagram → ℕ → Outcome
keep c s d slot = keep_by s d slot (first_cause ((too_large c s slot d, 21) ∷ (no_place c s, 22) ∷ []))

-- what a datagram is answered by where it goes
abbrev pub handle_by : Config → Supply → State → Datagram → Option Target → Outcome
handle_by c u s d (Some (to_connection h)) = gives (delivered h) s
handle_by c u s d (Some (to_attempt slot)) = keep c s d slot
handle_by c u s d None = cond (is_initial d.kind) (first_packet c u s d) (stray c u s d)

-- whether a datagram is well-formed and the host lends room for any answer
abbrev pub fits : Config → Datagram → ℕ → Bool
fits c d room = well_formed c.len d && nat_le 1500 room

-- what a datagram is answered
abbrev pub handle : Config → Supply → State → Datagram → ℕ → Outcome
handle c u s d room = cond (fits c d room) (handle_by c u s d (route s d)) (gives (refused 1) s)

-- ## `accept`, `refuse` and `ignore`

-- the waiting attempt of a slot
abbrev pub in_slot : List Waiting → ℕ → Option Waiting
in_slot [] slot = None
in_slot (w ∷ ws) slot = cond (w.slot == slot) (Some w) (in_slot ws slot)

-- the waiting attempt that the host brings, if it is one of this endpoint's
abbrev pub brought : Config → State → Incoming → Option Waiting
brought c s a = cond (a.number == c.number) (in_slot s.waiting a.slot) None

-- a timeout of 0 is none
abbrev pub stale : Option ℕ → ℕ → ℕ → Bool
stale None received now = false
stale (Some t) received now = nat_lt 0 t && nat_le (received + t) now

-- why an attempt fails: it waited too long, identifiers are exhausted, no handle is free, or its first datagram is not authentic
abbrev pub accept_causes : Config → State → Waiting → Settings → ℕ → List (Bool × ℕ)
accept_causes c s w settings now =
    (stale settings.max_idle_timeout w.first.time now, 17) ∷ (is_exhausted c s, 23) ∷ (nat_le (length s.free_handles) 0, 24)
    ∷ (not (c.door.proves w.first), 18) ∷ []

-- only an exhausted endpoint says so to the peer
abbrev pub fail : Supply → State → Waiting → ℕ → Outcome
fail u s w n =
    cond (n == 23)
    (record { answer = failed n (Some (close_to u 0 0x02 w.first)); state = with_spent s w None; ids_drawn = 1; bytes_drawn = 0 })
    (gives (failed n None) (with_spent s w None))

-- the handshake greets the client, and the attempt is a connection; or it does not, and the connection is gone at once, with a close where there is a code for it
abbrev pub greet_by : Config → Supply → State → Waiting → ℕ → List Id → ℕ → Greets → Outcome
greet_by c u s w h xs n (Ok tt) = record {
  answer = accepted h (grants (sequenced 0 xs)) (row u.next_byte 0 32) (w.first ∷ w.kept);
  state = with_accepted c s w h xs;
  ids_drawn = n;
  bytes_drawn = 32;
}
greet_by c u s w h xs n (Err (TransportError code)) = record {
  answer = failed 19 (Some (close_to u n code w.first));
  state = with_drained (with_accepted c s w h xs) h (new_conn w xs);
  ids_drawn = n + 1;
  bytes_drawn = 32;
}
greet_by c u s w h xs n (Err Other) = record {
  answer = failed 19 None;
  state = with_drained (with_accepted c s w h xs) h (new_conn w xs);
  ids_drawn = n;
  bytes_drawn = 32;
}

-- fresh identifiers were found, and the handshake is asked; or none was, and the attempt fails
abbrev pub connect_by : Config → Supply → State → Waiting → Search (List Id) → Outcome
connect_by c u s w (none_left n) = record { answer = failed 25 None; state = with_spent s w None; ids_drawn = n; bytes_drawn = 0 }
connect_by c u s w (found xs n) =
    greet_by c u s w (next_free s.free_handles) xs n (c.door.greets w.first (next_free s.free_handles) xs)

-- a preferred address wants a second identifier, unless identifiers are empty
abbrev pub wanted : Config → Settings → ℕ
wanted c settings = cond (settings.preferred_address && nat_lt 0 c.len) 2 1

-- a failure for the cause found, or a search for identifiers
abbrev pub accept_by : Config → Supply → State → Waiting → Settings → Option ℕ → Outcome
accept_by c u s w settings (Some n) = fail u s w n
accept_by c u s w settings None = connect_by c u s w (several (is_held s) u.next_id 0 (wanted c settings))

-- the settings given with the call, or else the endpoint's
abbrev pub settings_or : Option Settings → Settings → Settings
settings_or None settings = settings
settings_or (Some given) settings = given

-- whether settings given with a call are within their bound
abbrev pub settings_fit : Option Settings → Bool
settings_fit None = true
settings_fit (Some given) = nat_le given.max_incoming 64

-- what the host lends to `accept` for what it writes
pub record Room : Type 0 where
  pub records : ℕ
  pub bytes : ℕ

-- why the host's arguments are refused, which leaves the attempt with the host: too little room, or settings past their bound
abbrev pub host_causes : Config → Option Settings → Room → List (Bool × ℕ)
host_causes c given room =
    (nat_lt room.records c.places || nat_lt room.bytes (c.places * 1500), 1) ∷ (not (settings_fit given), 2) ∷ []

-- a refusal where the attempt is not known, or what becomes of it
abbrev pub accept_of : Config → Supply → State → ℕ → Option Settings → Option Waiting → Outcome
accept_of c u s now given None = gives (refused 5) s
accept_of c u s now given (Some w) =
    accept_by c u s w (settings_or given c.settings) (first_cause (accept_causes c s w (settings_or given c.settings) now))

-- a refusal for the cause found, or what becomes of the attempt that the host brings
abbrev pub accept_from : Config → Supply → State → Incoming → ℕ → Option Settings → Option ℕ → Outcome
accept_from c u s a now given (Some n) = gives (refused n) s
accept_from c u s a now given None = accept_of c u s now given (brought c s a)

-- what the acceptance of an attempt is answered
abbrev pub accept : Config → Supply → State → Incoming → ℕ → Option Settings → Room → Outcome
accept c u s a now given room = accept_from c u s a now given (first_cause (host_causes c given room))

-- the attempt is spent, and its client gets a close that says so
abbrev pub refuse_of : Supply → State → Option Waiting → Outcome
refuse_of u s None = gives (refused 5) s
refuse_of u s (Some w) = record {
  answer = closing (close_to u 0 0x02 w.first);
  state = with_spent s w None;
  ids_drawn = 1;
  bytes_drawn = 0;
}

-- what the refusal of an attempt is answered
abbrev pub refuse : Config → Supply → State → Incoming → Outcome
refuse c u s a = refuse_of u s (brought c s a)

-- the attempt is spent, and its client hears nothing
abbrev pub ignore_of : State → Option Waiting → Outcome
ignore_of s None = gives (refused 5) s
ignore_of s (Some w) = gives ignored (with_spent s w None)

-- what an attempt to be ignored is answered
abbrev pub ignore : Config → State → Incoming → Outcome
ignore c s a = ignore_of s (brought c s a)

-- ## `handle_event`

-- whether a connection would hold more than 8 identifiers, or run past the last sequence
abbrev pub too_many : Conn → ℕ → Bool
too_many c n = nat_lt 8 (length c.held + n) || nat_lt 4294967295 (c.count + n)

-- fresh identifiers were found, and the connection gets them; or none was
abbrev pub issue_by : State → ℕ → Conn → Search (List Id) → Outcome
issue_by s h c (none_left n) = record { answer = refused 25; state = s; ids_drawn = n; bytes_drawn = 0 }
issue_by s h c (found xs n) = record {
  answer = issued (grants (sequenced c.count xs));
  state = with_issued s h c xs;
  ids_drawn = n;
  bytes_drawn = 0;
}

-- n more identifiers for a connection
abbrev pub issue : Supply → State → ℕ → Conn → ℕ → Outcome
issue u s h c n = cond (too_many c n) (gives (refused 4) s) (issue_by s h c (several (is_held s) u.next_id 0 n))

-- the identifier of a sequence
abbrev pub held_at : List (ℕ × Id) → ℕ → Option Id
held_at [] q = None
held_at (p ∷ ps) q = cond (p.0 == q) (Some p.1) (held_at ps q)

-- a retirement stays, even where the identifier in its place is refused
abbrev pub retire_by : Supply → State → ℕ → Conn → ℕ → Bool → Option Id → Outcome
retire_by u s h c q more None = gives done s
retire_by u s h c q more (Some x) =
    cond more (issue u (with_retired s h c q x) h (conn_less c q) 1) (gives done (with_retired s h c q x))

-- what an event of a connection is answered, or a refusal where the handle has none
abbrev pub event_of : Supply → State → ℕ → Event → Option Conn → Outcome
event_of u s h e None = gives (refused 3) s
event_of u s h (need n) (Some c) = issue u s h c n
event_of u s h (retire q more) (Some c) = retire_by u s h c q more (held_at c.held q)
event_of u s h (reset_token r) (Some c) = gives done (with_sender s h c r)
event_of u s h drained (Some c) = gives done (with_drained s h c)

-- what an event is answered
abbrev pub handle_event : Supply → State → ℕ → Event → Outcome
handle_event u s h e = event_of u s h e (s.conns h)

-- ## Tokens

-- identifiers given, each with its token
abbrev pub sealed_grants : (Id → Token) → List Grant → List Grant
sealed_grants token [] = []
sealed_grants token (g ∷ gs) = record { sequence = g.sequence; id = g.id; token = token g.id } ∷ sealed_grants token gs

-- an answer with the token of each identifier that it gives or resets
abbrev pub sealed : (Id → Token) → Answer → Answer
sealed token (refused c) = refused c
sealed token (delivered h) = delivered h
sealed token (stored s) = stored s
sealed token (opened s o) = opened s o
sealed token (closing c) = closing c
sealed token (reset a x p t) = reset a x p (token x)
sealed token (accepted h gs seed ds) = accepted h (sealed_grants token gs) seed ds
sealed token (failed c k) = failed c k
sealed token ignored = ignored
sealed token (issued gs) = issued (sealed_grants token gs)
sealed token done = done
