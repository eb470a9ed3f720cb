-- Which attempt an Initial entry leads to.
use Rattle.std.specs.Prelude.{◌≡◌, ℕ, ◌+◌, ◌≤◌, Bool, true, false, cond, not, ◌||◌, List, [], ◌∷◌, Some, None, sum_by, Option, ◌==◌}
use Rattle.records.specs.declared.shared.ConnectionId.{ConnectionId}
use Rattle.records.specs.declared.packet.Datagram as code
use Rattle.records.specs.Ids.{empty, same_id}
use Rattle.records.specs.Received.{Datagram}
use Rattle.model.specs.Endpoint.{Waiting, Target, to_attempt, to_connection, sum_of, is_none}
use Rattle.waiting.specs.Groups.{holding}

-- 1 at s, and 0 elsewhere.
abbrev pub is_slot : ℕ → ℕ → ℕ
is_slot s n = cond (n == s) 1 0

-- The first datagram of the attempt in a slot.
abbrev pub lead : List Waiting → ℕ → Option Datagram
lead [] s = None
lead (w ∷ ws) s = cond (w.slot == s) (Some w.first) (lead ws s)

-- A datagram without its bytes.
abbrev pub record_of : Datagram → code.Datagram
record_of d = record {
  time = d.time;
  addresses = d.addresses;
  ecn = d.ecn;
  first_len = d.first_length;
  kind = d.kind;
  dst_cid = d.dst;
  src_cid = d.src;
  version = d.version;
  token_mark = d.token_mark;
}

-- The same of a datagram that may be missing.
abbrev pub recorded : Option Datagram → Option code.Datagram
recorded None = None
recorded (Some d) = Some (record_of d)

-- The first datagram of an attempt that may be missing.
abbrev pub first_in : Option Waiting → Option Datagram
first_in None = None
first_in (Some w) = Some w.first

-- Whether an entry names the attempt in a slot.
abbrev pub is_attempt : ℕ → Option Target → Bool
is_attempt s None = false
is_attempt s (Some (to_attempt t)) = t == s
is_attempt s (Some (to_connection h)) = false

-- Whether an entry names no attempt.
abbrev pub no_attempt : Option Target → Bool
no_attempt None = true
no_attempt (Some (to_attempt t)) = false
no_attempt (Some (to_connection h)) = true

-- The slot of the attempt that an entry names.
abbrev pub attempt_of : Option Target → Option ℕ
attempt_of None = None
attempt_of (Some (to_attempt s)) = Some s
attempt_of (Some (to_connection h)) = None

-- Whether the entry of an attempt's first datagram names the attempt; under an empty identifier there is none.
abbrev pub goes : (ConnectionId → Option Target) → ℕ → Option Datagram → Bool
goes f s None = true
goes f s (Some d) = empty d.dst || is_attempt s (f d.dst)

-- Whether a datagram bears this destination identifier.
abbrev pub is_dst : ConnectionId → Option Datagram → Bool
is_dst k None = false
is_dst k (Some d) = same_id d.dst k

-- Whether an entry under k that names an attempt names a waiting one that was opened with k.
abbrev pub returns_to : List Waiting → ConnectionId → Option Target → Bool
returns_to ws k None = true
returns_to ws k (Some (to_attempt s)) = is_dst k (lead ws s)
returns_to ws k (Some (to_connection h)) = true

-- Whether there is no entry under k, if k is empty.
abbrev pub clear_at : (ConnectionId → Option Target) → ConnectionId → Bool
clear_at f k = not (empty k) || is_none (f k)

-- Each slot is free or has one attempt, not both, and is free at most once.
abbrev pub Once : List ℕ → List Waiting → Type 0
Once free ws = (s : ℕ) → sum_by (is_slot s) free + holding s ws ≤ 1

-- The entry of each waiting attempt names it.
abbrev pub Named : (ConnectionId → Option Target) → List Waiting → Type 0
Named f ws = (s : ℕ) → goes f s (lead ws s) ≡ true

-- Each entry that names an attempt names a waiting one that was opened with that identifier.
abbrev pub Pointed : (ConnectionId → Option Target) → List Waiting → Type 0
Pointed f ws = (k : ConnectionId) → returns_to ws k (f k) ≡ true

-- There is no entry under an empty identifier.
abbrev pub no_empty : (ConnectionId → Option Target) → Type 0
no_empty f = (x : ConnectionId) → empty x ≡ true → f x ≡ None

-- 1 at an attempt that has an entry: its first datagram bears a destination identifier that is not empty.
abbrev pub has_entry : Waiting → ℕ
has_entry w = cond (empty w.first.dst) 0 1

-- How many waiting attempts have an entry.
abbrev pub entered : List Waiting → ℕ
entered ws = sum_of has_entry ws
