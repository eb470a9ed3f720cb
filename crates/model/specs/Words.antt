-- What can be said of a list of calls from what is told of it alone, the last call first.
use Rattle.std.specs.Prelude.{◌≡◌, ℕ, ◌≤◌, Bool, true, false, cond, not, ◌&&◌, ◌||◌, ◌⊎◌, List, [], ◌∷◌, ◌++◌, map, Some, None, Option, ◌==◌}
use Rattle.model.specs.Records.{Id, Token, empty, Sender, Datagram, size, is_early, sender_of, Grant, Event, need, retire, reset_token, drained, Answer, refused, delivered, stored, opened, closing, reset, accepted, failed, ignored, issued, done, written}
use Rattle.model.specs.Runs.{Attempt, own, foreign, Call, handles, accepts, refuses, ignores, handles_event, Labelled, Entry, brings, spent_by, opened_slot}

-- a is among the elements of a list
abbrev pub Among : {A : Type 0} → A → List A → Type 0
Among a [] = ⊥
Among a (b ∷ bs) = (a ≡ b) ⊎ Among a bs

-- ## What one entry says

-- the event that a call hands to the connection h
abbrev pub event_for : ℕ → Call → Option Event
event_for h (handles d room) = None
event_for h (accepts a now given room) = None
event_for h (refuses a) = None
event_for h (ignores a) = None
event_for h (handles_event k e) = cond (h == k) (Some e) None

-- the identifiers that an answer gives to the connection h, `event` being the event of h's that it answers
abbrev pub granted : ℕ → Option Event → Answer → List Grant
granted h event (refused c) = []
granted h event (delivered k) = []
granted h event (stored s) = []
granted h event (opened s o) = []
granted h event (closing c) = []
granted h event (reset a x p t) = []
granted h event (accepted k gs seed ds) = cond (h == k) gs []
granted h event (failed c k) = []
granted h event ignored = []
granted h None (issued gs) = []
granted h (Some e) (issued gs) = gs
granted h event done = []

-- the identifiers that an entry gives to the connection h
abbrev pub grants_to : Entry → ℕ → List Grant
grants_to e h = granted h (event_for h e.call) e.answer

-- the first of some datagrams
abbrev pub head_of : List Datagram → Option Datagram
head_of [] = None
head_of (d ∷ ds) = Some d

-- the first datagram of the connection h, where an answer makes it
abbrev pub begun : ℕ → Answer → Option Datagram
begun h (refused c) = None
begun h (delivered k) = None
begun h (stored s) = None
begun h (opened s o) = None
begun h (closing c) = None
begun h (reset a x p t) = None
begun h (accepted k gs seed ds) = cond (h == k) (head_of ds) None
begun h (failed c k) = None
begun h ignored = None
begun h (issued gs) = None
begun h done = None

-- whether an answer is the refusal of this number
abbrev pub is_refusal : ℕ → Answer → Bool
is_refusal n (refused c) = c == n
is_refusal n (delivered h) = false
is_refusal n (stored s) = false
is_refusal n (opened s o) = false
is_refusal n (closing c) = false
is_refusal n (reset a x p t) = false
is_refusal n (accepted h gs seed ds) = false
is_refusal n (failed c k) = false
is_refusal n ignored = false
is_refusal n (issued gs) = false
is_refusal n done = false

-- an event of a dead handle is refused by 3, and any other is taken in
abbrev pub taken_in : Answer → Bool
taken_in a = not (is_refusal 3 a)

-- an event ends its connection
abbrev pub drains : Option Event → Answer → Bool
drains None a = false
drains (Some (need n)) a = false
drains (Some (retire q more)) a = false
drains (Some (reset_token r)) a = false
drains (Some drained) a = taken_in a

-- an event gives up the sequence q
abbrev pub retires : ℕ → Option Event → Answer → Bool
retires q None a = false
retires q (Some (need n)) a = false
retires q (Some (retire p more)) a = taken_in a && p == q
retires q (Some (reset_token r)) a = false
retires q (Some drained) a = false

-- the remote and token that an event names
abbrev pub sends : Option Event → Answer → Option Sender
sends None a = None
sends (Some (need n)) a = None
sends (Some (retire p more)) a = None
sends (Some (reset_token r)) a = cond (taken_in a) (Some r) None
sends (Some drained) a = None

-- the connection h is drained
abbrev pub ends : Entry → ℕ → Bool
ends e h = drains (event_for h e.call) e.answer

-- the connection h loses its sequence q, whether or not it gets another identifier for it
abbrev pub loses : Entry → ℕ → ℕ → Bool
loses e h q = ends e h || retires q (event_for h e.call) e.answer

-- the remote and token that the connection h names
abbrev pub names : Entry → ℕ → Option Sender
names e h = sends (event_for h e.call) e.answer

-- the attempt that the call labelled k opened is spent
abbrev pub spends : Entry → ℕ → Bool
spends e k = spent_by e.answer && brings k e.call

-- the datagram that a call hands over
abbrev pub datagram_of : Call → Option Datagram
datagram_of (handles d room) = Some d
datagram_of (accepts a now given room) = None
datagram_of (refuses a) = None
datagram_of (ignores a) = None
datagram_of (handles_event h e) = None

-- the call labelled k opens an attempt with the datagram d in slot s
pub record Opens (e : Entry) (k s : ℕ) (d : Datagram) : Type 0 where
  pub label : e.label ≡ k
  pub slot : opened_slot e.answer ≡ Some s
  pub with : datagram_of e.call ≡ Some d

-- ## What holds after a list

-- the grant g was given to the connection h, in this life or an earlier one of the handle
abbrev pub Issued : List Entry → ℕ → Grant → Type 0
Issued [] h g = ⊥
Issued (e ∷ told) h g = Among g (grants_to e h) ⊎ Issued told h g

-- x was issued to h under the sequence q, was not retired since, and h lives
abbrev pub Held : List Entry → ℕ → ℕ → Id → Type 0
Held [] h q x = ⊥
Held (e ∷ told) h q x = ((t : Token) × Among (record { sequence = q; id = x; token = t }) (grants_to e h)) ⊎ ((loses e h q ≡ false) × Held told h q x)

-- h lives, and its attempt was opened with the datagram d
abbrev pub Began : List Entry → ℕ → Datagram → Type 0
Began [] h d = ⊥
Began (e ∷ told) h d = (begun h e.answer ≡ Some d) ⊎ ((ends e h ≡ false) × Began told h d)

-- a connection lives from a successful `accept` until it is drained
abbrev pub Live : List Entry → ℕ → Type 0
Live told h = (d : Datagram) × Began told h d

-- h lives, and r is the remote and token that it named last
abbrev pub Named : List Entry → ℕ → Sender → Type 0
Named [] h r = ⊥
Named (e ∷ told) h r = (names e h ≡ Some r) ⊎ ((names e h ≡ None) × (ends e h ≡ false) × Named told h r)

-- the attempt that the call labelled k opened with the datagram d has the slot s and waits
abbrev pub Waits : List Entry → ℕ → ℕ → Datagram → Type 0
Waits [] k s d = ⊥
Waits (e ∷ told) k s d = Opens e k s d ⊎ ((spends e k ≡ false) × Waits told k s d)

-- where the endpoint may deliver a datagram, its identifiers being `len` long
pub data MayGo (told : List Entry) (len : ℕ) (d : Datagram) (h : ℕ) : Type 0 where
  holds : (q : ℕ) → empty d.dst ≡ false → Held told h q d.dst → MayGo told len d h
  opened_with : (first : Datagram) → is_early d.kind ≡ true → empty d.dst ≡ false → Began told h first → first.dst ≡ d.dst → MayGo told len d h
  by_pair : (first : Datagram) → len ≡ 0 → empty d.dst ≡ true → Began told h first → first.addresses ≡ d.addresses → MayGo told len d h
  by_token : 16 ≤ size d → Named told h (sender_of d) → MayGo told len d h

-- ## What came to nothing

-- a refusal by the host, or a failure, that spends an attempt
abbrev pub to_nothing : Answer → Bool
to_nothing (refused c) = false
to_nothing (delivered h) = false
to_nothing (stored s) = false
to_nothing (opened s o) = false
to_nothing (closing c) = true
to_nothing (reset a x p t) = false
to_nothing (accepted h gs seed ds) = false
to_nothing (failed c k) = true
to_nothing ignored = true
to_nothing (issued gs) = false
to_nothing done = false

-- `refuse`, `ignore` or a failed `accept` spent the attempt that the call labelled k opened
abbrev pub came_to_nothing : List Entry → ℕ → Bool
came_to_nothing [] k = false
came_to_nothing (e ∷ told) k = (to_nothing e.answer && brings k e.call) || came_to_nothing told k

-- whether a slot is s
abbrev pub is_slot : ℕ → Option ℕ → Bool
is_slot s None = false
is_slot s (Some t) = t == s

-- the label of the call that last opened the slot s
abbrev pub occupant : List Entry → ℕ → Option ℕ
occupant [] s = None
occupant (e ∷ told) s = cond (is_slot s (opened_slot e.answer)) (Some e.label) (occupant told s)

-- the label of the call that opened an attempt of this endpoint
abbrev pub own_label : Attempt → Option ℕ
own_label (own k) = Some k
own_label (foreign a) = None

-- the attempt that a datagram opens or waits for, by the label of the call that opened it
abbrev pub handled_for : List Entry → ℕ → Answer → Option ℕ
handled_for told k (refused c) = None
handled_for told k (delivered h) = None
handled_for told k (stored s) = occupant told s
handled_for told k (opened s o) = Some k
handled_for told k (closing c) = None
handled_for told k (reset a x p t) = None
handled_for told k (accepted h gs seed ds) = None
handled_for told k (failed c j) = None
handled_for told k ignored = None
handled_for told k (issued gs) = None
handled_for told k done = None

-- the attempt that an entry is about, `told` being what is told of the calls before it: opened by it, fed by it, or brought by it
abbrev pub about : List Entry → ℕ → Call → Answer → Option ℕ
about told k (handles d room) a = handled_for told k a
about told k (accepts i now given room) a = own_label i
about told k (refuses i) a = own_label i
about told k (ignores i) a = own_label i
about told k (handles_event h e) a = None

-- whether p holds of a value that is there
abbrev pub holds_of : (ℕ → Bool) → Option ℕ → Bool
holds_of p None = false
holds_of p (Some k) = p k

-- dropped for want of room: too many attempts or identifiers, bytes or places
abbrev pub is_dropped : Answer → Bool
is_dropped a = is_refusal 20 a || (is_refusal 21 a || is_refusal 22 a)

-- whether a call is left out, `all` being what is told of the whole list, and `told` of the calls before it
abbrev pub left_out : List Entry → List Entry → Entry → Bool
left_out all told e = is_dropped e.answer || holds_of (came_to_nothing all) (about told e.label e.call e.answer)

-- the entries of `told` that are not left out
abbrev pub remaining : List Entry → List Entry → List Entry
remaining all [] = []
remaining all (e ∷ told) = cond (left_out all told e) (remaining all told) (e ∷ remaining all told)

-- the attempt that each entry is about, by the label of the call that opened it
abbrev pub attempts : List Entry → List (Option ℕ)
attempts [] = []
attempts (e ∷ told) = about told e.label e.call e.answer ∷ attempts told

-- the same of the entries that are not left out
abbrev pub attempts_remaining : List Entry → List Entry → List (Option ℕ)
attempts_remaining all [] = []
attempts_remaining all (e ∷ told) =
    cond (left_out all told e) (attempts_remaining all told) (about told e.label e.call e.answer ∷ attempts_remaining all told)

-- the calls of a list of entries, under their labels
abbrev pub recalled : List Entry → List Labelled
recalled [] = []
recalled (e ∷ told) = record { label = e.label; call = e.call } ∷ recalled told

-- the identifiers that the calls drew, in order
abbrev pub drawn_ids : List Entry → List Id
drawn_ids [] = []
drawn_ids (e ∷ told) = drawn_ids told ++ e.ids

-- the bytes that the calls drew, in order
abbrev pub drawn_bytes : List Entry → List ℕ
drawn_bytes [] = []
drawn_bytes (e ∷ told) = drawn_bytes told ++ e.bytes

-- ## Answers that are alike

-- an answer, an attempt's slot aside
abbrev pub slotless : Answer → Answer
slotless (refused c) = refused c
slotless (delivered h) = delivered h
slotless (stored s) = stored 0
slotless (opened s o) = opened 0 o
slotless (closing c) = closing c
slotless (reset a x p t) = reset a x p t
slotless (accepted h gs seed ds) = accepted h gs seed ds
slotless (failed c k) = failed c k
slotless ignored = ignored
slotless (issued gs) = issued gs
slotless done = done

-- a token with every byte at 0
abbrev pub blank : Token → Token
blank t = map (λ b. 0) t

-- identifiers given, with every byte of a token at 0
abbrev pub blank_grants : List Grant → List Grant
blank_grants [] = []
blank_grants (g ∷ gs) = record { sequence = g.sequence; id = g.id; token = blank g.token } ∷ blank_grants gs

-- an answer with every byte of a token at 0
abbrev pub tokenless : Answer → Answer
tokenless (refused c) = refused c
tokenless (delivered h) = delivered h
tokenless (stored s) = stored s
tokenless (opened s o) = opened s o
tokenless (closing c) = closing c
tokenless (reset a x p t) = reset a x p (blank t)
tokenless (accepted h gs seed ds) = accepted h (blank_grants gs) seed ds
tokenless (failed c k) = failed c k
tokenless ignored = ignored
tokenless (issued gs) = issued (blank_grants gs)
tokenless done = done

-- a call with its answer and the bytes that it wrote
pub record Shown : Type 0 where
  pub label : ℕ
  pub call : Call
  pub answer : Answer
  pub bytes : List ℕ

-- a call with an answer
abbrev pub shown : ℕ → Call → Answer → Shown
shown label call answer = record { label = label; call = call; answer = answer; bytes = written answer }

-- an entry, as f shows its answer
abbrev pub show : (Answer → Answer) → Entry → Shown
show f e = shown e.label e.call (f e.answer)
