-- The waiting attempts, as the datagrams in order of arrival make them up.
use Rattle.std.specs.Prelude.{ℕ, Bool, true, cond, ◌&&◌, List, [], ◌∷◌, map, Some, None, fold, filter, Option, ◌==◌}
use Rattle.records.specs.Received.{Datagram, datagram_of}
use Rattle.places.specs.Entries.{Entry}
use Rattle.model.specs.Endpoint.{Waiting, sum_of, add_kept}

-- A waiting datagram with its bytes.
abbrev pub sent : Entry → Datagram
sent e = datagram_of e.datagram e.bytes

-- The attempt that a first datagram opens.
abbrev pub opened : Entry → Waiting
opened e = record { slot = e.slot; first = sent e; kept = [] }

-- The attempts after one more datagram: a first one opens an attempt, any other is kept for the attempt in its slot.
abbrev pub add : List Waiting → Entry → List Waiting
add ws e = cond e.first (opened e ∷ ws) (map (add_kept e.slot (sent e)) ws)

-- The attempts that these datagrams make up, the latest first.
abbrev pub groups : List Entry → List Waiting
groups es = fold add [] es

-- How many attempts wait in a slot.
abbrev pub holding : ℕ → List Waiting → ℕ
holding s ws = sum_of (λ w. cond (w.slot == s) 1 0) ws

-- Whether a datagram may come: a first one for a slot where none waits, any other for one where an attempt waits.
abbrev pub comes : List Waiting → Entry → Bool
comes ws e = holding e.slot ws == cond e.first 0 1

-- Whether each of these datagrams may come in its turn, after the attempts ws.
abbrev pub proper_from : List Waiting → List Entry → Bool
proper_from ws [] = true
proper_from ws (e ∷ es) = comes ws e && proper_from (add ws e) es

-- Whether each of these datagrams may come in its turn.
abbrev pub proper : List Entry → Bool
proper es = proper_from [] es

-- The attempts in the slots that pass.
abbrev pub in_place : (ℕ → Bool) → List Waiting → List Waiting
in_place p ws = filter (λ w. p w.slot) ws

-- The datagrams of the slots that pass.
abbrev pub of_slots : (ℕ → Bool) → List Entry → List Entry
of_slots p es = filter (λ e. p e.slot) es

-- The attempt of these datagrams, all of one slot, the first in front.
abbrev pub grouped : ℕ → List Entry → Option Waiting
grouped slot [] = None
grouped slot (e ∷ es) = Some (record { slot = slot; first = sent e; kept = map sent es })
