-- The first datagram of each attempt, and what is left when an attempt goes.
use Rattle.std.proofs.lemmas.Bool.Decides.{nat_tests}
use Rattle.std.proofs.Common.{◌≡◌, ℕ, ◌+◌, ◌≤◌, Bool, true, false, cond, not, eqb, List, [], ◌∷◌, map, length, Some, None, fold, Option, sym, refl, ap, ◌∙◌, arith}
use Rattle.records.specs.Received.{Datagram}
use Rattle.places.specs.Entries.{Entry, first_of}
use Rattle.places.specs.Entries as entries
use Rattle.model.specs.Endpoint.{Waiting, sum_of, add_kept, without, or_else}
use Rattle.model.specs.Calls.{in_slot}
use Rattle.waiting.specs.Groups.{sent, add, groups, holding, proper_from, proper}
use Rattle.waiting.specs.Leads.{lead, recorded, first_in, entered, has_entry}
use Rattle.waiting.proofs.Grouping.{keeps, keeps_proper}

-- ## The first datagram

pub lead_kept : (t s : ℕ) (d : Datagram) (ws : List Waiting) → lead (map (add_kept t d) ws) s ≡ lead ws s
lead_kept t s d [] = refl
lead_kept t s d (w ∷ ws) = ap (cond (eqb w.slot s) (Some w.first)) (lead_kept t s d ws)

pub lead_none : (s : ℕ) (ws : List Waiting) → holding s ws ≡ 0 → lead ws s ≡ None
lead_none s [] h = refl
lead_none s (w ∷ ws) h = grind (arith, nat_tests, lead_none s ws (omega arith))

pub lead_held : (s : ℕ) (ws : List Waiting) (d : Datagram) → lead ws s ≡ Some d → 1 ≤ holding s ws
lead_held s [] d h = absurd cc
lead_held s (w ∷ ws) d h = grind (arith, nat_tests, lead_held s ws d)

-- the attempt in a slot has the slot's first datagram
pub lead_in : (s : ℕ) (ws : List Waiting) → lead ws s ≡ first_in (in_slot ws s)
lead_in s [] = refl
lead_in s (w ∷ ws) = grind (arith, nat_tests, lead_in s ws)

pub lead_some : (s : ℕ) (ws : List Waiting) (w : Waiting) → in_slot ws s ≡ Some w → lead ws s ≡ Some w.first
lead_some s ws w h = lead_in s ws ∙ ap first_in h

pub in_slot_slot : (s : ℕ) (ws : List Waiting) (w : Waiting) → in_slot ws s ≡ Some w → w.slot ≡ s
in_slot_slot s [] w h = absurd cc
in_slot_slot s (x ∷ ws) w h = grind (arith, nat_tests, in_slot_slot s ws w)

pub in_slot_held : (s : ℕ) (ws : List Waiting) (w : Waiting) → in_slot ws s ≡ Some w → 1 ≤ holding s ws
in_slot_held s ws w h = lead_held s ws w.first (lead_some s ws w h)

-- ## What the datagrams in order of arrival say of it

or_none : {A : Type 0} (o : Option A) → or_else o None ≡ o
or_none None = refl
or_none (Some a) = refl

recorded_cond : (b : Bool) (d : Datagram) (o : Option Datagram) → recorded (cond b (Some d) o) ≡ cond b (recorded (Some d)) (recorded o)
recorded_cond true d o = refl
recorded_cond false d o = refl

lead_from : (s : ℕ) (ws : List Waiting) (es : List Entry) → proper_from ws es ≡ true → recorded (lead (fold add ws es) s) ≡ or_else (recorded (lead ws s)) (first_of es s)
lead_from s ws [] h = sym (or_none (recorded (lead ws s)))
lead_from s ws (e ∷ es) h = grind (arith, nat_tests, lead_from s (add ws e) es, lead_kept e.slot s (sent e) ws, lead_none e.slot ws)

-- the first datagram of an attempt, its bytes apart, is what a search among the datagrams finds
pub lead_first : (s : ℕ) (es : List Entry) → proper es ≡ true → recorded (lead (groups es) s) ≡ first_of es s
lead_first s es h = lead_from s [] es h

-- ## An attempt goes

-- the datagrams of an attempt go, and so does the attempt
pub spends : (es : List Entry) (slot : ℕ) → groups (entries.without es slot) ≡ without (groups es) slot
spends es slot = keeps (λ n. not (eqb n slot)) es

pub spends_proper : (es : List Entry) (slot : ℕ) → proper es ≡ true → proper (entries.without es slot) ≡ true
spends_proper es slot h = keeps_proper (λ n. not (eqb n slot)) es h

lead_drop : (slot s : ℕ) (ws : List Waiting) → (slot ≡ s → ⊥) → lead (without ws slot) s ≡ lead ws s
lead_drop slot s [] ne = refl
lead_drop slot s (w ∷ ws) ne = grind (arith, nat_tests, lead_drop slot s ws ne)

pub holding_gone : (slot : ℕ) (ws : List Waiting) → holding slot (without ws slot) ≡ 0
holding_gone slot [] = refl
holding_gone slot (w ∷ ws) = grind (arith, nat_tests, holding_gone slot ws)

pub holding_less : (slot s : ℕ) (ws : List Waiting) → holding s (without ws slot) ≤ holding s ws
holding_less slot s [] = omega arith
holding_less slot s (w ∷ ws) = grind (arith, nat_tests, holding_less slot s ws)

pub holding_kept : (t s : ℕ) (d : Datagram) (ws : List Waiting) → holding s (map (add_kept t d) ws) ≡ holding s ws
holding_kept t s d [] = refl
holding_kept t s d (w ∷ ws) = ap (λ n. cond (eqb w.slot s) 1 0 + n) (holding_kept t s d ws)

pub lead_without : (slot s : ℕ) (ws : List Waiting) → lead (without ws slot) s ≡ cond (eqb slot s) None (lead ws s)
lead_without slot s ws = grind (arith, nat_tests, lead_none slot (without ws slot) (holding_gone slot ws), lead_drop slot s ws)

-- ## Sums

sum_none : (g : Waiting → ℕ) (slot : ℕ) (ws : List Waiting) → holding slot ws ≡ 0 → sum_of g (without ws slot) ≡ sum_of g ws
sum_none g slot [] h = refl
sum_none g slot (w ∷ ws) h = grind (arith, nat_tests, sum_none g slot ws (omega arith))

-- the attempt in a slot, which is the only one there, takes its part of a sum along
pub sum_spent : (g : Waiting → ℕ) (slot : ℕ) (ws : List Waiting) (w : Waiting) → in_slot ws slot ≡ Some w → holding slot ws ≤ 1 → sum_of g (without ws slot) + g w ≡ sum_of g ws
sum_spent g slot [] w h one = absurd cc
sum_spent g slot (x ∷ ws) w h one = grind (arith, nat_tests, sum_none g slot ws, sum_spent g slot ws w)

pub length_without : (slot : ℕ) (ws : List Waiting) → length (without ws slot) + holding slot ws ≡ length ws
length_without slot [] = refl
length_without slot (w ∷ ws) = grind (arith, nat_tests, length_without slot ws)

-- ## How many attempts have an entry

pub entered_kept : (s : ℕ) (d : Datagram) (ws : List Waiting) → entered (map (add_kept s d) ws) ≡ entered ws
entered_kept s d [] = refl
entered_kept s d (w ∷ ws) = ap (λ n. has_entry w + n) (entered_kept s d ws)

pub entered_spent : (slot : ℕ) (ws : List Waiting) (w : Waiting) → in_slot ws slot ≡ Some w → holding slot ws ≤ 1 → entered (without ws slot) + has_entry w ≡ entered ws
entered_spent slot ws w h one = sum_spent has_entry slot ws w h one

pub entered_few : (ws : List Waiting) → entered ws ≤ length ws
entered_few [] = omega arith
entered_few (w ∷ ws) = grind (arith, entered_few ws)
