-- The free slots.
use Rattle.std.proofs.lemmas.Bool.Decides.{nat_tests}
use Rattle.std.proofs.Common.{◌≡◌, ℕ, zero, suc, ◌+◌, ◌<◌, ◌≤◌, List, [], ◌∷◌, map, drop, sum_by, refl, ap, arith}
use Rattle.std.proofs.lemmas.List.Sums.{sum_by-cons}
use Rattle.records.specs.Received.{Datagram}
use Rattle.places.specs.Free.{counting}
use Rattle.model.specs.Endpoint.{Waiting, add_kept, without}
use Rattle.model.specs.Endpoint as model
use Rattle.waiting.specs.Groups.{holding}
use Rattle.waiting.specs.Leads.{is_slot, Once}
use Rattle.waiting.proofs.Leading.{holding_gone, holding_less, holding_kept}

-- an attempt goes, and its slot is free
pub once_spent : (free : List ℕ) (ws : List Waiting) (slot : ℕ) → Once free ws → 1 ≤ holding slot ws → Once (slot ∷ free) (without ws slot)
once_spent free ws slot once held s =
    grind (arith, nat_tests, sum_by-cons (is_slot s) slot free, once s, holding_gone slot ws, holding_less slot s ws)

-- the slot on top opens
pub once_opened : (free : List ℕ) (ws : List Waiting) (w : Waiting) → free ≡ w.slot ∷ drop 1 free → Once free ws → Once (drop 1 free) (w ∷ ws)
once_opened free ws w e once s = grind (arith, once s, ap (sum_by (is_slot s)) e, sum_by-cons (is_slot s) w.slot (drop 1 free))

pub once_kept : (free : List ℕ) (ws : List Waiting) (slot : ℕ) (d : Datagram) → Once free ws → Once free (map (add_kept slot d) ws)
once_kept free ws slot d once s = omega (arith, once s, holding_kept slot s d ws)

pub once_as : (l l' : List ℕ) (ws ws' : List Waiting) → l' ≡ l → ws' ≡ ws → Once l ws → Once l' ws'
once_as l l' ws ws' el ew o s = omega (arith, ap (sum_by (is_slot s)) el, ap (holding s) ew, o s)

pub once_held : (free : List ℕ) (ws : List Waiting) (slot : ℕ) → Once free ws → holding slot ws ≤ 1
once_held free ws slot once = omega (arith, once slot)

-- no attempt waits in the slot on top
pub top_unheld : (free : List ℕ) (ws : List Waiting) (slot : ℕ) → free ≡ slot ∷ drop 1 free → Once free ws → holding slot ws ≡ 0
top_unheld free ws slot e once = grind (arith, nat_tests, once slot, ap (sum_by (is_slot slot)) e, sum_by-cons (is_slot slot) slot (drop 1 free))

-- ## All slots free

gone_below : (s i n : ℕ) → s < i → sum_by (is_slot s) (counting i n) ≡ 0
gone_below s i zero h = refl
gone_below s i (suc n) h = grind (arith, nat_tests, gone_below s (i + 1) n (omega arith))

pub counted_once : (s i n : ℕ) → sum_by (is_slot s) (counting i n) ≤ 1
counted_once s i zero = omega arith
counted_once s i (suc n) =
    grind (arith, nat_tests, sum_by-cons (is_slot s) i (counting (i + 1) n), gone_below s (i + 1) n, counted_once s (i + 1) n)

pub once_new : (n : ℕ) → Once (counting 0 n) []
once_new n s = omega (arith, counted_once s 0 n)

-- the free numbers of a new list are those of a new state
pub counting_same : (i n : ℕ) → counting i n ≡ model.counting i n
counting_same i zero = refl
counting_same i (suc n) = ap (λ l. i ∷ l) (counting_same (i + 1) n)
