-- The datagrams in order of arrival, and the attempts that they make up.
use Rattle.std.proofs.lemmas.Bool.Decides.{nat_tests}
use Rattle.std.proofs.Common.{◌≡◌, ℕ, ◌+◌, ◌*◌, Bool, true, false, cond, ◌&&◌, eqb, List, [], ◌∷◌, ◌++◌, map, length, Some, None, fold, sum_by, Option, sym, refl, ap, ◌∙◌, add-zero, zero-add, arith}
use Rattle.std.proofs.lemmas.List.{append-nil, append_assoc, length-map, length_push}
use Rattle.std.proofs.lemmas.List.Sums.{fold_push, sum_by-cons}
use Rattle.places.specs.Entries.{Entry, weight, mine, attempts}
use Rattle.records.specs.Received.{Datagram, size}
use Rattle.model.specs.Endpoint.{Waiting, sum_of, kept_bytes, waiting_total, add_kept}
use Rattle.model.specs.Calls.{in_slot}
use Rattle.waiting.specs.Groups.{in_place, sent, opened, add, holding, comes, proper_from, of_slots, grouped}
use Rattle.waiting.specs.Laws as laws

-- ## One more

pub adds : laws.Adds
adds es e = fold_push add [] es e

proper_push : (ws : List Waiting) (es : List Entry) (e : Entry) → proper_from ws (es ++ e ∷ []) ≡ (proper_from ws es && comes (fold add ws es) e)
proper_push ws [] e = grind (arith, nat_tests)
proper_push ws (x ∷ es) e = grind (arith, nat_tests, proper_push (add ws x) es e)

pub adds_proper : laws.AddsProper
adds_proper es e = proper_push [] es e

-- ## Some slots alone

-- a filter by slot, and what keeps the slot
keep_map : (p : ℕ → Bool) (s : ℕ) (d : Datagram) (ws : List Waiting) → in_place p (map (add_kept s d) ws) ≡ map (add_kept s d) (in_place p ws)
keep_map p s d [] = refl
keep_map p s d (w ∷ ws) = grind (arith, nat_tests, keep_map p s d ws)

-- nothing stays of the slot s
drop_map : (p : ℕ → Bool) (s : ℕ) (d : Datagram) → p s ≡ false → (ws : List Waiting) → in_place p (map (add_kept s d) ws) ≡ in_place p ws
drop_map p s d n [] = refl
drop_map p s d n (w ∷ ws) = grind (arith, nat_tests, drop_map p s d n ws)

-- an entry of a slot that passes, and of one that does not
add_yes : (p : ℕ → Bool) (ws : List Waiting) (e : Entry) → p e.slot ≡ true → in_place p (add ws e) ≡ add (in_place p ws) e
add_yes p ws e y = grind (arith, nat_tests, keep_map p e.slot (sent e) ws)

add_no : (p : ℕ → Bool) (ws : List Waiting) (e : Entry) → p e.slot ≡ false → in_place p (add ws e) ≡ in_place p ws
add_no p ws e n = grind (arith, nat_tests, drop_map p e.slot (sent e) n ws)

keeps_from : (p : ℕ → Bool) (ws : List Waiting) (es : List Entry) → fold add (in_place p ws) (of_slots p es) ≡ in_place p (fold add ws es)
keeps_from p ws [] = refl
keeps_from p ws (e ∷ es) = grind (arith, nat_tests, add_yes p ws e, add_no p ws e, keeps_from p (add ws e) es)

pub keeps : laws.Keeps
keeps p es = keeps_from p [] es

-- ## The same order of coming

holding_kept : (p : ℕ → Bool) (s : ℕ) → p s ≡ true → (ws : List Waiting) → holding s (in_place p ws) ≡ holding s ws
holding_kept p s y [] = refl
holding_kept p s y (w ∷ ws) = grind (arith, nat_tests, holding_kept p s y ws)

keeps_proper_from : (p : ℕ → Bool) (ws : List Waiting) (es : List Entry) → proper_from ws es ≡ true → proper_from (in_place p ws) (of_slots p es) ≡ true
keeps_proper_from p ws [] h = refl
keeps_proper_from p ws (e ∷ es) h =
    grind (arith, nat_tests, add_yes p ws e, add_no p ws e, holding_kept p e.slot, keeps_proper_from p (add ws e) es)

pub keeps_proper : laws.KeepsProper
keeps_proper p es h = keeps_proper_from p [] es h

-- ## Sums

-- what an attempt weighs grows by c e as e comes for it
pub record Weighs (g : Waiting → ℕ) (c : Entry → ℕ) : Type 0 where
  pub new : (e : Entry) → e.first ≡ true → g (opened e) ≡ c e
  pub more : (e : Entry) (s : ℕ) (f : Datagram) (ks : List Datagram) → e.first ≡ false → g (record { slot = s; first = f; kept = ks ++ (sent e ∷ []) }) ≡ g (record { slot = s; first = f; kept = ks }) + c e

grown : (g : Waiting → ℕ) (c : Entry → ℕ) (m : Weighs g c) (e : Entry) → e.first ≡ false → (ws : List Waiting) → sum_of g (map (add_kept e.slot (sent e)) ws) ≡ sum_of g ws + holding e.slot ws * c e
grown g c m e f [] = grind (arith, nat_tests)
grown g c m e f (w ∷ ws) = grind (arith, nat_tests, grown g c m e f ws)

sums_from : (g : Waiting → ℕ) (c : Entry → ℕ) (m : Weighs g c) (ws : List Waiting) (es : List Entry) → proper_from ws es ≡ true → sum_of g (fold add ws es) ≡ sum_of g ws + sum_by c es
sums_from g c m ws [] h = sym (add-zero (sum_of g ws))
sums_from g c m ws (e ∷ es) h =
    grind (arith, nat_tests, sums_from g c m (add ws e) es, sum_by-cons c e es, m.new e, grown g c m e)

sum_of_push : {A : Type 0} (f : A → ℕ) (xs : List A) (x : A) → sum_of f (xs ++ x ∷ []) ≡ sum_of f xs + f x
sum_of_push f [] x = omega arith
sum_of_push f (y ∷ xs) x = omega (arith, sum_of_push f xs x)

pub totals : laws.Totals
totals es h =
    grind (
      arith,
      sums_from kept_bytes weight
          (record { new = λ e t. grind arith; more = λ e s f ks n. grind (arith, sum_of_push size ks (sent e)) }) [] es h,
    )

pub parts : laws.Parts
parts es slot h =
    let p : ℕ → Bool = λ n. eqb n slot in
    ap waiting_total (sym (keeps p es)) ∙ totals (of_slots p es) (keeps_proper p es h)

each_one : {A : Type 0} (xs : List A) → sum_by (λ _. 1) xs ≡ length xs
each_one [] = refl
each_one {A} (x ∷ xs) = omega (arith, sum_by-cons {X = A} (λ _. 1) x xs, each_one xs)

pub places : laws.PlacesUsed
places es h =
    sums_from (λ w. 1 + length w.kept) (λ _. 1)
    (record { new = λ e t. refl; more = λ e s f ks n. omega (arith, length_push ks (sent e)) }) [] es h
    ∙ zero-add (sum_by (λ _. 1) es) ∙ each_one es

counts_from : (ws : List Waiting) (es : List Entry) → length (fold add ws es) ≡ length ws + attempts es
counts_from ws [] = sym (add-zero (length ws))
counts_from ws (e ∷ es) =
    grind (arith, nat_tests, counts_from (add ws e) es, sum_by-cons (λ (x : Entry). cond x.first 1 0) e es, length-map ws (add_kept e.slot (sent e)))

pub counts : laws.Counts
counts es = grind (arith, counts_from [] es)

-- ## What an attempt has

abbrev grow : Datagram → Option Waiting → Option Waiting
grow d None = None
grow d (Some w) = Some (record { slot = w.slot; first = w.first; kept = w.kept ++ (d ∷ []) })

abbrev extend : ℕ → Option Waiting → List Entry → Option Waiting
extend slot None ms = grouped slot ms
extend slot (Some w) ms = Some (record { slot = w.slot; first = w.first; kept = w.kept ++ map sent ms })

extend_none : (slot : ℕ) (o : Option Waiting) → extend slot o [] ≡ o
extend_none slot None = refl
extend_none slot (Some w) = simp append-nil

extend_more : (slot : ℕ) (e : Entry) (ms : List Entry) (o : Option Waiting) → (o ≡ None → ⊥) → extend slot (grow (sent e) o) ms ≡ extend slot o (e ∷ ms)
extend_more slot e ms None n = absurd (n refl)
extend_more slot e ms (Some w) n = simp append_assoc

in_slot_same : (s : ℕ) (d : Datagram) (ws : List Waiting) → in_slot (map (add_kept s d) ws) s ≡ grow d (in_slot ws s)
in_slot_same s d [] = refl
in_slot_same s d (w ∷ ws) = grind (arith, nat_tests, in_slot_same s d ws)

in_slot_other : (s t : ℕ) (d : Datagram) → (s ≡ t → ⊥) → (ws : List Waiting) → in_slot (map (add_kept s d) ws) t ≡ in_slot ws t
in_slot_other s t d ne [] = refl
in_slot_other s t d ne (w ∷ ws) = grind (arith, nat_tests, in_slot_other s t d ne ws)

none_held : (s : ℕ) (ws : List Waiting) → holding s ws ≡ 0 → in_slot ws s ≡ None
none_held s [] h = refl
none_held s (w ∷ ws) h = grind (arith, nat_tests, none_held s ws (omega arith))

some_held : (s : ℕ) (ws : List Waiting) → holding s ws ≡ 1 → in_slot ws s ≡ None → ⊥
some_held s [] h z = omega arith
some_held s (w ∷ ws) h z = grind (arith, nat_tests, some_held s ws)

finds_from : (slot : ℕ) (ws : List Waiting) (es : List Entry) → proper_from ws es ≡ true → in_slot (fold add ws es) slot ≡ extend slot (in_slot ws slot) (mine es slot)
finds_from slot ws [] h = sym (extend_none slot (in_slot ws slot))
finds_from slot ws (e ∷ es) h =
    grind (
      arith,
      nat_tests,
      finds_from slot (add ws e) es,
      none_held e.slot ws,
      some_held e.slot ws,
      in_slot_same slot (sent e) ws,
      in_slot_other e.slot slot (sent e),
      extend_more slot e (mine es slot) (in_slot ws slot),
    )

pub finds : laws.Finds
finds es slot h = finds_from slot [] es h
