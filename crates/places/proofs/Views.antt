-- From the places, and the blocks that they name, to the entries.
use Rattle.std.proofs.Common.{◌≡◌, ℕ, ◌+◌, ◌<◌, ◌≤◌, Bool, false, cond, not, ltb, List, [], ◌∷◌, ◌++◌, map, length, get_or, take, drop, set, sum_by, count_by, filter, sym, refl, ap, ◌∙◌, subst, arith}
use Rattle.std.proofs.lemmas.Grind.{common_steps}
use Rattle.std.proofs.lemmas.List.{length-take-le, take_all, take_more_set, map_push, length-set}
use Rattle.std.proofs.lemmas.List.Sums.{sum_by-take-le, sum_by-set, get_or-le-sum_by, count_by_more_yes, sum_by-le, sum_by_push}
use Rattle.std.proofs.lemmas.List.Elements.{All-head, All-tail, All-same, All-set, All-push, All-filter}
use Rattle.std.proofs.lemmas.List.Filters.{sum_by-filter_both}
use Rattle.std.proofs.lemmas.Bool.Decides.{nat_tests}
use Rattle.std.specs.List.{find, All, HoldsAt}
use Rattle.std.specs.Option.{option_map}
use Rattle.records.specs.declared.packet.Datagram.{Datagram}
use Rattle.places.specs.declared.record.Place.{Place}
use Rattle.places.specs.declared.places.Places.{Places}
use Rattle.places.specs.Entries.{Entry, entry, arrival, names_block, HasBytes, weight, of_slot, mine, without, total, first_of, place_weight, place_of, place_other, place_leads}
use Rattle.places.specs.Stacks.{held}
use Rattle.places.specs.Held.{entries, width}

-- ## Maps and counts

-- what is kept of a list that is mapped
kept_map : {X Y : Type 0} (g : X → Y) (p : Y → Bool) (xs : List X) → filter p (map g xs) ≡ map g (filter (λ x. p (g x)) xs)
kept_map g p [] = refl
kept_map g p (x ∷ xs) = grind (arith, common_steps, kept_map g p xs)

-- two functions that are equal at each element
map_same : {X Y : Type 0} (f g : X → Y) (xs : List X) → All (λ x. f x ≡ g x) xs → map f xs ≡ map g xs
map_same f g [] h = refl
map_same f g (x ∷ xs) h = let a = All-head (λ y. f y ≡ g y) x xs h in grind (arith, common_steps, a, map_same f g xs (All-tail (λ y. f y ≡ g y) x xs h))

-- a test that nothing passes fails everywhere
none_counted : {X : Type 0} (q : X → Bool) (xs : List X) → count_by q xs ≡ 0 → All (λ x. q x ≡ false) xs
none_counted q xs z k d lt = let s = get_or-le-sum_by (λ x. cond {A = ℕ} (q x) 1 0) xs k d lt in grind (arith, s)

-- ## What is asked

pub entry_at : (bs : List (List ℕ)) (ps : List Place) (i : ℕ) (p : Place) → i < length ps → p ≡ get_or ps i p → get_or (map (entry bs) ps) i (entry bs p) ≡ entry bs p
entry_at bs ps i p lt e = grind (arith, common_steps)

-- there is room for a datagram where a place is free
pub room : (w : Places) → length (entries w) < width w → w.records.used < length w.records.items.now
room w lt = let h = w.records.within in grind (arith, common_steps)

weights : (bs : List (List ℕ)) (ps : List Place) → All (HasBytes bs) ps → sum_by weight (map (entry bs) ps) ≡ sum_by place_weight ps
weights bs [] h = refl
weights bs (p ∷ ps) h =
    let a = All-head (HasBytes bs) p ps h in grind (arith, common_steps, a, weights bs ps (All-tail (HasBytes bs) p ps h))

-- the bytes that count, by the places' own lengths
pub weights_held : (w : Places) → total (entries w) ≡ sum_by place_weight (held w.records)
weights_held w = weights w.blocks.items.now (held w.records) w.whole

-- those of one attempt
pub weights_of : (w : Places) (slot : ℕ) → total (mine (entries w) slot) ≡ sum_by place_weight (filter (place_of slot) (held w.records))
weights_of w slot =
    let bs = w.blocks.items.now in
    let ps = held w.records in
    ap (sum_by weight) (kept_map (entry bs) (of_slot slot) ps) ∙ weights bs (filter (place_of slot) ps) (All-filter (place_of slot) (HasBytes bs) ps w.whole)

-- places weigh at most 1500 each
pub light_held : (w : Places) → sum_by place_weight (held w.records) ≤ 192000
light_held w =
    let ps = held w.records in
    let a : All (λ (p : Place). place_weight p ≤ 1500) ps = λ k d lt. light (get_or ps k d) (w.whole k d lt).1 in
    omega (arith, sum_by-le place_weight 1500 ps a, length-take-le w.records.used w.records.items.now w.records.within, w.few, w.records.within)
  where
    light : (p : Place) → p.kept.len ≤ 1500 → place_weight p ≤ 1500
    light p h = grind arith

pub light_of : (w : Places) (slot : ℕ) → sum_by place_weight (filter (place_of slot) (held w.records)) ≤ 192000
light_of w slot = omega (arith, light_held w, sum_by-filter_both (place_of slot) (place_other slot) (λ _. refl) place_weight (held w.records))

firsts : (bs : List (List ℕ)) (ps : List Place) (slot : ℕ) → first_of (map (entry bs) ps) slot ≡ option_map (λ (p : Place). p.kept.datagram) (find (place_leads slot) ps)
firsts bs [] slot = refl
firsts bs (p ∷ ps) slot = grind (arith, common_steps, firsts bs ps slot)

-- the first datagram of an attempt, by its place
pub first_held : (w : Places) (slot : ℕ) → first_of (entries w) slot ≡ option_map (λ (p : Place). p.kept.datagram) (find (place_leads slot) (held w.records))
first_held w slot = firsts w.blocks.items.now (held w.records) slot

-- ## One more

-- the block of the place after the first u is named by none of these
unnamed : (ps : List Place) (u b : ℕ) (x : Place) → u < length ps → ((c : ℕ) → count_by (names_block c) ps ≤ 1) → b ≡ (get_or ps u x).block → All (λ (p : Place). names_block b p ≡ false) (take u ps)
unnamed ps u b x lt apart e =
    none_counted (names_block b) (take u ps)
    (grind (arith, common_steps, apart b, count_by_more_yes (names_block b) ps u x lt, sum_by-take-le (λ (p : Place). cond {A = ℕ} (names_block b p) 1 0) ps (u + 1)))

-- and it is there
pub in_blocks : (n : ℕ) (ps : List Place) (u b : ℕ) → u < length ps → All (λ (p : Place). p.block < n) ps → HoldsAt (λ (p : Place). b ≡ p.block) ps u → b < n
in_blocks n [] u b lt named e = absurd (omega arith)
in_blocks n (p ∷ ps) u b lt named e = subst (λ m. m < n) (sym (e p)) (named u p lt)

-- an entry whose block stays
same_entry : (bs : List (List ℕ)) (b : ℕ) (v : List ℕ) (p : Place) → names_block b p ≡ false → entry (set bs b v) p ≡ entry bs p
same_entry bs b v p n = grind (arith, common_steps)

-- what holds after one more
pub record Added (w : Places) (bs : List (List ℕ)) (ps : List Place) (u : ℕ) (e : Entry) : Type 0 where
  pub apart : (b : ℕ) → count_by (names_block b) ps ≤ 1
  pub named : All (λ (p : Place). p.block < length bs) ps
  pub whole : All (HasBytes bs) (take u ps)
  pub entries : map (entry bs) (take u ps) ≡ entries w ++ e ∷ []

pub added : (w : Places) {bs' : List (List ℕ)} {ps' : List Place} {u' b : ℕ} (slot : ℕ) (first : Bool) (d : Datagram) (xs : List ℕ) → length (entries w) < width w → length xs ≤ 1500 → HoldsAt (λ (p : Place). b ≡ p.block) w.records.items.now w.records.used → bs' ≡ set w.blocks.items.now b (xs ++ drop (length xs) (get_or w.blocks.items.now b [])) → ps' ≡ set w.records.items.now w.records.used (record { slot = slot; first = first; block = b; kept = record { datagram = d; len = length xs } }) → u' ≡ w.records.used + 1 → Added w bs' ps' u' (arrival slot first d xs)
added w {b = b} slot first d xs free small eb ebs eps eu =
    let bs = w.blocks.items.now in
    let ps = w.records.items.now in
    let u = w.records.used in
    let lt = room w free in
    let v = xs ++ drop (length xs) (get_or bs b []) in
    let x : Place = record { slot = slot; first = first; block = b; kept = record { datagram = d; len = length xs } } in
    let there = in_blocks (length bs) ps u b lt w.named eb in
    let out = unnamed ps u b x lt w.apart (eb x) in
    let same : All (λ (p : Place). entry (set bs b v) p ≡ entry bs p) (take u ps) = λ k o l. same_entry bs b v (get_or (take u ps) k o) (out k o l) in
    let laid : take (length xs) (get_or (set bs b v) b []) ≡ xs = grind (arith, common_steps) in
    rw (ebs, eps, eu)
    (record {
      apart = λ c. let s = sum_by-set (λ (p : Place). cond {A = ℕ} (names_block c p) 1 0) ps u x x lt in let h = w.apart c in grind (arith, s, eb x, h);
      named = subst (λ n. All (λ (p : Place). p.block < n) (set ps u x)) (sym (length-set bs b v)) (All-set (λ (p : Place). p.block < length bs) ps u x there w.named);
      whole =
          All-same (HasBytes (set bs b v)) _ _ (take_more_set ps u x lt)
          (All-push (HasBytes (set bs b v)) (take u ps) x
          (λ k o l. ((w.whole k o l).0 ∙ ap (λ (e : Entry). length e.bytes) (sym (same k o l)), (w.whole k o l).1)) (sym (ap length laid), small));
      entries =
          ap (map (entry (set bs b v))) (take_more_set ps u x lt) ∙ map_push (entry (set bs b v)) (take u ps) x
          ∙ ap (λ t. t ++ entry (set bs b v) x ∷ []) (map_same (entry (set bs b v)) (entry bs) (take u ps) same)
          ∙ ap (λ t. map (entry bs) (take u ps) ++ arrival slot first d t ∷ []) laid;
    })

-- ## An attempt goes

-- the entries that are left
pub spent : (w : Places) (ps : List Place) (slot : ℕ) → ps ≡ filter (place_other slot) (held w.records) → map (entry w.blocks.items.now) ps ≡ without (entries w) slot
spent w ps slot e = ap (map (entry w.blocks.items.now)) e ∙ sym (kept_map (entry w.blocks.items.now) (λ x. not (of_slot slot x)) (held w.records))

-- ## Nothing held yet

-- the first i places name the blocks below i
pub record Fresh (ps : List Place) (n i : ℕ) : Type 0 where
  pub each : (b : ℕ) → count_by (names_block b) (take i ps) ≡ cond (ltb b i) 1 0
  pub named : All (λ (p : Place). p.block < n) (take i ps)

pub fresh_more : (ps : List Place) (n i : ℕ) (x : Place) → Fresh ps n i → i < length ps → i < n → x.block ≡ i → Fresh (set ps i x) n (i + 1)
fresh_more ps n i x f lt l e =
    let t = take_more_set ps i x lt in
    record {
      each = λ b. let h = f.each b in let s = sum_by_push (λ (p : Place). cond {A = ℕ} (names_block b p) 1 0) (take i ps) x in rw t (grind (arith, nat_tests, h, s));
      named = rw t (All-push (λ (p : Place). p.block < n) (take i ps) x f.named (omega arith));
    }

pub fresh_all : (ps : List Place) (n i : ℕ) → Fresh ps n i → length ps ≤ i → ((b : ℕ) → count_by (names_block b) ps ≤ 1) × All (λ (p : Place). p.block < n) ps
fresh_all ps n i f le =
    let t = take_all i ps le in (λ b. let h = f.each b in grind (arith, h, t), rw t at f.named)
