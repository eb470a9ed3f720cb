-- Lists of identifiers in turn.
use Rattle.std.specs.Prelude.{◌≡◌, ℕ, ◌+◌, ◌%◌, ◌<◌, ◌≤◌, Bool, true, ◌&&◌, ◌||◌, List, length, get_or, take, drop, ◌==◌, nat_le, slice_index_or, refl}
use Rattle.std.proofs.Common.{sym, ap, ◌∙◌, mod-lt, mod-eq_of_lt, arith}
use Rattle.std.proofs.Math.Nat.{mod-add-mod}
use Rattle.std.proofs.lemmas.List.{at_drop_more, get_or_default, get_or-take, length-take-le}
use Rattle.std.proofs.lemmas.Bool.{eqb-true, and_parts, leb-true}
use Rattle.std.proofs.lemmas.List.Sums.{AllPass-from_list_all}
use Rattle.std.proofs.lemmas.List.Folds.{list_any_at}
use Rattle.records.specs.declared.shared.ConnectionId.{ConnectionId}
use Rattle.records.specs.Ids.{same_id, no_id}
use Rattle.records.specs.Same.{same_id_decides}
use Rattle.supply.specs.Meaning.{Lawful, shifted}
use Rattle.suppliers.specs.Lists.{all_of, list_fits, listed, in_turn}

-- in a list of identifiers of one length, each has it
all_of_at : (n : ℕ) (xs : List ConnectionId) (i : ℕ) (d : ConnectionId) → i < length xs → all_of n xs ≡ true → (get_or xs i d).len ≡ n
all_of_at n xs i d h t = eqb-true _ _ (AllPass-from_list_all (λ x. x.len == n) xs t i d h)

-- a list has the identifier at each of its places
listed_at : (xs : List ConnectionId) (i : ℕ) (d : ConnectionId) → i < length xs → listed xs (slice_index_or xs i d) ≡ true
listed_at xs i d h = let x = slice_index_or xs i d in list_any_at (λ y. same_id y x) xs i d h ((same_id_decides x x).1 refl)

-- a list that fits keeps a generator's laws
pub in_turn_lawful : (xs : List ConnectionId) (at : ℕ) → list_fits xs ≡ true → Lawful (in_turn xs at)
in_turn_lawful xs at t =
    let p = and_parts (nat_le 1 (length xs)) (nat_le (length xs) 32 && all_of (get_or xs 0 no_id).len xs) t in
    let like = (and_parts (nat_le (length xs) 32) (all_of (get_or xs 0 no_id).len xs) p.1).1 in
    let some : 0 < length xs = omega (arith, leb-true 1 (length xs) p.0) in
    let inside : (i : ℕ) → (at + i) % length xs < length xs = λ i. mod-lt (at + i) some in
    record {
      short = (get_or xs 0 no_id).short;
      sized = λ i. all_of_at _ xs _ no_id (inside i) like;
      stays = λ i j h. listed_at xs _ no_id (inside i);
    }

-- a search of a list, one identifier on
pub listed_more : (xs : List ConnectionId) (i : ℕ) (x y : ConnectionId) (b : Bool) → i < length xs → x ≡ slice_index_or xs i x → b ≡ same_id x y → listed (drop i xs) y ≡ (b || listed (drop (i + 1) xs) y)
listed_more xs i x y b h e t = at_drop_more (λ l. listed l y) xs i x h ∙ ap (λ z. same_id z y || listed (drop (i + 1) xs) y) (sym e) ∙ ap (λ a. a || listed (drop (i + 1) xs) y) (sym t)

-- the identifier at the place is the next
pub in_turn_here : (xs : List ConnectionId) (n at : ℕ) (d : ConnectionId) → n ≤ length xs → at < n → slice_index_or xs at d ≡ (in_turn (take n xs) at).draw 0
in_turn_here xs n at d few h =
    let long : length (take n xs) ≡ n = length-take-le n xs few in
    let z : at + 0 < length (take n xs) = omega arith in
    let here : (at + 0) % length (take n xs) ≡ at = mod-eq_of_lt z ∙ omega arith in
    get_or_default xs at d no_id (omega arith) ∙ sym (get_or-take n xs at no_id h) ∙ ap (λ k. get_or (take n xs) k no_id) (sym here)

-- one place on, and from the last to the first
pub in_turn_after : (xs : List ConnectionId) (at n : ℕ) → n ≡ length xs → in_turn xs ((at + 1) % n) ≡ shifted 1 (in_turn xs at)
in_turn_after xs at n e =
    let s : (i : ℕ) → ((at + 1) % n + i) % length xs ≡ (at + (1 + i)) % length xs =
    λ i. ap (λ m. ((at + 1) % m + i) % length xs) e ∙ mod-add-mod (at + 1) (length xs) i ∙ ap (λ m. m % length xs) (omega arith) in
    λ j. record { len = (get_or xs 0 no_id).len; draw = λ i. slice_index_or xs (s i j) no_id; valid = λ i. listed xs }
