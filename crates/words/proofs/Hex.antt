-- Bytes and their hexadecimal digits.
use Rattle.std.proofs.Common.{◌≡◌, ℕ, zero, suc, ◌+◌, ◌*◌, ◌/◌, ◌%◌, ◌<◌, List, [], ◌∷◌, ◌++◌, length, get_or, take, drop, refl, ap, ◌∙◌, append_assoc, arith, rules}
use Rattle.std.proofs.ByRecursion.{All-get_or}
use Rattle.std.proofs.lemmas.List.{take_more, get_or-take, get_or-drop}
use Rattle.std.specs.Simd.{first_chunks}
use Rattle.words.specs.Words.{hex_digit, hex_of, NoneHas}

pub hex_push : (bs : List ℕ) (b : ℕ) → hex_of (bs ++ b ∷ []) ≡ hex_of bs ++ hex_digit (b / 16) ∷ hex_digit (b % 16) ∷ []
hex_push [] b = refl
hex_push (x ∷ bs) b = ap (λ t. hex_digit (x / 16) ∷ hex_digit (x % 16) ∷ t) (hex_push bs b)

pub length_hex : (bs : List ℕ) → length (hex_of bs) ≡ 2 * length bs
length_hex [] = refl
length_hex (x ∷ bs) = omega (arith, length_hex bs)

-- The characters of a text in pairs: where each stands in the text.
pub pair_at : (text : List ℕ) (k i j : ℕ) → i < k → j < 2 → get_or (get_or (first_chunks 2 k text) i []) j 0 ≡ get_or text (2 * i + j) 0
pair_at text zero i j h small = absurd (omega arith)
pair_at text (suc k) zero j h small = search (rules, get_or-take 2 text j 0 small)
pair_at text (suc k) (suc i) j h small =
    let e : 2 * suc i + j ≡ 2 + (2 * i + j) = omega arith in
    rw e (pair_at (drop 2 text) k i j (omega arith) small ∙ get_or-drop 2 text (2 * i + j) 0)

-- The pairs of bytes' digits.
pub hex_pair : (bs : List ℕ) (i : ℕ) → i < length bs
    → get_or (first_chunks 2 (length bs) (hex_of bs)) i [] ≡ hex_digit (get_or bs i 0 / 16) ∷ hex_digit (get_or bs i 0 % 16) ∷ []
hex_pair [] i h = absurd (omega arith)
hex_pair (x ∷ bs) zero h = refl
hex_pair (x ∷ bs) (suc i) h = hex_pair bs i (omega arith)

-- One byte more: its digits stand behind those of the bytes before it.
pub hex_more : (text bs : List ℕ) (pairs : List (List ℕ)) (i high low : ℕ) → pairs ≡ first_chunks 2 (length text / 2) text
    → hex_of bs ≡ take (2 * i) text → i < length text / 2 → high < 16 → low < 16
    → hex_digit high ≡ get_or (get_or pairs i []) 0 0 → hex_digit low ≡ get_or (get_or pairs i []) 1 0
    → hex_of (bs ++ (16 * high + low) ∷ []) ≡ take (2 * (i + 1)) text
hex_more text bs pairs i high low cut before lt small tiny h l =
    let n = 16 * high + low in
    let a : n / 16 ≡ high = omega arith in
    let b : n % 16 ≡ low = omega arith in
    let e : 2 * (i + 1) ≡ 2 * i + 1 + 1 = omega arith in
    let z : 2 * i + 0 ≡ 2 * i = omega arith in
    let at_high = pair_at text (length text / 2) i 0 lt (omega arith) in
    let at_low = pair_at text (length text / 2) i 1 lt (omega arith) in
    let first = take_more text (2 * i) 0 (omega arith) in
    let second = take_more text (2 * i + 1) 0 (omega arith) in
    let pushed = hex_push bs n in
    let regrouped = append_assoc (take (2 * i) text) (get_or text (2 * i) 0 ∷ []) (get_or text (2 * i + 1) 0 ∷ []) in
    cc

-- A text of an odd length is no bytes' text.
pub odd : (text : List ℕ) → (length text % 2 ≡ 0 → ⊥) → NoneHas hex_of text
odd text h bs _ e = h (omega (arith, length_hex bs, ap length e))

-- Nor is one with another character than a digit in a pair.
both_digits : (b j : ℕ) → b < 256 → j < 2 → ((d : ℕ) → d < 16 → hex_digit d ≡ get_or (hex_digit (b / 16) ∷ hex_digit (b % 16) ∷ []) j 0 → ⊥) → ⊥
both_digits b zero byte small other = other (b / 16) (omega arith) refl
both_digits b (suc zero) byte small other = other (b % 16) (omega arith) refl
both_digits b (suc (suc j)) byte small other = absurd (omega arith)

pub no_digit : (text : List ℕ) (pairs : List (List ℕ)) (i j : ℕ) → pairs ≡ first_chunks 2 (length text / 2) text → i < length text / 2 → j < 2
    → ((d : ℕ) → d < 16 → hex_digit d ≡ get_or (get_or pairs i []) j 0 → ⊥) → NoneHas hex_of text
no_digit text pairs i j cut lt small other bs all e =
    let long : length text / 2 ≡ length bs = omega (arith, length_hex bs, ap length e) in
    let inside : i < length bs = omega arith in
    let byte : get_or bs i 0 < 256 = All-get_or (λ b. b < 256) bs i 0 inside all in
    let pair : get_or pairs i [] ≡ hex_digit (get_or bs i 0 / 16) ∷ hex_digit (get_or bs i 0 % 16) ∷ []
    = rw (cut, long, ← e) (hex_pair bs i inside) in
    both_digits (get_or bs i 0) j byte small (rw pair at other)
