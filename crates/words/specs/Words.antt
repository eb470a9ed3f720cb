-- What the words of a call list stand for.
use Rattle.std.specs.Prelude.{◌≡◌, ℕ, ◌+◌, ◌-◌, ◌*◌, ◌/◌, ◌%◌, ◌^◌, ◌<◌, Bool, true, cond, ◌&&◌, ◌||◌, List, [], ◌∷◌, ◌++◌, length, replicate, codes, ◌≢◌, nat_le, nat_lt}
use Rattle.std.specs.List.{AllByRecursion}
use Rattle.std.specs.Str.{all_ascii_digits}

-- the hexadecimal digit of a number below 16: 0 to 9, a to f
abbrev pub hex_digit : ℕ → ℕ
hex_digit d = cond (nat_lt d 10) (48 + d) (87 + d)

-- bytes as digits, two to a byte
abbrev pub hex_of : List ℕ → List ℕ
hex_of [] = []
hex_of (b ∷ bs) = hex_digit (b / 16) ∷ hex_digit (b % 16) ∷ hex_of bs

-- bytes as a word: no bytes are '-'
abbrev pub bytes_word : List ℕ → List ℕ
bytes_word [] = 45 ∷ []
bytes_word (b ∷ bs) = hex_of (b ∷ bs)

-- no bytes have this text
abbrev pub NoneHas : (List ℕ → List ℕ) → List ℕ → Type 0
NoneHas text word = (bs : List ℕ) → AllByRecursion (λ b. b < 256) bs → text bs ≢ word

-- the text of more than 20 bytes, which no identifier has
abbrev pub Long : List ℕ → Type 0
Long word = (bs : List ℕ) × (20 < length bs) × (bytes_word bs ≡ word)

-- the number that digits write, after the number so far
abbrev pub read_on : ℕ → List ℕ → ℕ
read_on n [] = n
read_on n (c ∷ cs) = read_on (10 * n + (c - 48)) cs

-- a number of at most 64 bits: one digit or more, leading zeros allowed
abbrev pub Decimal : List ℕ → Type 0
Decimal word = (all_ascii_digits word ≡ true) × (0 < length word) × (read_on 0 word < 2 ^ 64)

-- a datagram of n bytes: the byte fill as often as it takes, then the tail
abbrev pub filled : ℕ → ℕ → List ℕ → List ℕ
filled n fill tail = replicate (n - length tail) fill ++ tail

-- the causes of a dropped datagram, and those that spend an attempt
abbrev pub drops : ℕ → Bool
drops n = (nat_le 8 n && nat_le n 16) || (nat_le 20 n && nat_le n 22)

abbrev pub fails : ℕ → Bool
fails n = (nat_le 17 n && nat_le n 19) || (nat_le 23 n && nat_le n 25)

-- what is said of a cause
abbrev pub cause_word : ℕ → List ℕ
cause_word n = cond (drops n) (codes "dropped") (cond (fails n) (codes "failed") (codes "refused"))
