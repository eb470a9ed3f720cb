-- Bytes that are printed one by one.
use Rattle.std.proofs.Common.{◌≡◌, ℕ, ◌+◌, ◌-◌, ◌^◌, ◌/◌, ◌%◌, ◌<◌, false, List, [], ◌∷◌, ◌++◌, length, get_or, take}
use Rattle.std.specs.Fmt.{padded_integral, format_spec, digits}
use Rattle.std.proofs.lemmas.Fmt.{hex_byte}
use Rattle.std.proofs.lemmas.List.{take_more}
use Rattle.words.specs.Words.{hex_digit, hex_of}
use Rattle.words.proofs.Hex.{hex_push}

-- what is printed of a byte
abbrev pub printed : ℕ → List ℕ
printed n = padded_integral (format_spec 32 0 4 2 (2 ^ 64 - 1)) false [] (digits 16 false n)

pub hex_more : (bs : List ℕ) (i : ℕ) → i < length bs → get_or bs i 0 < 256
    → hex_of (take i bs) ++ printed (get_or bs i 0) ≡ hex_of (take (i + 1) bs)
hex_more bs i lt small =
    let n = get_or bs i 0 in
    let byte : printed n ≡ hex_digit (n / 16) ∷ hex_digit (n % 16) ∷ [] = hex_byte false n small in
    let more = take_more bs i 0 lt in
    let pushed = hex_push (take i bs) n in
    cc
