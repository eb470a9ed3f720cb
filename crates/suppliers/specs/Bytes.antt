-- Recorded bytes, and what the signer by exclusive or makes of them.
use Rattle.std.specs.Prelude.{ℕ, ◌+◌, ◌%◌, List, [], ◌∷◌, map, length, bit_xor, slice_index}
use Rattle.std.specs.List.{range_with_len}

-- the bytes from a place on, and then zeros
abbrev pub recorded_from : List ℕ → ℕ → ℕ → ℕ
recorded_from bytes at i = slice_index bytes (at + i)

-- 32 bytes, each the key's byte at its place xored with the message's byte at that place modulo the message's length; an empty message gives the key
abbrev pub xor_signature : List ℕ → List ℕ → List ℕ
xor_signature key [] = key
xor_signature key (b ∷ bs) = map (λ i. bit_xor (slice_index key i) (slice_index (b ∷ bs) (i % length (b ∷ bs)))) (range_with_len 0 32)
