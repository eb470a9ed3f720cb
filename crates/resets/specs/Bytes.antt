-- The bytes of a stateless reset.
use Rattle.std.specs.Prelude.{ℕ, ◌+◌, ◌-◌, ◌%◌, cond, List, ◌++◌, length, drop, nat_le}
use Rattle.records.specs.declared.shared.ConnectionId.{ConnectionId}
use Rattle.supply.specs.Meaning.{Supplied, token_of}
use Rattle.model.specs.Endpoint.{row}
use Rattle.model.specs.Calls.{number_of, marked}

-- xs over the front of ys
abbrev pub over : {A : Type 0} → List A → List A → List A
over xs ys = xs ++ drop (length xs) ys

-- how many bytes are drawn for the length of the padding of a reset for n bytes
abbrev pub picked : ℕ → ℕ
picked n = cond (nat_le (n - 17) 26) 0 8

-- how long that padding is
abbrev pub padding : (ℕ → ℕ) → ℕ → ℕ
padding source n = cond (nat_le (n - 17) 26) (n - 17) (25 + number_of (row source 0 8) % (n - 42))

-- the reset for an identifier that came with n bytes
abbrev pub reset_bytes : Supplied → ConnectionId → ℕ → List ℕ
reset_bytes u x n = marked (row u.source (picked n) (padding u.source n)) ++ token_of u.signer x
