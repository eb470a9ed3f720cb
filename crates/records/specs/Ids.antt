-- What an identifier is.
use Rattle.std.specs.Prelude.{◌≡◌, ℕ, zero, suc, Bool, ◌&&◌, List, take, replicate, ◌==◌, slice_index, refl}
use Rattle.std.proofs.Common.{lit≤}
use Rattle.std.specs.Str.{bytes_eq}
use Rattle.records.specs.declared.shared.ConnectionId.{ConnectionId}

-- the bytes of an identifier
abbrev pub id_bytes : ConnectionId → List ℕ
id_bytes x = take x.len x.bytes

-- whether it has no bytes
abbrev pub empty : ConnectionId → Bool
empty x = x.len == 0

-- whether two identifiers are the same
abbrev pub same_id : ConnectionId → ConnectionId → Bool
same_id a b = a.len == b.len && bytes_eq a.bytes b.bytes

pub zeros_at : (n k : ℕ) → ◌≡◌ {A = ℕ} (slice_index (replicate n 0) k) 0
zeros_at zero k = refl
zeros_at (suc n) zero = refl
zeros_at (suc n) (suc k) = zeros_at n k

-- the identifier without bytes
abbrev pub no_id : ConnectionId
no_id = record { len = 0; bytes = replicate 20 0; short = lit≤ tt; wide = refl; zeros = λ k h. zeros_at 20 k }
