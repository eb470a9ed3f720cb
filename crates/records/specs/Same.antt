-- The test for the equality of identifiers is exact.
use Rattle.std.specs.Prelude.{◌≡◌, ℕ, ◌≤◌, true, length, Decides, ◌==◌, slice_index}
use Rattle.std.proofs.Common.{ap}
use Rattle.std.specs.Str.{bytes_eq}
use Rattle.std.proofs.lemmas.Bool.{eqb-true, eq-eqb, and_parts, and_from}
use Rattle.std.proofs.lemmas.Slice.Eq.{bytes_eq-Decides}
use mathlib.Core.HLevel.{is_prop→PathP, Π_prop, →_prop}
use Rattle.std.proofs.Math.Nat.{ℕ_set}
use Rattle.std.proofs.Math.Bridge.{le_prop}
use Rattle.records.specs.declared.shared.ConnectionId.{ConnectionId}
use Rattle.records.specs.Ids.{same_id}

-- an identifier is its length and its bytes
pub id_path : (a b : ConnectionId) → a.len ≡ b.len → a.bytes ≡ b.bytes → a ≡ b
id_path a b p q = λ i. record {
  len = p i;
  bytes = q i;
  short = is_prop→PathP (λ j. p j ≤ 20) (λ j. le_prop) a.short b.short i;
  wide = is_prop→PathP (λ j. length (q j) ≡ 20) (λ j. ℕ_set (length (q j)) 20) a.wide b.wide i;
  zeros = is_prop→PathP (λ j. (k : ℕ) → p j ≤ k → slice_index (q j) k ≡ 0) (λ j. Π_prop (λ k. →_prop (ℕ_set (slice_index (q j) k) 0))) a.zeros b.zeros i;
}

pub same_id_decides : (a b : ConnectionId) → Decides (same_id a b) (a ≡ b)
same_id_decides a b = (there, back)
  where
    there : same_id a b ≡ true → a ≡ b
    there t =
        let p = and_parts (a.len == b.len) (bytes_eq a.bytes b.bytes) t in
        id_path a b (eqb-true a.len b.len p.0) ((bytes_eq-Decides a.bytes b.bytes).0 p.1)

    back : a ≡ b → same_id a b ≡ true
    back e = and_from _ _ (eq-eqb a.len b.len (ap (λ x. x.len) e)) ((bytes_eq-Decides a.bytes b.bytes).1 (ap (λ x. x.bytes) e))
