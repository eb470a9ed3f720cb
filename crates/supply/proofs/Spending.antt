-- What was drawn adds up.
use mathlib.Core.Path.{◌≡◌}
use Prim.Native.Nat.{ℕ, ◌+◌}
use native.Mathlib.Omega.{arith}
use Rattle.supply.specs.Meaning.{Supplied, spent}

pub spent_add : (a b c d : ℕ) (s : Supplied) → spent a b (spent c d s) ≡ spent (c + a) (d + b) s
spent_add a b c d s =
    let p : (k m i : ℕ) → k + (m + i) ≡ (k + m) + i = λ k m i. omega arith in
    λ j. record {
      generator = record { len = s.generator.len; draw = λ i. s.generator.draw (p c a i j); valid = λ i. s.generator.valid (p c a i j) };
      source = λ i. s.source (p d b i j);
      signer = s.signer;
      door = s.door;
    }

pub spent_none : (s : Supplied) → spent 0 0 s ≡ s
spent_none s =
    let p : (i : ℕ) → 0 + i ≡ i = λ i. omega arith in
    λ j. record {
      generator = record { len = s.generator.len; draw = λ i. s.generator.draw (p i j); valid = λ i. s.generator.valid (p i j) };
      source = λ i. s.source (p i j);
      signer = s.signer;
      door = s.door;
    }
