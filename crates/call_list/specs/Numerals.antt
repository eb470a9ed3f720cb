-- Numerals that are read as numbers of a type.
use Rattle.std.specs.Prelude.{ℕ, List}
use Rattle.std.specs.declared.result.Result.{Result}
use Rattle.std.specs.declared.result.Result.TheVariants.{Ok, Err}
use Rattle.words.specs.Words.{Decimal, read_on}

-- the number that a numeral writes, as its type takes it; refused where the word is no numeral, or the type refuses the number
abbrev pub Numeral : {T E D : Type 0} → (ℕ → Result T E → Type 0) → List ℕ → Result T D → Type 0
Numeral takes word (Ok x) = Decimal word × takes (read_on 0 word) (Ok x)
Numeral {E = E} takes word (Err d) = Decimal word → (e : E) × takes (read_on 0 word) (Err e)
