-- The free numbers.
use Rattle.std.specs.Prelude.{ℕ, zero, suc, ◌+◌, List, [], ◌∷◌}
use Rattle.places.specs.declared.stack.Stack.{Stack}
use Rattle.places.specs.Stacks.{top_down}
pub use Rattle.places.specs.Stacks.{top_of}

-- The numbers that are free, the top first.
abbrev pub free_list : Stack ℕ → List ℕ
free_list s = top_down s

-- The n numbers from i on.
abbrev pub counting : ℕ → ℕ → List ℕ
counting i zero = []
counting i (suc n) = i ∷ counting (i + 1) n
