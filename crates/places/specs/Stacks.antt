-- What a stack holds.
use Rattle.std.specs.Prelude.{List, [], ◌∷◌, reverse, take, Some, None, Option}
use Rattle.places.specs.declared.stack.Stack.{Stack}

-- Its values, the top last.
abbrev pub held : {T : Type 0} → Stack T → List T
held s = take s.used s.items.now

-- Its values, the top first.
abbrev pub top_down : {T : Type 0} → Stack T → List T
top_down s = reverse (held s)

-- The one on top, if there is one.
abbrev pub top_of : {T : Type 0} → List T → Option T
top_of [] = None
top_of (x ∷ xs) = Some x
