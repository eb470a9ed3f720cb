-- What the words of a call's line bring.
use Rattle.std.specs.Prelude.{◌≡◌, ℕ, ◌+◌, ◌%◌, ◌^◌, ◌≤◌, ◌==◌, ◌&&◌, Bool, not, List, [], ◌∷◌, codes, drop, length, map, Vec, vec_len, vec_items, Some, None, Option, slice_index, slice_index_or}
use Rattle.std.specs.Borrow.{Bor}
use Rattle.std.specs.List.{filter, slice_split}
use Rattle.std.specs.Str.Lines.{lines}
use Rattle.calls.specs.declared.call.Arrival.{Arrival}
use Rattle.calls.specs.declared.call.Brought as brought
use Rattle.calls.specs.declared.call.Brought.TheVariants.{Opened, Foreign}
use Rattle.calls.specs.declared.call.Call as call
use Rattle.calls.specs.declared.call.Call.TheVariants.{Handle, Ignore}
use Rattle.words.specs.Words.{Decimal, read_on, bytes_word, filled}

-- the attempt that a word brings to the endpoint with this number: a call's, or one of the next endpoint
abbrev pub BroughtBy : List ℕ → ℕ → brought.Brought → Type 0
BroughtBy word endpoint (Opened k) = Decimal word × (k ≡ read_on 0 word)
BroughtBy word endpoint (Foreign number slot) = (word ≡ codes "foreign") × (number ≡ (endpoint + 1) % 2 ^ 32) × (slot ≡ 0)

-- this holds of the bytes of the datagram that a line's call brings, if it brings one
abbrev pub Arrives : {B : Type 0} → (B → Type 0) → Option (call.Call (Arrival B)) → Type 0
Arrives P (Some (Handle a)) = P a.bytes
Arrives P (Some (Ignore b)) = Unit {0}
Arrives P None = Unit {0}

-- this holds of the attempt that a line's call brings, if it brings one
abbrev pub Attempts : {A : Type 0} → (brought.Brought → Type 0) → Option (call.Call A) → Type 0
Attempts P (Some (Handle a)) = Unit {0}
Attempts P (Some (Ignore b)) = P b
Attempts P None = Unit {0}

-- the bytes are at most 65,535
abbrev pub Short : {A Z : Type 0} → Option (call.Call (Arrival (Vec A Z))) → Type 0
Short line = Arrives (λ bytes. vec_len bytes ≤ 65535) line

-- the word of this number, from 0
abbrev pub word_at : List (Bor (List ℕ)) → ℕ → List ℕ
word_at words i = (slice_index_or words i (record { ref_ptr = (0, 0); now = [] })).now

-- so many bytes, of which TAIL are the last, and FILL each before them
abbrev pub BytesBy : ℕ → List ℕ → List ℕ → List ℕ → Type 0
BytesBy n fill tail bytes =
    (byte : ℕ) × ((last : List ℕ) × ((bytes_word (byte ∷ []) ≡ fill) × ((bytes_word last ≡ tail) × (bytes ≡ filled n byte last))))

-- the bytes of a datagram, by the words of its line after the first
abbrev pub BytesOf : {Z : Type 0} → List (Bor (List ℕ)) → Vec ℕ Z → Type 0
BytesOf words bytes = BytesBy (read_on 0 (word_at words 4)) (word_at words 11) (word_at words 12) (vec_items bytes)

-- the texts that words borrow
abbrev pub texts : List (Bor (List ℕ)) → List (List ℕ)
texts words = map (λ w. w.now) words

-- what a line is read as: its words, which one space each parts, say the bytes or the attempt that its call brings
abbrev pub ReadAs : {Z : Type 0} → ℕ → List ℕ → Option (call.Call (Arrival (Vec ℕ Z))) → Type 0
ReadAs endpoint line read = (words : List (Bor (List ℕ))) × ((texts words ≡ slice_split (λ b. b == 32) line)
    × (Arrives (BytesOf (drop 1 words)) read × Attempts (BroughtBy (word_at words 1) endpoint) read))

-- so many lines are read, from the first on, each as what its own words bring
abbrev pub ReadInTurn : {Z : Type 0} → ℕ → List (List ℕ) → List (Option (call.Call (Arrival (Vec ℕ Z)))) → Type 0
ReadInTurn endpoint lines [] = Unit {0}
ReadInTurn endpoint [] (read ∷ reads) = ⊥
ReadInTurn endpoint (line ∷ lines) (read ∷ reads) = ReadAs endpoint line read × ReadInTurn endpoint lines reads

-- a line says something if it is neither empty nor a comment
abbrev pub speaks : List ℕ → Bool
speaks line = not (length line == 0) && not (slice_index line 0 == 35)

-- the lines of a text that say something
abbrev pub spoken : List ℕ → List (List ℕ)
spoken text = filter speaks (lines text)

-- a line that is lent: the same call, with the same bytes
abbrev pub Lends : {Z : Type 0} → Option (call.Call (Arrival (Vec ℕ Z))) → Option (call.Call (Arrival (Bor (List ℕ)))) → Type 0
Lends None None = Unit {0}
Lends (Some (Handle a)) (Some (Handle b)) = (b.datagram ≡ a.datagram) × ((b.bytes.now ≡ vec_items a.bytes) × (b.small ≡ a.small))
Lends (Some (Ignore a)) (Some (Ignore b)) = b ≡ a
Lends read line = ⊥
