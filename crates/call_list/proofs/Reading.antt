-- Lines that are read one after another.
use Rattle.std.proofs.Common.{◌≡◌, ℕ, ◌+◌, ◌<◌, Bool, true, false, cond, List, [], ◌∷◌, ◌++◌, length, map, get_or, take, drop, ◌==◌, ap, ◌∙◌, sym, min, refl, arith, Vec, Option, Some, None, IfOk}
use Rattle.std.proofs.lemmas.List.{drop-map, drop_min, get_or-map, get_or-take, length-map}
use Rattle.std.specs.Borrow.{Bor}
use Rattle.std.specs.List.{filter, enumerate_from, slice_split}
use Rattle.std.specs.declared.result.Result.{Result}
use Rattle.std.specs.declared.result.Result.TheVariants.{Ok, Err}
use Rattle.calls.specs.declared.call.Arrival.{Arrival}
use Rattle.calls.specs.declared.call.Call as call
use Rattle.calls.specs.declared.call.Call.TheVariants.{Handle, Ignore}
use Rattle.call_list.specs.Lines.{Arrives, Attempts, BroughtBy, BytesOf, ReadAs, ReadInTurn, texts, word_at}
use Rattle.call_list.specs.declared.list.Numbered.{Numbered}

-- One line more.
pub read_more : {Z : Type 0} (endpoint : ℕ) (lines : List (List ℕ)) (reads : List (Option (call.Call (Arrival (Vec ℕ Z))))) (read : Option (call.Call (Arrival (Vec ℕ Z))))
    → ReadInTurn endpoint lines reads → length reads < length lines → ReadAs endpoint (get_or lines (length reads) []) read
    → ReadInTurn endpoint lines (reads ++ read ∷ [])
read_more endpoint [] reads read before more this = absurd (omega arith)
read_more endpoint (line ∷ lines) [] read before more this = (this, tt)
read_more endpoint (line ∷ lines) (x ∷ reads) read before more this = (before.0, read_more endpoint lines reads read before.1 (omega arith) this)

-- The same of a line that is cut into these words.
pub read_line : {Z : Type 0} (endpoint : ℕ) (lines : List Numbered) (reads : List (Option (call.Call (Arrival (Vec ℕ Z))))) (read : Option (call.Call (Arrival (Vec ℕ Z))))
    (words : List (Bor (List ℕ))) (i : ℕ) (d : Numbered) → ReadInTurn endpoint (map (λ (l : Numbered). l.text.now) lines) reads → length reads ≡ i → i < length lines
    → texts words ≡ slice_split (λ b. b == 32) (get_or lines i d).text.now → Arrives (BytesOf (drop 1 words)) read → Attempts (BroughtBy (word_at words 1) endpoint) read
    → ReadInTurn endpoint (map (λ (l : Numbered). l.text.now) lines) (reads ++ read ∷ [])
read_line endpoint lines reads read words i d before many more cut bytes attempt =
    let text : Numbered → List ℕ = λ l. l.text.now in
    let this : ReadAs endpoint (get_or (map text lines) i []) read = rw (get_or-map text lines i d [] more) (words, (cut, (bytes, attempt))) in
    read_more endpoint (map text lines) reads read before (omega (arith, length-map lines text)) (rw many this)

-- Lines that are kept by what they say, whatever their numbers.
pub filter_numbered : (test : List ℕ → Bool) (n : ℕ) (xs : List (List ℕ)) → map (λ p. p.1) (filter (λ p. test p.1) (enumerate_from n xs)) ≡ filter test xs
filter_numbered test n [] = refl
filter_numbered test n (x ∷ xs) =
    let rest : List (ℕ × List ℕ) = filter (λ p. test p.1) (enumerate_from (n + 1) xs) in
    elim (test x) as (λ b. map (λ p. p.1) (cond b ((n, x) ∷ rest) rest) ≡ cond b (x ∷ filter test xs) (filter test xs))
    [ true ↦ ap (λ t. x ∷ t) (filter_numbered test (n + 1) xs) | false ↦ filter_numbered test (n + 1) xs ]

-- What holds under a condition holds under it of the value.
pub ok_later : {T E : Type 0} (r : Result T E) (W : Type 0) (P : T → Type 0) → (W → IfOk r P) → IfOk r (λ v. W → P v)
ok_later (Ok v) W P f = f
ok_later (Err e) W P f = tt

-- The bytes that the first words of a line say are those that all of them say, where the words that say them are among the first.
pub front_bytes : {Z E : Type 0} (r : Result (Option (call.Call (Arrival (Vec ℕ Z)))) E) (words : List (Bor (List ℕ))) (n : ℕ) → 12 < n
    → IfOk r (Arrives (BytesOf (take n words))) → IfOk r (Arrives (BytesOf words))
front_bytes (Ok (Some (Handle a))) words n long says =
    let same : (i : ℕ) → i < n → word_at (take n words) i ≡ word_at words i = λ i lt. ap (λ (w : Bor (List ℕ)). w.now) (get_or-take n words i _ lt) in
    rw (same 4 (omega arith), same 11 (omega arith), same 12 (omega arith)) at says
front_bytes (Ok (Some (Ignore b))) words n long says = tt
front_bytes (Ok None) words n long says = tt
front_bytes (Err e) words n long says = tt

-- The lines behind the first few.
pub read_rest : (lines rest : List Numbered) (all : List (List ℕ)) (n k : ℕ) → rest ≡ drop k lines → k ≡ min n (length lines)
    → map (λ (l : Numbered). l.text.now) lines ≡ all → map (λ (l : Numbered). l.text.now) rest ≡ drop n all
read_rest lines rest all n k back few read =
    let text : Numbered → List ℕ = λ l. l.text.now in
    ap (map text) (back ∙ ap (λ m. drop m lines) few ∙ drop_min n lines) ∙ (sym (drop-map text n lines) ∙ ap (drop n) read)
