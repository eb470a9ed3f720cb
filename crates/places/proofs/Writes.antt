-- A loop that writes what passes a test, one after another.
use Rattle.std.proofs.Common.{◌≡◌, ℕ, ◌+◌, ◌*◌, ◌<◌, ◌≤◌, Bool, true, false, List, [], ◌∷◌, ◌++◌, length, get_or, take, drop, set, filter, refl, ap, ◌∙◌, arith}
use Rattle.std.proofs.lemmas.List.{length-append, length_push, drop-drop, drop_at, take_at, set_at, drop_more}
use Rattle.std.proofs.lemmas.List.Elements.{filter_more}
use Rattle.records.specs.declared.packet.Kept.{Kept}
use Rattle.std.proofs.lemmas.Grind.{common_steps}
use Rattle.places.specs.Entries.{Entry, kept_of, over, all_bytes, all_kept}

-- more, laid behind what is laid over d
over_more : {A : Type 0} (xs ys d : List A) → take (length xs) (over xs d) ++ (ys ++ drop (length xs + length ys) (over xs d)) ≡ over (xs ++ ys) d
over_more xs ys d =
    let rest = drop (length xs) d in
    let t = take_at xs rest (length xs) refl in
    let u = drop_at xs rest (length xs) refl in
    let v = drop-drop (length ys) (length xs) (xs ++ rest) in
    let w = drop-drop (length ys) (length xs) d in
    grind (arith, common_steps, t, u, v, w)

-- one more
over_one : {A : Type 0} (xs d : List A) (y : A) → length xs < length d → set (over xs d) (length xs) y ≡ over (xs ++ y ∷ []) d
over_one xs d y lt =
    let a = drop_more d (length xs) y lt in
    let b = set_at xs (get_or d (length xs) y) (drop (length xs + 1) d) y (length xs) refl in
    grind (arith, common_steps, a, b)

-- the first i entries are done, of which those of ms are written over rs₀ and bs₀
pub record Writing (ms : List Entry) (i : ℕ) (rs₀ rs : List Kept) (bs₀ bs : List ℕ) (count at : ℕ) : Type 0 where
  pub counted : count ≡ length ms
  pub long : at ≡ length (all_bytes ms)
  pub records : rs ≡ over (all_kept ms) rs₀
  pub bytes : bs ≡ over (all_bytes ms) bs₀
  pub few : count ≤ i
  pub small : at ≤ i * 1500

pub kept_no : {X : Type 0} (q : X → Bool) (es : List X) (i : ℕ) (x d : X) → i < length es → get_or es i d ≡ x → q x ≡ false → filter q (take (i + 1) es) ≡ filter q (take i es)
kept_no q es i x d lt gx h = grind (arith, common_steps, filter_more q es i d lt)

pub kept_yes : {X : Type 0} (q : X → Bool) (es : List X) (i : ℕ) (x d : X) → i < length es → get_or es i d ≡ x → q x ≡ true → filter q (take (i + 1) es) ≡ filter q (take i es) ++ x ∷ []
kept_yes q es i x d lt gx h = grind (arith, common_steps, filter_more q es i d lt)

-- one is passed over
pub writing_no : {ms : List Entry} {i : ℕ} {rs₀ rs : List Kept} {bs₀ bs : List ℕ} {count at : ℕ} → Writing ms i rs₀ rs bs₀ bs count at → Writing ms (i + 1) rs₀ rs bs₀ bs count at
writing_no w = record { counted = w.counted; long = w.long; records = w.records; bytes = w.bytes; few = omega (arith, w.few); small = omega (arith, w.small) }

-- x is written
pub writing_yes : {ms : List Entry} {i : ℕ} {rs₀ rs rs' : List Kept} {bs₀ bs bs' : List ℕ} {count at count' at' : ℕ} (x : Entry) → Writing ms i rs₀ rs bs₀ bs count at → length x.bytes ≤ 1500 → i < length rs₀ → rs' ≡ set rs count (kept_of x) → count' ≡ count + 1 → bs' ≡ take at bs ++ (x.bytes ++ drop (at + length x.bytes) bs) → at' ≡ at + length x.bytes → Writing (ms ++ x ∷ []) (i + 1) rs₀ rs' bs₀ bs' count' at'
writing_yes {ms} {i} {rs₀} {rs} {rs'} {bs₀} {bs} {bs'} {count} {at} x w le more er ec eb ea =
    let rd = all_kept ms in
    let bd = all_bytes ms in
    let j : all_bytes (ms ++ x ∷ []) ≡ bd ++ x.bytes = grind (arith, common_steps) in
    let k : all_kept (ms ++ x ∷ []) ≡ rd ++ kept_of x ∷ [] = grind (arith, common_steps) in
    let c : count ≡ length rd = grind (arith, common_steps, w.counted) in
    record {
      counted = omega (arith, ec, w.counted, length_push ms x);
      long = omega (arith, ea, w.long, ap length j, length-append bd x.bytes);
      records = er ∙ rw (w.records, c, k) (over_one rd rs₀ (kept_of x) (omega (arith, w.few)));
      bytes = eb ∙ rw (w.bytes, w.long, j) (over_more bd x.bytes bs₀);
      few = omega (arith, w.few);
      small = omega (arith, w.small);
    }
