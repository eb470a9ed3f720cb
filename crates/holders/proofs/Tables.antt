-- Maps of identifiers, entry by entry.
use Rattle.std.proofs.Common.{◌≡◌, ℕ, ◌+◌, ◌<◌, Bool, false, List, [], ◌∷◌, ◌++◌, cond, map, length, get_or, take, Option, sym, refl, ap, ◌∙◌, arith}
use mathlib.Core.Path.{fun_ext}
use Rattle.std.specs.Map.{update}
use Rattle.std.proofs.lemmas.Bool.{cond-false}
use Rattle.std.proofs.lemmas.List.{take_more, map-append}
use Rattle.records.specs.declared.shared.ConnectionId.{ConnectionId}
use Rattle.records.specs.Ids.{same_id, empty}
use Rattle.model.specs.Endpoint.{put, put_all}

-- an entry under an identifier that is not empty
pub put_some : {V : Type 0} (f : ConnectionId → Option V) (x : ConnectionId) (v : Option V) → empty x ≡ false → update same_id f x v ≡ put f x v
put_some f x v e = fun_ext (λ q. sym (cond-false (empty x) (f q) (update same_id f x v q) e))

swap : {A : Type 0} (a b s t : Bool) (v o : A) → cond b (cond a o (cond s v o)) (cond t v (cond a o (cond s v o))) ≡ cond a (cond b o (cond t v o)) (cond s v (cond b o (cond t v o)))
swap a b s t v o = grind arith

module _ {V : Type 0} (f : ConnectionId → Option V) (v : Option V) where
  -- two identifiers that get the same value get it in either order
  either_order : (g : ConnectionId → Option V) (x y : ConnectionId) → put (put g x v) y v ≡ put (put g y v) x v
  either_order g x y = fun_ext (λ q. swap (empty x) (empty y) (same_id x q) (same_id y q) v (g q))

  -- one more at the end
  put_all_end : (xs : List ConnectionId) (x : ConnectionId) → put (put_all f xs v) x v ≡ put_all f (xs ++ x ∷ []) v
  put_all_end [] x = refl
  put_all_end (y ∷ xs) x = either_order (put_all f xs v) y x ∙ ap (λ g. put g y v) (put_all_end xs x)

  -- the identifiers that others name, one more from the first to the last
  pub put_all_more : {A : Type 0} (named : A → ConnectionId) (all : List A) (i : ℕ) (a : A) (x : ConnectionId) → i < length all → a ≡ get_or all i a → x ≡ named a →
      put (put_all f (map named (take i all)) v) x v ≡ put_all f (map named (take (i + 1) all)) v
  put_all_more named all i a x l is names =
      put_all_end (map named (take i all)) x
      ∙ ap (λ y. put_all f (map named (take i all) ++ y ∷ []) v) (names ∙ ap named is)
      ∙ ap (λ xs. put_all f xs v) (sym (map-append named (take i all) (get_or all i a ∷ [])) ∙ ap (map named) (sym (take_more all i a l)))
