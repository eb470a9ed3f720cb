-- An endpoint where nothing waits and no connection lives.
use Rattle.std.proofs.Common.{◌≡◌, ℕ, ◌<◌, ◌≤◌, Bool, true, ◌&&◌, ltb, leb, List, length, get_or, None, Option, ap, inl, inr}
use mathlib.Core.Path.{fun_ext}
use Rattle.std.proofs.lemmas.List.{get_or_past}
use Rattle.std.proofs.lemmas.Bool.{and_parts, leb-true, ltb-true, cases_Bool, ltb-false}
use Rattle.table.specs.declared.slot.Slot.{Slot}
use Rattle.table.specs.Slots.{lookup, answer, Cleared}
use Rattle.table.proofs.Lookups.{lookup_absent}
use Rattle.index.specs.declared.connection.ConnectionMeta.{ConnectionMeta}
use Rattle.index.specs.Conns.{conn_of, conns_of}
use Rattle.endpoint.specs.SetUps.{Sizes, places_fit, numbers_fit, tables_fit, limits_fit, set_up_fits}

-- what a set-up that is taken has
pub record Fits (max_incoming w : ℕ) (m : Sizes) : Type 0 where
  pub few : max_incoming ≤ 64
  pub some : 1 ≤ w
  pub most : w ≤ 128
  pub places : w ≤ m.places
  pub blocks : w ≤ m.blocks
  pub connections : 128 ≤ m.connections
  pub handles : 128 ≤ m.handles
  pub slots : 64 ≤ m.slots
  pub initial : 192 < m.initial

pub fits_so : (max_incoming w : ℕ) (m : Sizes) → set_up_fits max_incoming w m ≡ true → Fits max_incoming w m
fits_so x w m e =
    let a = and_parts (limits_fit x w) (places_fit w m && (numbers_fit m && tables_fit m)) e in
    let l = and_parts (leb x 64) (leb 1 w && leb w 128) a.0 in
    let l' = and_parts (leb 1 w) (leb w 128) l.1 in
    let b = and_parts (places_fit w m) (numbers_fit m && tables_fit m) a.1 in
    let p = and_parts (leb w m.places) (leb w m.blocks) b.0 in
    let n = and_parts (numbers_fit m) (tables_fit m) b.1 in
    let n' = and_parts (leb 128 m.connections) (leb 128 m.handles && leb 64 m.slots) n.0 in
    let n'' = and_parts (leb 128 m.handles) (leb 64 m.slots) n'.1 in
    let t = and_parts (ltb 192 m.initial) (ltb 1024 m.ids && (ltb 128 m.remotes && ltb 128 m.tokens)) n.1 in
    record {
      few = leb-true x 64 l.0;
      some = leb-true 1 w l'.0;
      most = leb-true w 128 l'.1;
      places = leb-true w m.places p.0;
      blocks = leb-true w m.blocks p.1;
      connections = leb-true 128 m.connections n'.0;
      handles = leb-true 128 m.handles n''.0;
      slots = leb-true 64 m.slots n''.1;
      initial = ltb-true 192 m.initial t.0;
    }

-- places without a connection hold none
pub no_conns : (ms : List (Option ConnectionMeta)) → ((k : ℕ) → k < length ms → get_or ms k None ≡ None) → conns_of ms ≡ (λ h. None)
no_conns ms dead = fun_ext (λ h. ap conn_of (at h))
  where
    at : (h : ℕ) → get_or ms h None ≡ None
    at h = elim (cases_Bool (ltb h (length ms))) [
      | inl t ↦ dead h (ltb-true h (length ms) t)
      | inr f ↦ get_or_past ms h None (ltb-false h (length ms) f)
    ]

-- a cleared table has no entries
pub no_entries : {K V : Type 0} (same : K → K → Bool) (s : List (Slot K V)) → Cleared s → lookup same s ≡ (λ k. None)
no_entries same s clear = fun_ext (λ k. lookup_absent same s k (λ j h. ap (answer same k) (clear j h)))

-- a map without entries
abbrev pub none : {K V : Type 0} → K → Option V
none k = None
