-- What a datagram for an attempt, old or new, makes of the state.
use Rattle.std.proofs.Common.{◌≡◌, ℕ, ◌+◌, ◌<◌, ◌≤◌, Bool, true, false, cond, List, [], ◌∷◌, ◌++◌, length, Some, None, sum_by, Option, Result, sym, refl, ap, ◌∙◌, subst, inl, inr, arith}
use mathlib.Core.Path.{fun_ext}
use Rattle.std.specs.Option.{option_map, IsSome}
use Rattle.std.proofs.lemmas.List.Sums.{sum_by-cons}
use Rattle.std.proofs.lemmas.Bool.{cond-true, cond-false, cases_Bool, and_from}
use Rattle.table.specs.declared.slot.Slot.{Slot}
use Rattle.table.specs.Slots.{lookup}
use Rattle.records.specs.declared.shared.ConnectionId.{ConnectionId}
use Rattle.records.specs.declared.cause.Cause.{Cause}
use Rattle.records.specs.declared.packet.Close.{Close}
use Rattle.records.specs.Ids.{same_id, empty}
use Rattle.records.specs.Received.{Datagram}
use Rattle.supply.specs.Meaning.{Supplied}
use Rattle.places.specs.Entries.{Entry}
use Rattle.places.specs.Free.{top_of}
use Rattle.places.specs.Held.{entries}
use Rattle.model.specs.Endpoint.{State, Waiting, Target, to_attempt, Outcome, put, with_waiting}
use Rattle.waiting.specs.Groups.{groups, add, comes, proper}
use Rattle.waiting.proofs.Grouping.{adds, adds_proper}
use Rattle.waiting.proofs.Leading.{entered_few}
use Rattle.index.specs.declared.connection.ConnectionMeta.{ConnectionMeta}
use Rattle.index.specs.declared.target.RouteDatagramTo.{RouteDatagramTo}
use Rattle.index.specs.declared.target.RouteDatagramTo.TheVariants.{Incoming}
use Rattle.index.specs.declared.target.InitialEvent.TheVariants.{Arrival}
use Rattle.index.specs.Changes.{Changed, present}
use Rattle.index.specs.Conns.{entered_by}
use Rattle.index.specs.Entries.{entry_after}
use Rattle.index.specs.Routes.{target_of}
use Rattle.endpoint.specs.declared.endpoint.Ready.{Ready}
use Rattle.endpoint.specs.declared.handled.Handled.{Handled}
use Rattle.endpoint.specs.State.{View}
use Rattle.endpoint.specs.Answers.{Answered}

-- ## The Initial entries

-- the entries of a table
abbrev pub initial_in : List (Slot ConnectionId RouteDatagramTo) → ConnectionId → Option Target
initial_in t x = option_map target_of (lookup same_id t x)

-- the entries after an event
pub initial_changed : (s t : List (Slot ConnectionId RouteDatagramTo)) (m n : ℕ) (x : ConnectionId) (o : Option RouteDatagramTo) → Changed s t m n x o → initial_in t ≡ put (initial_in s) x (option_map target_of o)
initial_changed s t m n x o h =
    let l = lookup same_id s in
    fun_ext (λ q. ap (option_map target_of) (h.maps q) ∙ push (empty x) (same_id x q) (l q))
  where
    push : (a b : Bool) (m : Option RouteDatagramTo) → option_map target_of (cond a m (cond b o m)) ≡ cond a (option_map target_of m) (cond b (option_map target_of o) (option_map target_of m))
    push true b m = refl
    push false true m = refl
    push false false m = refl

-- where there is no target, there is no entry
mapped_none : {A B : Type 0} (f : A → B) (o : Option A) → option_map f o ≡ None → o ≡ None
mapped_none f None h = refl
mapped_none f (Some a) h = let z : ◌≡◌ {A = ℕ} 0 1 = cc in absurd (omega arith)

-- the table t is s with the entry of a new attempt under x, unless x is empty
pub record Entered (s t : List (Slot ConnectionId RouteDatagramTo)) (m n : ℕ) (x : ConnectionId) (slot : ℕ) : Type 0 where
  pub maps : initial_in t ≡ put (initial_in s) x (Some (to_attempt slot))
  pub count : n ≡ m + cond (empty x) 0 1

-- an arrival enters its attempt where there is no entry
pub enters : (s t : List (Slot ConnectionId RouteDatagramTo)) (m n : ℕ) (x : ConnectionId) (slot : ℕ) → Changed s t m n x (entry_after (lookup same_id s x) (Arrival slot)) → initial_in s x ≡ None → Entered s t m n x slot
enters s t m n x slot h gone =
    let l = lookup same_id s x in
    let z : l ≡ None = mapped_none target_of l gone in
    let o : entry_after l (Arrival slot) ≡ Some (Incoming slot) = ap (λ e. entry_after e (Arrival slot)) z in
    record {
      maps = initial_changed s t m n x (entry_after l (Arrival slot)) h ∙ ap (λ e. put (initial_in s) x (option_map target_of e)) o;
      count = elim (cases_Bool (empty x)) [
        | inl y ↦ omega (arith, h.kept y, cond-true {A = ℕ} (empty x) 0 1 y)
        | inr f ↦ omega (arith, h.count f, ap present z, ap present o, cond-false {A = ℕ} (empty x) 0 1 f)
      ];
    }

-- ## Room for an entry

-- each connection has one entry at most
pub entered_by_few : (ms : List (Option ConnectionMeta)) → sum_by entered_by ms ≤ length ms
entered_by_few [] = omega arith
entered_by_few (None ∷ ms) = omega (arith, sum_by-cons entered_by None ms, entered_by_few ms)
entered_by_few (Some m ∷ ms) = omega (arith, sum_by-cons entered_by (Some m) ms, entered_by_few ms, one (empty m.init_cid))
  where
    one : (b : Bool) → cond b 0 1 ≤ 1
    one true = omega arith
    one false = omega arith

-- the table of entries has room for one more
pub initial_room : (e : Ready) → e.index.connection_ids_initial.count < length e.index.connection_ids_initial.slots.now
initial_room e =
    omega (
      arith,
      e.few_entries,
      e.roomy,
      e.all_connections,
      e.shared,
      entered_few (groups (entries e.places)),
      entered_by_few e.connections.items.now,
    )

-- ## One more datagram

-- where something is free, something is on top
pub some_free : (l : List ℕ) → 0 < length l → (o : Option ℕ) → o ≡ top_of l → IsSome o
some_free [] h o e = absurd (omega arith)
some_free (x ∷ l) h o e = subst IsSome (sym e) refl

-- the datagrams after one more, which may come
pub record Arrives (es es' : List Entry) (x : Entry) : Type 0 where
  pub groups_are : groups es' ≡ add (groups es) x
  pub proper_is : proper es' ≡ true

-- one more datagram at the end changes the attempts by one step
pub arrives : (es es' : List Entry) (x : Entry) → es' ≡ es ++ x ∷ [] → proper es ≡ true → comes (groups es) x ≡ true → Arrives es es' x
arrives es es' x m p c = record {
  groups_are = ap groups m ∙ adds es x;
  proper_is = ap proper m ∙ adds_proper es x ∙ and_from (proper es) (comes (groups es) x) p c;
}

-- ## States and outcomes that are the same

-- a state by its parts
pub same_state : (s : State) {ws ws' : List Waiting} {l l' : List ℕ} {f f' : ConnectionId → Option Target} → ws ≡ ws' → l ≡ l' → f ≡ f' → with_waiting s ws l f ≡ with_waiting s ws' l' f'
same_state s a b c = λ i. with_waiting s (a i) (b i) (c i)

-- an answer by another name of its outcome
pub answered_as : {e f : View} {u v : Supplied} {out out' : List ℕ} {k k' : Close} {d : Datagram} {r : Result Handled Cause} {o p : Outcome} → o ≡ p → Answered e f u v out out' k k' d r p → Answered e f u v out out' k k' d r o
answered_as {e} {f} {u} {v} {out} {out'} {k} {k'} {d} {r} q a = subst (Answered e f u v out out' k k' d r) (sym q) a
