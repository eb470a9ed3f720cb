-- What is left where a waiting attempt goes.
use Rattle.std.proofs.Common.{◌≡◌, ℕ, ◌+◌, Bool, true, false, cond, eqb, List, Some, None, Option, Result, sym, refl, ap, ◌∙◌, subst, inl, inr, arith}
use Rattle.std.specs.Option.{option_map}
use Rattle.std.proofs.lemmas.Bool.{cond-true, cond-false, cases_Bool, both_ways}
use Rattle.table.specs.declared.slot.Slot.{Slot}
use Rattle.table.specs.Slots.{lookup}
use Rattle.records.specs.declared.shared.ConnectionId.{ConnectionId}
use Rattle.records.specs.declared.packet.Datagram.{Datagram}
use Rattle.records.specs.declared.incoming.Attempt.{Attempt}
use Rattle.records.specs.Ids.{same_id, empty}
use Rattle.places.specs.Held.{entries}
use Rattle.model.specs.Endpoint.{Waiting, Outcome, put}
use Rattle.model.specs.Calls.{in_slot}
use Rattle.waiting.specs.Groups.{groups}
use Rattle.waiting.specs.Leads.{lead, first_in, recorded, record_of, is_attempt}
use Rattle.waiting.proofs.Leading.{lead_first, lead_in, lead_some, in_slot_slot}
use Rattle.waiting.proofs.Entered.{named_entry}
use Rattle.index.specs.declared.target.RouteDatagramTo.{RouteDatagramTo}
use Rattle.index.specs.declared.target.RouteDatagramTo.TheVariants.{Incoming, Connection}
use Rattle.index.specs.declared.target.InitialEvent.TheVariants.{Failed}
use Rattle.index.specs.Changes.{Changed, present}
use Rattle.index.specs.Entries.{entry_after}
use Rattle.index.specs.Routes.{initial_of, target_of}
use Rattle.endpoint.specs.declared.endpoint.Ready.{Ready}
use Rattle.endpoint.specs.declared.handled.HandedBack.{HandedBack}
use Rattle.endpoint.specs.State.{View}
use Rattle.endpoint.specs.Ignoring.{first_brought, Ignored}
use Rattle.endpoint.proofs.Arriving.{initial_in, initial_changed}

-- ## The attempt that is brought

-- the waiting attempt that the host brings, if it is one of this endpoint's
abbrev pub waits : Ready → Attempt → Option Waiting
waits e a = cond (eqb a.number e.number) (in_slot (groups (entries e.places)) a.slot) None

-- what the code finds is the first datagram of the attempt that is brought
brought_first : (e : Ready) (a : Attempt) → first_brought e a ≡ recorded (first_in (waits e a))
brought_first e a =
    let es = entries e.places in
    ap (λ o. cond (eqb a.number e.number) o None) (sym (lead_first a.slot es e.proper) ∙ ap recorded (lead_in a.slot (groups es)))
    ∙ push (eqb a.number e.number) (in_slot (groups es) a.slot)
  where
    push : (b : Bool) (o : Option Waiting) → cond b (recorded (first_in o)) None ≡ recorded (first_in (cond b o None))
    push true o = refl
    push false o = refl

-- where the code finds no first datagram, no attempt is brought
pub brought_none : (e : Ready) (a : Attempt) → None ≡ first_brought e a → waits e a ≡ None
brought_none e a h = back (waits e a) (h ∙ brought_first e a)
  where
    back : (o : Option Waiting) → None ≡ recorded (first_in o) → o ≡ None
    back None k = refl
    back (Some w) k = let z : ◌≡◌ {A = ℕ} 0 1 = cc in absurd (omega arith)

-- the attempt that is brought waits in a slot, and its first datagram bears the identifier x
pub record Brings (e : Ready) (a : Attempt) (x : ConnectionId) (slot : ℕ) : Type 0 where
  pub attempt : Waiting
  pub is : waits e a ≡ Some attempt
  pub there : in_slot (groups (entries e.places)) slot ≡ Some attempt
  pub leads : lead (groups (entries e.places)) slot ≡ Some attempt.first
  pub slot_is : attempt.slot ≡ slot
  pub dst : x ≡ attempt.first.dst

-- where the code finds a first datagram, its attempt is brought
pub brings : (e : Ready) (a : Attempt) (d : Datagram) (slot : ℕ) → slot ≡ a.slot → Some d ≡ first_brought e a → Brings e a d.dst_cid slot
brings e a d slot same h = from (waits e a) refl (h ∙ brought_first e a)
  where
    under : (b : Bool) (o : Option Waiting) (w : Waiting) → cond b o None ≡ Some w → o ≡ Some w
    under true o w k = k
    under false o w k = let z : ◌≡◌ {A = ℕ} 0 1 = cc in absurd (omega arith)

    from : (o : Option Waiting) → waits e a ≡ o → Some d ≡ recorded (first_in o) → Brings e a d.dst_cid slot
    from None q k = let z : ◌≡◌ {A = ℕ} 0 1 = cc in absurd (omega arith)
    from (Some w) q k =
        let ws = groups (entries e.places) in
        let i : in_slot ws slot ≡ Some w = ap (in_slot ws) same ∙ under (eqb a.number e.number) (in_slot ws a.slot) w q in
        let f : d ≡ record_of w.first = cc in
        record {
          attempt = w;
          is = q;
          there = i;
          leads = lead_some slot ws w i;
          slot_is = in_slot_slot slot ws w i;
          dst = ap (λ (y : Datagram). y.dst_cid) f;
        }

-- ## Its entry

-- the table t is s without the entry under x
pub record Left (s t : List (Slot ConnectionId RouteDatagramTo)) (m n : ℕ) (x : ConnectionId) : Type 0 where
  pub maps : initial_in t ≡ put (initial_in s) x None
  pub count : n + cond (empty x) 0 1 ≡ m

-- a failed attempt has no entry
failed_none : (o : Option RouteDatagramTo) → entry_after o Failed ≡ None
failed_none None = refl
failed_none (Some (Incoming s)) = refl
failed_none (Some (Connection h)) = refl

-- what names an attempt is there
attempt_there : (slot : ℕ) (o : Option RouteDatagramTo) → is_attempt slot (option_map target_of o) ≡ true → present o ≡ 1
attempt_there slot None h = absurd (both_ways false refl h)
attempt_there slot (Some t) h = refl

-- an attempt that fails takes its entry along
pub leaves : (e : Ready) (t : List (Slot ConnectionId RouteDatagramTo)) (n : ℕ) (a : Attempt) (x : ConnectionId) (slot : ℕ) → (b : Brings e a x slot)
    → Changed e.index.connection_ids_initial.slots.now t e.index.connection_ids_initial.count n x (entry_after (lookup same_id e.index.connection_ids_initial.slots.now x) Failed)
    → Left e.index.connection_ids_initial.slots.now t e.index.connection_ids_initial.count n b.attempt.first.dst
leaves e t n a x slot b h =
    let s = e.index.connection_ids_initial.slots.now in
    let m = e.index.connection_ids_initial.count in
    let l = lookup same_id s in
    let d = b.attempt.first in
    let y = d.dst in
    let g : Changed s t m n y (entry_after (l y) Failed) = subst (λ k. Changed s t m n k (entry_after (l k) Failed)) b.dst h in
    let z = failed_none (l y) in
    record {
      maps = initial_changed s t m n y (entry_after (l y) Failed) g ∙ ap (λ o. put (initial_in s) y (option_map target_of o)) z;
      count = elim (cases_Bool (empty y)) [
        | inl p ↦ omega (arith, g.kept p, cond-true {A = ℕ} (empty y) 0 1 p)
        | inr f ↦
            let p = attempt_there slot (l y) (named_entry (initial_of e.index) (groups (entries e.places)) slot d e.named b.leads f) in
            omega (arith, g.count f, p, ap present z, cond-false {A = ℕ} (empty y) 0 1 f)
      ];
    }

-- ## Outcomes that are the same

-- what `ignore` answers, by another name of its outcome
pub ignored_as : {A : Type 0} {e f : View} {a : Attempt} {r : Result A HandedBack} {o p : Outcome} → o ≡ p → Ignored e f a r p → Ignored e f a r o
ignored_as {A} {e} {f} {a} {r} q i = subst (Ignored e f a r) (sym q) i
