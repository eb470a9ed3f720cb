-- Answers that change nothing, closes and resets.
use Rattle.std.proofs.Common.{◌≡◌, ℕ, ◌+◌, ◌-◌, ◌%◌, ◌<◌, ◌≤◌, Bool, true, false, cond, leb, List, ◌++◌, length, take, drop, Some, None, Option, Ok, Err, Result, sym, refl, ap, ◌∙◌, ap₂, subst, arith, length-append}
use Rattle.std.proofs.lemmas.List.{take_at, drop_at}
use Rattle.std.proofs.lemmas.Bool.{cond-true, cond-false, or_parts, leb-false}
use Rattle.records.specs.declared.cause.Cause.{Cause}
use Rattle.records.specs.declared.packet.Close.{Close}
use Rattle.records.specs.Causes.{cause_number}
use Rattle.records.specs.Received.{Datagram, size, is_initial}
use Rattle.supply.specs.Meaning.{Opens, Supplied, spent}
use Rattle.supply.proofs.Spending.{spent_none}
use Rattle.model.specs.Records.{refused, delivered, closing, reset}
use Rattle.model.specs.Endpoint.{State, Config, Supply, Target, Outcome, row, first_cause, saturated, no_place, route}
use Rattle.model.specs.Calls.{gives, close_to, close_now, number_of, send_reset, reset_by, reset_for, first_causes, first_by, open_by, bad_length, handle, handle_by, stray, first_packet, fits}
use Rattle.resets.specs.Bytes.{over, picked, padding}
use Rattle.endpoint.specs.declared.handled.Handled.{Handled}
use Rattle.endpoint.specs.declared.handled.Handled.TheVariants.{Delivered, Closed}
use Rattle.endpoint.specs.State.{View, supply_of, Frame}
use Rattle.endpoint.specs.Answers.{reset_of, Answered}

pub same_frame : (e : View) → Frame e e
same_frame e = record { ready = refl; settings = refl; number = refl; width = refl }

-- a refusal changes nothing
pub refuses : (e : View) (u : Supplied) (out : List ℕ) (k : Close) (d : Datagram) (x : Cause) → Answered e e u u out out k k d (Err x) (gives (refused (cause_number x)) e.state)
refuses e u out k d x = record { answer = refl; number = tt; state = refl; drawn = sym (spent_none u); output = refl; close = refl; frame = same_frame e }

-- a refusal by another name, of its answer and of its outcome
pub fails : (e : View) (u : Supplied) (out : List ℕ) (k : Close) (d : Datagram) (x : Cause) (r : Result Handled Cause) (o : Outcome) → r ≡ Err x → gives (refused (cause_number x)) e.state ≡ o → Answered e e u u out out k k d r o
fails e u out k d x r o is why = subst (λ y. Answered e e u u out out k k d y o) (sym is) (subst (Answered e e u u out out k k d (Err x)) why (refuses e u out k d x))

-- nor does a datagram for a connection
pub delivers : (e : View) (u : Supplied) (out : List ℕ) (k : Close) (d : Datagram) (h : ℕ) → Answered e e u u out out k k d (Ok (Delivered h)) (gives (delivered h) e.state)
delivers e u out k d h = record { answer = refl; number = tt; state = refl; drawn = sym (spent_none u); output = refl; close = refl; frame = same_frame e }

-- a close draws one identifier
pub closes : (e : View) (u v : Supplied) (out : List ℕ) (k k' : Close) (d : Datagram) (code : ℕ) → k' ≡ close_to (supply_of u) 0 code d → v ≡ spent 1 0 u →
    Answered e e u v out out k k' d (Ok Closed) (close_now (supply_of u) e.state code d)
closes e u v out k k' d code is drawn = record { answer = ap closing is; number = tt; state = refl; drawn = drawn; output = refl; close = is; frame = same_frame e }

-- a reset draws its padding, and the length of that by lot where the datagram is long
pub reset_outcome : (u : Supplied) (s : State) (d : Datagram) → send_reset (supply_of u) s d (picked (size d)) (padding u.source (size d)) ≡ reset_for (supply_of u) s d
reset_outcome u s d =
    elim (leb (size d - 17) 26) as (λ b. send_reset (supply_of u) s d (cond b 0 8) (cond b (size d - 17) (25 + number_of (row u.source 0 8) % (size d - 42))) ≡ reset_by (supply_of u) s d b)
    [ true ↦ refl | false ↦ refl ]

-- the bytes of a reset, read back from the output
pub reset_read : (d : Datagram) (xs token out : List ℕ) (n : ℕ) → length token ≡ 16 → n ≡ length xs + 16 → reset_of d (take n (over (xs ++ token) out)) ≡ reset d.addresses d.dst xs token
reset_read d xs token out n t e =
    let long : length (xs ++ token) ≡ n = length-append xs token ∙ omega (arith, t, e) in
    let front : length xs ≡ length (xs ++ token) - 16 = omega (arith, long, e) in
    ap (reset_of d) (take_at (xs ++ token) (drop (length (xs ++ token)) out) n long)
    ∙ ap₂ (λ a b. reset d.addresses d.dst a b) (take_at xs token (length (xs ++ token) - 16) front) (drop_at xs token (length (xs ++ token) - 16) front)

-- an Initial that no cause drops finds a slot and a place
pub record Admits (c : Config) (s : State) : Type 0 where
  pub unsaturated : saturated c s ≡ false
  pub placed : no_place c s ≡ false

cause_left : (b : Bool) (n : ℕ) (rest : Option ℕ) → cond b (Some n) rest ≡ None → (b ≡ false) × (rest ≡ None)
cause_left true n rest e = let z : ◌≡◌ {A = ℕ} 0 1 = cc in absurd (omega arith)
cause_left false n rest e = (refl, e)

pub admits : (c : Config) (s : State) (d : Datagram) → first_cause (first_causes c s d) ≡ None → Admits c s
admits c s d e =
    let a = cause_left _ _ _ e in
    let b = cause_left _ _ _ a.1 in
    let p = cause_left _ _ _ b.1 in
    record { unsaturated = b.0; placed = p.0 }

-- so there are fewer than 64 attempts, and a place is free
pub admits_few : (c : Config) (s : State) → Admits c s → c.settings.max_incoming ≤ 64 → length s.waiting < 64
admits_few c s a most =
    let p = or_parts _ _ a.unsaturated in
    let q = leb-false c.settings.max_incoming (length s.waiting) p.1 in
    omega arith

-- ## The order of the tests in `handle`

module _ (c : Config) (u : Supply) (s : State) (d : Datagram) where
  pub is_bad : None ≡ first_cause (first_causes c s d) → bad_length c d ≡ true → close_now u s 0x0a d ≡ first_packet c u s d
  is_bad passed bad = sym (cond-true (bad_length c d) _ _ bad) ∙ ap (first_by c u s d) passed

  pub is_open : None ≡ first_cause (first_causes c s d) → bad_length c d ≡ false → (o : Opens) → o ≡ c.door.opens d → open_by u s d o ≡ first_packet c u s d
  is_open passed good o says = ap (open_by u s d) says ∙ sym (cond-false (bad_length c d) _ _ good) ∙ ap (first_by c u s d) passed

  pub is_handled : (room : ℕ) → fits c d room ≡ true → (t : Option Target) → t ≡ route s d → handle_by c u s d t ≡ handle c u s d room
  is_handled room fit t is = ap (handle_by c u s d) is ∙ sym (cond-true (fits c d room) _ _ fit)

  pub is_first : (room : ℕ) → fits c d room ≡ true → None ≡ route s d → is_initial d.kind ≡ true → first_packet c u s d ≡ handle c u s d room
  is_first room fit is first = sym (cond-true (is_initial d.kind) _ _ first) ∙ is_handled room fit None is

  pub is_stray : (room : ℕ) → fits c d room ≡ true → None ≡ route s d → is_initial d.kind ≡ false → stray c u s d ≡ handle c u s d room
  is_stray room fit is other = sym (cond-false (is_initial d.kind) _ _ other) ∙ is_handled room fit None is
