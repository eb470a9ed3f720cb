-- The Initial entries and the attempts name each other.
use Rattle.std.proofs.lemmas.Bool.Decides.{nat_tests}
use Rattle.std.proofs.Common.{◌≡◌, ℕ, ◌≤◌, true, false, List, ◌∷◌, map, Some, None, Option, refl, ap, ◌∙◌, arith}
use Rattle.records.specs.declared.shared.ConnectionId.{ConnectionId}
use Rattle.records.specs.Ids.{empty}
use Rattle.records.specs.Received.{Datagram}
use Rattle.records.specs.Same.{same_id_decides}
use Rattle.model.specs.Endpoint.{Waiting, Target, to_attempt, to_connection, put, add_kept, without}
use Rattle.waiting.specs.Groups.{holding}
use Rattle.waiting.specs.Leads.{lead, is_attempt, no_attempt, attempt_of, goes, is_dst, returns_to, clear_at, Named, Pointed, no_empty}
use Rattle.waiting.proofs.Leading.{lead_without, lead_kept, lead_held}

attempt_once : (s t : ℕ) (o : Option Target) → is_attempt s o ≡ true → is_attempt t o ≡ true → s ≡ t
attempt_once s t None p q = absurd cc
attempt_once s t (Some (to_attempt n)) p q = grind (arith, nat_tests)
attempt_once s t (Some (to_connection h)) p q = absurd cc

pub no_attempt_is : (s : ℕ) (o : Option Target) → no_attempt o ≡ true → is_attempt s o ≡ false
no_attempt_is s None h = refl
no_attempt_is s (Some (to_attempt t)) h = absurd cc
no_attempt_is s (Some (to_connection c)) h = refl

pub no_attempt_returns : (ws : List Waiting) (k : ConnectionId) (o : Option Target) → no_attempt o ≡ true → returns_to ws k o ≡ true
no_attempt_returns ws k None h = refl
no_attempt_returns ws k (Some (to_attempt t)) h = absurd cc
no_attempt_returns ws k (Some (to_connection c)) h = refl

pub named_entry : (f : ConnectionId → Option Target) (ws : List Waiting) (slot : ℕ) (d : Datagram) → Named f ws → lead ws slot ≡ Some d → empty d.dst ≡ false → is_attempt slot (f d.dst) ≡ true
named_entry f ws slot d named h n = grind (arith, named slot)

-- ## An entry under another key

-- an entry that is put keeps an attempt's own, where it replaces none of the attempt's
goes_put : (f : ConnectionId → Option Target) (x : ConnectionId) (v : Option Target) (s : ℕ) (o : Option Datagram) → (empty x ≡ false → is_attempt s (f x) ≡ true → ⊥) → goes f s o ≡ true → goes (put f x v) s o ≡ true
goes_put f x v s None never g = refl
goes_put f x v s (Some d) never g = grind (arith, nat_tests, same_id_decides x d.dst)

-- an entry that names no attempt is replaced, or put under a new key
pub named_put : (f : ConnectionId → Option Target) (ws : List Waiting) (x : ConnectionId) (v : Option Target) → Named f ws → no_attempt (f x) ≡ true → Named (put f x v) ws
named_put f ws x v named h s = grind (arith, nat_tests, no_attempt_is s (f x) h, goes_put f x v s (lead ws s), named s)

pub pointed_put : (f : ConnectionId → Option Target) (ws : List Waiting) (x : ConnectionId) (v : Option Target) → Pointed f ws → no_attempt v ≡ true → Pointed (put f x v) ws
pointed_put f ws x v pointed h k = grind (arith, nat_tests, no_attempt_returns ws k v h, same_id_decides x k, pointed k)

pub no_empty_put : (f : ConnectionId → Option Target) (x : ConnectionId) (v : Option Target) → no_empty f → no_empty (put f x v)
no_empty_put f x v none q e = grind (arith, none q e, same_id_decides x q)

pub no_empty_new : no_empty (λ x. None)
no_empty_new x e = refl

-- ## An attempt goes

-- its entry goes, or is another's
pub named_spent : (f : ConnectionId → Option Target) (ws : List Waiting) (slot : ℕ) (d : Datagram) (v : Option Target) → Named f ws → lead ws slot ≡ Some d → Named (put f d.dst v) (without ws slot)
named_spent f ws slot d v named h s =
    grind (arith, nat_tests, lead_without slot s ws, goes_put f d.dst v s (lead ws s), attempt_once slot s (f d.dst), named slot, named s)

back_spent : (ws : List Waiting) (slot : ℕ) (d : Datagram) (j : ConnectionId) (o : Option Target) → lead ws slot ≡ Some d → (j ≡ d.dst → o ≡ None) → returns_to ws j o ≡ true → returns_to (without ws slot) j o ≡ true
back_spent ws slot d j None h gone r = refl
back_spent ws slot d j (Some (to_connection c)) h gone r = refl
back_spent ws slot d j (Some (to_attempt s)) h gone r = grind (arith, nat_tests, lead_without slot s ws, same_id_decides d.dst j)

pub pointed_spent : (f : ConnectionId → Option Target) (ws : List Waiting) (slot : ℕ) (d : Datagram) (v : Option Target) → Pointed f ws → no_empty f → lead ws slot ≡ Some d → no_attempt v ≡ true → Pointed (put f d.dst v) (without ws slot)
pointed_spent f ws slot d v pointed none h nv j =
    grind (arith, nat_tests, no_attempt_returns (without ws slot) j v, back_spent ws slot d j (f j) h, none j, pointed j, same_id_decides d.dst j)

-- ## An attempt opens

pub named_opened : (f : ConnectionId → Option Target) (ws : List Waiting) (w : Waiting) → Named f ws → f w.first.dst ≡ None → Named (put f w.first.dst (Some (to_attempt w.slot))) (w ∷ ws)
named_opened f ws w named z s =
    grind (arith, nat_tests, same_id_decides w.first.dst w.first.dst, goes_put f w.first.dst (Some (to_attempt w.slot)) s (lead ws s), named s)

pub pointed_opened : (f : ConnectionId → Option Target) (ws : List Waiting) (w : Waiting) → Pointed f ws → lead ws w.slot ≡ None → Pointed (put f w.first.dst (Some (to_attempt w.slot))) (w ∷ ws)
pointed_opened f ws w pointed h j = grind (arith, nat_tests)

-- ## A datagram is kept

pub named_kept : (f : ConnectionId → Option Target) (ws : List Waiting) (slot : ℕ) (d : Datagram) → Named f ws → Named f (map (add_kept slot d) ws)
named_kept f ws slot d named s = ap (goes f s) (lead_kept slot s d ws) ∙ named s

back_kept : (ws : List Waiting) (slot : ℕ) (d : Datagram) (j : ConnectionId) (o : Option Target) → returns_to ws j o ≡ true → returns_to (map (add_kept slot d) ws) j o ≡ true
back_kept ws slot d j None r = refl
back_kept ws slot d j (Some (to_connection c)) r = refl
back_kept ws slot d j (Some (to_attempt s)) r = grind (arith, lead_kept slot s d ws)

pub pointed_kept : (f : ConnectionId → Option Target) (ws : List Waiting) (slot : ℕ) (d : Datagram) → Pointed f ws → Pointed f (map (add_kept slot d) ws)
pointed_kept f ws slot d pointed j = back_kept ws slot d j (f j) (pointed j)

-- ## The same of equal parts

pub named_as : (f f' : ConnectionId → Option Target) (ws ws' : List Waiting) → f' ≡ f → ws' ≡ ws → Named f ws → Named f' ws'
named_as f f' ws ws' ef ew n s = ap (λ g. goes g s (lead ws' s)) ef ∙ ap (λ v. goes f s (lead v s)) ew ∙ n s

pub pointed_as : (f f' : ConnectionId → Option Target) (ws ws' : List Waiting) → f' ≡ f → ws' ≡ ws → Pointed f ws → Pointed f' ws'
pointed_as f f' ws ws' ef ew p k = ap (λ g. returns_to ws' k (g k)) ef ∙ ap (λ v. returns_to v k (f k)) ew ∙ p k

pub no_empty_as : (f f' : ConnectionId → Option Target) → f' ≡ f → no_empty f → no_empty f'
no_empty_as f f' e none x t = ap (λ g. g x) e ∙ none x t

-- ## The empty identifier, by a test

pub no_empty_tells : (f : ConnectionId → Option Target) → no_empty f → (k : ConnectionId) → clear_at f k ≡ true
no_empty_tells f none k = grind (arith, nat_tests)

pub no_empty_told : (f : ConnectionId → Option Target) → ((k : ConnectionId) → clear_at f k ≡ true) → no_empty f
no_empty_told f clear k t = grind (arith, nat_tests)

-- ## An entry that names an attempt has one waiting

pub pointed_lead : (ws : List Waiting) (k : ConnectionId) (s : ℕ) → returns_to ws k (Some (to_attempt s)) ≡ true → (d : Datagram) × (lead ws s ≡ Some d) × (d.dst ≡ k)
pointed_lead ws k s h = from (lead ws s) refl h
  where
    from : (o : Option Datagram) → lead ws s ≡ o → is_dst k o ≡ true → (d : Datagram) × (lead ws s ≡ Some d) × (d.dst ≡ k)
    from None u i = absurd cc
    from (Some d) u i = (d, u, (same_id_decides d.dst k).0 i)

pub pointed_held : (ws : List Waiting) (k : ConnectionId) (s : ℕ) (t : Option Target) → returns_to ws k t ≡ true → Some s ≡ attempt_of t → 1 ≤ holding s ws
pointed_held ws k s None h e = absurd cc
pointed_held ws k s (Some (to_connection c)) h e = absurd cc
pointed_held ws k s (Some (to_attempt n)) h e = let l = pointed_lead ws k n h in lead_held s ws l.0 cc
