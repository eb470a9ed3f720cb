-- The signer shows only in tokens, and a reset bears the token that was issued.
use Rattle.std.proofs.Common.{◌≡◌, ℕ, Bool, true, false, cond, eqb, List, [], ◌∷◌, ◌++◌, map, length, replicate, Some, None, Option, sym, refl, ap, ◌∙◌, subst, ap₂, inl, inr}
use Rattle.model.specs.Records.{Id, Token, Grant, Event, Answer, refused, delivered, stored, opened, closing, reset, accepted, failed, ignored, issued, done}
use Rattle.supply.specs.Meaning.{token_of}
use Rattle.model.specs.Calls.{sealed, sealed_grants}
use Rattle.model.specs.Runs.{Setup, Endpoint, config, supply_at, Call, Labelled, labelled, World, outcome, after, history}
use Rattle.model.specs.Words.{Among, Issued, granted, event_for, blank, blank_grants, tokenless, shown, show, Shown}
use Rattle.model.specs.Rfc9000.{Resets, AsAsked}
use Rattle.model.specs.Theorem.{SignerIndependence, ResetsBearTheToken}
use Rattle.model.proofs.Rfc9000.{ends_with_last, token_length, answers_as_asked}

-- ## Tokens blanked

blank_length : (n : ℕ) (t : List ℕ) → length t ≡ n → blank t ≡ replicate n 0
blank_length n [] e = ap (λ k. replicate k 0) e
blank_length n (b ∷ bs) e = ap {B = List ℕ} (λ r. 0 ∷ r) (blank_length (length bs) bs refl) ∙ ap (λ k. replicate k 0) e

module _ (E F : Endpoint) where
  abbrev s : List ℕ → List ℕ
  s = E.signer

  abbrev t : List ℕ → List ℕ
  t = F.signer

  blank_token : (x : Id) → blank (token_of s x) ≡ blank (token_of t x)
  blank_token x = blank_length 16 (token_of s x) (token_length s E.long x) ∙ sym (blank_length 16 (token_of t x) (token_length t F.long x))

  blank_sealed_grants : (gs : List Grant) → blank_grants (sealed_grants (token_of s) gs) ≡ blank_grants (sealed_grants (token_of t) gs)
  blank_sealed_grants [] = refl
  blank_sealed_grants (g ∷ gs) = λ i. record { sequence = g.sequence; id = g.id; token = blank_token g.id i } ∷ blank_sealed_grants gs i

  tokenless_sealed : (a : Answer) → tokenless (sealed (token_of s) a) ≡ tokenless (sealed (token_of t) a)
  tokenless_sealed (refused c) = refl
  tokenless_sealed (delivered h) = refl
  tokenless_sealed (stored k) = refl
  tokenless_sealed (opened k o) = refl
  tokenless_sealed (closing c) = refl
  tokenless_sealed (reset a x p q) = ap (reset a x p) (blank_token x)
  tokenless_sealed (accepted h gs seed ds) = ap (λ r. accepted h r seed ds) (blank_sealed_grants gs)
  tokenless_sealed (failed c k) = refl
  tokenless_sealed ignored = refl
  tokenless_sealed (issued gs) = ap issued (blank_sealed_grants gs)
  tokenless_sealed done = refl

module _ (E F : Endpoint) where
  same_shown : (cs : List Labelled) →
      map (show tokenless) (history F cs) ≡ map (show tokenless) (history (record { setup = F.setup; signer = E.signer; long = E.long }) cs)
  unfolding history
  same_shown [] = refl
  same_shown (c ∷ earlier) =
      ap₂ {B = List Shown} (λ a r. shown c.label c.call a ∷ r) (tokenless_sealed F E (outcome F.setup (after F.setup earlier) c.call).answer) (same_shown earlier)

pub signer_independence : (E : Endpoint) (calls : List Call) → SignerIndependence E calls
signer_independence E calls F e =
    subst (λ U. map (show tokenless) (history F (labelled calls)) ≡ map (show tokenless) (history (record { setup = U; signer = E.signer; long = E.long }) (labelled calls))) e
    (same_shown E F (labelled calls))

-- ## What is issued bears its token

module _ (token : Id → Token) (h : ℕ) (g : Grant) where
  among_sealed : (gs : List Grant) → Among g (sealed_grants token gs) → g.token ≡ token g.id
  among_sealed (x ∷ gs) (inl e) = ap (λ r. r.token) e ∙ sym (ap (λ r. token r.id) e)
  among_sealed (x ∷ gs) (inr m) = among_sealed gs m
  among_sealed [] m = elim m [ ]

  among_cond : (b : Bool) (gs : List Grant) → Among g (cond b (sealed_grants token gs) []) → g.token ≡ token g.id
  among_cond true gs m = among_sealed gs m
  among_cond false gs m = elim m [ ]

  granted_sealed : (event : Option Event) (a : Answer) → Among g (granted h event (sealed token a)) → g.token ≡ token g.id
  granted_sealed event (refused c) m = elim m [ ]
  granted_sealed event (delivered k) m = elim m [ ]
  granted_sealed event (stored k) m = elim m [ ]
  granted_sealed event (opened k o) m = elim m [ ]
  granted_sealed event (closing c) m = elim m [ ]
  granted_sealed event (reset a x p t) m = elim m [ ]
  granted_sealed event (accepted k gs seed ds) m = among_cond (eqb h k) gs m
  granted_sealed event (failed c k) m = elim m [ ]
  granted_sealed event ignored m = elim m [ ]
  granted_sealed None (issued gs) m = elim m [ ]
  granted_sealed (Some e) (issued gs) m = among_sealed gs m
  granted_sealed event done m = elim m [ ]

module _ (E : Endpoint) (h : ℕ) (g : Grant) where
  issued_bears : (cs : List Labelled) → Issued (history E cs) h g → g.token ≡ token_of E.signer g.id
  unfolding history
  issued_bears [] m = elim m [ ]
  issued_bears (c ∷ earlier) (inl m) =
      granted_sealed (token_of E.signer) h g (event_for h c.call) (outcome E.setup (after E.setup earlier) c.call).answer m
  issued_bears (c ∷ earlier) (inr m) = issued_bears earlier m

pub resets_bear_the_token : (E : Endpoint) (calls : List Call) → ResetsBearTheToken E calls
resets_bear_the_token E calls d room a x p t e h g i is =
    let U : Setup = E.setup in
    let w : World = after U (labelled calls) in
    let r : Resets (supply_at U w) (token_of E.signer) w.state d a x p t =
    subst (AsAsked (config U) (supply_at U w) (token_of E.signer) w.state d) e (answers_as_asked E calls d room) in
    ends_with_last (p ++ t) (token_of E.signer d.dst) r.form.token_last ∙ sym (issued_bears E h g (labelled calls) i ∙ ap (token_of E.signer) is)
