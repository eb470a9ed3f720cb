-- What suppliers mean: a generator and a byte source what is to come, a signer and a door all their answers.
use Rattle.std.specs.Prelude.{◌≡◌, Bool, true, List, ℕ, Result, ◌+◌, ◌≤◌, ◌<◌, length, take}
use Rattle.records.specs.declared.shared.ConnectionId.{ConnectionId}
use Rattle.records.specs.Ids.{id_bytes}
use Rattle.records.specs.Received.{Datagram}
use Rattle.supply.specs.declared.answers.Opening.{Opening}
use Rattle.supply.specs.declared.answers.Unopened.{Unopened}
use Rattle.supply.specs.declared.answers.HandshakeError.{HandshakeError}

-- what a door says of a first datagram: what it opens, or why not
abbrev pub Opens : Type 0
Opens = Result Opening Unopened

-- what the handshake says to a first datagram: that it goes on, or why not
abbrev pub Greets : Type 0
Greets = Result (Unit {0}) HandshakeError

-- a generator: the length of its identifiers, those to come, and what is valid when so many more were drawn
pub record Generator : Type 0 where
  pub len : ℕ
  pub draw : ℕ → ConnectionId
  pub valid : ℕ → ConnectionId → Bool

-- identifiers have the generator's length, and what was drawn stays valid
pub record Lawful (m : Generator) : Type 0 where
  pub short : m.len ≤ 20
  pub sized : (i : ℕ) → (m.draw i).len ≡ m.len
  pub stays : (i j : ℕ) → i < j → m.valid j (m.draw i) ≡ true

-- a generator from which k were drawn
abbrev pub shifted : ℕ → Generator → Generator
shifted k m = record { len = m.len; draw = λ i. m.draw (k + i); valid = λ i. m.valid (k + i) }

-- a byte source from which k bytes were drawn
abbrev pub later : ℕ → (ℕ → ℕ) → ℕ → ℕ
later k s i = s (k + i)

-- a door by its answers
pub record DoorAnswers : Type 0 where
  pub knows : ℕ → ConnectionId → Bool
  pub opens : Datagram → Opens
  pub proves : Datagram → Bool
  pub greets : Datagram → ℕ → List ConnectionId → Greets

-- the four together
pub record Supplied : Type 0 where
  pub generator : Generator
  pub source : ℕ → ℕ
  pub signer : List ℕ → List ℕ
  pub door : DoorAnswers

-- what they mean when i identifiers and b bytes were drawn
abbrev pub spent : ℕ → ℕ → Supplied → Supplied
spent i b s = record { generator = shifted i s.generator; source = later b s.source; signer = s.signer; door = s.door }

-- an identifier's token is the first 16 bytes of its signature
abbrev pub token_of : (List ℕ → List ℕ) → ConnectionId → List ℕ
token_of signer x = take 16 (signer (id_bytes x))

-- what all four suppliers keep to
pub record AllLawful (s : Supplied) : Type 0 where
  pub generator : Lawful s.generator
  pub source : (i : ℕ) → s.source i < 256
  pub signer : (message : List ℕ) → length (s.signer message) ≡ 32
