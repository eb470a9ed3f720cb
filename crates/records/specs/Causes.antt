-- The numbers of the causes.
use Rattle.std.specs.Prelude.{ℕ}
use Rattle.records.specs.declared.cause.Cause.{Cause}
use Rattle.records.specs.declared.cause.Cause.TheVariants.{Malformed, SetUp, DeadHandle, TooManyIdentifiers, UnknownAttempt, ShortInitial, UnknownVersion, Undecodable, ReservedBits, UnexpectedPacket, InvalidIdentifier, NoIdentifier, ResetTooSoon, TooSmallToReset, TimedOut, NotAuthentic, HandshakeFailed, Saturated, BufferFull, NoPlace, IdentifiersExhausted, NoHandle, NoFreshIdentifier}

-- the number that an answer gives for its cause
abbrev pub cause_number : Cause → ℕ
cause_number Malformed = 1
cause_number SetUp = 2
cause_number DeadHandle = 3
cause_number TooManyIdentifiers = 4
cause_number UnknownAttempt = 5
cause_number ShortInitial = 8
cause_number UnknownVersion = 9
cause_number Undecodable = 10
cause_number ReservedBits = 11
cause_number UnexpectedPacket = 12
cause_number InvalidIdentifier = 13
cause_number NoIdentifier = 14
cause_number ResetTooSoon = 15
cause_number TooSmallToReset = 16
cause_number TimedOut = 17
cause_number NotAuthentic = 18
cause_number HandshakeFailed = 19
cause_number Saturated = 20
cause_number BufferFull = 21
cause_number NoPlace = 22
cause_number IdentifiersExhausted = 23
cause_number NoHandle = 24
cause_number NoFreshIdentifier = 25
