-- Addresses where none are given.
use Rattle.std.specs.Prelude.{◌≡◌, None}
use Rattle.std.specs.Net.Addr.{MatchIp, IsUnspecifiedV4}
use Rattle.std.specs.Net.Socket.{socket_ip, IsPlainSocket}
use Rattle.records.specs.declared.address.FourTuple.{FourTuple}

-- the peer 0.0.0.0 at the port 0, and no local address
abbrev pub IsBlank : FourTuple → Type 0
IsBlank x = IsPlainSocket x.remote 0 × MatchIp (socket_ip x.remote) IsUnspecifiedV4 (λ _. ⊥) × (x.local_ip ≡ None)
