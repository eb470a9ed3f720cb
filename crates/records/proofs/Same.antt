-- The tests for the equality of addresses, of peers, of address pairs, and of tokens with their peers, are exact.
use Rattle.std.proofs.Common.{◌≡◌, Decides, rules}
use Rattle.std.specs.Prelude.{Option}
use Rattle.std.specs.declared.net.socket_addr.SocketAddrV4.{SocketAddrV4}
use Rattle.std.specs.declared.net.socket_addr.SocketAddrV6.{SocketAddrV6}
use Rattle.std.specs.declared.net.socket_addr.SocketAddr.{SocketAddr}
use Rattle.std.specs.declared.net.ip_addr.IpAddr.{IpAddr}
use Rattle.records.specs.declared.address.FourTuple.{FourTuple}
use Rattle.records.specs.declared.token.RemoteToken.{RemoteToken}
use Rattle.records.specs.Keys.{same_v4, same_v6, same_remote, same_ip, same_local, same_pair, same_sender}

pub same_v4_decides : (a b : SocketAddrV4) → Decides (same_v4 a b) (a ≡ b)
same_v4_decides a b = search rules

pub same_v6_decides : (a b : SocketAddrV6) → Decides (same_v6 a b) (a ≡ b)
same_v6_decides a b = search rules

pub same_remote_decides : (a b : SocketAddr) → Decides (same_remote a b) (a ≡ b)
same_remote_decides a b = search rules

pub same_ip_decides : (a b : IpAddr) → Decides (same_ip a b) (a ≡ b)
same_ip_decides a b = search rules

pub same_local_decides : (a b : Option IpAddr) → Decides (same_local a b) (a ≡ b)
same_local_decides a b = search rules

pub same_pair_decides : (a b : FourTuple) → Decides (same_pair a b) (a ≡ b)
same_pair_decides a b = search rules

pub same_sender_decides : (a b : RemoteToken) → Decides (same_sender a b) (a ≡ b)
same_sender_decides a b = search rules
