-- When two addresses, address pairs or remotes with tokens are the same, and what a table takes for their hash.
use Rattle.std.specs.Prelude.{ℕ, ◌*◌, ◌%◌, ◌^◌, Bool, true, false, ◌&&◌, List, Some, None, fold, Option, ◌==◌, bit_xor}
use Rattle.std.specs.Str.{bytes_eq}
use Rattle.records.specs.declared.shared.ConnectionId.{ConnectionId}
use Rattle.std.specs.declared.net.socket_addr.SocketAddrV4.{SocketAddrV4}
use Rattle.std.specs.declared.net.socket_addr.SocketAddrV6.{SocketAddrV6}
use Rattle.std.specs.declared.net.socket_addr.SocketAddr.{SocketAddr}
use Rattle.std.specs.declared.net.socket_addr.SocketAddr.TheVariants as socket
use Rattle.std.specs.declared.net.ip_addr.IpAddr.{IpAddr}
use Rattle.std.specs.declared.net.ip_addr.IpAddr.TheVariants as ip
use Rattle.std.specs.Net.Addr.{ipv4_octets, ipv6_octets, ipv6_segments}
use Rattle.std.specs.Net.Socket.{v4_ip, v4_port, v6_ip, v6_port, v6_flowinfo, v6_scope_id}
use Rattle.records.specs.declared.address.FourTuple.{FourTuple}
use Rattle.records.specs.declared.token.RemoteToken.{RemoteToken}

-- the same address of four bytes and the same port
abbrev pub same_v4 : SocketAddrV4 → SocketAddrV4 → Bool
same_v4 a b = bytes_eq (ipv4_octets (v4_ip a)) (ipv4_octets (v4_ip b)) && v4_port a == v4_port b

-- with an address of eight segments the flow and the scope count too
abbrev pub same_v6 : SocketAddrV6 → SocketAddrV6 → Bool
same_v6 a b = bytes_eq (ipv6_segments (v6_ip a)) (ipv6_segments (v6_ip b)) && (v6_port a == v6_port b && (v6_flowinfo a == v6_flowinfo b && v6_scope_id a == v6_scope_id b))

-- the same peer
abbrev pub same_remote : SocketAddr → SocketAddr → Bool
same_remote (socket.V4 a) (socket.V4 b) = same_v4 a b
same_remote (socket.V4 a) (socket.V6 b) = false
same_remote (socket.V6 a) (socket.V4 b) = false
same_remote (socket.V6 a) (socket.V6 b) = same_v6 a b

-- the same address without a port
abbrev pub same_ip : IpAddr → IpAddr → Bool
same_ip (ip.V4 a) (ip.V4 b) = bytes_eq (ipv4_octets a) (ipv4_octets b)
same_ip (ip.V4 a) (ip.V6 b) = false
same_ip (ip.V6 a) (ip.V4 b) = false
same_ip (ip.V6 a) (ip.V6 b) = bytes_eq (ipv6_segments a) (ipv6_segments b)

-- the same local address, or none on either side
abbrev pub same_local : Option IpAddr → Option IpAddr → Bool
same_local None None = true
same_local None (Some b) = false
same_local (Some a) None = false
same_local (Some a) (Some b) = same_ip a b

-- the same peer, at the same local address
abbrev pub same_pair : FourTuple → FourTuple → Bool
same_pair a b = same_remote a.remote b.remote && same_local a.local_ip b.local_ip

-- the same token of the same peer
abbrev pub same_sender : RemoteToken → RemoteToken → Bool
same_sender a b = same_remote a.remote b.remote && bytes_eq a.token.bytes b.token.bytes

-- FNV-1a, one byte on
abbrev pub mixed : ℕ → ℕ → ℕ
mixed h b = (bit_xor h b * 16777619) % 2 ^ 32

-- FNV-1a of bytes
abbrev pub hash_of : List ℕ → ℕ
hash_of bs = fold mixed 2166136261 bs

-- the hash of a peer: its address and port
abbrev pub hash_remote : SocketAddr → ℕ
hash_remote (socket.V4 a) = mixed (hash_of (ipv4_octets (v4_ip a))) (v4_port a)
hash_remote (socket.V6 a) = mixed (hash_of (ipv6_octets (v6_ip a))) (v6_port a)

-- the hash of an identifier: all its bytes, zeros included
abbrev pub hash_id : ConnectionId → ℕ
hash_id x = hash_of x.bytes

-- the local address is left out: equal pairs still hash alike
abbrev pub hash_pair : FourTuple → ℕ
hash_pair a = hash_remote a.remote

-- the hash of a token with its peer: the token alone
abbrev pub hash_sender : RemoteToken → ℕ
hash_sender r = hash_of r.token.bytes
