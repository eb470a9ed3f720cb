-- How answers are written.
use Rattle.std.specs.Prelude.{ℕ, cond, List, [], ◌∷◌, ◌++◌, take, codes, decimal}
use Rattle.std.specs.declared.option.Option.{Option}
use Rattle.std.specs.declared.option.Option.TheVariants.{Some, None}
use Rattle.records.specs.Causes.{cause_number}
use Rattle.records.specs.Ids.{id_bytes}
use Rattle.std.specs.declared.net.socket_addr.SocketAddr as socket
use Rattle.std.specs.declared.net.socket_addr.SocketAddr.TheVariants as sockets
use Rattle.std.specs.declared.net.ip_addr.IpAddr as ip
use Rattle.std.specs.declared.net.ip_addr.IpAddr.TheVariants as ips
use Rattle.std.specs.Net.Addr.{ipv4_octets, ipv6_octets}
use Rattle.std.specs.Net.Socket.{v4_ip, v4_port, v6_ip, v6_port, v6_flowinfo, v6_scope_id}
use Rattle.records.specs.declared.address.FourTuple.{FourTuple}
use Rattle.records.specs.declared.packet.Close.{Close}
use Rattle.records.specs.declared.shared.ConnectionId.{ConnectionId}
use Rattle.supply.specs.declared.answers.Opening.{Opening}
use Rattle.calls.specs.declared.call.Arrival.{Arrival}
use Rattle.calls.specs.declared.call.Call as call
use Rattle.calls.specs.declared.call.Call.TheVariants.{Handle, Ignore}
use Rattle.calls.specs.declared.answer.Answer as answer
use Rattle.calls.specs.declared.answer.Answer.TheVariants as says
use Rattle.words.specs.Words.{bytes_word, cause_word}

-- words with a character between them
abbrev pub joined : ℕ → List (List ℕ) → List ℕ
joined c [] = []
joined c (word ∷ []) = word
joined c (word ∷ next ∷ rest) = word ++ (c ∷ joined c (next ∷ rest))

-- words with spaces between them
abbrev pub spaced : List (List ℕ) → List ℕ
spaced words = joined 32 words

-- words with colons between them
abbrev pub coloned : List (List ℕ) → List ℕ
coloned words = joined 58 words

-- a peer's address
abbrev pub remote_text : socket.SocketAddr → List ℕ
remote_text (sockets.V4 a) = coloned (codes "4" ∷ bytes_word (ipv4_octets (v4_ip a)) ∷ decimal (v4_port a) ∷ [])
remote_text (sockets.V6 a) = coloned (codes "6" ∷ bytes_word (ipv6_octets (v6_ip a)) ∷ decimal (v6_port a) ∷ decimal (v6_flowinfo a) ∷ decimal (v6_scope_id a) ∷ [])

-- a local address, if there is one
abbrev pub local_text : Option ip.IpAddr → List ℕ
local_text None = codes "-"
local_text (Some (ips.V4 a)) = coloned (codes "4" ∷ bytes_word (ipv4_octets a) ∷ [])
local_text (Some (ips.V6 a)) = coloned (codes "6" ∷ bytes_word (ipv6_octets a) ∷ [])

-- an identifier
abbrev pub id_text : ConnectionId → List ℕ
id_text x = bytes_word (id_bytes x)

-- the identifier of a Retry packet, if there was one
abbrev pub retry_text : Option ConnectionId → List ℕ
retry_text None = codes "none"
retry_text (Some x) = id_text x

-- the addresses of a datagram, or of what answers it
abbrev pub addresses_text : FourTuple → List ℕ
addresses_text f = spaced (remote_text f.remote ∷ local_text f.local_ip ∷ [])

-- what a door said of an attempt
abbrev pub opened_text : Opening → List ℕ
opened_text o = spaced (decimal (cond o.validated 1 0) ∷ id_text o.original ∷ retry_text o.retry ∷ [])

-- a close
abbrev pub closed_text : Close → List ℕ
closed_text c = spaced (decimal c.code ∷ decimal c.version ∷ addresses_text c.addresses ∷ id_text c.dst_cid ∷ id_text c.src_cid ∷ [])

-- the addresses of the datagram that a line brings, if it brings one
abbrev pub addresses_of : {B : Type 0} → Option (call.Call (Arrival B)) → Option FourTuple
addresses_of None = None
addresses_of (Some (Handle a)) = Some a.datagram.addresses
addresses_of (Some (Ignore b)) = None

-- a reset of these bytes, if there is a datagram to answer
abbrev pub reset_words : Option FourTuple → List ℕ → List (List ℕ)
reset_words None bytes = codes "done" ∷ []
reset_words (Some f) bytes = codes "reset" ∷ addresses_text f ∷ bytes_word bytes ∷ []

-- what is said of a line's call, whose block of output this is
abbrev pub answer_words : {B : Type 0} → Option (call.Call (Arrival B)) → List ℕ → answer.Answer → List (List ℕ)
answer_words line block (says.Refused c) = cause_word (cause_number c) ∷ decimal (cause_number c) ∷ []
answer_words line block (says.Delivered h) = codes "delivered" ∷ decimal h ∷ []
answer_words line block (says.Kept s) = codes "kept" ∷ decimal s ∷ []
answer_words line block (says.Opened s o) = codes "opened" ∷ decimal s ∷ opened_text o ∷ []
answer_words line block (says.Closed c) = codes "closed" ∷ closed_text c ∷ []
answer_words line block (says.Reset n) = reset_words (addresses_of line) (take n block)
answer_words line block says.Ignored = codes "ignored" ∷ []
answer_words line block says.Void = codes "void" ∷ []

-- the line of the answer to the call of this number
abbrev pub answer_text : {B : Type 0} → ℕ → Option (call.Call (Arrival B)) → List ℕ → answer.Answer → List ℕ
answer_text number line block answer = spaced (decimal number ∷ answer_words line block answer)
