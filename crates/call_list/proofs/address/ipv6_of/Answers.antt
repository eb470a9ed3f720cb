use Rattle.std.proofs.Common.{ap, ◌∙◌}
use Rattle.std.specs.Net.Addr.{octets_of}
use Rattle.call_list.proofs.Octets.{octets_back}
use Rattle.call_list.proofs.address.ipv6_of.Goals as goal

pub returns : goal.returns
returns c = ap octets_of c.from_octets.ensures ∙ octets_back 8 c.args.octets.now c.told-octets c.fits-octets
