-- What every endpoint keeps to, over whole lists of calls.
use Rattle.std.proofs.Common.{List}
use Rattle.model.specs.Runs.{Endpoint, Call}
use Rattle.model.specs.Theorem.{EndpointLaws}
use Rattle.model.proofs.Noninterference.{noninterference}
use Rattle.model.proofs.Routing.{routing_soundness}
use Rattle.model.proofs.Signers.{signer_independence, resets_bear_the_token}

pub endpoint_laws : (E : Endpoint) (calls : List Call) → EndpointLaws E calls
endpoint_laws E calls = (noninterference E calls, routing_soundness E calls, (signer_independence E calls, resets_bear_the_token E calls))
