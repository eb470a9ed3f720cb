use Rattle.model.proofs.rfc9000_stands.Goals as goal
use Rattle.model.proofs.Rfc9000.{keeps_to_rfc9000, refuses_by_rfc9000}

pub returns : goal.returns
returns c = record { handles = keeps_to_rfc9000; refuses = refuses_by_rfc9000 }
