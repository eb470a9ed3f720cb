use Rattle.model.proofs.laws_stand.Goals as goal
use Rattle.model.proofs.Laws.{endpoint_laws}

pub returns : goal.returns
returns c = endpoint_laws
