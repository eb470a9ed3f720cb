use Rattle.model.proofs.cases_stand.Goals as goal
use Rattle.model.proofs.Cases.{cases_stand}

pub returns : goal.returns
returns c = cases_stand
