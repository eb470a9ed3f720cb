use Rattle.places.proofs.places.Places.new.Goals as goal

pub invariant_of-result-clause-named : goal.invariant_of-result-clause-named
invariant_of-result-clause-named c = rw c.empty.ensures.items c.clear.ensures.named

pub invariant_of-result-clause-apart : goal.invariant_of-result-clause-apart
invariant_of-result-clause-apart c = rw c.empty.ensures.items c.clear.ensures.apart
