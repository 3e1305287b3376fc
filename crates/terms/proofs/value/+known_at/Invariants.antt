use Rattle.terms.proofs.value.+known_at.Given as goal

abbrev pub decreases-known_at : goal.decreases-known_at
decreases-known_at g l = l.depth
