use Rattle.terms.proofs.occur.+occurs_at.Given as goal

abbrev pub decreases-occurs_at : goal.decreases-occurs_at
decreases-occurs_at g l = l.depth
