use Rattle.theorems.proofs.terms_evaluate_in_sort.Goals as goal
use Rattle.theorems.proofs.Evaluates.{in_sort}

pub returns : goal.returns
returns _ = in_sort
