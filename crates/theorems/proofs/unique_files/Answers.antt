use Rattle.theorems.proofs.unique_files.Goals as goal
use Rattle.theorems.proofs.UniqueFiles.{unique_files}

pub returns : goal.returns
returns _ = unique_files
