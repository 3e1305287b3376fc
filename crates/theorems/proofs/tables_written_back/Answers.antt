use Rattle.theorems.proofs.tables_written_back.Goals as goal
use Rattle.theorems.proofs.TableFiles.{table_forth}

pub returns : goal.returns
returns _ = table_forth
