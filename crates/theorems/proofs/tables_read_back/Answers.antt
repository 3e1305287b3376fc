use Rattle.theorems.proofs.tables_read_back.Goals as goal
use Rattle.theorems.proofs.TableFiles.{table_back}

pub returns : goal.returns
returns _ = table_back
