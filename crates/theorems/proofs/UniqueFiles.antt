-- No two files are read alike.
use Rattle.std.proofs.Common.{sym, ◌∙◌}
use Rattle.theorems.specs.FileLaws.{UniqueFiles}
use Rattle.theorems.proofs.Repack.{whole_forth}
use Rattle.theorems.proofs.BooleanForth.{boolean_forth}
use Rattle.theorems.proofs.TableFiles.{table_forth}

pub unique_files : UniqueFiles
unique_files =
    record {
      systems = λ a law f g bf bg s p q. sym (whole_forth a law f bf s p).0 ∙ (whole_forth a law g bg s q).0;
      booleans = λ f g bf bg vs p q. sym (boolean_forth f bf vs p).0 ∙ (boolean_forth g bg vs q).0;
      tables = λ f g bf bg t p q. sym (table_forth f bf t p).0 ∙ (table_forth g bg t q).0;
    }
