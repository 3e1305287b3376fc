-- The four passes keep their rules.
use Rattle.theorems.specs.PassLaws.{PassesKeepRules}
use Rattle.theorems.proofs.KeepsC.{keeps as keeps_c}
use Rattle.theorems.proofs.FitsC.{fits as fits_c}
use Rattle.theorems.proofs.KeepsF.{keeps as keeps_f}
use Rattle.theorems.proofs.FitsF.{fits as fits_f}
use Rattle.theorems.proofs.KeepsR.{keeps as keeps_r, fits as fits_r}
use Rattle.theorems.proofs.KeepsU.{keeps as keeps_u, fits as fits_u}

pub passes_rule : PassesKeepRules
passes_rule =
    record {
      C = record { same_verdict = λ a law s fit. keeps_c a s law fit; fits = λ a law s fit. fits_c a law s fit };
      F = record { same_verdict = λ a law s fit. keeps_f a law s fit; fits = λ a law s fit. fits_f a law s fit };
      R = record { same_verdict = λ a law s fit. keeps_r a law s fit; fits = λ a law s fit. fits_r a s fit };
      U = record { same_verdict = λ a law s fit. keeps_u a s fit; fits = λ a law s fit. fits_u a s fit };
    }
