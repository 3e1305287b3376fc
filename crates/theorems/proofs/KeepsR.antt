-- The pass R keeps the truth of every instance, so the verdict, and what it writes fits.
use Rattle.std.proofs.Common.{◌≡◌}
use Rattle.definitions.specs.Alg.{Alg, Lawful}
use Rattle.definitions.specs.Systems.{System}
use Rattle.definitions.specs.Fits.{SystemFits}
use Rattle.definitions.specs.Truth.{verdict}
use Rattle.definitions.specs.Passes.{needed, pass_r}
use Rattle.theorems.proofs.KeepsCut.{keeps as cut_keeps, truth_kept as cut_truth}
use Rattle.theorems.specs.PassLaws.{RKeepsTruths}
use Rattle.theorems.proofs.FitsCut.{fits as cut_fits}
use Rattle.theorems.proofs.Marks.{needed_is_closed}

pub truth_kept : RKeepsTruths
truth_kept a law s fit = cut_truth a s (needed s) law fit (needed_is_closed a s fit)

pub keeps : (a : Alg) → Lawful a → (s : System) → SystemFits a s → verdict a (pass_r a s) ≡ verdict a s
keeps a law s fit = cut_keeps a s (needed s) law fit (needed_is_closed a s fit)

pub fits : (a : Alg) (s : System) → SystemFits a s → SystemFits a (pass_r a s)
fits a s fit = cut_fits a s (needed s) fit (needed_is_closed a s fit)
