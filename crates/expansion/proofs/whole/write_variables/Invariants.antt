use Rattle.std.proofs.Common.{ℕ, ◌≤◌, [], length}
use Rattle.definitions.specs.Systems.{System}
use Rattle.definitions.specs.Fits.{SystemFits}
use Rattle.bits.specs.declared.writer.BitWriter.{BitWriter}
use Rattle.system.specs.Whole.{Outlined}
use Rattle.expansion.specs.Drafts.{Drafted}
use Rattle.expansion.proofs.Numbering.{Walks}
use Rattle.expansion.proofs.whole.write_variables.Given as goal

abbrev pub invariant-loop-k : goal.invariant-loop-k
invariant-loop-k g l =
    let a = g.G.Algebra.meaning l.accepted.alg.now in
    (s : System) (first : BitWriter) (places : ℕ) → length l.accepted.file.now ≤ 65536 → Outlined a l.accepted.file.now s l.accepted.outline.now → SystemFits a s → Drafted s first places [] [] l.fn.draft → Walks a s first places l.k l.draft
