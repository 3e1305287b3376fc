-- What a solver has for the words of the definitions.
use Rattle.std.specs.Prelude.{ℕ, Bool, List, slice_index_or}
use Rattle.rows.specs.Listed.{listed}
use Rattle.definitions.specs.Lists.{at}
use Rattle.definitions.specs.Solution.{Block}
use Rattle.definitions.specs.Boolean.{Variable}
use Rattle.system.specs.declared.header.Sign.{Sign as KeptSign}
use Rattle.system.specs.declared.header.Sign.TheVariants.{Least}
use Rattle.boolean.specs.declared.solver.Solver.{Solver}
use Rattle.boolean.specs.Ranked.{variables_of, variable_body, in_block, block_at, blocks_of}

-- the variables of the file
abbrev pub variables : Solver → List Variable
variables s = variables_of s.file.now

abbrev pub body : Solver → (ℕ → Bool) → ℕ → Bool
body s = variable_body (variables s)

-- the sign of the block k
abbrev pub sign : Solver → ℕ → KeptSign
sign s k = slice_index_or (listed s.blocks.now.signs) k Least

-- is a variable in the block k
abbrev pub inside : Solver → ℕ → ℕ → Bool
inside s k j = in_block (at (variables s) j) s.blocks.now.ranks k

abbrev pub block : Solver → ℕ → Block ℕ
block s k = block_at (variables s) s.blocks.now.ranks k (sign s k)

-- the blocks below k, the outermost first
abbrev pub blocks_below : Solver → ℕ → List (Block ℕ)
blocks_below s k = blocks_of (variables s) s.blocks.now k
