-- What is kept of what a reader reads.
use Rattle.std.specs.Prelude.{ℕ, List, map, Ok, Err, Option, Result}
use Rattle.faults.specs.declared.Reason.TheVariants.{NoSuchName}
use Rattle.faults.specs.declared.Stop.{Stop}
use Rattle.definitions.specs.Lists.{at, up_to}
use Rattle.definitions.specs.Alg.{Alg}
use Rattle.definitions.specs.Systems.{operation}
use Rattle.definitions.specs.Reading.{Step, next, stop, Reader, ◌>>=◌, ◌>>◌, follow, give, here, take, given, one_by_one}
use Rattle.definitions.specs.ReadSystem.{Sorted, of, suits}
use Rattle.system.specs.declared.term.Operation.{Operation}

-- a step with its term forgotten
abbrev pub sorts : Step Sorted → Step ℕ
sorts (next x q) = next x.the_sort q
sorts (stop r q) = stop r q

abbrev pub sort_only : Reader Sorted → Reader ℕ
sort_only r f p = sorts (r f p)

-- a step with its value forgotten
abbrev pub placed : {X : Type 0} → Step X → Step (Unit {0})
placed (next x q) = next tt q
placed (stop r q) = stop r q

abbrev pub skipping : {X : Type 0} → Reader X → Reader (Unit {0})
skipping r f p = placed (r f p)

-- the sort of a name, whose number stands at the place q, where it has one
abbrev pub named : Option ℕ → ℕ → ℕ → Option ℕ → Reader ℕ
named o q p need = do
  s ← given o NoSuchName q
  suits need s p
  give s

-- the sort of a name of w bits, where the sorts are those of all names
abbrev pub read_name : List ℕ → ℕ → ℕ → Option ℕ → Reader ℕ
read_name names w p need = do
  q ← here
  n ← take w
  named (at names n) q p need

-- a term whose operation is read, and its arguments from q on are not yet
abbrev pub operated : Alg → (Option ℕ → Reader Sorted) → List ℕ → ℕ → Result Operation Stop → Step Sorted
operated a part f q (Ok o) = follow (one_by_one (λ k. part (a.arg_sort o.op k)) (up_to o.count) f q) (λ ts t. next (of o.sort (operation o.op) (map (λ t. t.the_term) ts)) t)
operated a part f q (Err e) = stop e.reason e.place
