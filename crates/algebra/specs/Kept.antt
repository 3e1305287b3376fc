-- What a table as kept means: the table of the grammar.
use Rattle.std.specs.Prelude.{ℕ, ◌+◌, Bool, ◌&&◌, ltb, leb, List, map, length, take, drop, ◌==◌, nat_le, nat_lt, slice_index}
use Rattle.rows.specs.Listed.{listed}
use Rattle.definitions.specs.Lists.{each, product}
use Rattle.definitions.specs.Alg.{sized}
use Rattle.definitions.specs.Tables.{TableOp, Table}
use Rattle.algebra.specs.Limits.{sizes_fit}
use Rattle.algebra.specs.declared.table.operation.Operation.{Operation}

-- the sorts of the arguments
abbrev pub args_of : Operation → List ℕ
args_of o = listed o.sorts

-- how many values it has
abbrev pub values_of : List ℕ → Operation → ℕ
values_of sizes o = product (sized sizes (args_of o))

abbrev pub kept_op : List ℕ → List ℕ → Operation → TableOp
kept_op sizes values o = record { args = args_of o; res = o.result; values = take (values_of sizes o) (drop o.offset values) }

-- sizes, and operations with their values among all
abbrev pub kept : List ℕ → List Operation → List ℕ → Table
kept sizes os values = record { sizes = sizes; ops = map (kept_op sizes values) os }

-- the values of each operation lie among all
abbrev pub roomy : List ℕ → List ℕ → List Operation → Bool
roomy sizes values os = each (λ o. leb (o.offset + values_of sizes o) (length values)) os

-- an operation keeps to the sorts and their sizes
abbrev pub op_sound : List ℕ → TableOp → Bool
op_sound sizes q =
    nat_le (length q.args) 3 && (each (λ s. ltb s (length sizes)) q.args && (nat_lt q.res (length sizes) && each (λ v. ltb v (slice_index sizes q.res)) q.values))

abbrev pub sizes_sound : List ℕ → Bool
sizes_sound sizes = (nat_le 1 (length sizes) && nat_le (length sizes) 16) && (slice_index sizes 0 == 2 && sizes_fit sizes)

abbrev pub table_sound : Table → Bool
table_sound t = sizes_sound t.sizes && (nat_le (length t.ops) 63 && each (op_sound t.sizes) t.ops)
