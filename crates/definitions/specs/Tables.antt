-- The table algebra, and the table file: reading and writing.
use Rattle.std.specs.Prelude.{ℕ, suc, ◌+◌, ◌-◌, ◌*◌, List, [], ◌∷◌, ◌++◌, map, length, ◌==◌, slice_index}
use Rattle.faults.specs.declared.Reason.TheVariants.{NoSuchSort, ValueTooLarge, TruthSortSize}
use Rattle.definitions.specs.Lists.{flat, product}
use Rattle.definitions.specs.Bits.{bits, packed}
use Rattle.definitions.specs.Alg.{Alg, Op, sized, algebra}
use Rattle.definitions.specs.Reading.{Reading, Reader, ◌>>=◌, ◌>>◌, give, here, must, take, take_for, below, repeated, file}

-- the place of the arguments in the list of values, the last argument running fastest
abbrev pub place_of : ℕ → List ℕ → List ℕ → ℕ
place_of n [] xs = n
place_of n (z ∷ zs) [] = n
place_of n (z ∷ zs) (x ∷ xs) = place_of (n * z + x) zs xs

pub record TableOp : Type 0 where
  pub args : List ℕ
  pub res : ℕ
  pub values : List ℕ

pub record Table : Type 0 where
  pub sizes : List ℕ
  pub ops : List TableOp

abbrev pub tabled : List ℕ → TableOp → Op
tabled sizes q = record { args = q.args; res = q.res; run = λ xs. slice_index q.values (place_of 0 (sized sizes q.args) xs) }

abbrev pub table : Table → Alg
table t = algebra t.sizes (map (tabled t.sizes) t.ops)

-- reading
abbrev pub read_size : Reader ℕ
read_size = do
  n ← take 8
  give (suc n)

abbrev pub read_sizes : Reader (List ℕ)
read_sizes = do
  n ← take 4
  p ← here
  z ← read_size
  must (z == 2) TruthSortSize p
  zs ← repeated read_size n
  give (z ∷ zs)

abbrev pub read_sort : List ℕ → Reader ℕ
read_sort sizes = take_for 4 (below (length sizes)) NoSuchSort

abbrev pub read_op : List ℕ → Reader TableOp
read_op sizes = do
  n ← take 2
  args ← repeated (read_sort sizes) n
  res ← read_sort sizes
  vs ← repeated (take_for 8 (below (slice_index sizes res)) ValueTooLarge) (product (sized sizes args))
  give (record { args = args; res = res; values = vs })

abbrev pub read_table : Reader Table
read_table = do
  zs ← read_sizes
  n ← take 6
  os ← repeated (read_op zs) n
  give (record { sizes = zs; ops = os })

abbrev pub table_reading : List ℕ → Reading Table
table_reading f = file 16384 read_table f

-- writing
abbrev pub op_bits : TableOp → List ℕ
op_bits q = bits 2 (length q.args) ++ (flat (map (bits 4) q.args) ++ (bits 4 q.res ++ flat (map (bits 8) q.values)))

abbrev pub table_bits : Table → List ℕ
table_bits t =
    bits 4 (length t.sizes - 1) ++ (flat (map (λ n. bits 8 (n - 1)) t.sizes) ++
    (bits 6 (length t.ops) ++ flat (map op_bits t.ops)))

abbrev pub table_written : Table → List ℕ
table_written t = packed (table_bits t)
