-- What a bench holds.
use Rattle.std.specs.Prelude.{ℕ, List, take}
use Rattle.bench.specs.declared.Bench.{Bench}

abbrev pub holding : Bench → List ℕ
holding b = take b.len b.bytes
