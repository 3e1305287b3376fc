-- What a counting algebra means.
use Rattle.rows.specs.Listed.{listed}
use Rattle.definitions.specs.Alg.{Alg}
use Rattle.definitions.specs.Algebras.{counting}
use Rattle.algebra.specs.declared.counting.Counting.{Counting}

abbrev pub counted : Counting → Alg
counted c = counting (listed c.sizes)
