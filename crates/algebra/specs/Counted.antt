-- A counting algebra as kept is lawful.
use Rattle.std.specs.Prelude.{◌≤◌, nat_le}
use Rattle.std.proofs.lemmas.Bool.{leb-true, and_parts}
use Rattle.rows.specs.Listed.{listed, listed_within}
use Rattle.definitions.specs.Alg.{Lawful}
use Rattle.algebra.specs.declared.counting.Counting.{Counting}
use Rattle.algebra.specs.Limits.{size_fits}
use Rattle.algebra.specs.Counting.{counted}
use Rattle.algebra.specs.Lists.{every_each}
use Rattle.algebra.specs.Lawfuls.{counting_lawful}

pub counted_lawful : (x : Counting) → Lawful (counted x)
counted_lawful x =
    let ns = listed x.sizes in
    counting_lawful ns (listed_within x.sizes)
    (every_each size_fits (λ n. (1 ≤ n) × (n ≤ 256)) (λ n e. let p = and_parts (nat_le 1 n) (nat_le n 256) e in (leb-true 1 n p.0, leb-true n 256 p.1)) ns x.fit)
