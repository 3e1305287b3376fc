-- Equal instances.
use Rattle.std.specs.Prelude.{Bool, ◌==◌}
use Rattle.std.specs.Cmp.Lexicographic.{pointwise}
use Rattle.std.specs.Ordering.{eq_of_both, on}
use Rattle.system.specs.declared.instance.Instance.{Instance}

-- the same equation and the same values
abbrev pub same_instance : Instance → Instance → Bool
same_instance = eq_of_both (on (λ i. i.equation) ◌==◌) (on (λ i. i.values) (pointwise ◌==◌))
