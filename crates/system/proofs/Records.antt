-- Equal records.
use Rattle.std.proofs.Common.{◌≡◌, Bool, true, false, ◌&&◌, ◌==◌, Decides, ap, refl}
use Rattle.std.specs.Cmp.Lexicographic.{pointwise}
use Rattle.std.proofs.lemmas.Bool.{false≢true}
use Rattle.std.proofs.lemmas.Bool.Decides.{Decides-eqb}
use Rattle.std.proofs.lemmas.Slice.Eq.{slice_eq-Decides}
use Rattle.system.specs.declared.instance.Instance.{Instance}
use Rattle.system.specs.Instances.{same_instance}

pub by_values : (a b : Instance) (r : Bool) → a.equation ≡ b.equation → Decides r (a.values ≡ b.values) → Decides r (a ≡ b)
by_values a b r e h = ((λ t. let v = h.0 t in λ i. record { equation = e i; values = v i }), λ p. h.1 (ap (λ (x : Instance). x.values) p))

-- the test of equal instances says whether they are equal
pub same_instance_decides : (a b : Instance) → Decides (same_instance a b) (a ≡ b)
same_instance_decides a b = go (a.equation == b.equation) (Decides-eqb a.equation b.equation) (pointwise ◌==◌ a.values b.values) (slice_eq-Decides Decides-eqb a.values b.values _ refl)
  where
    go : (p : Bool) → Decides p (a.equation ≡ b.equation) → (q : Bool) → Decides q (a.values ≡ b.values) → Decides (p && q) (a ≡ b)
    go true h q k = by_values a b q (h.0 refl) k
    go false h q k = ((λ t. absurd (false≢true t)), λ p. h.1 (ap (λ (x : Instance). x.equation) p))
