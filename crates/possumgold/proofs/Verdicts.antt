-- The verdict from the histories of a bench.
use Rattle.std.proofs.Common.{◌≡◌, ℕ, nat_eq, Bool, true, false, List, take, Some, Ok, Option, refl, inl, ap, ◌∙◌}
use Rattle.std.specs.Option.{option_eq}
use Rattle.definitions.specs.Lists.{at}
use Rattle.definitions.specs.Alg.{Alg, Lawful}
use Rattle.definitions.specs.Algebras.{truth}
use Rattle.definitions.specs.Calls.{Solving}
use Rattle.definitions.specs.Past.{expands}
use Rattle.definitions.specs.Histories.{Follows}
use Rattle.possumgold.specs.Told.{Since, IsVerdict}

is_one : (b : Bool) → option_eq nat_eq (Some (truth b)) (Some 1) ≡ b
is_one true = refl
is_one false = refl

-- the last expand of a bench wrote the file that is solved, and the first byte is one
pub verdict_is : (a : Alg) → Lawful a → (f h : List ℕ) (places : ℕ) (before after : List ℕ) (n k : ℕ) → Since a f h → Follows (expands a places before after (Ok (n, k))) h h →
    (old new : List ℕ) (m : ℕ) → Solving (take n after) old new (Ok m) → (o : Option ℕ) → o ≡ at new 0 → (b : Bool) → b ≡ option_eq nat_eq o (Some 1) → IsVerdict a f b
verdict_is a law f h places before after n k s w old new m solved o e b i =
    let kept = (w s.events s.past).1.kept a law f (refl, s.served) in
    let byte = (kept.solved (take n after) (inl refl)).byte old new m solved in
    (kept.first, (kept.loaded, i ∙ (ap (λ p. option_eq nat_eq p (Some 1)) (e ∙ byte) ∙ is_one _)))
