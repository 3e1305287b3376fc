use Rattle.std.proofs.Common.{◌≡◌, ℕ, List, sym, subst}
use Rattle.definitions.specs.Reading.{next}
use Rattle.definitions.specs.ReadSystem.{greatest_depth, read_term}
use Rattle.system.proofs.walk.Accepted.known.Goals as goal

pub returns : goal.returns
returns g c =
    let a = g.G.Algebra.meaning c.args.self.now.alg.now in
    let v = c.view.result in
    record {
      value = λ ps vs p w. rw (c.view.ensures.file, c.view.ensures.place) at (c.known_value.ensures.value ps vs p w);
      accepted = λ s need x q short e ps vs p w.
          let d = subst (λ (f : List ℕ). read_term a s greatest_depth need f c.args.at ≡ next x q) (sym c.view.ensures.file) e in
          c.known_value.ensures.accepted s need x q (rw c.view.ensures.file short) (subst (λ (i : ℕ). read_term a s greatest_depth need v.bytes.now i ≡ next x q) (sym c.view.ensures.place) d) ps vs p w;
    }
