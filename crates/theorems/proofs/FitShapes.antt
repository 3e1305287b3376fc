-- What fits has the right shape.
use Rattle.std.proofs.Common.{◌≡◌, ℕ, suc, List, [], ◌∷◌, map, length, Some, refl, ap, ◌∙◌}
use Rattle.definitions.specs.Lists.{at}
use Rattle.definitions.specs.Alg.{Alg}
use Rattle.definitions.specs.Systems.{Term, Equation, System}
use Rattle.definitions.specs.ReadSystem.{Scope, Header, scope}
use Rattle.definitions.specs.Fits.{header_of, TermsFit, ValuesFit, SystemFits}
use Rattle.theorems.specs.KnowledgeLaws.{arities, Shaped}
use Rattle.theorems.proofs.Listing.{every_map, at_map_some, at_mapped}

pub values_long : (a : Alg) (ss vs : List ℕ) → ValuesFit a ss vs → length ss ≡ length vs
values_long a [] [] h = refl
values_long a [] (v ∷ vs) h = absurd h
values_long a (s ∷ ss) [] h = absurd h
values_long a (s ∷ ss) (v ∷ vs) h = ap suc (values_long a ss vs h.1)

pub terms_long : (a : Alg) (c : Scope) (ss : List ℕ) (ts : List Term) → TermsFit a c ss ts → length ss ≡ length ts
terms_long a c [] [] h = refl
terms_long a c [] (t ∷ ts) h = absurd h
terms_long a c (s ∷ ss) [] h = absurd h
terms_long a c (s ∷ ss) (t ∷ ts) h = ap suc (terms_long a c ss ts h.1)

arity_of : (es : List Equation) (n : ℕ) (h : Header) → at (map header_of es) n ≡ Some h → at (arities es) n ≡ Some (length h.sorts)
arity_of es n h e =
    let (q, eq, eh) = at_map_some header_of es n h e in
    at_mapped (λ (e : Equation). length e.sorts) es n q eq ∙ ap (λ (z : Header). Some (length z.sorts)) eh

pub fits_shaped : (a : Alg) (s : System) → SystemFits a s → Shaped s
fits_shaped a s fit = (
  arity_of s.equations s.start fit.header fit.there ∙ ap Some (values_long a fit.header.sorts s.values fit.values),
  every_map s.equations (λ e b. every_map e.clauses (λ c k. every_map c.occurrences (λ o f.
      arity_of s.equations o.target f.header f.there ∙
      ap Some (terms_long a (scope (header_of e)) f.header.sorts o.arguments f.fit)) k.fit) b.fit) fit.bodies,
)
