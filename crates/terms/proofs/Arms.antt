-- What a term as read stands for.
use Rattle.std.proofs.Common.{◌≡◌, ℕ, zero, suc, ◌-◌, ◌≤◌, Bool, true, false, ltb, List, Some, None, Option, sym, refl, ap, ◌∙◌, sub-one, arith}
use Rattle.std.proofs.lemmas.Bool.{ltb-true, ltb-false}
use Rattle.std.specs.Option.{option_map}
use Rattle.definitions.specs.Lists.{bind}
use Rattle.definitions.specs.Alg.{Alg, Lawful}
use Rattle.definitions.specs.Systems.{Kind, Terms, node}
use Rattle.terms.specs.declared.view.Kind.{Kind as ReadKind}
use Rattle.terms.specs.declared.view.Opening.{Opening}
use Rattle.terms.specs.Shapes.{opening, row, shape, what, standing}
use Rattle.terms.specs.Shown.{kind_of, opening_of}

what_node : (k : Kind) (o : Option (Terms × ℕ)) → what (bind o (λ xs. Some (node k xs.0, xs.1))) ≡ option_map (node k) (what o)
what_node k None = refl
what_node k (Some xs) = refl

module _ (a : Alg) (f : List ℕ) where
  what_shape : (d : ℕ) (o : Option ((Kind × ℕ) × ℕ)) → what (bind o (λ h. bind (row (shape a d) h.0.1 f h.1) (λ xs. Some (node h.0.0 xs.0, xs.1)))) ≡ bind o (λ h. option_map (node h.0.0) (what (row (shape a d) h.0.1 f h.1)))
  what_shape d None = refl
  what_shape d (Some h) = what_node h.0.0 (row (shape a d) h.0.1 f h.1)

  shape_what : (d p : ℕ) → (d ≡ 0 → ⊥) → standing a d f p ≡ bind (opening a f p) (λ h. option_map (node h.0.0) (what (row (shape a (d - 1)) h.0.1 f h.1)))
  shape_what zero p ne = absurd (ne refl)
  shape_what (suc d) p ne = rw sub-one (what_shape d (opening a f p))

  -- a term whose kind is known, with its parts
  pub arm : (d p : ℕ) → (d ≡ 0 → ⊥) → (o : Opening) → opening_of (Some o) ≡ opening a f p → (k : ReadKind) → o.kind ≡ k →
      (ts : Option Terms) → ts ≡ what (row (shape a (d - 1)) o.parts f o.next) → option_map (node (kind_of k)) ts ≡ standing a d f p
  arm d p ne o e k ek ts et =
      let whole : standing a d f p ≡ option_map (node (kind_of o.kind)) (what (row (shape a (d - 1)) o.parts f o.next)) = shape_what d p ne ∙ ap (λ z. bind z (λ h. option_map (node h.0.0) (what (row (shape a (d - 1)) h.0.1 f h.1)))) (sym e) in
      sym (whole ∙ ap (λ j. option_map (node (kind_of j)) (what (row (shape a (d - 1)) o.parts f o.next))) ek ∙ ap (option_map (node (kind_of k))) (sym et))

pub few_parts : (a : Alg) → Lawful a → (o n : ℕ) → a.arity o ≡ Some n → n ≤ 3
few_parts a l o n e = go (ltb o a.ops) refl
  where
    go : (b : Bool) → ltb o a.ops ≡ b → n ≤ 3
    go true h =
        let x = l.op o (ltb-true o a.ops h) in
        let y : n ≡ x.0 = cc x.1 in
        let z = x.2 in
        omega arith
    go false h =
        let x = (l.no_op o (ltb-false o a.ops h)).0 in
        absurd cc
