-- Terms in a row, by one step.
use Rattle.std.proofs.Common.{◌≡◌, ℕ, zero, suc, ◌+◌, ◌-◌, List, Some, None, Option, sym, refl, ap, ◌∙◌, sub-one, arith}
use Rattle.definitions.specs.Lists.{bind}
use Rattle.definitions.specs.Alg.{Alg}
use Rattle.definitions.specs.Systems.{Kind, Term, Terms, node, more}
use Rattle.terms.specs.Shapes.{Shape, opening, parts_counted, row, shape, what, behind}

behind_more : (t : Term) (o : Option (Terms × ℕ)) → behind (bind o (λ xs. Some (more t xs.0, xs.1))) ≡ behind o
behind_more t None = refl
behind_more t (Some xs) = refl

behind_node : (k : Kind) (o : Option (Terms × ℕ)) → behind (bind o (λ xs. Some (node k xs.0, xs.1))) ≡ behind o
behind_node k None = refl
behind_node k (Some xs) = refl

module _ (r : Shape Term) (f : List ℕ) where
  next_at : (n q : ℕ) (o : Option (Term × ℕ)) → behind o ≡ Some q → behind (bind o (λ x. bind (row r n f x.1) (λ xs. Some (more x.0 xs.0, xs.1)))) ≡ behind (row r n f q)
  next_at n q None e = absurd cc
  next_at n q (Some x) e = let i : x.1 ≡ q = cc in behind_more x.0 (row r n f x.1) ∙ ap (λ m. behind (row r n f m)) i

  none_at : (n : ℕ) (o : Option (Term × ℕ)) → behind o ≡ None → bind {B = Terms × ℕ} o (λ x. bind (row r n f x.1) (λ xs. Some (more x.0 xs.0, xs.1))) ≡ None
  none_at n None e = refl
  none_at n (Some x) e = absurd cc

  -- one term more of a row
  pub row_next : (n m p q : ℕ) → n ≡ m + 1 → behind (r f p) ≡ Some q → behind (row r n f p) ≡ behind (row r m f q)
  row_next zero m p q h e = absurd (omega arith)
  row_next (suc n) m p q h e = let i : n ≡ m = omega arith in next_at n q (r f p) e ∙ ap (λ k. behind (row r k f q)) i

  pub row_none : (n m p : ℕ) → n ≡ m + 1 → behind (r f p) ≡ None → behind (row r n f p) ≡ None
  row_none zero m p h e = absurd (omega arith)
  row_none (suc n) m p h e = ap behind (none_at n (r f p) e)

  pub row_end : (n p : ℕ) → n ≡ 0 → behind (row r n f p) ≡ Some p
  row_end n p e = ap (λ m. behind (row r m f p)) e

  pub row_first_none : (n p : ℕ) → (n ≡ 0 → ⊥) → behind (r f p) ≡ None → what (row r n f p) ≡ None
  row_first_none zero p ne e = absurd (ne refl)
  row_first_none (suc n) p ne e = ap what (none_at n (r f p) e)

module _ (a : Alg) (f : List ℕ) where
  behind_shape : (d : ℕ) (o : Option ((Kind × ℕ) × ℕ)) → behind (bind o (λ h. bind (row (shape a d) h.0.1 f h.1) (λ xs. Some (node h.0.0 xs.0, xs.1)))) ≡ bind o (λ h. behind (row (shape a d) h.0.1 f h.1))
  behind_shape d None = refl
  behind_shape d (Some h) = behind_node h.0.0 (row (shape a d) h.0.1 f h.1)

  shape_behind : (d p : ℕ) → (d ≡ 0 → ⊥) → behind (shape a d f p) ≡ bind (opening a f p) (λ h. behind (row (shape a (d - 1)) h.0.1 f h.1))
  shape_behind zero p ne = absurd (ne refl)
  shape_behind (suc d) p ne = rw sub-one (behind_shape d (opening a f p))

  behind_counted : (d : ℕ) (o : Option ((Kind × ℕ) × ℕ)) → bind o (λ h. behind (row (shape a d) h.0.1 f h.1)) ≡ bind (parts_counted o) (λ h. behind (row (shape a d) h.0 f h.1))
  behind_counted d None = refl
  behind_counted d (Some h) = refl

  -- where parts are counted, what is behind them; else nothing stands
  pub skip : (d p : ℕ) (o : Option (ℕ × ℕ)) → (d ≡ 0 → ⊥) → o ≡ parts_counted (opening a f p) → behind (shape a d f p) ≡ bind o (λ h. behind (row (shape a (d - 1)) h.0 f h.1))
  skip d p o ne e = shape_behind d p ne ∙ behind_counted (d - 1) (opening a f p) ∙ ap (λ o. bind o (λ h. behind (row (shape a (d - 1)) h.0 f h.1))) (sym e)
