-- A term that is read fits, and its bits stand where it was read.
use Rattle.faults.specs.declared.Reason.TheVariants.{NoSuchSort, NoSuchName, ValueTooLarge}
use Rattle.std.proofs.Common.{◌≡◌, ℕ, zero, suc, ◌+◌, ◌*◌, ◌<◌, ◌≤◌, List, [], ◌∷◌, ◌++◌, map, length, Some, None, Option, sym, refl, ap, ◌∙◌, subst, subst₂, append-nil, add-zero, arith, length-append}
use Rattle.definitions.specs.Lists.{at, flat, up_to, from}
use Rattle.definitions.specs.Bits.{bits, Stands}
use Rattle.definitions.specs.Alg.{Alg}
use Rattle.definitions.specs.Systems.{Kind, parameter, variable, value, operation, not, and, or, equal, Term, node, none, more, terms, folds}
use Rattle.definitions.specs.Reading.{Step, next, stop, Reader, take, follow, one_by_one, repeated, below, given}
use Rattle.definitions.specs.ReadSystem.{Scope, Sorted, of, suits, read_term, read_parameter, read_variable, read_value, read_operation, read_truths, read_equal, read_kind}
use Rattle.definitions.specs.Written.{kind_bits, term_bits}
use Rattle.definitions.specs.Fits.{Fits, FitsArgs, fit_parameter, fit_variable, fit_value, fit_operation, fit_not, fit_and, fit_or, fit_equal, fit_none, fit_more, Needs}
use Rattle.theorems.proofs.Fields.{stands_most, stands_join, took, follow_inv, given_inv, suits_inv, below_inv}

-- two in a row
record Two {A : Type 0} (r : Reader A) (f : List ℕ) (p : ℕ) (ts : List A) (q : ℕ) : Type 0 where
  t : A
  u : A
  p' : ℕ
  first : r f p ≡ next t p'
  second : r f p' ≡ next u q
  both : ts ≡ t ∷ u ∷ []

two : {A : Type 0} (r : Reader A) (f : List ℕ) (p : ℕ) (ts : List A) (q : ℕ) → repeated r 2 f p ≡ next ts q → Two r f p ts q
two {A} r f p ts q = go (r f p) refl
  where
    rest : (t : A) (p' : ℕ) → r f p ≡ next t p' → (m : Step A) → r f p' ≡ m →
        follow (follow m (λ y n. next (y ∷ []) n)) (λ ys n. next (t ∷ ys) n) ≡ next ts q → Two r f p ts q
    rest t p' e (next u p'') e' h =
        let eq : p'' ≡ q = cc in
        let ets : ts ≡ t ∷ u ∷ [] = cc in
        record { t = t; u = u; p' = p'; first = e; second = e' ∙ ap (next u) eq; both = ets }
    rest t p' e (stop w n) e' h = absurd cc

    go : (m : Step A) → r f p ≡ m → follow m (λ t n. follow (follow (r f n) (λ y n'. next (y ∷ []) n')) (λ ys n'. next (t ∷ ys) n')) ≡ next ts q →
        Two r f p ts q
    go (next t p') e h = rest t p' e (r f p') refl h
    go (stop w n) e h = absurd cc

pub record Got (a : Alg) (c : Scope) (f : List ℕ) (d : ℕ) (need : Option ℕ) (p : ℕ) (x : Sorted) (q : ℕ) : Type 0 where
  pub fits : Fits a c d x.the_sort x.the_term
  pub needs : Needs need x.the_sort
  pub stands : Stands f p (term_bits x.the_term)
  pub behind : q ≡ p + length (term_bits x.the_term)

module _ (a : Alg) (c : Scope) (f : List ℕ) (d : ℕ) where
  abbrev Sound : Reader Sorted → ℕ → Option ℕ → Type 0
  Sound r p need = (x : Sorted) (q : ℕ) → r f (p + 3) ≡ next x q → Got a c f (suc d) need p x q

  onto : (need : Option ℕ) (p : ℕ) (y x : Sorted) (r q : ℕ) → next y r ≡ next x q → Got a c f (suc d) need p y r → Got a c f (suc d) need p x q
  onto need p y x r q e g =
      let ex : y ≡ x = cc in
      let eq : r ≡ q = cc in
      subst (λ n. Got a c f (suc d) need p x n) eq (subst (λ z. Got a c f (suc d) need p z r) ex g)

  nil_end : (p : ℕ) (bs : List ℕ) → Stands f p bs → Stands f p (bs ++ [])
  nil_end p bs h = subst (Stands f p) (sym (append-nil bs)) h

  record GotArgs (o k n p : ℕ) (xs : List Sorted) (q : ℕ) : Type 0 where
    fit : FitsArgs a c d o k n (terms (map (λ (x : Sorted). x.the_term) xs))
    stand : Stands f p (flat (folds (terms (map (λ (x : Sorted). x.the_term) xs)) (λ kind parts. kind_bits kind ++ flat parts)))
    last : q ≡ p + length (flat (folds (terms (map (λ (x : Sorted). x.the_term) xs)) (λ kind parts. kind_bits kind ++ flat parts)))

  abbrev Ih : Type 0
  Ih = (need : Option ℕ) (p : ℕ) (x : Sorted) (q : ℕ) → read_term a c d need f p ≡ next x q → Got a c f d need p x q

  abbrev part : Option ℕ → Reader Sorted
  part = read_term a c d

  -- the arguments of an operation
  abbrev Row : ℕ → ℕ → ℕ → Type 0
  Row o k n = (p : ℕ) (xs : List Sorted) (q : ℕ) → one_by_one (λ j. part (a.arg_sort o j)) (from k n) f p ≡ next xs q → GotArgs o k n p xs q

  abbrev There : ℕ → ℕ → ℕ → Type 0
  There o k n = (j : ℕ) → k ≤ j → j < k + n → (s : ℕ) × (a.arg_sort o j ≡ Some s)

  row_none : (o k p : ℕ) (xs : List Sorted) (q : ℕ) → p ≤ 8 * length f → next [] p ≡ next xs q → GotArgs o k 0 p xs q
  row_none o k p xs q le e =
      let ex : [] ≡ xs = cc in
      let eq : p ≡ q = cc in
      subst (λ ys. GotArgs o k 0 p ys q) ex (record { fit = fit_none; stand = le; last = sym eq ∙ sym (add-zero p) })

  row_more : (o k n p : ℕ) (x : Sorted) (p₂ : ℕ) (ys : List Sorted) (q : ℕ) (s : ℕ) → a.arg_sort o k ≡ Some s → Got a c f d (a.arg_sort o k) p x p₂ →
      GotArgs o (suc k) n p₂ ys q → GotArgs o k (suc n) p (x ∷ ys) q
  row_more o k n p x p₂ ys q s e g r =
      let es : s ≡ x.the_sort = subst (λ z. Needs z x.the_sort) e g.needs in
      let rest = flat (folds (terms (map (λ (y : Sorted). y.the_term) ys)) (λ kind parts. kind_bits kind ++ flat parts)) in
      record {
        fit = fit_more (e ∙ ap Some es) g.fits r.fit;
        stand = stands_join f p (term_bits x.the_term) rest g.stands (subst (λ m. Stands f m rest) g.behind r.stand);
        last = omega (arith, r.last, g.behind, length-append (term_bits x.the_term) rest);
      }

  module _ (ih : Ih) where
    got_row : (n o k : ℕ) → There o k n → (p : ℕ) → p ≤ 8 * length f → (xs : List Sorted) (q : ℕ) →
        one_by_one (λ j. part (a.arg_sort o j)) (from k n) f p ≡ next xs q → GotArgs o k n p xs q
    got_row zero o k there p le xs q e = row_none o k p xs q le e
    got_row (suc n) o k there p le xs q e =
        let (x, p₂, e₂, k₂) = follow_inv (part (a.arg_sort o k) f p) _ xs q e in
        let (ys, p₃, e₃, k₃) = follow_inv (one_by_one (λ j. part (a.arg_sort o j)) (from (suc k) n) f p₂) _ xs q k₂ in
        apart x p₂ ys p₃ (ih (a.arg_sort o k) p x p₂ e₂) (λ le'. got_row n o (suc k) (λ j l l'. there j (omega arith) (omega arith)) p₂ le' ys p₃ e₃) k₃
      where
        apart : (x : Sorted) (p₂ : ℕ) (ys : List Sorted) (p₃ : ℕ) → Got a c f d (a.arg_sort o k) p x p₂ →
            (p₂ ≤ 8 * length f → GotArgs o (suc k) n p₂ ys p₃) → next (x ∷ ys) p₃ ≡ next xs q → GotArgs o k (suc n) p xs q
        apart x p₂ ys p₃ g r h =
            let (s, e) = there k (omega arith) (omega arith) in
            let ex : x ∷ ys ≡ xs = cc in
            let eq : p₃ ≡ q = cc in
            subst₂ (λ l m. GotArgs o k (suc n) p l m) ex eq
            (row_more o k n p x p₂ ys p₃ s e g
            (r (subst (λ m. m ≤ 8 * length f) (sym g.behind) (stands_most f p (term_bits x.the_term) g.stands))))

  module _ (p : ℕ) (need : Option ℕ) where
    got_parameter : Stands f p (bits 3 0) → Sound (read_parameter a c part p need) p need
    got_parameter h x q e =
        let (n, p₂, e₂, k₂) = follow_inv (take 4 f (p + 3)) _ x q e in
        let (s, p₃, e₃, k₃) = follow_inv (given (at c.parameters n) NoSuchName (p + 3) f p₂) _ x q k₂ in
        let (_, p₄, e₄, k₄) = follow_inv (suits need s p f p₃) _ x q k₃ in
        let t = took f (p + 3) 4 n p₂ e₂ in
        let g = given_inv (at c.parameters n) NoSuchName (p + 3) f p₂ s p₃ e₃ in
        let u = suits_inv need s p f p₃ tt p₄ e₄ in
        onto need p (of s (parameter n) []) x p₄ q k₄
        (record {
          fits = fit_parameter t.small g.0;
          needs = u.0;
          stands = nil_end p (bits 3 0 ++ bits 4 n) (stands_join f p (bits 3 0) (bits 4 n) h t.stands);
          behind = omega (arith, u.1, g.1, t.behind);
        })

    got_variable : Stands f p (bits 3 1) → Sound (read_variable a c part p need) p need
    got_variable h x q e =
        let (n, p₂, e₂, k₂) = follow_inv (take 2 f (p + 3)) _ x q e in
        let (s, p₃, e₃, k₃) = follow_inv (given (at c.variables n) NoSuchName (p + 3) f p₂) _ x q k₂ in
        let (_, p₄, e₄, k₄) = follow_inv (suits need s p f p₃) _ x q k₃ in
        let t = took f (p + 3) 2 n p₂ e₂ in
        let g = given_inv (at c.variables n) NoSuchName (p + 3) f p₂ s p₃ e₃ in
        let u = suits_inv need s p f p₃ tt p₄ e₄ in
        onto need p (of s (variable n) []) x p₄ q k₄
        (record {
          fits = fit_variable t.small g.0;
          needs = u.0;
          stands = nil_end p (bits 3 1 ++ bits 2 n) (stands_join f p (bits 3 1) (bits 2 n) h t.stands);
          behind = omega (arith, u.1, g.1, t.behind);
        })

    got_value : Stands f p (bits 3 2) → Sound (read_value a c part p need) p need
    got_value h x q e =
        let (s, p₂, e₂, k₂) = follow_inv (take 4 f (p + 3)) _ x q e in
        let (z, p₃, e₃, k₃) = follow_inv (given (a.size s) NoSuchSort (p + 3) f p₂) _ x q k₂ in
        let (_, p₄, e₄, k₄) = follow_inv (suits need s p f p₃) _ x q k₃ in
        let (v, p₅, e₅, k₅) = follow_inv (follow (take 8 f p₄) (λ n r. given (below z n) ValueTooLarge p₄ f r)) _ x q k₄ in
        let (w, p₆, e₆, k₆) = follow_inv (take 8 f p₄) (λ n r. given (below z n) ValueTooLarge p₄ f r) v p₅ e₅ in
        let t = took f (p + 3) 4 s p₂ e₂ in
        let g = given_inv (a.size s) NoSuchSort (p + 3) f p₂ z p₃ e₃ in
        let u = suits_inv need s p f p₃ tt p₄ e₄ in
        let t' = took f p₄ 8 w p₆ e₆ in
        let g' = given_inv (below z w) ValueTooLarge p₄ f p₆ v p₅ k₆ in
        let b = below_inv z w v g'.0 in
        let place : p₄ ≡ p + 3 + 4 = omega (arith, u.1, g.1, t.behind) in
        let there : Stands f (p + 3 + 4) (bits 8 v) = subst₂ (λ m n. Stands f m (bits 8 n)) place b.0 t'.stands in
        onto need p (of s (value s v) []) x p₅ q k₅
        (record {
          fits = fit_value t.small (omega (arith, b.0, t'.small)) g.0 (omega (arith, b.0, b.1));
          needs = u.0;
          stands = nil_end p (bits 3 2 ++ (bits 4 s ++ bits 8 v))
              (stands_join f p (bits 3 2) (bits 4 s ++ bits 8 v) h (stands_join f (p + 3) (bits 4 s) (bits 8 v) t.stands there));
          behind = omega (arith, place, g'.1, t'.behind);
        })

    module _ (ih : Ih) where
      got_not : Stands f p (bits 3 4) → Sound (read_truths a c part p need not 1) p need
      got_not h x q e =
          let (_, p₂, e₂, k₂) = follow_inv (suits need 0 p f (p + 3)) _ x q e in
          let (ts, p₃, e₃, k₃) = follow_inv (repeated (part (Some 0)) 1 f p₂) _ x q k₂ in
          let (t, p₄, e₄, k₄) = follow_inv (part (Some 0) f p₂) _ ts p₃ e₃ in
          let u = suits_inv need 0 p f (p + 3) tt p₂ e₂ in
          let g = ih (Some 0) p₂ t p₄ e₄ in
          let est : t ∷ [] ≡ ts = cc in
          let ep : p₄ ≡ p₃ = cc in
          onto need p (of 0 not (t.the_term ∷ [])) x p₃ q (subst (λ ys. next (of 0 not (map (λ (y : Sorted). y.the_term) ys)) p₃ ≡ next x q) (sym est) k₃)
          (record {
            fits = fit_not (subst (λ n. Fits a c d n t.the_term) (sym g.needs) g.fits);
            needs = u.0;
            stands = stands_join f p (bits 3 4) (term_bits t.the_term ++ []) h
                (nil_end (p + 3) (term_bits t.the_term) (subst (λ m. Stands f m (term_bits t.the_term)) u.1 g.stands));
            behind = omega (arith, u.1, ep, g.behind, length-append (term_bits t.the_term) []);
          })

      -- two parts behind three bits
      joined : (k : ℕ) (t u : Term) (p₂ p₃ : ℕ) → Stands f p (bits 3 k) → p₂ ≡ p + 3 → Stands f p₂ (term_bits t) → p₃ ≡ p₂ + length (term_bits t) →
          Stands f p₃ (term_bits u) → Stands f p (bits 3 k ++ (term_bits t ++ (term_bits u ++ [])))
      joined k t u p₂ p₃ h e₂ h₂ e₃ h₃ =
          stands_join f p (bits 3 k) (term_bits t ++ (term_bits u ++ [])) h
          (stands_join f (p + 3) (term_bits t) (term_bits u ++ []) (subst (λ m. Stands f m (term_bits t)) e₂ h₂)
          (nil_end (p + 3 + length (term_bits t)) (term_bits u)
          (subst (λ m. Stands f m (term_bits u)) (e₃ ∙ ap (λ m. m + length (term_bits t)) e₂) h₃)))

      two_long : (t u : Term) (p₂ p₃ q : ℕ) → p₂ ≡ p + 3 → p₃ ≡ p₂ + length (term_bits t) → q ≡ p₃ + length (term_bits u) →
          q ≡ p + suc (suc (suc (length (term_bits t ++ (term_bits u ++ [])))))
      two_long t u p₂ p₃ q e₂ e₃ e₄ = omega (arith, length-append (term_bits t) (term_bits u ++ []), length-append (term_bits u) [])

      -- and, or
      got_two : (k : ℕ) (kind : Kind) → kind_bits kind ≡ bits 3 k →
          ((t u : Term) → Fits a c d 0 t → Fits a c d 0 u → Fits a c (suc d) 0 (node kind (more t (more u none)))) →
          Stands f p (bits 3 k) → Sound (read_truths a c part p need kind 2) p need
      got_two k kind ek fit h x q e =
          let (_, p₂, e₂, k₂) = follow_inv (suits need 0 p f (p + 3)) _ x q e in
          let (ts, p₃, e₃, k₃) = follow_inv (repeated (part (Some 0)) 2 f p₂) _ x q k₂ in
          apart p₂ p₃ ts (suits_inv need 0 p f (p + 3) tt p₂ e₂) (two (part (Some 0)) f p₂ ts p₃ e₃) k₃
        where
          apart : (p₂ p₃ : ℕ) (ts : List Sorted) → Needs need 0 × (p₂ ≡ p + 3) → Two (part (Some 0)) f p₂ ts p₃ →
              next (of 0 kind (map (λ (y : Sorted). y.the_term) ts)) p₃ ≡ next x q → Got a c f (suc d) need p x q
          apart p₂ p₃ ts n w k₃ =
              let t = w.t in
              let u = w.u in
              let g = ih (Some 0) p₂ t w.p' w.first in
              let g' = ih (Some 0) w.p' u p₃ w.second in
              onto need p (of 0 kind (t.the_term ∷ u.the_term ∷ [])) x p₃ q
              (subst (λ ys. next (of 0 kind (map (λ (y : Sorted). y.the_term) ys)) p₃ ≡ next x q) w.both k₃)
              (record {
                fits = fit t.the_term u.the_term (subst (λ m. Fits a c d m t.the_term) (sym g.needs) g.fits)
                    (subst (λ m. Fits a c d m u.the_term) (sym g'.needs) g'.fits);
                needs = n.0;
                stands = subst (λ bs. Stands f p (bs ++ (term_bits t.the_term ++ (term_bits u.the_term ++ [])))) (sym ek)
                    (joined k t.the_term u.the_term p₂ w.p' h n.1 g.stands g.behind g'.stands);
                behind = subst (λ bs. p₃ ≡ p + length (bs ++ (term_bits t.the_term ++ (term_bits u.the_term ++ [])))) (sym ek)
                    (two_long t.the_term u.the_term p₂ w.p' p₃ n.1 g.behind g'.behind);
              })

      got_equal : Stands f p (bits 3 7) → Sound (read_equal a c part p need) p need
      got_equal h x q e =
          let (_, p₂, e₂, k₂) = follow_inv (suits need 0 p f (p + 3)) _ x q e in
          let (t, p₃, e₃, k₃) = follow_inv (part None f p₂) _ x q k₂ in
          let (u, p₄, e₄, k₄) = follow_inv (part (Some t.the_sort) f p₃) _ x q k₃ in
          let n = suits_inv need 0 p f (p + 3) tt p₂ e₂ in
          let g = ih None p₂ t p₃ e₃ in
          let g' = ih (Some t.the_sort) p₃ u p₄ e₄ in
          onto need p (of 0 equal (t.the_term ∷ u.the_term ∷ [])) x p₄ q k₄
          (record {
            fits = fit_equal g.fits (subst (λ m. Fits a c d m u.the_term) (sym g'.needs) g'.fits);
            needs = n.0;
            stands = joined 7 t.the_term u.the_term p₂ p₃ h n.1 g.stands g.behind g'.stands;
            behind = two_long t.the_term u.the_term p₂ p₃ p₄ n.1 g.behind g'.behind;
          })

      got_operation : ((o n : ℕ) → a.arity o ≡ Some n → There o 0 n) → Stands f p (bits 3 3) → Sound (read_operation a c part p need) p need
      got_operation there h x q e =
          let (o, p₂, e₂, k₂) = follow_inv (take 6 f (p + 3)) _ x q e in
          let (n, p₃, e₃, k₃) = follow_inv (given (a.arity o) NoSuchName (p + 3) f p₂) _ x q k₂ in
          let (s, p₄, e₄, k₄) = follow_inv (given (a.res_sort o) NoSuchName (p + 3) f p₃) _ x q k₃ in
          let (_, p₅, e₅, k₅) = follow_inv (suits need s p f p₄) _ x q k₄ in
          let (xs, p₆, e₆, k₆) = follow_inv (one_by_one (λ j. part (a.arg_sort o j)) (up_to n) f p₅) _ x q k₅ in
          let t = took f (p + 3) 6 o p₂ e₂ in
          let g₁ = given_inv (a.arity o) NoSuchName (p + 3) f p₂ n p₃ e₃ in
          let g₂ = given_inv (a.res_sort o) NoSuchName (p + 3) f p₃ s p₄ e₄ in
          let u = suits_inv need s p f p₄ tt p₅ e₅ in
          let place : p₅ ≡ p + 3 + 6 = u.1 ∙ g₂.1 ∙ g₁.1 ∙ t.behind in
          apart o n s p₅ xs p₆ t.small t.stands g₁.0 g₂.0 u.0 place e₆ k₆
        where
          apart : (o n s p₅ : ℕ) (xs : List Sorted) (p₆ : ℕ) → o < 64 → Stands f (p + 3) (bits 6 o) → a.arity o ≡ Some n → a.res_sort o ≡ Some s →
              Needs need s → p₅ ≡ p + 3 + 6 → one_by_one (λ j. part (a.arg_sort o j)) (from 0 n) f p₅ ≡ next xs p₆ →
              next (of s (operation o) (map (λ (y : Sorted). y.the_term) xs)) p₆ ≡ next x q → Got a c f (suc d) need p x q
          apart o n s p₅ xs p₆ small stands e₁ e₂ nd place e₆ k₆ =
              let g = got_row ih n o 0 (there o n e₁) p₅ (subst (λ m. m ≤ 8 * length f) (sym place) (stands_most f (p + 3) (bits 6 o) stands)) xs p₆ e₆ in
              let rest = flat (folds (terms (map (λ (y : Sorted). y.the_term) xs)) (λ kind parts. kind_bits kind ++ flat parts)) in
              let at₅ : p₅ ≡ p + 9 = omega arith in
              onto need p (of s (operation o) (map (λ (y : Sorted). y.the_term) xs)) x p₆ q k₆
              (record {
                fits = fit_operation small e₁ e₂ g.fit;
                needs = nd;
                stands = stands_join f p (bits 3 3 ++ bits 6 o) rest (stands_join f p (bits 3 3) (bits 6 o) h stands)
                    (subst (λ m. Stands f m rest) at₅ g.stand);
                behind = omega (arith, g.last, at₅);
              })

      got_kind : ((o n : ℕ) → a.arity o ≡ Some n → There o 0 n) → (k : ℕ) → k < 8 → Stands f p (bits 3 k) → Sound (read_kind a c part p need k) p need
      got_kind there zero l h = got_parameter h
      got_kind there (suc zero) l h = got_variable h
      got_kind there (suc (suc zero)) l h = got_value h
      got_kind there (suc (suc (suc zero))) l h = got_operation there h
      got_kind there (suc (suc (suc (suc zero)))) l h = got_not h
      got_kind there (suc (suc (suc (suc (suc zero))))) l h = got_two 5 and refl (λ t u. fit_and) h
      got_kind there (suc (suc (suc (suc (suc (suc zero)))))) l h = got_two 6 or refl (λ t u. fit_or) h
      got_kind there (suc (suc (suc (suc (suc (suc (suc k))))))) l h =
          let e : suc (suc (suc (suc (suc (suc (suc k)))))) ≡ 7 = omega arith in
          got_equal (subst (λ n. Stands f p (bits 3 n)) e h)

-- the term's reader, at any depth
pub sound : (a : Alg) (c : Scope) (f : List ℕ) → ((o n : ℕ) → a.arity o ≡ Some n → (j : ℕ) → 0 ≤ j → j < 0 + n → (s : ℕ) × (a.arg_sort o j ≡ Some s)) →
    (d : ℕ) (need : Option ℕ) (p : ℕ) (x : Sorted) (q : ℕ) → read_term a c d need f p ≡ next x q → Got a c f d need p x q
sound a c f there zero need p x q e =
    let (k, p₂, e₂, k₂) = follow_inv (take 3 f p) _ x q e in
    absurd cc
sound a c f there (suc d) need p x q e =
    let (k, p₂, e₂, k₂) = follow_inv (take 3 f p) _ x q e in
    let t = took f p 3 k p₂ e₂ in
    got_kind a c f d p need (sound a c f there d) there k t.small t.stands x q
    (subst (λ m. read_kind a c (read_term a c d) p need k f m ≡ next x q) t.behind k₂)
