-- A term that fits, written, is read back.
use Rattle.std.proofs.Common.{◌≡◌, ℕ, suc, ◌+◌, ◌<◌, List, [], ◌∷◌, ◌++◌, map, length, Some, None, Option, sym, refl, ap, add-zero, add_assoc, arith, length-append}
use Rattle.std.proofs.lemmas.Bool.{eq-eqb, lt-ltb}
use Rattle.definitions.specs.Lists.{at, flat, from}
use Rattle.definitions.specs.Bits.{bits, Stands}
use Rattle.definitions.specs.Alg.{Alg}
use Rattle.definitions.specs.Systems.{parameter, variable, value, operation, not, and, or, equal, Term, Terms, node, none, more, terms, folds}
use Rattle.definitions.specs.Reading.{next, one_by_one, below}
use Rattle.definitions.specs.ReadSystem.{Scope, Sorted, suits, read_term}
use Rattle.definitions.specs.Written.{kind_bits, term_bits}
use Rattle.definitions.specs.Fits.{Fits, FitsArgs, fit_parameter, fit_variable, fit_value, fit_operation, fit_not, fit_and, fit_or, fit_equal, fit_none, fit_more, Needs}
use Rattle.theorems.proofs.Fields.{stands_left, stands_right, takes}

suited : (need : Option ℕ) (s p : ℕ) (f : List ℕ) (q : ℕ) → Needs need s → suits need s p f q ≡ next tt q
suited None s p f q h = refl
suited (Some n) s p f q h = rw (eq-eqb n s h)

moved : {A : Type 0} (x : A) (p q : ℕ) → p ≡ q → next x p ≡ next x q
moved x p q e = ap (next x) e

abbrev Reads : Alg → Scope → List ℕ → ℕ → ℕ → Term → Type 0
Reads a c f d s t = (need : Option ℕ) → Needs need s → (p : ℕ) → Stands f p (term_bits t) →
    read_term a c d need f p ≡ next (record { the_term = t; the_sort = s }) (p + length (term_bits t))

module _ (a : Alg) (c : Scope) (f : List ℕ) where
  reads_parameter : (d s n : ℕ) → n < 16 → at c.parameters n ≡ Some s → Reads a c f (suc d) s (node (parameter n) none)
  reads_parameter d s n lt e need k p h =
      let h₁ = stands_left f p (bits 3 0) (bits 4 n) (stands_left f p (bits 3 0 ++ bits 4 n) [] h) in
      let h₂ = stands_right f p (bits 3 0) (bits 4 n) (stands_left f p (bits 3 0 ++ bits 4 n) [] h) in
      rw (takes f p 3 0 (omega arith) h₁, takes f (p + 3) 4 n lt h₂, e, suited need s p f (p + 3 + 4) k) (moved _ (p + 3 + 4) (p + 7) (omega arith))

  reads_variable : (d s n : ℕ) → n < 4 → at c.variables n ≡ Some s → Reads a c f (suc d) s (node (variable n) none)
  reads_variable d s n lt e need k p h =
      let h₁ = stands_left f p (bits 3 1) (bits 2 n) (stands_left f p (bits 3 1 ++ bits 2 n) [] h) in
      let h₂ = stands_right f p (bits 3 1) (bits 2 n) (stands_left f p (bits 3 1 ++ bits 2 n) [] h) in
      rw (takes f p 3 1 (omega arith) h₁, takes f (p + 3) 2 n lt h₂, e, suited need s p f (p + 3 + 2) k) (moved _ (p + 3 + 2) (p + 5) (omega arith))

  reads_value : (d s v z : ℕ) → s < 16 → v < 256 → a.size s ≡ Some z → v < z → Reads a c f (suc d) s (node (value s v) none)
  reads_value d s v z ls lv e lz need k p h =
      let h₀ = stands_left f p (bits 3 2 ++ (bits 4 s ++ bits 8 v)) [] h in
      let h₁ = stands_left f p (bits 3 2) (bits 4 s ++ bits 8 v) h₀ in
      let h₂ = stands_right f p (bits 3 2) (bits 4 s ++ bits 8 v) h₀ in
      rw (
        takes f p 3 2 (omega arith) h₁,
        takes f (p + 3) 4 s ls (stands_left f (p + 3) (bits 4 s) (bits 8 v) h₂),
        e,
        suited need s p f (p + 3 + 4) k,
        takes f (p + 3 + 4) 8 v lv (stands_right f (p + 3) (bits 4 s) (bits 8 v) h₂),
        lt-ltb v z lz,
        below,
      ) (moved _ (p + 3 + 4 + 8) (p + 15) (omega arith))

  reads_not : (d : ℕ) (t : Term) → Reads a c f d 0 t → Reads a c f (suc d) 0 (node not (more t none))
  reads_not d t r need k p h =
      let h₁ = stands_left f p (bits 3 4) (term_bits t ++ []) h in
      let h₂ = stands_left f (p + 3) (term_bits t) [] (stands_right f p (bits 3 4) (term_bits t ++ []) h) in
      rw (takes f p 3 4 (omega arith) h₁, suited need 0 p f (p + 3) k, r (Some 0) refl (p + 3) h₂)
      (moved _ (p + 3 + length (term_bits t)) (p + suc (suc (suc (length (term_bits t ++ []))))) (omega (arith, length-append (term_bits t) [])))

  -- two parts behind three bits
  two_parts : (k p : ℕ) (t u : Term) → Stands f p (bits 3 k ++ (term_bits t ++ (term_bits u ++ []))) →
      Stands f p (bits 3 k) × Stands f (p + 3) (term_bits t) × Stands f (p + 3 + length (term_bits t)) (term_bits u)
  two_parts k p t u h =
      let h₁ = stands_right f p (bits 3 k) (term_bits t ++ (term_bits u ++ [])) h in (
        stands_left f p (bits 3 k) (term_bits t ++ (term_bits u ++ [])) h,
        stands_left f (p + 3) (term_bits t) (term_bits u ++ []) h₁,
        stands_left f (p + 3 + length (term_bits t)) (term_bits u) [] (stands_right f (p + 3) (term_bits t) (term_bits u ++ []) h₁),
      )

  two_long : (p : ℕ) (t u : Term) → p + 3 + length (term_bits t) + length (term_bits u) ≡ p + suc (suc (suc (length (term_bits t ++ (term_bits u ++ [])))))
  two_long p t u = omega (arith, length-append (term_bits t) (term_bits u ++ []), length-append (term_bits u) [])

  reads_and : (d : ℕ) (t u : Term) → Reads a c f d 0 t → Reads a c f d 0 u → Reads a c f (suc d) 0 (node and (more t (more u none)))
  reads_and d t u r r' need k p h =
      let (h₁, h₂, h₃) = two_parts 5 p t u h in
      rw (takes f p 3 5 (omega arith) h₁, suited need 0 p f (p + 3) k, r (Some 0) refl (p + 3) h₂, r' (Some 0) refl (p + 3 + length (term_bits t)) h₃)
      (moved _ _ _ (two_long p t u))

  reads_or : (d : ℕ) (t u : Term) → Reads a c f d 0 t → Reads a c f d 0 u → Reads a c f (suc d) 0 (node or (more t (more u none)))
  reads_or d t u r r' need k p h =
      let (h₁, h₂, h₃) = two_parts 6 p t u h in
      rw (takes f p 3 6 (omega arith) h₁, suited need 0 p f (p + 3) k, r (Some 0) refl (p + 3) h₂, r' (Some 0) refl (p + 3 + length (term_bits t)) h₃)
      (moved _ _ _ (two_long p t u))

  reads_equal : (d s : ℕ) (t u : Term) → Reads a c f d s t → Reads a c f d s u → Reads a c f (suc d) 0 (node equal (more t (more u none)))
  reads_equal d s t u r r' need k p h =
      let (h₁, h₂, h₃) = two_parts 7 p t u h in
      rw (takes f p 3 7 (omega arith) h₁, suited need 0 p f (p + 3) k, r None tt (p + 3) h₂, r' (Some s) refl (p + 3 + length (term_bits t)) h₃)
      (moved _ _ _ (two_long p t u))

  abbrev Args : ℕ → ℕ → ℕ → ℕ → Terms → Type 0
  Args d o k n ts = (p : ℕ) → Stands f p (flat (folds ts (λ kind parts. kind_bits kind ++ flat parts))) →
      (xs : List Sorted) × (one_by_one (λ j. read_term a c d (a.arg_sort o j)) (from k n) f p ≡ next xs (p + length (flat (folds ts (λ kind parts. kind_bits kind ++ flat parts))))) ×
      (terms (map (λ x. x.the_term) xs) ≡ ts)

  reads_operation : (d s o n : ℕ) (ts : Terms) → o < 64 → a.arity o ≡ Some n → a.res_sort o ≡ Some s → Args d o 0 n ts →
      Reads a c f (suc d) s (node (operation o) ts)
  reads_operation d s o n ts lo e₁ e₂ r need k p h =
      let rest = flat (folds ts (λ kind parts. kind_bits kind ++ flat parts)) in
      let h₁ = stands_left f p (bits 3 3) (bits 6 o) (stands_left f p (bits 3 3 ++ bits 6 o) rest h) in
      let h₂ = stands_right f p (bits 3 3) (bits 6 o) (stands_left f p (bits 3 3 ++ bits 6 o) rest h) in
      let (xs, e₃, e₄) = r (p + 9) (stands_right f p (bits 3 3 ++ bits 6 o) rest h) in
      rw (takes f p 3 3 (omega arith) h₁, takes f (p + 3) 6 o lo h₂, e₁, e₂, suited need s p f (p + 3 + 6) k, add_assoc p 3 6, e₃, e₄)
      (moved _ (p + 9 + length rest) (p + length (kind_bits (operation o) ++ rest)) (omega arith))

  args_none : (d o k : ℕ) → Args d o k 0 none
  args_none d o k p h = ([], ap (next []) (sym (add-zero p)), refl)

  args_more : (d o k n s : ℕ) (t : Term) (ts : Terms) → a.arg_sort o k ≡ Some s → Reads a c f d s t → Args d o (suc k) n ts →
      Args d o k (suc n) (more t ts)
  args_more d o k n s t ts e r rs p h =
      let rest = flat (folds ts (λ kind parts. kind_bits kind ++ flat parts)) in
      let (xs, e₁, e₂) = rs (p + length (term_bits t)) (stands_right f p (term_bits t) rest h) in (
        record { the_term = t; the_sort = s } ∷ xs,
        rw (e, r (Some s) refl p (stands_left f p (term_bits t) rest h), e₁)
            (moved _ (p + length (term_bits t) + length rest) (p + length (term_bits t ++ rest)) (omega (arith, length-append (term_bits t) rest))),
        ap (more t) e₂,
      )

mutual
  pub reads : {a : Alg} {c : Scope} {d s : ℕ} {t : Term} → Fits a c d s t → (f : List ℕ) → Reads a c f d s t
  reads {a} {c} (fit_parameter {d} {s} {n} l e) f = reads_parameter a c f d s n l e
  reads {a} {c} (fit_variable {d} {s} {n} l e) f = reads_variable a c f d s n l e
  reads {a} {c} (fit_value {d} {s} {v} {z} l l' e l'') f = reads_value a c f d s v z l l' e l''
  reads {a} {c} (fit_operation {d} {s} {o} {n} {ts} l e e' r) f = reads_operation a c f d s o n ts l e e' (reads_args r f)
  reads {a} {c} (fit_not {d} {t} r) f = reads_not a c f d t (reads r f)
  reads {a} {c} (fit_and {d} {t} {u} r r') f = reads_and a c f d t u (reads r f) (reads r' f)
  reads {a} {c} (fit_or {d} {t} {u} r r') f = reads_or a c f d t u (reads r f) (reads r' f)
  reads {a} {c} (fit_equal {d} {s} {t} {u} r r') f = reads_equal a c f d s t u (reads r f) (reads r' f)

  pub reads_args : {a : Alg} {c : Scope} {d o k n : ℕ} {ts : Terms} → FitsArgs a c d o k n ts → (f : List ℕ) → Args a c f d o k n ts
  reads_args {a} {c} (fit_none {d} {o} {k}) f = args_none a c f d o k
  reads_args {a} {c} (fit_more {d} {o} {k} {n} {s} {t} {ts} e r rs) f = args_more a c f d o k n s t ts e (reads r f) (reads_args rs f)
