-- Writing piece by piece, and what is written of a term.
use Rattle.std.proofs.Common.{◌≡◌, ℕ, zero, suc, ◌-◌, ◌<◌, Bool, true, false, ltb, List, [], ◌++◌, replicate, slice_index_or, Some, None, Option, Ok, Err, Result, refl, sym, ap, ◌∙◌, subst, sub-one, arith}
use Rattle.std.proofs.lemmas.Bool.{ltb-true, ltb-false}
use Rattle.std.proofs.lemmas.List.{append-nil}
use Rattle.std.proofs.lemmas.Result.{err_from_is_err_and}
use Rattle.std.specs.Option.{option_map}
use Rattle.std.specs.Result.{IsErrAnd}
use Rattle.definitions.specs.Lists.{bind, or_else, flat}
use Rattle.definitions.specs.Alg.{Alg, Lawful}
use Rattle.definitions.specs.Systems.{Kind, parameter, variable, value, operation, not, and, or, equal, Term, Terms, node, none, more, folds, terms, term}
use Rattle.definitions.specs.Values.{known}
use Rattle.definitions.specs.Terms.{on_parameter, replaced}
use Rattle.definitions.specs.Passes.{sort_of, folded_as, foldeds}
use Rattle.definitions.specs.Written.{kind_bits, term_bits}
use Rattle.definitions.specs.ReadSystem.{Scope}
use Rattle.definitions.specs.Fits.{Fits, fit_parameter, fit_variable, fit_value, fit_operation, fit_not, fit_and, fit_or, fit_equal, FitsArgs, fit_none, fit_more}
use Rattle.algebra.specs.Lists.{some_inj, at_lt}
use Rattle.terms.specs.declared.view.Parts.{Parts}
use Rattle.terms.specs.declared.view.Parts.TheVariants.{One, Two}
use Rattle.terms.specs.declared.view.Term.{Term as Read}
use Rattle.terms.specs.declared.view.Term.TheVariants.{Parameter, Variable, Value, Operation, Not, And, Or, Equal}
use Rattle.terms.specs.Shown.{cons, parts_of, term_of}
use Rattle.terms.specs.Known.{Alike}
use Rattle.bits.specs.declared.writer.BitWriter.{BitWriter}
use Rattle.bits.specs.declared.writer.Full.{Full}
use Rattle.bits.specs.Writes.{Wrote, NoRoom, Writes, Left}
use Rattle.bits.proofs.Left.{left_first, left_next, left_stop, left_end}
use Rattle.passes.specs.Planned.{folded_if, kind_shown, parts_shown, KindFits}

-- the last piece is written, or there is no room for it
pub left_last : {T : Type 0} {bs : List ℕ} {old now : BitWriter} (cs : List ℕ) (new : BitWriter) (r : Result T Full) → Left bs cs old now → Writes cs now new r → Writes bs old new r
left_last {bs = bs} {old = old} {now = now} cs new (Ok x) l w = left_end (left_next {rest = []} cs new (subst (λ (xs : List ℕ). Left bs xs old now) (sym (append-nil cs)) l) w)
left_last {bs = bs} {old = old} {now = now} cs new (Err e) l w = left_stop cs [] (subst (λ (xs : List ℕ). Left bs xs old now) (sym (append-nil cs)) l) w

-- an error is handed on
pub handed_on : {T : Type 0} (Q : Full → Type 0) (bs : List ℕ) (old new : BitWriter) (r : Result T Full) → IsErrAnd r Q → NoRoom bs old → Writes bs old new r
handed_on Q bs old new r h n =
    let e = err_from_is_err_and r h in
    subst (λ (r : _). Writes bs old new r) (sym e.1) n

-- where nothing is known
none_known : (n k : ℕ) → slice_index_or (replicate {A = Option ℕ} n None) k None ≡ None
none_known zero k = refl
none_known (suc n) zero = refl
none_known (suc n) (suc k) = none_known n k

pub none_alike : {xs : List (Option ℕ)} (n : ℕ) → xs ≡ replicate n None → Alike xs []
none_alike n e = λ k. ap (λ (xs : List (Option ℕ)). slice_index_or xs k None) e ∙ none_known n k

no_value : {A B : Type 0} (f : A → B) (o : Option A) → option_map f o ≡ None → o ≡ None
no_value f None e = refl
no_value f (Some x) e = absurd cc

value_there : {A B : Type 0} (f : A → B) (o : Option A) (y : B) → Some y ≡ option_map f o → (x : A) × (o ≡ Some x) × (y ≡ f x)
value_there f None y e = absurd cc
value_there f (Some x) y e = (x, refl, some_inj y (f x) e)

none_where : {A : Type 0} (o : Option A) → ((x : A) → o ≡ Some x → ⊥) → o ≡ None
none_where None h = refl
none_where (Some x) h = absurd (h x refl)

-- what a term is written as, whose parameters become kinds by r, and that is folded before if b says so
module _ (a : Alg) (b : Bool) (r : ℕ → Kind) where
  abbrev pub bits_by : Term → List ℕ
  bits_by t = term_bits (replaced r (folded_if b a t))

  abbrev parts_by : Terms → List ℕ
  parts_by none = []
  parts_by (more t ts) = bits_by t ++ parts_by ts

abbrev in_bits : Kind → List (List ℕ) → List ℕ
in_bits k parts = kind_bits k ++ flat parts

abbrev anew : (ℕ → Kind) → Kind → List Term → Term
anew r k parts = term (on_parameter r k) parts

parts_plain : (a : Alg) (r : ℕ → Kind) (ts : Terms) → flat (folds (terms (folds ts (anew r))) in_bits) ≡ parts_by a false r ts
parts_plain a r none = refl
parts_plain a r (more t ts) = ap (λ xs. bits_by a false r t ++ xs) (parts_plain a r ts)

parts_folded : (a : Alg) (r : ℕ → Kind) (ts : Terms) → flat (folds (terms (folds (foldeds ts a) (anew r))) in_bits) ≡ parts_by a true r ts
parts_folded a r none = refl
parts_folded a r (more t ts) = ap (λ xs. bits_by a true r t ++ xs) (parts_folded a r ts)

-- a term that does not fold: its kind, and its parts
bits_opened : (a : Alg) (b : Bool) (r : ℕ → Kind) (k : Kind) (ts : Terms) → (b ≡ true → known a [] (node k ts) ≡ None) → bits_by a b r (node k ts) ≡ kind_bits (on_parameter r k) ++ parts_by a b r ts
bits_opened a false r k ts h = ap (λ xs. kind_bits (on_parameter r k) ++ xs) (parts_plain a r ts)
bits_opened a true r k ts h = ap (λ o. term_bits (replaced r (folded_as a k o (foldeds ts a)))) (h refl) ∙ ap (λ xs. kind_bits (on_parameter r k) ++ xs) (parts_folded a r ts)

-- one that folds
bits_folded : (a : Alg) (r : ℕ → Kind) (k : Kind) (ts : Terms) (v : ℕ) → known a [] (node k ts) ≡ Some v → bits_by a true r (node k ts) ≡ kind_bits (value (sort_of a k) v)
bits_folded a r k ts v e = ap (λ o. term_bits (replaced r (folded_as a k o (foldeds ts a)))) e ∙ append-nil (kind_bits (value (sort_of a k) v))

-- a term as read is a node
mapped : (k : Kind) (o : Option Terms) (t : Term) → option_map (node k) o ≡ Some t → (ts : Terms) × (t ≡ node k ts) × (o ≡ Some ts)
mapped k None t e = absurd cc
mapped k (Some ts) t e = (ts, sym (some_inj (node k ts) t e), refl)

node_read : (a : Alg) (d : ℕ) (x : Read) (t : Term) → term_of a d x ≡ Some t → (ts : Terms) × (t ≡ node (kind_shown x) ts) × (parts_of a d (parts_shown x) ≡ Some ts)
node_read a d (Parameter n) t e = (none, sym (some_inj (node (parameter n) none) t e), refl)
node_read a d (Variable n) t e = (none, sym (some_inj (node (variable n) none) t e), refl)
node_read a d (Value s v) t e = (none, sym (some_inj (node (value s v) none) t e), refl)
node_read a d (Operation o ps) t e = mapped (operation o) (parts_of a d ps) t e
node_read a d (Not x) t e = mapped not (parts_of a d (One x)) t e
node_read a d (And x y) t e = mapped and (parts_of a d (Two x y)) t e
node_read a d (Or x y) t e = mapped or (parts_of a d (Two x y)) t e
node_read a d (Equal x y) t e = mapped equal (parts_of a d (Two x y)) t e

-- each of the terms fits at some sort
abbrev AllFit : Alg → Scope → ℕ → Terms → Type 0
AllFit a c d none = Unit {0}
AllFit a c d (more t ts) = ((s : ℕ) × Fits a c d s t) × AllFit a c d ts

module _ (a : Alg) (c : Scope) where
  args_fit : (d o k n : ℕ) (ts : Terms) → FitsArgs a c d o k n ts → AllFit a c d ts
  args_fit d o k n ts fit_none = tt
  args_fit d o k n ts (fit_more {n = m} {s = s} {t = t} {ts = us} e f fs) = ((s, f), args_fit d o (suc k) m us fs)

  shallower : (d : ℕ) (ts : Terms) → AllFit a c d ts → AllFit a c (suc d - 1) ts
  shallower d ts h = rw sub-one h

  fit_node : (d s : ℕ) (k : Kind) (ts : Terms) → Fits a c d s (node k ts) → KindFits c.parameters k × AllFit a c (d - 1) ts
  fit_node d s k ts (fit_parameter {s = q} {n = n} small e) = (at_lt c.parameters n q e, tt)
  fit_node d s k ts (fit_variable small e) = (small, tt)
  fit_node d s k ts (fit_value small low e l) = ((small, low), tt)
  fit_node e s k ts (fit_operation {d = d} {o = o} {n = n} {ts = us} small f h fs) = (small, shallower d us (args_fit d o 0 n us fs))
  fit_node e s k ts (fit_not {d = d} {t = t} f) = (tt, shallower d (more t none) ((0, f), tt))
  fit_node e s k ts (fit_and {d = d} {t = t} {u = u} f h) = (tt, shallower d (more t (more u none)) ((0, f), ((0, h), tt)))
  fit_node e s k ts (fit_or {d = d} {t = t} {u = u} f h) = (tt, shallower d (more t (more u none)) ((0, f), ((0, h), tt)))
  fit_node e s k ts (fit_equal {d = d} {s = q} {t = t} {u = u} f h) = (tt, shallower d (more t (more u none)) ((q, f), ((q, h), tt)))

-- the sort of what folds is a number of four bits
sort_small : (a : Alg) → Lawful a → (ss : List ℕ) (k : Kind) → KindFits ss k → sort_of a k < 16
sort_small a l ss (parameter n) h = omega arith
sort_small a l ss (variable n) h = omega arith
sort_small a l ss (value s v) h = h.0
sort_small a l ss (operation o) h = go (ltb o a.ops) refl
  where
    go : (b : Bool) → ltb o a.ops ≡ b → or_else (a.res_sort o) 0 < 16
    go true i =
        let x = l.res o (ltb-true o a.ops i) in
        let n = l.few_sorts in
        let m = x.2 in
        subst (λ (o : Option ℕ). or_else o 0 < 16) (sym x.1) (omega arith)
    go false i = subst (λ (o : Option ℕ). or_else o 0 < 16) (sym (l.no_op o (ltb-false o a.ops i)).1) (omega arith)
sort_small a l ss not h = omega arith
sort_small a l ss and h = omega arith
sort_small a l ss or h = omega arith
sort_small a l ss equal h = omega arith

-- of the bits of a term those of some parts are left, which are the terms os
module _ (a : Alg) (b : Bool) (r : ℕ → Kind) (c : Scope) (d : ℕ) where
  abbrev PartsLeft : List ℕ → Option Terms → BitWriter → BitWriter → Type 0
  PartsLeft bs os old now = (ts : Terms) × (os ≡ Some ts) × AllFit a c d ts × Left bs (parts_by a b r ts) old now

  -- what is said of a part that fits and stands
  abbrev OfPart : (List ℕ → Type 0) → Option Term → Type 0
  OfPart F o = (t : Term) (s : ℕ) → Fits a c d s t → o ≡ Some t → F (bits_by a b r t)

  cons_some : (o : Option Term) (os : Option Terms) (ts : Terms) → cons o os ≡ Some ts → (t : Term) × (us : Terms) × (o ≡ Some t) × (os ≡ Some us) × (ts ≡ more t us)
  cons_some None os ts e = absurd cc
  cons_some (Some t) None ts e = absurd cc
  cons_some (Some t) (Some us) ts e = (t, us, refl, refl, sym (some_inj (more t us) ts e))

  pub parts_done : {bs : List ℕ} {old now : BitWriter} → PartsLeft bs (Some none) old now → Wrote bs old now
  parts_done {bs} {old} {now} l = left_end (subst (λ (ts : Terms). Left bs (parts_by a b r ts) old now) (sym (some_inj none l.0 l.1)) l.3)

  module _ {bs : List ℕ} {old now : BitWriter} (o : Option Term) (os : Option Terms) (l : PartsLeft bs (cons o os) old now) where
    parted : (t : Term) × (us : Terms) × (o ≡ Some t) × (os ≡ Some us) × AllFit a c d (more t us) × Left bs (bits_by a b r t ++ parts_by a b r us) old now
    parted =
        let x = cons_some o os l.0 l.1 in
        (x.0, x.1, x.2, x.3, subst (AllFit a c d) x.4 l.2, subst (λ (ts : Terms). Left bs (parts_by a b r ts) old now) x.4 l.3)

    pub parts_next : (new : BitWriter) → OfPart (λ xs. Wrote xs now new) o → PartsLeft bs os old new
    parts_next new w =
        let p = parted in
        (p.1, p.3, p.4.1, left_next {rest = parts_by a b r p.1} (bits_by a b r p.0) new p.5 (w p.0 p.4.0.0 p.4.0.1 p.2))

    pub parts_stop : OfPart (λ xs. NoRoom xs now) o → NoRoom bs old
    parts_stop w =
        let p = parted in
        left_stop (bits_by a b r p.0) (parts_by a b r p.1) p.5 (w p.0 p.4.0.0 p.4.0.1 p.2)

  pub parts_last : {T : Type 0} {bs : List ℕ} {old now : BitWriter} (o : Option Term) (new : BitWriter) (res : Result T Full) → PartsLeft bs (cons o (Some none)) old now → OfPart (λ xs. Writes xs now new res) o → Writes bs old new res
  parts_last o new (Ok x) l w = parts_done (parts_next o (Some none) l new w)
  parts_last o new (Err e) l w = parts_stop o (Some none) l w

-- a term that is read at a place, where it may fold to f
module _ (a : Alg) (b : Bool) (r : ℕ → Kind) (c : Scope) (d s : ℕ) (x : Read) (t : Term) {o : Option Read} {at : Option Term} {f : Option (ℕ × ℕ)} (got : o ≡ Some x) (reads : bind o (term_of a (d - 1)) ≡ at) (stands : at ≡ Some t) (fits : Fits a c d s t)
    (folds : b ≡ true → f ≡ option_map (λ v. (sort_of a (kind_shown x), v)) (known a [] t)) where
  seen : (ts : Terms) × (t ≡ node (kind_shown x) ts) × (parts_of a (d - 1) (parts_shown x) ≡ Some ts)
  seen = node_read a (d - 1) x t (ap (λ o. bind o (term_of a (d - 1))) (sym got) ∙ reads ∙ stands)

  fitted : KindFits c.parameters (kind_shown x) × AllFit a c (d - 1) seen.0
  fitted = fit_node a c d s (kind_shown x) seen.0 (subst (Fits a c d s) seen.1 fits)

  -- it folds
  pub view_folded : Lawful a → (b ≡ false → f ≡ None) → (q v : ℕ) → f ≡ Some (q, v) → (q < 16) × (bits_by a b r t ≡ kind_bits (value q v))
  view_folded l unfolded q v e = go b refl
    where
      go : (y : Bool) → b ≡ y → (q < 16) × (bits_by a b r t ≡ kind_bits (value q v))
      go false i =
          let n : f ≡ None = unfolded i in
          absurd cc
      go true i =
          let k = value_there (λ v. (sort_of a (kind_shown x), v)) (known a [] t) (q, v) (sym e ∙ folds i) in
          let sort : q ≡ sort_of a (kind_shown x) = ap (λ p. p.0) k.2 in
          let val : v ≡ k.0 = ap (λ p. p.1) k.2 in (
            subst (λ n. n < 16) (sym sort) (sort_small a l c.parameters (kind_shown x) fitted.0),
            ap (λ y. bits_by a y r t) i ∙ ap (bits_by a true r) seen.1 ∙ bits_folded a r (kind_shown x) seen.0 k.0 (ap (known a []) (sym seen.1) ∙ k.1) ∙
                ap (λ n. kind_bits (value n k.0)) (sym sort) ∙ ap (λ n. kind_bits (value q n)) (sym val),
          )

  module _ (refused : (p : ℕ × ℕ) → f ≡ Some p → ⊥) where
    -- it does not: its kind is written first
    opened : (w : BitWriter) → Left (bits_by a b r t) (kind_bits (on_parameter r (kind_shown x)) ++ parts_by a b r seen.0) w w
    opened w =
        let unknown : b ≡ true → known a [] t ≡ None = λ on. no_value (λ v. (sort_of a (kind_shown x), v)) (known a [] t) (sym (folds on) ∙ none_where f refused) in
        let whole = ap (bits_by a b r) seen.1 ∙ bits_opened a b r (kind_shown x) seen.0 (λ on. ap (known a []) (sym seen.1) ∙ unknown on) in
        subst (λ (xs : List ℕ). Left (bits_by a b r t) xs w w) whole (left_first (bits_by a b r t) w)

    pub view_opened : (ps : Parts) → ps ≡ parts_shown x → (old new : BitWriter) → (KindFits c.parameters (kind_shown x) → Wrote (kind_bits (on_parameter r (kind_shown x))) old new) →
        PartsLeft a b r c (d - 1) (bits_by a b r t) (parts_of a (d - 1) ps) old new
    view_opened ps e old new w = (seen.0, ap (parts_of a (d - 1)) e ∙ seen.2, fitted.1, left_next {rest = parts_by a b r seen.0} (kind_bits (on_parameter r (kind_shown x))) new (opened old) (w fitted.0))

    pub view_stopped : (old : BitWriter) → (KindFits c.parameters (kind_shown x) → NoRoom (kind_bits (on_parameter r (kind_shown x))) old) → NoRoom (bits_by a b r t) old
    view_stopped old w = left_stop (kind_bits (on_parameter r (kind_shown x))) (parts_by a b r seen.0) (opened old) (w fitted.0)
