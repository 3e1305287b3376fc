-- The starting values of parameters that R removes do not matter, in a system and in a history.
use Rattle.std.proofs.Common.{◌≡◌, ℕ, suc, Bool, true, false, List, [], ◌∷◌, map, length, get_or, Some, sym, refl, ap, ◌∙◌, subst, inl, inr, arith}
use Rattle.definitions.specs.Lists.{at, strike}
use Rattle.definitions.specs.Alg.{Alg, Lawful}
use Rattle.definitions.specs.Algebras.{truth}
use Rattle.definitions.specs.Systems.{System, Equation}
use Rattle.definitions.specs.Reading.{got}
use Rattle.definitions.specs.ReadSystem.{reading, Header}
use Rattle.definitions.specs.Fits.{SystemFits, ValuesFit, header_of}
use Rattle.definitions.specs.Truth.{verdict}
use Rattle.definitions.specs.Passes.{needed, pass_r}
use Rattle.definitions.specs.Past.{Event, Past, Served, Wrote}
use Rattle.definitions.specs.Histories.{FirstByte, Alike, EitherWrote, HistoriesAlike}
use Rattle.theorems.specs.PassLaws.{RemovedValuesDoNotMatter}
use Rattle.theorems.proofs.KeepsR.{keeps as keeps_r}
use Rattle.theorems.proofs.PassRules.{passes_rule}
use Rattle.theorems.proofs.Histories.{good}

strike_alike : (ms : List Bool) (xs ys : List ℕ) → length xs ≡ length ys → ((k : ℕ) → get_or ms k false ≡ true → get_or xs k 0 ≡ get_or ys k 0) → strike ms xs ≡ strike ms ys
strike_alike [] xs ys l h = refl
strike_alike (m ∷ ms) [] [] l h = refl
strike_alike (m ∷ ms) [] (y ∷ ys) l h = absurd (omega arith)
strike_alike (m ∷ ms) (x ∷ xs) [] l h = absurd (omega arith)
strike_alike (true ∷ ms) (x ∷ xs) (y ∷ ys) l h =
    let e : x ≡ y = h 0 refl in
    let r : strike ms xs ≡ strike ms ys = strike_alike ms xs ys (omega arith) (λ k. h (suc k)) in
    cc
strike_alike (false ∷ ms) (x ∷ xs) (y ∷ ys) l h = strike_alike ms xs ys (omega arith) (λ k. h (suc k))

values_long : (a : Alg) (ss vs : List ℕ) → ValuesFit a ss vs → length vs ≡ length ss
values_long a [] [] f = refl
values_long a [] (v ∷ vs) f = absurd f
values_long a (s ∷ ss) [] f = absurd f
values_long a (s ∷ ss) (v ∷ vs) f = ap suc (values_long a ss vs f.1)

same_start : (a : Alg) (s t : System) → SystemFits a s → SystemFits a t → Alike s t → length s.values ≡ length t.values
same_start a s t p q e =
    let there : at (map header_of s.equations) s.start ≡ Some q.header = sym (ap (λ (es : List Equation). at (map header_of es) s.start) e.equations) ∙ (sym (ap (at (map header_of t.equations)) e.start) ∙ q.there) in
    let both : p.header ≡ q.header = some_same (sym p.there ∙ there) in
    values_long a p.header.sorts s.values p.values ∙ (ap (λ (h : Header). length h.sorts) both ∙ sym (values_long a q.header.sorts t.values q.values))
  where
    some_same : {x y : Header} → Some x ≡ Some y → x ≡ y
    some_same e = cc

-- the same system with other starting values
starting_at : System → List ℕ → System
starting_at s vs = record { equations = s.equations; start = s.start; values = vs }

is_starting : (s t : System) → Alike s t → t ≡ starting_at s t.values
unfolding starting_at
is_starting s t e =
    ap (λ (es : List Equation). record { equations = es; start = t.start; values = t.values }) e.equations ∙
    ap (λ (n : ℕ). record { equations = s.equations; start = n; values = t.values }) e.start

pub removed_values : RemovedValuesDoNotMatter
unfolding starting_at
removed_values a law s t p q e =
    let u : System = starting_at s t.values in
    let w : t ≡ u = is_starting s t e in
    let fit : SystemFits a u = subst (SystemFits a) w q in
    let c : strike (get_or (needed s) s.start []) t.values ≡ strike (get_or (needed s) s.start []) s.values =
    sym (strike_alike (get_or (needed s) s.start []) s.values t.values (same_start a s t p q e) e.values) in
    let r : pass_r a u ≡ pass_r a s = ap (λ (vs : List ℕ). record { equations = (pass_r a s).equations; start = s.start; values = vs }) c in
    ap (verdict a) w ∙ (sym (keeps_r a law u fit) ∙ (ap (verdict a) r ∙ keeps_r a law s p))

-- what a history of the loaded system s wrote
first_of : (a : Alg) → Lawful a → (es : List Event) (h : List ℕ) → Past es h → (f : List ℕ) → Served a f es → (s : System) → reading a f ≡ got s →
    SystemFits a s × ((g : List ℕ) → Wrote g es → FirstByte g (truth (verdict a s)))
first_of a law es h p f v s e =
    let x = (good passes_rule es h p).kept a law f v in
    let w : x.first ≡ s = cc in
    (subst (SystemFits a) w x.began, λ g y. subst (FirstByte g) (ap (λ (s : System). truth (verdict a s)) w) (x.solved g y))

pub alike : HistoriesAlike
alike a law es ds h k p q f g v w s t e i l =
    let x = first_of a law es h p f v s e in
    let y = first_of a law ds k q g w t i in
    let same : verdict a t ≡ verdict a s = removed_values a law s t x.0 y.0 l in
    let bytes : (g : List ℕ) → EitherWrote es ds g → FirstByte g (truth (verdict a s)) =
    λ g z. elim z [ inl b ↦ x.1 g b | inr b ↦ subst (FirstByte g) (ap truth same) (y.1 g b) ] in
    record {
      verdicts = same;
      solved = bytes;
      alike = λ g k b c before after before' after' n n' m o. (bytes g b).byte before after n m ∙ sym ((bytes k c).byte before' after' n' o);
    }
