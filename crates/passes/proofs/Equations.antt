-- The equations of an outline beside those of its system, and with their changes.
use Rattle.std.proofs.Common.{◌≡◌, ℕ, zero, suc, ◌+◌, Bool, true, false, List, [], ◌∷◌, map, Some, get_or, sym, refl, ap, ap₂, ◌∙◌, add-zero, arith}
use Rattle.definitions.specs.Lists.{at, map_from, strike}
use Rattle.definitions.specs.Alg.{Alg}
use Rattle.definitions.specs.Systems.{Equation}
use Rattle.definitions.specs.Reading.{next}
use Rattle.definitions.specs.ReadSystem.{Header, read_body}
use Rattle.definitions.specs.Fits.{Every, HeaderFits, BodyFits, header_of}
use Rattle.system.specs.declared.outline.Equation.{Equation as Told}
use Rattle.system.specs.Files.{kept_header}
use Rattle.system.specs.Walks.{Pairs}
use Rattle.passes.specs.declared.plan.Change.{Change}
use Rattle.passes.specs.declared.plan.Plan.{Plan}
use Rattle.passes.specs.Planned.{remains, remaining, unchanged, change_of}
use Rattle.passes.specs.Rewrites.{HeaderThere, EquationThere, changed}

picked : {X : Type 0} (m : Bool) (ms : List Bool) (x y : X) (xs ys : List X) → x ≡ y → strike ms xs ≡ ys → strike (m ∷ ms) (x ∷ xs) ≡ elim m [ true ↦ y ∷ ys | false ↦ ys ]
picked true ms x y xs ys e h = ap₂ (λ z zs. z ∷ zs) e h
picked false ms x y xs ys e h = h

-- each equation with its change, the first being numbered i
struck_from : {X : Type 0} (f : Change → Equation → X) (all cs : List Change) (es : List Equation) (i : ℕ) → ((k : ℕ) → get_or all (i + k) unchanged ≡ get_or cs k unchanged) →
    strike (map (λ (c : Change). remains c.equation) cs) (map_from i (λ i e. f (get_or all i unchanged) e) es) ≡ changed f cs es
struck_from f all [] es i h = refl
struck_from f all (c ∷ cs) [] i h = refl
struck_from f all (c ∷ cs) (e ∷ es) i h =
    let here : get_or all i unchanged ≡ c = ap (λ j. get_or all j unchanged) (sym (add-zero i)) ∙ h 0 in
    picked (remains c.equation) (map (λ (c : Change). remains c.equation) cs) (f (get_or all i unchanged) e) (f c e) (map_from (suc i) (λ i e. f (get_or all i unchanged) e) es) (changed f cs es)
    (ap (λ (c : Change). f c e) here)
    (struck_from f all cs es (suc i) (λ k. ap (λ j. get_or all j unchanged) (move i k) ∙ h (suc k)))
  where
    move : (i k : ℕ) → suc i + k ≡ i + suc k
    move i k = omega arith

pub struck_changed : {X : Type 0} (f : Change → Equation → X) (P : Plan) (es : List Equation) → strike (remaining P) (map_from 0 (λ i e. f (change_of P i) e) es) ≡ changed f P.equations es
struck_changed f P es = struck_from f P.equations P.equations es 0 (λ k. ap (λ j. get_or P.equations j unchanged) (zero_more k))
  where
    zero_more : (k : ℕ) → 0 + k ≡ k
    zero_more k = omega arith

abbrev first : {A : Type 0} → A → List A → A
first d [] = d
first d (x ∷ xs) = x

abbrev others : {A : Type 0} → List A → List A
others [] = []
others (x ∷ xs) = xs

same_first : {A : Type 0} {x y : A} {xs ys : List A} → x ∷ xs ≡ y ∷ ys → x ≡ y
same_first {x = x} e = ap (first x) e

same_others : {A : Type 0} {x y : A} {xs ys : List A} → x ∷ xs ≡ y ∷ ys → xs ≡ ys
same_others e = ap others e

pub headers_there : (a : Alg) (ts : List Told) (es : List Equation) → map (λ (t : Told). kept_header t.header) ts ≡ map header_of es → Every (HeaderFits a) (map header_of es) → Pairs (HeaderThere a) ts es
headers_there a [] [] e h = tt
headers_there a [] (x ∷ es) e h = absurd cc
headers_there a (t ∷ ts) [] e h = absurd cc
headers_there a (t ∷ ts) (x ∷ es) e h = (record { kept = sym (same_first e); fits = h.0 }, headers_there a ts es (same_others e) h.1)

pub equations_there : (a : Alg) (hs : List Header) (f : List ℕ) (ts : List Told) (es : List Equation) → Pairs (HeaderThere a) ts es → Every (BodyFits a hs) es →
    ((i : ℕ) (e : Equation) (t : Told) → at es i ≡ Some e → at ts i ≡ Some t → (q : ℕ) × (read_body a hs (header_of e) f t.body ≡ next e q)) → Pairs (EquationThere a hs f) ts es
equations_there a hs f [] [] p b r = tt
equations_there a hs f [] (x ∷ es) p b r = absurd p
equations_there a hs f (t ∷ ts) [] p b r = absurd p
equations_there a hs f (t ∷ ts) (x ∷ es) p b r = (
  let q = r zero x t refl refl in record { header = p.0; fits = b.0; end = q.0; read = q.1 },
  equations_there a hs f ts es p.1 b.1 (λ i e u h k. r (suc i) e u h k),
)
