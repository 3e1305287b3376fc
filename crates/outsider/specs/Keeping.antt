-- Repeats keeps the rules of a pass.
use Rattle.std.proofs.Common.{◌≡◌, ℕ, zero, suc, ◌+◌, ◌≤◌, ◌<◌, Bool, true, false, List, [], ◌∷◌, map, length, Some, sym, refl, ap, ◌∙◌, subst, arith}
use mathlib.Core.Path.{fun_ext}
use mathlib.Core.Bool.{false≢true}
use lib.ListN.{length-map}
use Rattle.definitions.specs.Lists.{at, each, some, map_from}
use Rattle.definitions.specs.Bits.{packed, Stands}
use Rattle.definitions.specs.Alg.{Alg}
use Rattle.definitions.specs.Systems.{Clause, Equation, System}
use Rattle.definitions.specs.Reading.{next}
use Rattle.definitions.specs.ReadSystem.{Scope, Header, scope}
use Rattle.definitions.specs.Written.{clause_bits}
use Rattle.definitions.specs.Fits.{Every, header_of, HeaderFits, ClauseFits, BodyFits, SystemFits}
use Rattle.definitions.specs.Truth.{Instance, clause_holds, inside_holds, equation_holds, body, block_of, verdict}
use Rattle.definitions.specs.Rules.{Rules}
use Rattle.fixpoint.specs.Laws.{Agree, Matched}
use Rattle.fixpoint.proofs.Rounds.{pick}
use Rattle.theorems.proofs.Listing.{same_eq, every_map, every_mapped, map_twice}
use Rattle.theorems.proofs.Packs.{packs}
use Rattle.theorems.proofs.Whole.{clause_bits_lem}
use Rattle.theorems.proofs.Goods.{good_clause}
use Rattle.theorems.proofs.Monotone.{equals, under_is, inside_is}
use Rattle.theorems.proofs.Blocks.{truths_agree}
use Rattle.outsider.specs.Repeats.{repeats, unrepeated, equation_without_repeats, without_repeats}

-- what is left has no more members, and each is one of those before
unrepeated_short : (before ks : List Clause) → length (unrepeated before ks) ≤ length ks
unrepeated_short before [] = omega arith
unrepeated_short before (k ∷ ks) = go (some (repeats k) before) (unrepeated_short (k ∷ before) ks)
  where
    go : (b : Bool) → length (unrepeated (k ∷ before) ks) ≤ length ks → length (elim b as (λ _. List Clause) [ true ↦ unrepeated (k ∷ before) ks | false ↦ k ∷ unrepeated (k ∷ before) ks ]) ≤ suc (length ks)
    go true h = omega arith
    go false h = omega arith

every_unrepeated : (P : Clause → Type 0) (before ks : List Clause) → Every P ks → Every P (unrepeated before ks)
every_unrepeated P before [] h = tt
every_unrepeated P before (k ∷ ks) h = go (some (repeats k) before) (every_unrepeated P (k ∷ before) ks h.1)
  where
    go : (b : Bool) → Every P (unrepeated (k ∷ before) ks) → Every P (elim b as (λ _. List Clause) [ true ↦ unrepeated (k ∷ before) ks | false ↦ k ∷ unrepeated (k ∷ before) ks ])
    go true r = r
    go false r = (h.0, r)

-- where clauses with the same bits have the same truth, all hold if those hold that are left
module _ (p : Clause → Bool) (E : Clause → Type 0) (alike : (k l : Clause) → E k → E l → repeats k l ≡ true → p k ≡ p l) where
  holds_too : (k : Clause) (ls : List Clause) → E k → Every E ls → each p ls ≡ true → some (repeats k) ls ≡ true → p k ≡ true
  holds_too k [] e f h s = absurd (false≢true s)
  holds_too k (l ∷ ls) e f h s = go (p l) (repeats k l) refl refl h s (holds_too k ls e f.1)
    where
      go : (b c : Bool) → p l ≡ b → repeats k l ≡ c → elim b as (λ _. Bool) [ true ↦ each p ls | false ↦ false ] ≡ true → elim c as (λ _. Bool) [ true ↦ true | false ↦ some (repeats k) ls ] ≡ true →
          (each p ls ≡ true → some (repeats k) ls ≡ true → p k ≡ true) → p k ≡ true
      go true true x y h s r = alike k l e f.0 y ∙ x
      go true false x y h s r = r h s
      go false c x y h s r = absurd (false≢true h)

  each_unrepeated : (before ks : List Clause) → Every E before → Every E ks → each p before ≡ true → each p (unrepeated before ks) ≡ each p ks
  each_unrepeated before [] f g h = refl
  each_unrepeated before (k ∷ ks) f g h =
      go (some (repeats k) before) refl (λ t. each_unrepeated (k ∷ before) ks (g.0, f) g.1 (ap (λ b. pick b (each p before) false) t ∙ h))
    where
      first : (b : Bool) → p k ≡ b → (p k ≡ true → each p (unrepeated (k ∷ before) ks) ≡ each p ks) → pick b (each p (unrepeated (k ∷ before) ks)) false ≡ pick b (each p ks) false
      first true x r = r x
      first false x r = refl

      go : (s : Bool) → some (repeats k) before ≡ s → (p k ≡ true → each p (unrepeated (k ∷ before) ks) ≡ each p ks) →
          each p (elim s as (λ _. List Clause) [ true ↦ unrepeated (k ∷ before) ks | false ↦ k ∷ unrepeated (k ∷ before) ks ]) ≡ each p (k ∷ ks)
      go true x r = let t = holds_too k before g.0 f h x in r t ∙ sym (ap (λ b. pick b (each p ks) false) t)
      go false x r = first (p k) refl r

-- clauses that fit and have the same bits are read from the same file, so they are the same
same_clause : (a : Alg) (hs : List Header) (c : Scope) (k l : Clause) → ClauseFits a hs c k → ClauseFits a hs c l → repeats k l ≡ true → k ≡ l
same_clause a hs c k l f g e =
    let bs = clause_bits k in
    let s = (packs bs (clause_bits_lem k)).stand in
    let t = subst (λ cs. Stands (packed bs) 0 cs) (same_eq bs (clause_bits l) e) s in
    let x : next k (0 + length bs) ≡ next l (0 + length (clause_bits l)) =
    sym ((good_clause (packed bs) a hs c k f).run 0 s) ∙ (good_clause (packed bs) a hs c l g).run 0 t in
    cc

module _ (a : Alg) (hs : List Header) where
  equation_same : (f : Instance → Bool) (e : Equation) → BodyFits a hs e → (ps : List ℕ) → equation_holds a f (Some (equation_without_repeats e)) ps ≡ equation_holds a f (Some e) ps
  equation_same f e fit ps =
      under_is equals a e.quantified [] (inside_holds a f (equation_without_repeats e) ps) (inside_holds a f e ps) (λ vs _.
      inside_is equals a f f ps ps vs (equation_without_repeats e) e refl (λ _.
      each_unrepeated (clause_holds a f ps vs) (ClauseFits a hs (scope (header_of e))) (λ k l x y s. ap (clause_holds a f ps vs) (same_clause a hs (scope (header_of e)) k l x y s)) [] e.clauses tt fit.fit refl))

  at_all : (es : List Equation) (n : ℕ) (f : Instance → Bool) (ps : List ℕ) → Every (BodyFits a hs) es → equation_holds a f (at (map equation_without_repeats es) n) ps ≡ equation_holds a f (at es n) ps
  at_all [] n f ps h = refl
  at_all (e ∷ es) zero f ps h = equation_same f e h.0 ps
  at_all (e ∷ es) (suc n) f ps h = at_all es n f ps h.1

  body_fits : (e : Equation) → BodyFits a hs e → BodyFits a hs (equation_without_repeats e)
  body_fits e b =
      record {
        h = b.h;
        few = omega (arith, b.few, unrepeated_short [] e.clauses);
        fit = every_unrepeated (ClauseFits a hs (scope (header_of e))) [] e.clauses b.fit;
      }

blocks_same : (a : Alg) (k : ℕ) (es : List Equation) → Matched (λ (x y : Instance). x ≡ y) (map_from k (block_of a) es) (map_from k (block_of a) (map equation_without_repeats es))
blocks_same a k [] = Matched.done
blocks_same a k (e ∷ es) = Matched.both refl (λ x y p. ap (λ z. (block_of a k e).inside z) p) (blocks_same a (suc k) es)

keeps : (a : Alg) (s : System) → SystemFits a s → verdict a (without_repeats a s) ≡ verdict a s
keeps a s fit = sym (truths_agree a s (without_repeats a s) (λ x y. x ≡ y) (blocks_same a 0 s.equations) bodies (s.start, s.values) (s.start, s.values) refl)
  where
    bodies : (f g : Instance → Bool) → Agree (λ p q. p ≡ q) (λ (x y : Instance). x ≡ y) f g → Agree (λ p q. p ≡ q) (λ (x y : Instance). x ≡ y) (body a s f) (body a (without_repeats a s) g)
    bodies f g h x y r = ap (λ z. body a s z x) (fun_ext (λ z. h z z refl)) ∙ ap (body a s g) r ∙ sym (at_all a (map header_of s.equations) s.equations y.0 g y.1 fit.bodies)

fits : (a : Alg) (s : System) → SystemFits a s → SystemFits a (without_repeats a s)
fits a s fit =
    let same : map header_of (map equation_without_repeats s.equations) ≡ map header_of s.equations = map_twice header_of equation_without_repeats s.equations in
    let long = length-map s.equations equation_without_repeats in
    record {
      some = subst (λ n. 1 ≤ n) (sym long) fit.some;
      few = subst (λ n. n < 32) (sym long) fit.few;
      headers = subst (Every (HeaderFits a)) (sym same) fit.headers;
      bodies = subst (λ hs. Every (BodyFits a hs) (map equation_without_repeats s.equations)) (sym same)
          (every_mapped (BodyFits a (map header_of s.equations)) equation_without_repeats s.equations (every_map s.equations (body_fits a (map header_of s.equations)) fit.bodies));
      small = fit.small;
      header = fit.header;
      there = ap (λ hs. at hs s.start) same ∙ fit.there;
      values = fit.values;
    }

pub repeats_rules : Rules without_repeats
repeats_rules = record { fits = λ a law s fit. fits a s fit; same_verdict = λ a law s fit. keeps a s fit }
