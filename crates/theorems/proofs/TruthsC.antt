-- Which instances keep their truths under C, in the words of the statement.
use Rattle.std.proofs.Common.{◌≡◌, ℕ, suc, Bool, false, List, [], ◌∷◌, map, length, get_or, Some, None, Option, sym, refl, ap, ◌∙◌, subst, zero-add, arith}
use lib.ListN.{length-map}
use Rattle.definitions.specs.Lists.{at, strike}
use Rattle.definitions.specs.Terms.{truth_term, cut_equation}
use Rattle.definitions.specs.Truth.{size_of, sizes_of}
use Rattle.definitions.specs.Constants.{Known, least_knowledge, inserted, unknown_of}
use Rattle.theorems.specs.PassLaws.{left, unknowns, CKeepsTruths, CBaresUnreached}
use Rattle.theorems.proofs.Listing.{get_or_some, at_map_from, map_from_twice}
use Rattle.theorems.proofs.Knows.{Under, same, unknown, Unders}
use Rattle.theorems.proofs.Cut.{within_long}
use Rattle.theorems.proofs.KeepsC.{truth_kept}
use Rattle.theorems.proofs.FitsC.{knowledge_long}

-- values that agree with what is known
agreeing : (ps : List ℕ) (ks : Known) → length ps ≡ length ks → ((k v : ℕ) → get_or ks k None ≡ Some v → at ps k ≡ Some v) → Unders (map Some ps) ks
agreeing [] [] l h = Unders.nil
agreeing [] (k ∷ ks) l h = absurd (omega arith)
agreeing (p ∷ ps) [] l h = absurd (omega arith)
agreeing (p ∷ ps) (None ∷ ks) l h = Unders.cons unknown (agreeing ps ks (omega arith) (λ k. h (suc k)))
agreeing (p ∷ ps) (Some v ∷ ks) l h =
    Unders.cons (subst (λ (o : Option ℕ). Under o (Some v)) (sym (h 0 v refl)) same) (agreeing ps ks (omega arith) (λ k. h (suc k)))

pub c_truths : CKeepsTruths
c_truths a law s fit x r k =
    truth_kept a s law fit x (left (unknowns a s) x)
    (record {
      equation = r.equation;
      there = r.there;
      ks = k.known;
      reached = k.reached;
      agrees = agreeing x.1 k.known long k.agrees;
      fine = r.fine;
      left = refl;
    })
  where
    long : length x.1 ≡ length k.known
    long =
        sym (within_long (sizes_of a r.equation) x.1 r.fine) ∙ length-map r.equation.sorts (size_of a) ∙
        knowledge_long a law s fit x.0 r.equation k.known r.there k.reached

-- what is not reached is bare
strike_none : (ss : List ℕ) → strike (map (λ _. false) ss) ss ≡ []
strike_none [] = refl
strike_none (r ∷ ss) = strike_none ss

pub bares : CBaresUnreached
bares a s i e p q =
    let K = least_knowledge a s in
    let ms = unknowns a s in
    let mask : get_or ms i [] ≡ map (λ _. false) e.sorts =
    get_or_some [] ms i _ (at_map_from 0 (λ i e. unknown_of e (get_or K i None)) s.equations i e p) ∙ ap (λ z. unknown_of e (get_or K z None)) (zero-add i) ∙ ap (unknown_of e) q in
    ap (λ z. at z i) (map_from_twice 0 (cut_equation ms) (λ i e. inserted e (get_or K i None)) s.equations) ∙
    at_map_from 0 (λ i e. cut_equation ms i (inserted e (get_or K i None))) s.equations i e p ∙
    ap (λ z. Some (cut_equation ms z (inserted e (get_or K z None)))) (zero-add i) ∙
    ap (λ z. Some (cut_equation ms i (inserted e z))) q ∙
    ap (λ (z : List ℕ). Some (record { sign = e.sign; sorts = z; quantified = []; h = truth_term 0; clauses = [] }))
    (ap (λ (m : List Bool). strike m e.sorts) mask ∙ strike_none e.sorts)
