-- One reader after another, with their values forgotten.
use Rattle.std.proofs.Common.{◌≡◌, ℕ, suc, ◌+◌, ◌<◌, ◌≤◌, List, [], ◌∷◌, map, length, get_or, Some, None, Option, Bor, refl, ap, ◌∙◌, add-one}
use Rattle.std.specs.Option.{option_map}
use Rattle.std.specs.Slice.{IsItemAt}
use Rattle.system.specs.declared.header.Quantified.{Quantified as Kept}
use Rattle.system.specs.Files.{kept_quantified}
use Rattle.faults.specs.declared.Reason.TheVariants.{NoSuchName}
use Rattle.definitions.specs.Lists.{at, up_to, bind}
use Rattle.definitions.specs.Alg.{Alg}
use Rattle.definitions.specs.Reading.{Step, next, stop, follow, take, given, repeated, one_by_one}
use Rattle.definitions.specs.Systems.{Equation}
use Rattle.definitions.specs.ReadSystem.{Scope, Header, scope, read_target, read_of, read_occurrence, read_clause, read_body}
use Rattle.system.specs.Steps.{placed}
use Rattle.system.proofs.Rows.{counted}
use Rattle.system.proofs.Lists.{at_item, at_none}

pub after : {A B : Type 0} (m : Step A) (k : A → ℕ → Step B) (q : ℕ) (w : Step (Unit {0})) → next tt q ≡ placed m → ((x : A) → w ≡ placed (k x q)) → w ≡ placed (follow m k)
after (next x t) k q w e h = let i : q ≡ t = cc in h x ∙ ap (λ z. placed (k x z)) i
after (stop r t) k q w e h = absurd cc

pub exactly : {A B : Type 0} (m : Step A) (k : A → ℕ → Step B) (x : A) (q : ℕ) (w : Step (Unit {0})) → next x q ≡ m → w ≡ placed (k x q) → w ≡ placed (follow m k)
exactly m k x q w e h = h ∙ ap (λ z. placed (follow z k)) e

pub wrapped : {A B : Type 0} (g : A → B) (m : Step A) → placed m ≡ placed (follow m (λ x q. next (g x) q))
wrapped g (next x q) = refl
wrapped g (stop r q) = refl

module _ {X : Type 0} (g : X → Header) (xs : List X) (f : List ℕ) (p i q : ℕ) (e : next i q ≡ take 5 f p) where
  pub target_no : length xs ≤ i → stop NoSuchName p ≡ read_target (map g xs) f p
  target_no h =
      ap (λ o. given (bind o (λ h. Some (i, h))) NoSuchName p f q) (at_none g xs i h) ∙
      ap (λ m. follow m (λ n q. given (bind (at (map g xs) n) (λ h. Some (n, h))) NoSuchName p f q)) e

  pub target_yes : (x : X) → i < length xs → x ≡ get_or xs i x → next (i, g x) q ≡ read_target (map g xs) f p
  target_yes x h k =
      ap (λ o. given (bind o (λ h. Some (i, h))) NoSuchName p f q) (at_item g xs i x h k) ∙
      ap (λ m. follow m (λ n q. given (bind (at (map g xs) n) (λ h. Some (n, h))) NoSuchName p f q)) e

module _ (a : Alg) (hs : List Header) (c : Scope) (f : List ℕ) where
  pub occurrence_done : (p i q : ℕ) (h : Header) → next (i, h) q ≡ read_target hs f p → (w : Step (Unit {0})) → w ≡ placed (one_by_one (read_of a c) h.sorts f q) → w ≡ placed (read_occurrence a hs c f p)
  occurrence_done p i q h e w k = exactly (read_target hs f p) _ (i, h) q w e (k ∙ wrapped (λ ts. record { target = i; arguments = ts }) (one_by_one (read_of a c) h.sorts f q))

  pub clause_done : (p o n q : ℕ) → next tt o ≡ placed (read_of a c 0 f p) → next n q ≡ take 3 f o → (w : Step (Unit {0})) → w ≡ placed (one_by_one (λ (_ : ℕ). read_occurrence a hs c) (up_to (n + 1)) f q) → w ≡ placed (read_clause a hs c f p)
  clause_done p o n q e k w h =
      after (read_of a c 0 f p) _ o w e (λ g. exactly (take 3 f o) _ n q w k (h ∙ ap placed (counted (read_occurrence a hs c) 0 (n + 1) f q) ∙ ap (λ m. placed (repeated (read_occurrence a hs c) m f q)) (add-one n) ∙ wrapped (λ os. record { guard = g; occurrences = os }) (repeated (read_occurrence a hs c) (suc n) f q)))

pub body_done : (a : Alg) (hs : List Header) (h : Header) (f : List ℕ) (p o n q : ℕ) → next tt o ≡ placed (read_of a (scope h) 0 f p) → next n q ≡ take 4 f o → (w : Step (Unit {0})) → w ≡ placed (one_by_one (λ (_ : ℕ). read_clause a hs (scope h)) (up_to n) f q) → w ≡ placed (read_body a hs h f p)
body_done a hs h f p o n q e k w l =
    after (read_of a (scope h) 0 f p) _ o w e (λ t. exactly (take 4 f o) _ n q w k (l ∙ ap placed (counted (read_clause a hs (scope h)) 0 n f q) ∙ wrapped {B = Equation} (λ cs. record { sign = h.sign; sorts = h.sorts; quantified = h.quantified; h = t; clauses = cs }) (repeated (read_clause a hs (scope h)) n f q)))

-- the sort of a quantified variable by its number
pub variable_at : (xs : List Kept) (n : ℕ) (r : Option (Bor Kept)) → IsItemAt xs n r → option_map (λ (x : Bor Kept). x.now.sort) r ≡ at (map (λ q. q.sort) (map kept_quantified xs)) n
variable_at xs n r e = go r e ∙ ap (λ ys. at ys n) (fused xs)
  where
    fused : (xs : List Kept) → map (λ (q : Kept). q.sort) xs ≡ map (λ q. q.sort) (map kept_quantified xs)
    fused [] = refl
    fused (x ∷ xs) = ap (λ ys. x.sort ∷ ys) (fused xs)

    go : (r : Option (Bor Kept)) → IsItemAt xs n r → option_map (λ (x : Bor Kept). x.now.sort) r ≡ at (map (λ (q : Kept). q.sort) xs) n
    go None e = at_none (λ (q : Kept). q.sort) xs n e.3
    go (Some x) e = at_item (λ (q : Kept). q.sort) xs n x.now e.3.0 e.1
