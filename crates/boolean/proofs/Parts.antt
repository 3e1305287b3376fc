-- A body as it is read: its kind, and its parts one after the other.
use Rattle.std.proofs.Common.{◌≡◌, ℕ, zero, suc, ◌+◌, ◌-◌, ◌<◌, ◌≤◌, Bool, true, false, not, ◌&&◌, ◌||◌, eqb, List, [], ◌∷◌, ◌++◌, get_or, sym, refl, ap, ◌∙◌, add-one, arith}
use Rattle.std.proofs.Math.Bool.{or-false, and-true}
use Rattle.std.proofs.lemmas.Bool.{false_from_ne_true, true_from_ne_false, or_right, and_right}
use Rattle.std.proofs.lemmas.List.Recursion.{and_push, or_push}
use Rattle.faults.specs.declared.Reason.{Reason}
use Rattle.faults.specs.declared.Reason.TheVariants.{NoSuchName, TooDeep, EndsInField}
use Rattle.definitions.specs.Reading.{Step, next, stop, Reader, follow, take, take_for, below, repeated, give, fail}
use Rattle.definitions.specs.Boolean.{Form, known, all, any, var, forms, said, all_said, any_said, read_token}
use Rattle.boolean.specs.Steps.{mapped, read_said}

-- what was read where the truth of a body was
pub unmapped : {X Y : Type 0} (g : X → Y) (y : Y) (q : ℕ) (m : Step X) → next y q ≡ mapped g m → (x : X) × (m ≡ next x q) × (y ≡ g x)
unmapped g y q (next x t) e = let k : t ≡ q = cc in let j : y ≡ g x = cc in (x, ap (λ z. next x z) k, j)
unmapped g y q (stop r t) e = absurd cc

pub unstopped : {X Y : Type 0} (g : X → Y) (r : Reason) (q : ℕ) (m : Step X) → stop r q ≡ mapped g m → stop r q ≡ m
unstopped g r q (next x t) e = absurd cc
unstopped g r q (stop s t) e = let i : s ≡ r = cc in let j : t ≡ q = cc in sym (ap (λ z. stop z t) i ∙ ap (λ z. stop r z) j)

-- the truth of any of the parts, or of all
abbrev pub of_parts : Bool → (ℕ → Bool) → List (Form ℕ) → Bool
of_parts true h ps = any_said (forms ps) h
of_parts false h ps = all_said (forms ps) h

pub of_none : (b : Bool) (h : ℕ → Bool) → not b ≡ of_parts b h []
of_none true h = refl
of_none false h = refl

module _ (h : ℕ → Bool) (ps : List (Form ℕ)) (p : Form ℕ) where
  any_more : of_parts true h (ps ++ (p ∷ [])) ≡ (of_parts true h ps || said p h)
  any_more = or_push (of_parts true h) (λ q. said q h) refl (λ q qs. go (said q h) (of_parts true h qs)) ps p
    where
      go : (x y : Bool) → elim x [ true ↦ true | false ↦ y ] ≡ (x || y)
      go true y = refl
      go false y = refl

  all_more : of_parts false h (ps ++ (p ∷ [])) ≡ (of_parts false h ps && said p h)
  all_more = and_push (of_parts false h) (λ q. said q h) refl (λ q qs. go (said q h) (of_parts false h qs)) ps p
    where
      go : (x y : Bool) → elim x [ true ↦ y | false ↦ false ] ≡ (x && y)
      go true y = refl
      go false y = refl

  -- a part of the truth b decides
  pub decides : (b : Bool) → said p h ≡ b → b ≡ of_parts b h (ps ++ (p ∷ []))
  decides true e = sym (any_more ∙ or_right (of_parts true h ps) (said p h) e)
  decides false e = sym (all_more ∙ and_right (of_parts false h ps) (said p h) e)

  -- and one of the other does not
  pub stays : (b : Bool) → (said p h ≡ b → ⊥) → of_parts b h ps ≡ of_parts b h (ps ++ (p ∷ []))
  stays true n = sym (any_more ∙ ap (λ x. of_parts true h ps || x) (false_from_ne_true (said p h) n) ∙ or-false (of_parts true h ps))
  stays false n = sym (all_more ∙ ap (λ x. of_parts false h ps && x) (true_from_ne_false (said p h) n) ∙ and-true (of_parts false h ps))

-- a body behind its kind
abbrev behind_kind : ℕ → ℕ → ℕ → ℕ → Reader (Form ℕ)
behind_kind n d p k = get_or (give (known false) ∷ give (known true) ∷
    (λ f q. follow (take 8 f q) (λ m q. follow (repeated (read_token n d) (suc m) f q) (λ ps q. next (all (forms ps)) q))) ∷
    (λ f q. follow (take 8 f q) (λ m q. follow (repeated (read_token n d) (suc m) f q) (λ ps q. next (any (forms ps)) q))) ∷
    (λ f q. follow (take_for 12 (below n) NoSuchName f q) (λ v q. next (var v) q)) ∷ [])
    k (fail NoSuchName p)

pub cut : (n d : ℕ) (f : List ℕ) (p : ℕ) (h : ℕ → Bool) → stop EndsInField p ≡ take 3 f p → stop EndsInField p ≡ read_said n d h f p
cut n zero f p h e = ap (λ m. mapped (λ (x : Form ℕ). said x h) (follow m (λ k q. stop TooDeep p))) e
cut n (suc d) f p h e = ap (λ m. mapped (λ x. said x h) (follow m (λ k q. behind_kind n d p k f q))) e

pub deep : (n d : ℕ) (f : List ℕ) (p k q : ℕ) (h : ℕ → Bool) → d ≡ 0 → next k q ≡ take 3 f p → stop TooDeep p ≡ read_said n d h f p
deep n zero f p k q h e i = ap (λ m. mapped (λ (x : Form ℕ). said x h) (follow m (λ k q. stop TooDeep p))) i
deep n (suc d) f p k q h e i = absurd (omega arith)

-- a kind has been read, and there is depth
module _ (n d : ℕ) (f : List ℕ) (p k q : ℕ) (h : ℕ → Bool) (ne : d ≡ 0 → ⊥) (e : next k q ≡ take 3 f p) where
  opens : mapped (λ x. said x h) (behind_kind n (d - 1) p k f q) ≡ read_said n d h f p
  opens = sym (go d ne)
    where
      go : (d : ℕ) → (d ≡ 0 → ⊥) → read_said n d h f p ≡ mapped (λ x. said x h) (behind_kind n (d - 1) p k f q)
      go zero ne = absurd (ne refl)
      go (suc d) ne =
          let i : d ≡ suc d - 1 = omega arith in
          ap (λ m. mapped (λ x. said x h) (follow m (λ k q. behind_kind n d p k f q))) (sym e) ∙ ap (λ x. mapped (λ y. said y h) (behind_kind n x p k f q)) i

  pub body_false : k ≡ 0 → next false q ≡ read_said n d h f p
  body_false z = ap (λ k. mapped (λ x. said x h) (behind_kind n (d - 1) p k f q)) (sym z) ∙ opens

  pub body_true : k ≡ 1 → next true q ≡ read_said n d h f p
  body_true z = ap (λ k. mapped (λ x. said x h) (behind_kind n (d - 1) p k f q)) (sym z) ∙ opens

  pub body_none : 4 < k → stop NoSuchName p ≡ read_said n d h f p
  body_none l = go k l ∙ opens
    where
      go : (k : ℕ) → 4 < k → stop NoSuchName p ≡ mapped (λ x. said x h) (behind_kind n (d - 1) p k f q)
      go zero l = absurd (omega arith)
      go (suc zero) l = absurd (omega arith)
      go (suc (suc zero)) l = absurd (omega arith)
      go (suc (suc (suc zero))) l = absurd (omega arith)
      go (suc (suc (suc (suc zero)))) l = absurd (omega arith)
      go (suc (suc (suc (suc (suc k))))) l = refl

  -- behind the kind the file is still f
  module _ (g : List ℕ) (same : g ≡ f) where
    pub body_name : k ≡ 4 → (m : Step ℕ) → m ≡ take_for 12 (below n) NoSuchName g q → mapped h m ≡ read_said n d h f p
    body_name z m i =
        ap (mapped h) (i ∙ ap (λ f. take_for 12 (below n) NoSuchName f q) same) ∙ go (take_for 12 (below n) NoSuchName f q) ∙
        ap (λ k. mapped (λ x. said x h) (behind_kind n (d - 1) p k f q)) (sym z) ∙ opens
      where
        go : (m : Step ℕ) → mapped h m ≡ mapped (λ x. said x h) (follow m (λ v q. next (var v) q))
        go (next v t) = refl
        go (stop s t) = refl

    pub body_cut : (s : Reason) (w : ℕ) → 2 ≤ k → k ≤ 3 → stop s w ≡ take 8 g q → stop s w ≡ read_said n d h f p
    body_cut s w l u i = go k l u ∙ opens
      where
        go : (k : ℕ) → 2 ≤ k → k ≤ 3 → stop s w ≡ mapped (λ x. said x h) (behind_kind n (d - 1) p k f q)
        go zero l u = absurd (omega arith)
        go (suc zero) l u = absurd (omega arith)
        go (suc (suc zero)) l u = ap (λ m. mapped (λ x. said x h) (follow m (λ m q. follow (repeated (read_token n (d - 1)) (suc m) f q) (λ ps q. next (all (forms ps)) q)))) (i ∙ ap (λ f. take 8 f q) same)
        go (suc (suc (suc zero))) l u = ap (λ m. mapped (λ x. said x h) (follow m (λ m q. follow (repeated (read_token n (d - 1)) (suc m) f q) (λ ps q. next (any (forms ps)) q)))) (i ∙ ap (λ f. take 8 f q) same)
        go (suc (suc (suc (suc k)))) l u = absurd (omega arith)

    pub body_parts : (m t : ℕ) → 2 ≤ k → k ≤ 3 → next m t ≡ take 8 g q → (e : List ℕ) → e ≡ g → mapped (of_parts (eqb k 3) h) (repeated (read_token n (d - 1)) (m + 1) e t) ≡ read_said n d h f p
    body_parts m t l u i e j = ap (λ e. mapped (of_parts (eqb k 3) h) (repeated (read_token n (d - 1)) (m + 1) e t)) (j ∙ same) ∙ go k l u ∙ opens
      where
        of_all : (m : Step (List (Form ℕ))) → mapped (of_parts false h) m ≡ mapped (λ x. said x h) (follow m (λ ps q. next (all (forms ps)) q))
        of_all (next ps t) = refl
        of_all (stop s t) = refl

        of_any : (m : Step (List (Form ℕ))) → mapped (of_parts true h) m ≡ mapped (λ x. said x h) (follow m (λ ps q. next (any (forms ps)) q))
        of_any (next ps t) = refl
        of_any (stop s t) = refl

        go : (k : ℕ) → 2 ≤ k → k ≤ 3 → mapped (of_parts (eqb k 3) h) (repeated (read_token n (d - 1)) (m + 1) f t) ≡ mapped (λ x. said x h) (behind_kind n (d - 1) p k f q)
        go zero l u = absurd (omega arith)
        go (suc zero) l u = absurd (omega arith)
        go (suc (suc zero)) l u =
            rw add-one (of_all (repeated (read_token n (d - 1)) (suc m) f t) ∙
            ap (λ m. mapped (λ x. said x h) (follow m (λ m q. follow (repeated (read_token n (d - 1)) (suc m) f q) (λ ps q. next (all (forms ps)) q)))) (i ∙ ap (λ f. take 8 f q) same))
        go (suc (suc (suc zero))) l u =
            rw add-one (of_any (repeated (read_token n (d - 1)) (suc m) f t) ∙
            ap (λ m. mapped (λ x. said x h) (follow m (λ m q. follow (repeated (read_token n (d - 1)) (suc m) f q) (λ ps q. next (any (forms ps)) q)))) (i ∙ ap (λ f. take 8 f q) same))
        go (suc (suc (suc (suc k)))) l u = absurd (omega arith)
