-- Ranked systems of least and greatest fixpoint equations, and how their solution is found, by rounds. What it is, with no rounds, is said in Nested; that the rounds find it, and that there is no other, is proved in the crate `fixpoint`.
use Rattle.std.specs.Prelude.{ℕ, zero, suc, Bool, true, false, List, [], ◌∷◌}

pub data Sign : Type 0 where
  least greatest : Sign

-- the instances of one rank: which they are, and how many rounds settle them
pub record Block (I : Type 0) : Type 0 where
  pub sign : Sign
  pub inside : I → Bool
  pub rounds : ℕ

abbrev pub iter : {A : Type 0} → ℕ → (A → A) → A → A
iter zero g a = a
iter (suc n) g a = g (iter n g a)

-- where the rounds of a sign begin
abbrev pub edge : {V : Type 0} → V → V → Sign → V
edge bot top least = bot
edge bot top greatest = top

-- the truths `f` inside the block, those of `e` elsewhere
abbrev pub put : {I V : Type 0} → Block I → (I → V) → (I → V) → I → V
put b f e x = elim (b.inside x) [ true ↦ f x | false ↦ e x ]

-- the block's truths by rounds of `op` from `v`, the others held at `e`
abbrev pub settled : {I V : Type 0} → V → Block I → ((I → V) → I → V) → (I → V) → I → V
settled v b op e = iter b.rounds (λ f. put b (op f) e) (put b (λ _. v) e)

abbrev pub solution : {I V : Type 0} → V → V → ((I → V) → I → V) → List (Block I) → (I → V) → I → V
solution bot top body [] e = e
solution bot top body (b ∷ bs) e =
    solution bot top body bs (settled (edge bot top b.sign) b (λ f. body (solution bot top body bs f)) e)

abbrev pub solved : {I : Type 0} → ((I → Bool) → I → Bool) → List (Block I) → I → Bool
solved body bs = solution false true body bs (λ _. false)
