-- Truth values with an order of finite height.
use Rattle.std.specs.Prelude.{◌≡◌, ℕ, ◌-◌, ◌*◌, ◌≤◌, Bool, true, false, not, ◌||◌, List, length, refl}
use Rattle.std.proofs.Common.{sym, arith}
use Rattle.std.proofs.Math.Bool.{So}
use Rattle.std.proofs.lemmas.Bool.{false≢true}
use mathlib.Core.List.{Memᴰ}
use Rattle.definitions.specs.Solution.{Sign, least, greatest, Block}

pub record Order (V : Type 0) : Type 0 where
  pub test : V → V → Bool
  pub refl_le : (a : V) → So (test a a)
  pub trans_le : (a b c : V) → So (test a b) → So (test b c) → So (test a c)
  pub bot : V
  pub top : V
  pub bot_le : (a : V) → So (test bot a)
  pub le_top : (a : V) → So (test a top)
  pub high : ℕ
  pub height : V → ℕ
  pub height_le : (a : V) → height a ≤ high
  pub height_mono : (a b : V) → So (test a b) → height a ≤ height b
  pub height_strict : (a b : V) → So (test a b) → height b ≤ height a → a ≡ b

-- one value lies below another
abbrev pub Le : {V : Type 0} → Order V → V → V → Type 0
Le O a b = So (O.test a b)

abbrev pub dual : {V : Type 0} → Order V → Order V
dual O =
    record {
      test = λ a b. O.test b a;
      refl_le = O.refl_le;
      trans_le = λ a b c p q. O.trans_le c b a q p;
      bot = O.top;
      top = O.bot;
      bot_le = O.le_top;
      le_top = O.bot_le;
      high = O.high;
      height = λ a. O.high - O.height a;
      height_le = λ a. omega arith;
      height_mono = λ a b h. omega (arith, O.height_mono b a h);
      height_strict = λ a b h k. sym (O.height_strict b a h (omega (arith, O.height_le a, O.height_le b)));
    }

abbrev pub toward : {V : Type 0} → Sign → Order V → Order V
toward least O = O
toward greatest O = dual O

-- one assignment lies below another
abbrev pub Below : {I V : Type 0} → Order V → (I → V) → (I → V) → Type 0
Below {I} O f g = (x : I) → Le O (f x) (g x)

abbrev pub Monotone : {I J V : Type 0} → Order V → ((I → V) → J → V) → Type 0
Monotone {I} {J} {V} O F = (f g : I → V) → Below O f g → Below O (F f) (F g)

-- the rounds of a block suffice for what it holds
pub record Enough {I V : Type 0} (O : Order V) (b : Block I) : Type 0 where
  pub members : List I
  pub all : (x : I) → b.inside x ≡ true → Memᴰ x members
  pub rounds_le : O.high * length members ≤ b.rounds

-- the two truths
abbrev pub truth_height : Bool → ℕ
truth_height true = 1
truth_height false = 0

pub truth_same : (a b : Bool) → So (not a || b) → truth_height b ≤ truth_height a → a ≡ b
truth_same true true h k = refl
truth_same true false h k = sym h
truth_same false true h k = absurd (omega arith)
truth_same false false h k = refl

pub truth_mono : (a b : Bool) → So (not a || b) → truth_height a ≤ truth_height b
truth_mono true true h = omega arith
truth_mono true false h = absurd (false≢true h)
truth_mono false true h = omega arith
truth_mono false false h = omega arith

pub truth_one : (a : Bool) → truth_height a ≤ 1
truth_one true = omega arith
truth_one false = omega arith

pub truth_refl : (a : Bool) → So (not a || a)
truth_refl true = refl
truth_refl false = refl

pub truth_top : (a : Bool) → So (not a || true)
truth_top true = refl
truth_top false = refl

pub truth_trans : (a b c : Bool) → So (not a || b) → So (not b || c) → So (not a || c)
truth_trans true true c p q = q
truth_trans true false c p q = absurd (false≢true p)
truth_trans false b c p q = refl

abbrev pub truths : Order Bool
truths =
    record {
      test = λ a b. not a || b;
      refl_le = truth_refl;
      trans_le = truth_trans;
      bot = false;
      top = true;
      bot_le = λ a. refl;
      le_top = truth_top;
      high = 1;
      height = truth_height;
      height_le = truth_one;
      height_mono = truth_mono;
      height_strict = truth_same;
    }
