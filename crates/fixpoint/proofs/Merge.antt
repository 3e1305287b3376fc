-- Neighbouring blocks of one sign (Bekić).
use mathlib.Core.Path.{◌≡◌, refl, sym, ◌∙◌, ap, subst, fun_ext}
use mathlib.Core.Bool.{Bool, true, false, ◌||◌, true≢false}
use mathlib.Core.List.Memᴰ
use mathlib.Core.List.{List, [], ◌∷◌, ◌++◌, Memᴰ}
use native.Mathlib.Nat.{add_comm, mul-add}
use native.Mathlib.Omega.{arith}
use lib.ListN.{length-append}
use Rattle.definitions.specs.Solution.{Sign, least, greatest, Block, edge, put, settled}
use Rattle.definitions.specs.Order.{Order, Le, dual, Below, Monotone, Enough}
use Rattle.definitions.specs.Nested.{solve}
use Rattle.fixpoint.specs.Laws.{join, NeighboursMerge, NeighboursExchange}
use Rattle.fixpoint.proofs.Rounds.{pick, antisym, le_eq}
use Rattle.fixpoint.proofs.Rounds.{step, settled_mono, after_least, settled_back}
use Rattle.fixpoint.proofs.Signs.{mono_dual, enough_dual, op_mono}

cond_or : {V : Type 0} (p q : Bool) (a d : V) → pick (p || q) a d ≡ pick q a (pick p a d)
cond_or true true a d = refl
cond_or true false a d = refl
cond_or false true a d = refl
cond_or false false a d = refl

under_inner : {V : Type 0} (O : Order V) (p q : Bool) (m o d : V) → pick (p || q) o d ≡ m → Le O (pick q o (pick p m d)) m
under_inner O true true m o d h = le_eq O h
under_inner O true false m o d h = O.refl_le m
under_inner O false true m o d h = le_eq O h
under_inner O false false m o d h = le_eq O h

under_outer : {V : Type 0} (O : Order V) (p q : Bool) (m o o' d : V) → pick (p || q) o d ≡ m → Le O o' o → Le O (pick p o' d) (pick p m d)
under_outer O true q m o o' d h k = subst (Le O o') h k
under_outer O false q m o o' d h k = O.refl_le d

or_true : (p q : Bool) → (p || q) ≡ true → (p ≡ false → q ≡ true)
or_true true q h k = absurd (true≢false k)
or_true false q h k = h

pub enough_join : {I V : Type 0} (O : Order V) (b c : Block I) → Enough O b → Enough O c → Enough O (join b c)
enough_join {I} O b c n k =
    record {
      members = n.members ++ k.members;
      all = λ x h. at x (b.inside x) refl h;
      rounds_le = rw (length-append, mul-add) (omega (arith, n.rounds_le, k.rounds_le));
    }
  where
    at : (x : I) (p : Bool) → b.inside x ≡ p → (b.inside x || c.inside x) ≡ true → Memᴰ x (n.members ++ k.members)
    at x true e h = Memᴰ.append_left k.members (n.all x e)
    at x false e h = Memᴰ.append_right n.members (k.all x (or_true (b.inside x) (c.inside x) h e))

module _ {I V : Type 0} (O : Order V) (b c : Block I) (op : (I → V) → I → V) (mono : Monotone O op)
    (n : Enough O b) (k : Enough O c) (e : I → V) where
  inner : (I → V) → I → V
  inner f = settled O.bot c op f

  inner_mono : Monotone O inner
  unfolding inner
  inner_mono = settled_mono O O.bot c op mono

  op_inner : Monotone O (λ f. op (inner f))
  op_inner f g h = mono (inner f) (inner g) (inner_mono f g h)

  T : I → V
  T = settled O.bot b (λ f. op (inner f)) e

  M : I → V
  M = settled O.bot (join b c) op e

  E : I → V
  E = inner T

  P : I → V
  P = put b M e

  m_back : (x : I) → pick (b.inside x || c.inside x) (op M x) (e x) ≡ M x
  unfolding M
  m_back x = ap (λ f. f x) (settled_back O (join b c) op mono e (enough_join O b c n k))

  e_back : step (join b c) op e E ≡ E
  unfolding E inner T
  e_back = fun_ext (λ x.
      cond_or (b.inside x) (c.inside x) (op E x) (e x) ∙
      ap (pick (c.inside x) (op E x)) (ap (λ f. f x) (settled_back O b (λ f. op (inner f)) op_inner e n)) ∙
      ap (λ f. f x) (settled_back O c op mono T k))

  m_below : Below O M E
  unfolding M
  m_below = after_least O (join b c) op mono e (join b c).rounds E (λ x. le_eq O (ap (λ f. f x) e_back))

  inner_p : Below O (inner P) M
  unfolding inner P
  inner_p = after_least O c op mono P c.rounds M (λ x. under_inner O (b.inside x) (c.inside x) (M x) (op M x) (e x) (m_back x))

  t_below : Below O T P
  unfolding T P
  t_below = after_least O b (λ f. op (inner f)) op_inner e b.rounds P
      (λ x. under_outer O (b.inside x) (c.inside x) (M x) (op M x) (op (inner P) x) (e x) (m_back x) (mono (inner P) M inner_p x))

  e_below : Below O E M
  unfolding E
  e_below x = O.trans_le (E x) (inner P x) (M x) (inner_mono T P t_below x) (inner_p x)

  pub bekic : settled O.bot c op (settled O.bot b (λ f. op (settled O.bot c op f)) e) ≡ settled O.bot (join b c) op e
  unfolding E M T inner
  bekic = fun_ext (λ x. antisym O (e_below x) (m_below x))

pub sign_bekic : {I V : Type 0} (s : Sign) (O : Order V) (b c : Block I) (op : (I → V) → I → V) → Monotone O op →
    Enough O b → Enough O c → (e : I → V) →
    settled (edge O.bot O.top s) c op (settled (edge O.bot O.top s) b (λ f. op (settled (edge O.bot O.top s) c op f)) e) ≡
    settled (edge O.bot O.top s) (join b c) op e
sign_bekic least O b c op m n k e = bekic O b c op m n k e
sign_bekic greatest O b c op m n k e = bekic (dual O) b c op (mono_dual O op m) (enough_dual O b n) (enough_dual O c k) e

-- what two lists of blocks share as a function, they share behind others
pub behind : {I V : Type 0} (O : Order V) (body : (I → V) → I → V) (pre bs cs : List (Block I)) →
    ((e : I → V) → solve O body bs e ≡ solve O body cs e) → (e : I → V) → solve O body (pre ++ bs) e ≡ solve O body (pre ++ cs) e
behind O body [] bs cs h e = h e
behind {I} {V} O body (a ∷ pre) bs cs h e =
    ap (λ (R : (I → V) → I → V). R (settled (edge O.bot O.top a.sign) a (λ f. body (R f)) e)) (fun_ext (behind O body pre bs cs h))

pub merge : (I V : Type 0) → NeighboursMerge I V
merge I V O body m pre b c bs p n k e = behind O body pre (b ∷ (c ∷ bs)) (join b c ∷ bs) here e
  where
    here : (e : I → V) → solve O body (b ∷ (c ∷ bs)) e ≡ solve O body (join b c ∷ bs) e
    here e =
        ap (solve O body bs)
        (subst (λ s. settled (edge O.bot O.top s) c (λ u. body (solve O body bs u))
        (settled (edge O.bot O.top b.sign) b
        (λ f. body (solve O body bs (settled (edge O.bot O.top s) c (λ u. body (solve O body bs u)) f))) e)
        ≡ settled (edge O.bot O.top b.sign) (join b c) (λ u. body (solve O body bs u)) e)
        p
        (sign_bekic b.sign O b c (λ u. body (solve O body bs u)) (op_mono O body m bs) n k e))

or_comm : (p q : Bool) → (p || q) ≡ (q || p)
or_comm true true = refl
or_comm true false = refl
or_comm false true = refl
or_comm false false = refl

join_comm : {I : Type 0} (b c : Block I) → b.sign ≡ c.sign → join b c ≡ join c b
join_comm b c p = λ i. record { sign = p i; inside = λ x. or_comm (b.inside x) (c.inside x) i; rounds = add_comm b.rounds c.rounds i }

pub exchange : (I V : Type 0) → NeighboursExchange I V
exchange I V O body m pre b c bs p n k e =
    merge I V O body m pre b c bs p n k e ∙
    ap (λ (z : Block I). solve O body (pre ++ (z ∷ bs)) e) (join_comm b c p) ∙
    sym (merge I V O body m pre c b bs (sym p) k n e)
