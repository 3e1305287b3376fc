-- What solve answers.
use Rattle.std.proofs.Common.{◌≡◌, ℕ, zero, suc, ◌+◌, ◌-◌, ◌<◌, ◌≤◌, Bool, true, false, ◌||◌, eqb, ltb, List, [], ◌∷◌, ◌++◌, map, length, get_or, take, drop, set, replicate, Some, None, Option, sym, refl, ap, ◌∙◌, add-one, arith, ltb-false, eqb-true, le-leb}
use mathlib.Core.Path.{fun_ext}
use mathlib.Core.Bool.{false≢true}
use Rattle.std.proofs.lemmas.List.{length-take-le}
use mir.Val.{bool_byte}
use borrow.Author.Tests.{lt-leb}
use Rattle.faults.specs.declared.Reason.TheVariants.{TooFewTruths, BadLength}
use Rattle.definitions.specs.Lists.{some, from, is_some}
use Rattle.definitions.specs.Algebras.{truth}
use Rattle.definitions.specs.Reading.{Reading, got, bad, ended, complete}
use Rattle.definitions.specs.Boolean.{Variable, rank_of, sign_of_rank, boolean_reading, read_boolean, solves, rank_block, used_ranks}
use Rattle.definitions.specs.Order as order
use Rattle.definitions.specs.Nested as nested
use Rattle.definitions.specs.Calls.{solve, solve_variables, found, unsolved, Finds}
use Rattle.system.specs.declared.header.Sign.{Sign as KeptSign}
use Rattle.system.specs.Files.{kept_sign}
use Rattle.boolean.specs.declared.entries.Variables.{Variables}
use Rattle.boolean.specs.declared.blocks.Blocks.{Blocks}
use Rattle.theorems.proofs.Histories.{solves_long}
use Rattle.boolean.specs.Steps.{assigned}
use Rattle.boolean.specs.Files.{SignKept, Described}
use Rattle.boolean.proofs.Entering.{ranks_small, alike_everywhere}
use Rattle.rows.specs.Listed.{listed}
use Rattle.definitions.specs.Fits.{Every}
use Rattle.boolean.specs.Ranked.{variables_by, variables_of, variable_body, Signed, SolvedAlike, blocks_of}

pub got_small : (f : List ℕ) (vs : List Variable) → boolean_reading f ≡ got vs → length f ≤ 65535
got_small f vs e = go (ended (complete read_boolean f 0)) (eqb (length f) 0) (ltb 65535 (length f)) refl e
  where
    go : (z : Reading (List Variable)) (a b : Bool) → ltb 65535 (length f) ≡ b → elim (a || b) [ true ↦ bad BadLength 0 | false ↦ z ] ≡ got vs → length f ≤ 65535
    go z true b p q = absurd cc
    go z false true p q = absurd cc
    go z false false p q = ltb-false 65535 (length f) p

pub variables_of_lem : (f : List ℕ) (vs : List Variable) → boolean_reading f ≡ got vs → variables_of f ≡ vs
unfolding variables_of
variables_of_lem f vs e = ap variables_by e

-- a used rank has the sign that is kept for it
ranked : (ss : List (Option KeptSign)) (vs : List Variable) (r : ℕ) → Every (SignKept ss) vs → some (λ (v : Variable). eqb v.rank r) vs ≡ true →
    (s : KeptSign) × (get_or ss r None ≡ Some s) × (sign_of_rank (rank_of vs r) ≡ kept_sign s)
ranked ss [] r k h = absurd (false≢true h)
ranked ss (v ∷ vs) r k h = go (ranked ss vs r k.1) (eqb v.rank r) refl h
  where
    go : (some (λ (w : Variable). eqb w.rank r) vs ≡ true → (s : KeptSign) × (get_or ss r None ≡ Some s) × (sign_of_rank (rank_of vs r) ≡ kept_sign s)) → (b : Bool) → eqb v.rank r ≡ b →
        elim b [ true ↦ true | false ↦ some (λ (w : Variable). eqb w.rank r) vs ] ≡ true →
        (s : KeptSign) × (get_or ss r None ≡ Some s) × (sign_of_rank (elim b [ true ↦ v ∷ rank_of vs r | false ↦ rank_of vs r ]) ≡ kept_sign s)
    go ih true e h = (k.0.0, ap (λ y. get_or ss y None) (sym (eqb-true v.rank r e)) ∙ k.0.1, sym k.0.2)
    go ih false e h = ih h

pub signed : (f : List ℕ) (vs : List Variable) (x : Variables) → Described f vs x → Signed vs x.signs
signed f vs x d = record { used = d.used; sign = λ r s l e. sign r s l e; small = ranks_small f (length vs) vs (listed x.entries) d.entries }
  where
    sign : (r : ℕ) (s : KeptSign) → r < 32 → get_or x.signs r None ≡ Some s → sign_of_rank (rank_of vs r) ≡ kept_sign s
    sign r s l e =
        let w = ranked x.signs vs r d.signs (sym (d.used r l) ∙ ap is_some e) in
        let k : Some w.0 ≡ Some s = sym w.1 ∙ e in
        let j : w.0 ≡ s = cc in
        w.2 ∙ ap kept_sign j

taken : (g : ℕ → Bool) (n k : ℕ) (xs : List Bool) → n ≤ length xs → ((j : ℕ) → get_or xs j false ≡ g (k + j)) → map truth (take n xs) ≡ map (λ j. truth (g j)) (from k n)
taken g zero k xs l h = refl
taken g (suc n) k [] l h = absurd (omega arith)
taken g (suc n) k (x ∷ xs) l h =
    let i : k + 0 ≡ k = omega arith in
    ap (λ y. truth y ∷ map truth (take n xs)) (h 0 ∙ ap g i) ∙
    ap (λ ys. truth (g k) ∷ ys) (taken g n (suc k) xs (omega arith) (λ j. let e : k + suc j ≡ suc k + j = omega arith in h (suc j) ∙ ap g e))

-- the truths found are those of the variables
pub solution_bytes : (vs : List Variable) (b : Blocks) (ts : List Bool) → SolvedAlike vs b → length vs ≤ length ts →
    assigned ts ≡ nested.solve order.truths (variable_body vs) (blocks_of vs b (length (listed b.signs))) (λ _. false) → map truth (take (length vs) ts) ≡ solves vs
solution_bytes vs b ts a l h =
    taken (nested.solve order.truths (variable_body vs) (map (rank_block vs) (used_ranks vs)) (λ _. false)) (length vs) 0 ts l
    (λ j. let e : 0 + j ≡ j = omega arith in ap (λ g. g j) (h ∙ sym (a (λ _. false))) ∙ ap (nested.solve order.truths (variable_body vs) (map (rank_block vs) (used_ranks vs)) (λ _. false)) (sym e))

pub no_room : (f : List ℕ) (vs : List Variable) (n : ℕ) → boolean_reading f ≡ got vs → n < length vs → solve n f ≡ unsolved (record { reason = TooFewTruths; place = 0 })
no_room f vs n e l = ap (solve_variables n) e ∙ ap (λ b. elim b [ true ↦ found (solves vs) | false ↦ unsolved (record { reason = TooFewTruths; place = 0 }) ]) (lt-leb (length vs) n l)

pub finds : (f : List ℕ) (vs : List Variable) (n : ℕ) (before after : List ℕ) → boolean_reading f ≡ got vs → n ≡ length vs → n ≤ length before → after ≡ solves vs ++ drop n before →
    Finds (solve (length before) f) before after n
finds f vs n before after e c l p =
    record {
      bytes = solves vs;
      finds = ap (solve_variables (length before)) e ∙ ap (λ b. elim b [ true ↦ found (solves vs) | false ↦ unsolved (record { reason = TooFewTruths; place = 0 }) ]) (le-leb (length vs) (length before) (omega arith));
      put = record { long = c ∙ sym (solves_long vs); room = l; front = p ∙ ap (λ m. solves vs ++ drop m before) (c ∙ sym (solves_long vs)) };
    }

pub delivered_next : (xs : List Bool) (e ts : List ℕ) (i x : ℕ) → i < length xs → i < length e → x ≡ truth (get_or xs i false) →
    ts ≡ map truth (take i xs) ++ drop i e → set ts i x ≡ map truth (take (i + 1) xs) ++ drop (i + 1) e
delivered_next xs e ts i x l k p q =
    ap (λ z. set z i x) q ∙ ap (set (map truth (take i xs) ++ drop i e) i) p ∙ go xs e i l k ∙
    ap (λ n. map truth (take n xs) ++ drop n e) (sym (add-one i))
  where
    go : (xs : List Bool) (e : List ℕ) (i : ℕ) → i < length xs → i < length e → set (map truth (take i xs) ++ drop i e) i (truth (get_or xs i false)) ≡ map truth (take (suc i) xs) ++ drop (suc i) e
    go [] e i l k = absurd (omega arith)
    go (x ∷ xs) [] i l k = absurd (omega arith)
    go (x ∷ xs) (y ∷ e) zero l k = refl
    go (x ∷ xs) (y ∷ e) (suc i) l k = ap (λ z. truth x ∷ z) (go xs e i (omega arith) (omega arith))

pub bool_byte_truth : (b : Bool) → bool_byte b ≡ truth b
bool_byte_truth true = refl
bool_byte_truth false = refl

pub from_nothing : (vs ws : List Variable) (b : Blocks) (ss : List KeptSign) (ts : List Bool) (n : ℕ) → ws ≡ vs → ss ≡ listed b.signs →
    assigned ts ≡ nested.solve order.truths (variable_body ws) (blocks_of ws b (length ss)) (assigned (replicate n false)) →
    assigned ts ≡ nested.solve order.truths (variable_body vs) (blocks_of vs b (length (listed b.signs))) (λ _. false)
from_nothing vs ws b ss ts n e z h =
    h ∙ ap (λ (us : List Variable). nested.solve order.truths (variable_body us) (blocks_of us b (length ss)) (assigned (replicate n false))) e ∙
    ap (λ (ss : List KeptSign). nested.solve order.truths (variable_body vs) (blocks_of vs b (length ss)) (assigned (replicate n false))) z ∙
    ap (nested.solve order.truths (variable_body vs) (blocks_of vs b (length (listed b.signs)))) (fun_ext (alike_everywhere false n))

-- the first n, as a part of the truths
pub front_part : (ts : List Bool) (before : List ℕ) (n : ℕ) → n ≤ length ts → map truth (take (n - 0) ts) ++ drop (length (take (n - 0) ts)) before ≡ map truth (take n ts) ++ drop n before
front_part ts before n l =
    let z : n - 0 ≡ n = omega arith in
    ap (λ m. map truth (take m ts) ++ drop (length (take m ts)) before) z ∙ ap (λ m. map truth (take n ts) ++ drop m before) (length-take-le n ts l)
