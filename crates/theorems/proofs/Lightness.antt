-- The weight of a system is at most the number of bits of its file, and settling keeps the verdict.
use Rattle.std.proofs.Common.{◌≡◌, ℕ, suc, ◌+◌, ◌/◌, ◌≤◌, List, [], ◌∷◌, ◌++◌, map, length, refl, ap, arith, length-append}
use Rattle.definitions.specs.Lists.{flat, sum}
use Rattle.definitions.specs.Bits.{bits}
use Rattle.definitions.specs.Solution.{Sign, least, greatest}
use Rattle.definitions.specs.Systems.{Kind, parameter, variable, value, operation, not, and, or, equal, Term, Terms, node, none, more, folds, Quantifier, exists, forall, Quantified, Occurrence, Clause, Equation, System}
use Rattle.definitions.specs.Reading.{Reading, got, bad}
use Rattle.definitions.specs.ReadSystem.{reading}
use Rattle.definitions.specs.Written.{kind_bits, term_bits, sign_bits, quantifier_bits, header_bits, occurrence_bits, clause_bits, body_bits, system_bits}
use Rattle.definitions.specs.Settle.{kind_weight, term_weight, occurrence_weight, clause_weight, false_term, equation_weight, weight, rounds_for}
use Rattle.theorems.specs.SettleLaws.{WeightWithinBits, RoundsWithinLimit, SettlingKeepsVerdict}
use Rattle.theorems.proofs.PassRules.{passes_rule}
use Rattle.theorems.proofs.Histories.{moves_settle}
use Rattle.theorems.proofs.Repack.{whole_forth}
use Rattle.theorems.proofs.Packs.{bytes_long}
use Rattle.theorems.proofs.Weights.{W, full_two}

abbrev B : Kind → List (List ℕ) → List ℕ
B k parts = kind_bits k ++ flat parts

kind_bits_lem : (k : Kind) → kind_weight k + 3 ≤ length (kind_bits k) + 1
kind_bits_lem (parameter n) = omega arith
kind_bits_lem (variable n) = omega arith
kind_bits_lem (value s v) = omega arith
kind_bits_lem (operation o) = omega arith
kind_bits_lem not = omega arith
kind_bits_lem and = omega arith
kind_bits_lem or = omega arith
kind_bits_lem equal = omega arith

-- a term's bits are more than its weight
mutual
  term_light : (t : Term) → term_weight t + 2 ≤ length (term_bits t)
  term_light (node k ts) = omega (arith, kind_bits_lem k, terms_light ts, length-append (kind_bits k) (flat (folds ts B)))

  terms_light : (ts : Terms) → sum (folds ts W) ≤ length (flat (folds ts B))
  terms_light none = omega arith
  terms_light (more t ts) = omega (arith, term_light t, terms_light ts, length-append (term_bits t) (flat (folds ts B)))

-- lists of parts
flat_light : {A : Type 0} (w : A → ℕ) (b : A → List ℕ) → ((x : A) → w x ≤ length (b x)) → (xs : List A) → sum (map w xs) ≤ length (flat (map b xs))
flat_light w b h [] = omega arith
flat_light w b h (x ∷ xs) = omega (arith, h x, flat_light w b h xs, length-append (b x) (flat (map b xs)))

flat_least : {A : Type 0} (b : A → List ℕ) → ((x : A) → 1 ≤ length (b x)) → (xs : List A) → length xs ≤ length (flat (map b xs))
flat_least b h [] = omega arith
flat_least b h (x ∷ xs) = omega (arith, h x, flat_least b h xs, length-append (b x) (flat (map b xs)))

occurrence_light : (o : Occurrence) → occurrence_weight o ≤ length (occurrence_bits o)
occurrence_light o =
    let h : sum (map term_weight o.arguments) ≤ length (flat (map term_bits o.arguments)) = flat_light term_weight term_bits (λ t. omega (arith, term_light t)) o.arguments in
    omega (arith, h, length-append (bits 5 o.target) (flat (map term_bits o.arguments)))

clause_light : (c : Clause) → clause_weight c ≤ length (clause_bits c)
clause_light c =
    let os = flat (map occurrence_bits c.occurrences) in
    let n = bits 3 (Prim.Native.Nat.◌-◌ (length c.occurrences) 1) in
    let h : sum (map occurrence_weight c.occurrences) ≤ length os = flat_light occurrence_weight occurrence_bits occurrence_light c.occurrences in
    omega (arith, h, term_light c.guard, length-append (term_bits c.guard) (n ++ os), length-append n os)

quantified_bits : (q : Quantified) → 1 ≤ length (quantifier_bits q.quantifier ++ bits 4 q.sort)
quantified_bits q = go q.quantifier
  where
    go : (k : Quantifier) → 1 ≤ length (quantifier_bits k ++ bits 4 q.sort)
    go exists = omega arith
    go forall = omega arith

sign_one : (g : Sign) (bs : List ℕ) → length (sign_bits g ++ bs) ≡ suc (length bs)
sign_one least bs = refl
sign_one greatest bs = refl

header_light : (e : Equation) → length e.sorts + length e.quantified + 7 ≤ length (header_bits e)
header_light e =
    let ss = flat (map (bits 4) e.sorts) in
    let qs = flat (map (λ (q : Quantified). quantifier_bits q.quantifier ++ bits 4 q.sort) e.quantified) in
    let h : length e.sorts ≤ length ss = flat_least (bits 4) (λ s. omega arith) e.sorts in
    let k : length e.quantified ≤ length qs = flat_least (λ (q : Quantified). quantifier_bits q.quantifier ++ bits 4 q.sort) quantified_bits e.quantified in
    omega (
      arith,
      h,
      k,
      sign_one e.sign (bits 4 (length e.sorts) ++ (ss ++ (bits 2 (length e.quantified) ++ qs))),
      length-append (bits 4 (length e.sorts)) (ss ++ (bits 2 (length e.quantified) ++ qs)),
      length-append ss (bits 2 (length e.quantified) ++ qs),
      length-append (bits 2 (length e.quantified)) qs,
    )

body_light : (e : Equation) → term_weight e.h + sum (map clause_weight e.clauses) ≤ length (body_bits e)
body_light e =
    let cs = flat (map clause_bits e.clauses) in
    let h : sum (map clause_weight e.clauses) ≤ length cs = flat_light clause_weight clause_bits clause_light e.clauses in
    omega (arith, h, term_light e.h, length-append (term_bits e.h) (bits 4 (length e.clauses) ++ cs), length-append (bits 4 (length e.clauses)) cs)

equations_light : (es : List Equation) → sum (map equation_weight es) ≤ length (flat (map header_bits es)) + length (flat (map body_bits es))
equations_light [] = omega arith
equations_light (e ∷ es) =
    omega (
      arith,
      header_light e,
      body_light e,
      full_two (false_term e.h),
      equations_light es,
      length-append (header_bits e) (flat (map header_bits es)),
      length-append (body_bits e) (flat (map body_bits es)),
    )

system_light : (s : System) → weight s ≤ length (system_bits s)
system_light s =
    let hs = flat (map header_bits s.equations) in
    let bs = flat (map body_bits s.equations) in
    let vs = flat (map (bits 8) s.values) in
    omega (
      arith,
      equations_light s.equations,
      length-append (bits 5 (length s.equations)) (hs ++ (bs ++ (bits 5 s.start ++ vs))),
      length-append hs (bs ++ (bits 5 s.start ++ vs)),
      length-append bs (bits 5 s.start ++ vs),
    )

pub weight_within_bits : WeightWithinBits
weight_within_bits s = omega (arith, system_light s, bytes_long ((length (system_bits s) + 7) / 8) (system_bits s))

pub rounds_within_limit : RoundsWithinLimit
rounds_within_limit a law f small l = go (reading a f) refl
  where
    go : (o : Reading System) → reading a f ≡ o → rounds_for (reading a f) ≤ 65537
    go (got s) e = omega (arith, weight_within_bits s, ap length (whole_forth a law f small s e).0, ap rounds_for e)
    go (bad r p) e = omega (arith, ap rounds_for e)

pub settling_keeps : SettlingKeepsVerdict
settling_keeps a law f g n small s e t =
    let x = (moves_settle passes_rule a t).does.next law s (whole_forth a law f small s e).1 e in
    record { system = x.system; read = x.reads; fits = x.fits; same_verdict = x.same }
