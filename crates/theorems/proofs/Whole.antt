-- A system that fits, written, is read back.
use Rattle.std.proofs.Common.{◌≡◌, ℕ, zero, suc, ◌-◌, ◌*◌, ◌%◌, ◌^◌, ◌<◌, ◌≤◌, List, [], ◌∷◌, ◌++◌, map, length, refl, ap, ◌∙◌, zero-add, arith}
use Rattle.std.proofs.lemmas.Bool.{le-leb, le-ltb, ne_eqb}
use Rattle.definitions.specs.Lists.{flat}
use Rattle.definitions.specs.Bits.{field, bits, packed}
use Rattle.definitions.specs.Alg.{Alg}
use Rattle.definitions.specs.Systems.{Kind, parameter, variable, value, operation, not, and, or, equal, Term, Terms, node, none, more, folds, Quantifier, exists, forall, Quantified, Occurrence, Clause, Equation, System}
use Rattle.definitions.specs.Solution.{Sign, least, greatest}
use Rattle.definitions.specs.Reading.{next, Reader, got, ended, ending, complete, file}
use Rattle.definitions.specs.ReadSystem.{reading, read_system}
use Rattle.definitions.specs.Written.{kind_bits, term_bits, sign_bits, quantifier_bits, header_bits, occurrence_bits, clause_bits, body_bits, system_bits, written}
use Rattle.definitions.specs.Fits.{Every, SystemFits}
use Rattle.theorems.proofs.Goods.{good_system}
use Rattle.theorems.proofs.Packs.{packs}

abbrev pub Bits : List ℕ → Type 0
Bits bs = Every (λ b. b < 2) bs

pub join : (bs cs : List ℕ) → Bits bs → Bits cs → Bits (bs ++ cs)
join [] cs h k = k
join (b ∷ bs) cs h k = (h.0, join bs cs h.1 k)

pub number_bits : (w v : ℕ) → Bits (bits w v)
number_bits zero v = tt
number_bits (suc w) v = (omega arith, number_bits w (v % 2 ^ w))

pub flat_bits : {A : Type 0} (b : A → List ℕ) → ((x : A) → Bits (b x)) → (xs : List A) → Bits (flat (map b xs))
flat_bits b h [] = tt
flat_bits b h (x ∷ xs) = join (b x) (flat (map b xs)) (h x) (flat_bits b h xs)

kind_bits_lem : (k : Kind) → Bits (kind_bits k)
kind_bits_lem (parameter n) = join (bits 3 0) (bits 4 n) (number_bits 3 0) (number_bits 4 n)
kind_bits_lem (variable n) = join (bits 3 1) (bits 2 n) (number_bits 3 1) (number_bits 2 n)
kind_bits_lem (value s v) = join (bits 3 2) (bits 4 s ++ bits 8 v) (number_bits 3 2) (join (bits 4 s) (bits 8 v) (number_bits 4 s) (number_bits 8 v))
kind_bits_lem (operation o) = join (bits 3 3) (bits 6 o) (number_bits 3 3) (number_bits 6 o)
kind_bits_lem not = number_bits 3 4
kind_bits_lem and = number_bits 3 5
kind_bits_lem or = number_bits 3 6
kind_bits_lem equal = number_bits 3 7

mutual
  term_bits_lem : (t : Term) → Bits (term_bits t)
  term_bits_lem (node k ts) = join (kind_bits k) (flat (folds ts (λ kind parts. kind_bits kind ++ flat parts))) (kind_bits_lem k) (terms_bits ts)

  terms_bits : (ts : Terms) → Bits (flat (folds ts (λ kind parts. kind_bits kind ++ flat parts)))
  terms_bits none = tt
  terms_bits (more t ts) = join (term_bits t) (flat (folds ts (λ kind parts. kind_bits kind ++ flat parts))) (term_bits_lem t) (terms_bits ts)

pub sign_bits_lem : (s : Sign) → Bits (sign_bits s)
sign_bits_lem least = (omega arith, tt)
sign_bits_lem greatest = (omega arith, tt)

quantified_bits : (q : Quantified) → Bits (quantifier_bits q.quantifier ++ bits 4 q.sort)
quantified_bits q = go q.quantifier
  where
    go : (k : Quantifier) → Bits (quantifier_bits k ++ bits 4 q.sort)
    go exists = (omega arith, number_bits 4 q.sort)
    go forall = (omega arith, number_bits 4 q.sort)

header_bits_lem : (e : Equation) → Bits (header_bits e)
header_bits_lem e =
    join (sign_bits e.sign) _ (sign_bits_lem e.sign)
    (join (bits 4 (length e.sorts)) _ (number_bits 4 (length e.sorts))
    (join (flat (map (bits 4) e.sorts)) _ (flat_bits (bits 4) (number_bits 4) e.sorts)
    (join (bits 2 (length e.quantified)) _ (number_bits 2 (length e.quantified)) (flat_bits _ quantified_bits e.quantified))))

occurrence_bits_lem : (o : Occurrence) → Bits (occurrence_bits o)
occurrence_bits_lem o = join (bits 5 o.target) _ (number_bits 5 o.target) (flat_bits term_bits term_bits_lem o.arguments)

pub clause_bits_lem : (c : Clause) → Bits (clause_bits c)
clause_bits_lem c =
    join (term_bits c.guard) _ (term_bits_lem c.guard)
    (join (bits 3 (length c.occurrences - 1)) _ (number_bits 3 (length c.occurrences - 1)) (flat_bits occurrence_bits occurrence_bits_lem c.occurrences))

body_bits_lem : (e : Equation) → Bits (body_bits e)
body_bits_lem e =
    join (term_bits e.h) _ (term_bits_lem e.h)
    (join (bits 4 (length e.clauses)) _ (number_bits 4 (length e.clauses)) (flat_bits clause_bits clause_bits_lem e.clauses))

pub system_bits_lem : (s : System) → Bits (system_bits s)
system_bits_lem s =
    join (bits 5 (length s.equations)) _ (number_bits 5 (length s.equations))
    (join (flat (map header_bits s.equations)) _ (flat_bits header_bits header_bits_lem s.equations)
    (join (flat (map body_bits s.equations)) _ (flat_bits body_bits body_bits_lem s.equations)
    (join (bits 5 s.start) _ (number_bits 5 s.start) (flat_bits (bits 8) (number_bits 8) s.values))))

pub ends : (f : List ℕ) (p : ℕ) → 8 * length f - p ≤ 7 → field f p (8 * length f - p) ≡ 0 → ending f p ≡ next tt p
ends f p l e = rw (le-leb (8 * length f - p) 7 l, e, ending) refl

pub file_got : {A : Type 0} (n : ℕ) (r : Reader A) (f : List ℕ) (x : A) (p : ℕ) → (length f ≡ 0 → ⊥) → length f ≤ n → r f 0 ≡ next x p →
    ending f p ≡ next tt p → file n r f ≡ got x
file_got n r f x p some l g e = rw (ne_eqb (length f) 0 some, le-ltb n (length f) l, file) (ap ended (whole ∙ refl))
  where
    whole : complete r f 0 ≡ next x p
    whole = rw (g, e) refl

pub whole_back : (a : Alg) (s : System) → SystemFits a s → length (written s) ≤ 8192 → reading a (written s) ≡ got s
whole_back a s h l =
    let bs = system_bits s in
    let f = packed bs in
    let p = packs bs (system_bits_lem s) in
    let g : read_system a f 0 ≡ next s (length bs) = (good_system f a s h).run 0 p.stand ∙ ap (next s) (zero-add (length bs)) in
    let some : (length f ≡ 0) → ⊥ = λ z. omega (arith, p.long) in
    file_got 8192 (read_system a) f s (length bs) some l g (ends f (length bs) p.short p.rest)
