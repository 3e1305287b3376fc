-- The file of a system: its content is made of bits, and closed it is packed.
use Rattle.std.proofs.Common.{◌≡◌, ℕ, ◌+◌, ◌-◌, ◌*◌, ◌/◌, ◌<◌, ◌≤◌, Bool, true, false, ltb, List, [], ◌∷◌, ◌++◌, map, length, drop, sym, refl, ap, ◌∙◌, arith}
use Rattle.definitions.specs.Lists.{flat}
use Rattle.definitions.specs.Bits.{bits, packed}
use Rattle.definitions.specs.Solution.{Sign, least, greatest}
use Rattle.definitions.specs.Systems.{Kind, parameter, variable, value, operation, not, and, or, equal, Term, Terms, node, none, more, folds, Quantifier, exists, forall, Quantified, Occurrence, Clause, Equation, System}
use Rattle.definitions.specs.Written.{kind_bits, term_bits, sign_bits, quantifier_bits, header_bits, occurrence_bits, clause_bits, body_bits, system_bits}
use Rattle.theorems.proofs.Packs.{bytes_long}
use Rattle.bits.specs.declared.writer.BitWriter.{BitWriter}
use Rattle.bits.specs.Back.{Bytes, are_bits}
use Rattle.bits.specs.Put.{overwritten, closed}
use Rattle.bits.specs.Writes.{Wrote}
use Rattle.bits.proofs.Packs.{packs}
use Rattle.bits.proofs.Written.{bits_are, each_cons}
use Rattle.passes.specs.Rewrites.{quantified_bits}

both_are : (bs cs : List ℕ) → are_bits bs ≡ true → are_bits cs ≡ true → are_bits (bs ++ cs) ≡ true
both_are [] cs e k = k
both_are (b ∷ bs) cs e k =
    let h = each_cons (λ b. ltb b 2) b bs e in
    ap (λ (t : Bool). elim t [ true ↦ are_bits (bs ++ cs) | false ↦ false ]) h.0 ∙ both_are bs cs h.1 k

flat_are : {A : Type 0} (f : A → List ℕ) → ((x : A) → are_bits (f x) ≡ true) → (xs : List A) → are_bits (flat (map f xs)) ≡ true
flat_are f h [] = refl
flat_are f h (x ∷ xs) = both_are (f x) (flat (map f xs)) (h x) (flat_are f h xs)

kind_are : (k : Kind) → are_bits (kind_bits k) ≡ true
kind_are (parameter n) = both_are (bits 3 0) (bits 4 n) (bits_are 3 0) (bits_are 4 n)
kind_are (variable n) = both_are (bits 3 1) (bits 2 n) (bits_are 3 1) (bits_are 2 n)
kind_are (value s v) = both_are (bits 3 2) (bits 4 s ++ bits 8 v) (bits_are 3 2) (both_are (bits 4 s) (bits 8 v) (bits_are 4 s) (bits_are 8 v))
kind_are (operation o) = both_are (bits 3 3) (bits 6 o) (bits_are 3 3) (bits_are 6 o)
kind_are not = bits_are 3 4
kind_are and = bits_are 3 5
kind_are or = bits_are 3 6
kind_are equal = bits_are 3 7

abbrev parts_bits : Terms → List ℕ
parts_bits ts = flat (folds ts (λ k parts. kind_bits k ++ flat parts))

mutual
  term_are : (t : Term) → are_bits (term_bits t) ≡ true
  term_are (node k ts) = both_are (kind_bits k) (parts_bits ts) (kind_are k) (parts_are ts)

  parts_are : (ts : Terms) → are_bits (parts_bits ts) ≡ true
  parts_are none = refl
  parts_are (more t ts) = both_are (term_bits t) (parts_bits ts) (term_are t) (parts_are ts)

sign_are : (s : Sign) → are_bits (sign_bits s) ≡ true
sign_are least = refl
sign_are greatest = refl

quantified_are : (q : Quantified) → are_bits (quantified_bits q) ≡ true
quantified_are q = both_are (quantifier_bits q.quantifier) (bits 4 q.sort) (go q.quantifier) (bits_are 4 q.sort)
  where
    go : (k : Quantifier) → are_bits (quantifier_bits k) ≡ true
    go exists = refl
    go forall = refl

header_are : (e : Equation) → are_bits (header_bits e) ≡ true
header_are e =
    let sorts = flat (map (bits 4) e.sorts) in
    let variables = flat (map quantified_bits e.quantified) in
    let behind = bits 2 (length e.quantified) ++ variables in
    both_are (sign_bits e.sign) (bits 4 (length e.sorts) ++ (sorts ++ behind)) (sign_are e.sign)
    (both_are (bits 4 (length e.sorts)) (sorts ++ behind) (bits_are 4 (length e.sorts))
    (both_are sorts behind (flat_are (bits 4) (bits_are 4) e.sorts) (both_are (bits 2 (length e.quantified)) variables (bits_are 2 (length e.quantified)) (flat_are quantified_bits quantified_are e.quantified))))

occurrence_are : (o : Occurrence) → are_bits (occurrence_bits o) ≡ true
occurrence_are o = both_are (bits 5 o.target) (flat (map term_bits o.arguments)) (bits_are 5 o.target) (flat_are term_bits term_are o.arguments)

clause_are : (k : Clause) → are_bits (clause_bits k) ≡ true
clause_are k =
    let n = length k.occurrences - 1 in
    let os = flat (map occurrence_bits k.occurrences) in
    both_are (term_bits k.guard) (bits 3 n ++ os) (term_are k.guard) (both_are (bits 3 n) os (bits_are 3 n) (flat_are occurrence_bits occurrence_are k.occurrences))

body_are : (e : Equation) → are_bits (body_bits e) ≡ true
body_are e =
    let n = length e.clauses in
    let ks = flat (map clause_bits e.clauses) in
    both_are (term_bits e.h) (bits 4 n ++ ks) (term_are e.h) (both_are (bits 4 n) ks (bits_are 4 n) (flat_are clause_bits clause_are e.clauses))

pub system_are : (s : System) → are_bits (system_bits s) ≡ true
system_are s =
    let n = length s.equations in
    let heads = flat (map header_bits s.equations) in
    let bodies = flat (map body_bits s.equations) in
    let values = flat (map (bits 8) s.values) in
    both_are (bits 5 n) (heads ++ (bodies ++ (bits 5 s.start ++ values))) (bits_are 5 n)
    (both_are heads (bodies ++ (bits 5 s.start ++ values)) (flat_are header_bits header_are s.equations)
    (both_are bodies (bits 5 s.start ++ values) (flat_are body_bits body_are s.equations) (both_are (bits 5 s.start) values (bits_are 5 s.start) (flat_are (bits 8) (bits_are 8) s.values))))

pub packed_long : (bs : List ℕ) → length (packed bs) ≡ (length bs + 7) / 8
packed_long bs = bytes_long ((length bs + 7) / 8) bs

-- written from the first place on, and closed
pub packed_whole : (bs buffer file : List ℕ) (n : ℕ) {old new : BitWriter} → Bytes buffer → are_bits bs ≡ true → Wrote bs old new → old.at ≡ 0 → old.bytes.now ≡ buffer → file ≡ closed new.bytes.now new.at → n ≡ (new.at + 7) / 8 →
    (n ≡ length (packed bs)) × (n ≤ length buffer) × (file ≡ packed bs ++ drop n buffer)
packed_whole bs buffer file n {old = old} {new = new} b i w s f e k =
    let p : new.at ≡ length bs = (let h = w.place in omega arith) in
    let m : n ≡ (length bs + 7) / 8 = k ∙ ap (λ j. (j + 7) / 8) p in
    let room : length bs ≤ 8 * length buffer = (let r : new.at ≤ 8 * length old.bytes.now = w.room (omega arith) in let l = ap length f in omega arith) in
    let over : new.bytes.now ≡ overwritten buffer 0 bs = w.bytes ∙ ap (λ g. overwritten g old.at bs) f ∙ ap (λ j. overwritten buffer j bs) s in
    let shut : file ≡ closed (overwritten buffer 0 bs) (length bs) = e ∙ ap (λ g. closed g new.at) over ∙ ap (closed (overwritten buffer 0 bs)) p in
    (m ∙ sym (packed_long bs), omega arith, shut ∙ packs buffer bs b i room ∙ ap (λ j. packed bs ++ drop j buffer) (sym m))

-- and where there is no room for the bits, there is none for the file
pub packed_large : (bs buffer : List ℕ) (n : ℕ) → 8 * length buffer < n + length bs → n ≡ 0 → length buffer < length (packed bs)
packed_large bs buffer n h e = let l = packed_long bs in omega arith
