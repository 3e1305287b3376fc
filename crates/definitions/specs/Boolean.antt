-- Boolean files: expanding a system, reading, and solving.
use Rattle.std.specs.Prelude.{ℕ, zero, suc, ◌-◌, Bool, true, false, not as flip, ◌&&◌, List, [], ◌∷◌, ◌++◌, map, length, Some, None, Option, ◌==◌, nat_eq, nat_le, slice_index_or}
use Rattle.faults.specs.declared.Reason.TheVariants.{BenchEmpty, TooDeep, NoSuchName, TooManyInstances, BooleanTooLong, RankOfBothSigns}
use Rattle.faults.specs.declared.ExpandFault.{ExpandFault}
use Rattle.faults.specs.declared.ExpandFault.TheVariants.{Unread, Refused}
use Rattle.definitions.specs.Lists.{at, flat, some, keep, up_to, same}
use Rattle.definitions.specs.Alg.{Alg}
use Rattle.definitions.specs.Algebras.{truth}
use Rattle.definitions.specs.Bits.{bits, packed}
use Rattle.definitions.specs.Systems.{Quantifier, exists, forall, Quantified, Clause, Equation, System}
use Rattle.definitions.specs.Values.{holds}
use Rattle.definitions.specs.Solution.{Sign, least, greatest, Block, solved}
use Rattle.definitions.specs.Truth.{Instance, size_of, meant}
use Rattle.definitions.specs.Reading.{Reading, got, bad, Reader, ◌>>=◌, ◌>>◌, give, fail, here, must, take, take_for, below, repeated, file}
use Rattle.definitions.specs.ReadSystem.{sign_of, reading}
use Rattle.definitions.specs.Written.{sign_bits}

-- bodies
mutual
  pub data Form (I : Type 0) : Type 0 where
    known : Bool → Form I
    all any : Forms I → Form I
    var : I → Form I

  pub data Forms (I : Type 0) : Type 0 where
    nil : Forms I
    cons : Form I → Forms I → Forms I

abbrev pub forms : {I : Type 0} → List (Form I) → Forms I
forms [] = nil
forms (p ∷ ps) = cons p (forms ps)

abbrev pub count : {I : Type 0} → Forms I → ℕ
count nil = 0
count (cons p ps) = suc (count ps)

abbrev mutual
  pub said : {I : Type 0} → Form I → (I → Bool) → Bool
  said (known b) f = b
  said (all ps) f = all_said ps f
  said (any ps) f = any_said ps f
  said (var i) f = f i

  pub all_said : {I : Type 0} → Forms I → (I → Bool) → Bool
  all_said nil f = true
  all_said (cons p ps) f = elim (said p f) [ true ↦ all_said ps f | false ↦ false ]

  pub any_said : {I : Type 0} → Forms I → (I → Bool) → Bool
  any_said nil f = false
  any_said (cons p ps) f = elim (said p f) [ true ↦ true | false ↦ any_said ps f ]

-- the variables, in the order of their tokens
abbrev mutual
  pub vars : {I : Type 0} → Form I → List I
  vars (known b) = []
  vars (all ps) = vars_all ps
  vars (any ps) = vars_all ps
  vars (var i) = i ∷ []

  pub vars_all : {I : Type 0} → Forms I → List I
  vars_all nil = []
  vars_all (cons p ps) = vars p ++ vars_all ps

abbrev mutual
  pub renamed : {I J : Type 0} → Form I → (I → J) → Form J
  renamed (known b) f = known b
  renamed (all ps) f = all (renamed_all ps f)
  renamed (any ps) f = any (renamed_all ps f)
  renamed (var i) f = var (f i)

  pub renamed_all : {I J : Type 0} → Forms I → (I → J) → Forms J
  renamed_all nil f = nil
  renamed_all (cons p ps) f = cons (renamed p f) (renamed_all ps f)

-- the body of an instance: all or any over the values of each quantified variable, ascending
abbrev pub over : Quantifier → List (Form Instance) → Form Instance
over exists ps = any (forms ps)
over forall ps = all (forms ps)

abbrev pub spread : Alg → List Quantified → List ℕ → (List ℕ → Form Instance) → Form Instance
spread a [] vs p = p vs
spread a (q ∷ qs) vs p = over q.quantifier (map (λ v. spread a qs (vs ++ (v ∷ [])) p) (up_to (size_of a q.sort)))

-- behind h: the conjunction of the clauses whose guards hold, each the disjunction of its occurrences
abbrev pub all_of : List (Form Instance) → Form Instance
all_of [] = known true
all_of (p ∷ ps) = all (forms (p ∷ ps))

abbrev pub clause_form : Alg → List ℕ → List ℕ → Clause → Form Instance
clause_form a ps vs c = any (forms (map (λ o. var (meant a ps vs o)) c.occurrences))

abbrev pub inside_form : Alg → Equation → List ℕ → List ℕ → Form Instance
inside_form a e ps vs =
    elim (holds a ps vs e.h) [
      | true ↦ all_of (map (clause_form a ps vs) (keep (λ (c : Clause). holds a ps vs c.guard) e.clauses))
      | false ↦ known false
    ]

abbrev pub equation_form : Alg → Option Equation → List ℕ → Form Instance
equation_form a None ps = known false
equation_form a (Some e) ps = spread a e.quantified [] (inside_form a e ps)

abbrev pub form : Alg → System → Instance → Form Instance
form a s x = equation_form a (at s.equations x.0) x.1

-- numbering, first come
abbrev pub same_instance : Instance → Instance → Bool
same_instance x y = x.0 == y.0 && same x.1 y.1

abbrev pub come : List Instance → List Instance → List Instance
come ns [] = ns
come ns (x ∷ xs) = elim (some (same_instance x) ns) [ true ↦ come ns xs | false ↦ come (ns ++ (x ∷ [])) xs ]

abbrev pub comes : ℕ → Alg → System → ℕ → List Instance → List Instance
comes zero a s k ns = ns
comes (suc n) a s k ns = elim (at ns k) [ None ↦ ns | Some x ↦ comes n a s (suc k) (come ns (vars (form a s x))) ]

abbrev pub most_instances : ℕ
most_instances = 4096

-- all the instances, or more than the most
abbrev pub numbering : Alg → System → List Instance
numbering a s = comes most_instances a s 0 ((s.start, s.values) ∷ [])

abbrev pub number_in : List Instance → Instance → ℕ
number_in [] x = 0
number_in (y ∷ ys) x = elim (same_instance y x) [ true ↦ 0 | false ↦ suc (number_in ys x) ]

-- a Boolean system
pub record Variable : Type 0 where
  pub sign : Sign
  pub rank : ℕ
  pub body : Form ℕ

abbrev pub sign_at : Option Equation → Sign
sign_at None = least
sign_at (Some e) = e.sign

abbrev pub variable_of : Alg → System → List Instance → Instance → Variable
variable_of a s ns x = record { sign = sign_at (at s.equations x.0); rank = x.0; body = renamed (form a s x) (number_in ns) }

-- its variables, or none if the instances are too many
abbrev pub expanded : Alg → System → Option (List Variable)
expanded a s =
    let ns = numbering a s in
    elim (nat_le (length ns) most_instances) [ true ↦ Some (map (variable_of a s ns) ns) | false ↦ None ]

-- its file
abbrev mutual
  pub form_bits : Form ℕ → List ℕ
  form_bits (known b) = bits 3 (truth b)
  form_bits (all ps) = bits 3 2 ++ (bits 8 (count ps - 1) ++ forms_bits ps)
  form_bits (any ps) = bits 3 3 ++ (bits 8 (count ps - 1) ++ forms_bits ps)
  form_bits (var n) = bits 3 4 ++ bits 12 n

  pub forms_bits : Forms ℕ → List ℕ
  forms_bits nil = []
  forms_bits (cons p ps) = form_bits p ++ forms_bits ps

abbrev pub variable_bits : Variable → List ℕ
variable_bits v = sign_bits v.sign ++ (bits 5 v.rank ++ form_bits v.body)

abbrev pub boolean_written : List Variable → List ℕ
boolean_written vs = packed (bits 12 (length vs - 1) ++ flat (map variable_bits vs))

-- expand: the file and the count of variables, or the reason; at most `places` instances and `room` bytes
pub data Expanded : Type 0 where
  made : List ℕ → ℕ → Expanded
  refused : ExpandFault → Expanded

abbrev pub shipped : ℕ → ℕ → List Variable → Expanded
shipped places room vs =
    elim (nat_le (length vs) places) [
      | true ↦ let g = boolean_written vs in elim (nat_le (length g) room && nat_le (length g) 65535) [ true ↦ made g (length vs) | false ↦ refused (Refused BooleanTooLong) ]
      | false ↦ refused (Refused TooManyInstances)
    ]

abbrev pub expand_system : Alg → ℕ → ℕ → System → Expanded
expand_system a places room s = elim (expanded a s) [ None ↦ refused (Refused TooManyInstances) | Some vs ↦ shipped places room vs ]

abbrev pub expand_read : Alg → ℕ → ℕ → Reading System → Expanded
expand_read a places room (got s) = expand_system a places room s
expand_read a places room (bad r p) = refused (Unread (record { reason = r; place = p }))

-- what is held, where the empty list is nothing
abbrev pub expand_on : Alg → ℕ → ℕ → List ℕ → Expanded
expand_on a places room [] = refused (Refused BenchEmpty)
expand_on a places room (x ∷ xs) = expand_read a places room (reading a (x ∷ xs))

-- reading: a body of depth at most d, over n variables
abbrev pub read_token : ℕ → ℕ → Reader (Form ℕ)
read_token n zero = do
  p ← here
  _ ← take 3
  fail TooDeep p
read_token n (suc d) = do
  p ← here
  k ← take 3
  slice_index_or (give (known false) ∷ give (known true) ∷
      (do
        m ← take 8
        ps ← repeated (read_token n d) (suc m)
        give (all (forms ps))) ∷
      (do
        m ← take 8
        ps ← repeated (read_token n d) (suc m)
        give (any (forms ps))) ∷
      (do
        v ← take_for 12 (below n) NoSuchName
        give (var v)) ∷ [])
      k (fail NoSuchName p)

abbrev pub same_sign : Sign → Sign → Bool
same_sign least least = true
same_sign least greatest = false
same_sign greatest least = false
same_sign greatest greatest = true

-- a rank has one sign
abbrev pub clashes : List Variable → Sign → ℕ → Bool
clashes vs g r = some (λ (v : Variable). (v.rank == r) && flip (same_sign v.sign g)) vs

abbrev pub read_variables : ℕ → ℕ → List Variable → Reader (List Variable)
read_variables n zero vs = give vs
read_variables n (suc m) vs = do
  g ← take 1
  p ← here
  r ← take 5
  must (flip (clashes vs (sign_of g) r)) RankOfBothSigns p
  b ← read_token n 8
  read_variables n m (vs ++ (record { sign = sign_of g; rank = r; body = b } ∷ []))

abbrev pub read_boolean : Reader (List Variable)
read_boolean = do
  n ← take 12
  read_variables (suc n) (suc n) []

abbrev pub boolean_reading : List ℕ → Reading (List Variable)
boolean_reading f = file 65535 read_boolean f

-- solving
abbrev pub rank_of : List Variable → ℕ → List Variable
rank_of vs r = keep (λ (v : Variable). nat_eq v.rank r) vs

abbrev pub sign_of_rank : List Variable → Sign
sign_of_rank [] = least
sign_of_rank (v ∷ vs) = v.sign

abbrev pub has_rank : Option Variable → ℕ → Bool
has_rank None r = false
has_rank (Some v) r = v.rank == r

abbrev pub rank_block : List Variable → ℕ → Block ℕ
rank_block vs r =
    record {
      sign = sign_of_rank (rank_of vs r);
      inside = λ j. has_rank (at vs j) r;
      rounds = length (rank_of vs r);
    }

abbrev pub body_at : Option Variable → (ℕ → Bool) → Bool
body_at None f = false
body_at (Some v) f = said v.body f

abbrev pub used_ranks : List Variable → List ℕ
used_ranks vs = keep (λ r. some (λ (v : Variable). nat_eq v.rank r) vs) (up_to 32)

abbrev pub solves : List Variable → List ℕ
solves vs = map (λ j. truth (solved (λ f k. body_at (at vs k) f) (map (rank_block vs) (used_ranks vs)) j)) (up_to (length vs))
