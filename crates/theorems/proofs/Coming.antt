-- The numbers of instances that came stay when more come, and the bits of a form ask for the numbers of its variables alone.
use Rattle.std.proofs.Common.{◌≡◌, ℕ, zero, suc, ◌-◌, ◌≤◌, Bool, true, false, List, [], ◌∷◌, ◌++◌, length, Some, sym, refl, ap, ◌∙◌, ap₂, true≢false, append_assoc, append-nil, arith, length-append}
use Rattle.definitions.specs.Lists.{at, keep}
use Rattle.definitions.specs.Bits.{bits}
use Rattle.definitions.specs.Truth.{Instance}
use Rattle.definitions.specs.Boolean.{Form, known, all, any, var, Forms, nil, cons, forms, vars, vars_all, renamed, renamed_all, same_instance, come, number_in, form_bits, forms_bits}
use Rattle.definitions.specs.Fits.{Every}
use Rattle.theorems.proofs.Listing.{none_some, some_same, every_with, every_left, every_right}
use Rattle.theorems.proofs.Shapes.{renamed_count, forms_count}
use Rattle.theorems.proofs.Numbers.{Has, instance_same, come_grows, come_has, come_append}

pub number_more : (ns ys : List Instance) (x : Instance) → Has ns x → number_in (ns ++ ys) x ≡ number_in ns x
number_more [] ys x m = none_some x m.1
number_more (y ∷ ns) ys x m = go (number_more ns ys x) (same_instance y x) refl m.0 m.1
  where
    go : (Has ns x → number_in (ns ++ ys) x ≡ number_in ns x) → (b : Bool) → same_instance y x ≡ b → (j : ℕ) → at (y ∷ ns) j ≡ Some x →
        elim b as (λ _. ℕ) [ true ↦ 0 | false ↦ suc (number_in (ns ++ ys) x) ] ≡ elim b as (λ _. ℕ) [ true ↦ 0 | false ↦ suc (number_in ns x) ]
    go ih true e j q = refl
    go ih false e zero q = absurd (true≢false (sym (instance_same y x (some_same y x q)) ∙ e))
    go ih false e (suc j) q = ap suc (ih (j, q))

pub numbers_stay : (ns xs ys : List Instance) → Every (λ x. number_in (come ns xs) x ≡ number_in (come ns (xs ++ ys)) x) xs
numbers_stay ns xs ys =
    let g = come_grows (come ns xs) ys in
    every_with (Has (come ns xs)) (λ x. number_in (come ns xs) x ≡ number_in (come ns (xs ++ ys)) x) xs (come_has ns xs)
    (λ x m. sym (number_more (come ns xs) g.rest x m) ∙ ap (λ l. number_in l x) (sym g.is ∙ come_append ns xs ys))

pub come_longer : (ns xs ys : List Instance) → length (come ns xs) ≤ length (come ns (xs ++ ys))
come_longer ns xs ys =
    let g = come_grows (come ns xs) ys in
    let e = sym (ap length (sym g.is ∙ come_append ns xs ys)) in
    let l = length-append (come ns xs) g.rest in
    omega arith

-- the bits of a form under a numbering
abbrev pub bits_by : Form Instance → (Instance → ℕ) → List ℕ
bits_by p f = form_bits (renamed p f)

abbrev pub all_bits_by : List (Form Instance) → (Instance → ℕ) → List ℕ
all_bits_by ps f = forms_bits (renamed_all (forms ps) f)

abbrev pub vars_of : List (Form Instance) → List Instance
vars_of ps = vars_all (forms ps)

mutual
  pub form_asks : (p : Form Instance) (f g : Instance → ℕ) → Every (λ x. f x ≡ g x) (vars p) → form_bits (renamed p f) ≡ form_bits (renamed p g)
  form_asks (known b) f g h = refl
  form_asks (all ps) f g h =
      ap₂ (λ n bs. bits 3 2 ++ (bits 8 (n - 1) ++ bs)) (renamed_count ps f ∙ sym (renamed_count ps g)) (forms_ask ps f g h)
  form_asks (any ps) f g h =
      ap₂ (λ n bs. bits 3 3 ++ (bits 8 (n - 1) ++ bs)) (renamed_count ps f ∙ sym (renamed_count ps g)) (forms_ask ps f g h)
  form_asks (var x) f g h = ap (λ n. bits 3 4 ++ bits 12 n) h.0

  pub forms_ask : (ps : Forms Instance) (f g : Instance → ℕ) → Every (λ x. f x ≡ g x) (vars_all ps) → forms_bits (renamed_all ps f) ≡ forms_bits (renamed_all ps g)
  forms_ask nil f g h = refl
  forms_ask (cons p ps) f g h =
      ap₂ (λ x y. x ++ y) (form_asks p f g (every_left (λ x. f x ≡ g x) (vars p) (vars_all ps) h)) (forms_ask ps f g (every_right (λ x. f x ≡ g x) (vars p) (vars_all ps) h))

-- one form more
pub vars_snoc : (ps : List (Form Instance)) (p : Form Instance) → vars_of (ps ++ (p ∷ [])) ≡ vars_of ps ++ vars p
vars_snoc [] p = append-nil (vars p)
vars_snoc (q ∷ ps) p = ap (λ xs. vars q ++ xs) (vars_snoc ps p) ∙ sym (append_assoc (vars q) (vars_of ps) (vars p))

pub bits_snoc : (ps : List (Form Instance)) (p : Form Instance) (f : Instance → ℕ) → all_bits_by (ps ++ (p ∷ [])) f ≡ all_bits_by ps f ++ bits_by p f
bits_snoc [] p f = append-nil (bits_by p f)
bits_snoc (q ∷ ps) p f = ap (λ bs. bits_by q f ++ bs) (bits_snoc ps p f) ∙ sym (append_assoc (bits_by q f) (all_bits_by ps f) (bits_by p f))

pub vars_more : (ps qs : List (Form Instance)) → vars_of (ps ++ qs) ≡ vars_of ps ++ vars_of qs
vars_more [] qs = refl
vars_more (p ∷ ps) qs = ap (λ xs. vars p ++ xs) (vars_more ps qs) ∙ sym (append_assoc (vars p) (vars_of ps) (vars_of qs))

-- all and any of a list of forms
pub any_bits : (ps : List (Form Instance)) (n : ℕ) (f : Instance → ℕ) → n ≡ length ps → bits_by (any (forms ps)) f ≡ (bits 3 3 ++ bits 8 (n - 1)) ++ all_bits_by ps f
any_bits ps n f e =
    ap (λ k. bits 3 3 ++ (bits 8 (k - 1) ++ all_bits_by ps f)) (renamed_count (forms ps) f ∙ forms_count ps ∙ sym e) ∙ sym (append_assoc (bits 3 3) (bits 8 (n - 1)) (all_bits_by ps f))

pub all_bits : (ps : List (Form Instance)) (n : ℕ) (f : Instance → ℕ) → n ≡ length ps → bits_by (all (forms ps)) f ≡ (bits 3 2 ++ bits 8 (n - 1)) ++ all_bits_by ps f
all_bits ps n f e =
    ap (λ k. bits 3 2 ++ (bits 8 (k - 1) ++ all_bits_by ps f)) (renamed_count (forms ps) f ∙ forms_count ps ∙ sym e) ∙ sym (append_assoc (bits 3 2) (bits 8 (n - 1)) (all_bits_by ps f))

-- what a test keeps of all, where it holds of all
pub keep_all : {A : Type 0} (xs : List A) → keep (λ _. true) xs ≡ xs
keep_all [] = refl
keep_all (x ∷ xs) = ap (λ l. x ∷ l) (keep_all xs)
