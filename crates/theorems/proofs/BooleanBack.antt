-- A Boolean system that fits is read back from its file.
use Rattle.faults.specs.declared.Reason.TheVariants.{NoSuchName, RankOfBothSigns}
use Rattle.std.proofs.Common.{◌≡◌, ℕ, suc, ◌+◌, ◌-◌, ◌<◌, ◌≤◌, Bool, true, false, not as flip, ◌&&◌, eqb, List, [], ◌∷◌, ◌++◌, map, length, Some, None, sym, refl, ap, ◌∙◌, subst, ap₂, subst₂, append_assoc, append-nil, add-zero, zero-add, arith}
use Rattle.std.proofs.lemmas.Bool.{lt-ltb, eqb-true}
use Rattle.definitions.specs.Lists.{flat}
use Rattle.definitions.specs.Bits.{bits, packed}
use Rattle.definitions.specs.Algebras.{truth}
use Rattle.definitions.specs.Solution.{Sign, least, greatest}
use Rattle.definitions.specs.Reading.{next, Reader, take, follow, give, below, repeated, ◌>>=◌}
use Rattle.definitions.specs.ReadSystem.{sign_of}
use Rattle.definitions.specs.Written.{sign_bits}
use Rattle.definitions.specs.Boolean.{Form, known, all, any, var, Forms, nil, cons, forms, count, Variable, form_bits, forms_bits, variable_bits, read_token, same_sign, clashes, read_variables, read_boolean}
use Rattle.definitions.specs.Fits.{Every}
use Rattle.definitions.specs.FileFits.{FormFits, fit_known, fit_all, fit_any, fit_var, FormsFit, fit_nil, fit_cons}
use Rattle.theorems.specs.FileLaws.{BooleansReadBack}
use Rattle.theorems.proofs.Goods.{Good, good_then, good_last, good_take, good_for, good_must, good_here, sign_good}
use Rattle.theorems.proofs.Packs.{packs}
use Rattle.theorems.proofs.Whole.{Bits, join, number_bits, flat_bits, sign_bits_lem, ends, file_got}
use Rattle.fixpoint.proofs.Pull.{every_append}

-- bits
mutual
  form_bits_lem : (p : Form ℕ) → Bits (form_bits p)
  form_bits_lem (known b) = number_bits 3 (truth b)
  form_bits_lem (all ps) = join (bits 3 2) (bits 8 (count ps - 1) ++ forms_bits ps) (number_bits 3 2) (join (bits 8 (count ps - 1)) (forms_bits ps) (number_bits 8 (count ps - 1)) (forms_bits_lem ps))
  form_bits_lem (any ps) = join (bits 3 3) (bits 8 (count ps - 1) ++ forms_bits ps) (number_bits 3 3) (join (bits 8 (count ps - 1)) (forms_bits ps) (number_bits 8 (count ps - 1)) (forms_bits_lem ps))
  form_bits_lem (var n) = join (bits 3 4) (bits 12 n) (number_bits 3 4) (number_bits 12 n)

  forms_bits_lem : (ps : Forms ℕ) → Bits (forms_bits ps)
  forms_bits_lem nil = tt
  forms_bits_lem (cons p ps) = join (form_bits p) (forms_bits ps) (form_bits_lem p) (forms_bits_lem ps)

variable_bits_lem : (v : Variable) → Bits (variable_bits v)
variable_bits_lem v = join (sign_bits v.sign) _ (sign_bits_lem v.sign) (join (bits 5 v.rank) _ (number_bits 5 v.rank) (form_bits_lem v.body))

abbrev pub boolean_bits : List Variable → List ℕ
boolean_bits vs = bits 12 (length vs - 1) ++ flat (map variable_bits vs)

pub boolean_bits_lem : (vs : List Variable) → Bits (boolean_bits vs)
boolean_bits_lem vs = join (bits 12 (length vs - 1)) _ (number_bits 12 (length vs - 1)) (flat_bits variable_bits variable_bits_lem vs)

-- tokens
abbrev pub listed : {I : Type 0} → Forms I → List (Form I)
listed nil = []
listed (cons p ps) = p ∷ listed ps

pub forms_listed : {I : Type 0} (ps : Forms I) → forms (listed ps) ≡ ps
forms_listed nil = refl
forms_listed (cons p ps) = ap (cons p) (forms_listed ps)

module _ (f : List ℕ) where
  good_done : {A B : Type 0} (m : Reader A) (k : A → Reader B) {x : A} {y : B} {bs : List ℕ} → Good f m x bs → ((q : ℕ) → k x f q ≡ next y q) → Good f (m >>= k) y bs
  good_done m k {bs = bs} g e = record { run = λ p h. ap (λ r. follow r (λ x q. k x f q)) (g.run p h) ∙ e (p + length bs) }

  module _ (n : ℕ) (low : n ≤ 4096) where
    good_known : (d : ℕ) (b : Bool) → Good f (read_token n (suc d)) (known b) (form_bits (known b))
    good_known d true = good_here f _ (λ p. good_done _ _ (good_take f 3 1 (omega arith)) (λ q. refl))
    good_known d false = good_here f _ (λ p. good_done _ _ (good_take f 3 0 (omega arith)) (λ q. refl))

    good_parts : (d : ℕ) (ps : Forms ℕ) (g : List (Form ℕ) → Form ℕ) → 1 ≤ count ps → count ps ≤ 256 → Good f (repeated (read_token n d) (count ps)) (listed ps) (forms_bits ps) →
        Good f (take 8 >>= (λ m. repeated (read_token n d) (suc m) >>= (λ qs. give (g qs)))) (g (listed ps)) (bits 8 (count ps - 1) ++ forms_bits ps)
    good_parts d ps g l u h =
        good_then f (take 8) (λ m. repeated (read_token n d) (suc m) >>= (λ qs. give (g qs))) (good_take f 8 (count ps - 1) (omega arith))
        (good_last f g (subst (λ m. Good f (repeated (read_token n d) m) (listed ps) (forms_bits ps)) (let e : count ps ≡ suc (count ps - 1) = omega arith in e) h))

    mutual
      pub good_token : {d : ℕ} {p : Form ℕ} → FormFits n d p → Good f (read_token n d) p (form_bits p)
      good_token (fit_known {d} {b}) = good_known d b
      good_token (fit_all {d} {ps} l u h) =
          subst (λ qs. Good f (read_token n (suc d)) (all qs) (bits 3 2 ++ (bits 8 (count ps - 1) ++ forms_bits ps))) (forms_listed ps)
          (good_here f _ (λ p. good_then f (take 3) _ (good_take f 3 2 (omega arith)) (good_parts d ps (λ qs. all (forms qs)) l u (good_tokens h))))
      good_token (fit_any {d} {ps} l u h) =
          subst (λ qs. Good f (read_token n (suc d)) (any qs) (bits 3 3 ++ (bits 8 (count ps - 1) ++ forms_bits ps))) (forms_listed ps)
          (good_here f _ (λ p. good_then f (take 3) _ (good_take f 3 3 (omega arith)) (good_parts d ps (λ qs. any (forms qs)) l u (good_tokens h))))
      good_token (fit_var {d} {k} h) =
          good_here f _ (λ p. good_then f (take 3) _ (good_take f 3 4 (omega arith))
          (good_last f (λ v. var v) (good_for f 12 k (below n) NoSuchName k (omega arith) (ap (λ b. elim b [ true ↦ Some k | false ↦ None ]) (lt-ltb k n h)))))

      good_tokens : {d : ℕ} {ps : Forms ℕ} → FormsFit n d ps → Good f (repeated (read_token n d) (count ps)) (listed ps) (forms_bits ps)
      good_tokens fit_nil = record { run = λ p s. ap (next []) (sym (add-zero p)) }
      good_tokens (fit_cons {d} {p} {ps} h hs) = good_then f (read_token n d) _ (good_token h) (good_last f (λ (qs : List (Form ℕ)). p ∷ qs) (good_tokens hs))

    -- signs
    same_sign_lem : (g h : Sign) → g ≡ h → flip (same_sign g h) ≡ false
    same_sign_lem g h e = subst (λ z. flip (same_sign g z) ≡ false) e (go g)
      where
        go : (k : Sign) → flip (same_sign k k) ≡ false
        go least = refl
        go greatest = refl

    module _ (sign_by : ℕ → Sign) where
      clashes_not : (vs : List Variable) (r : ℕ) → Every (λ (v : Variable). v.sign ≡ sign_by v.rank) vs → clashes vs (sign_by r) r ≡ false
      clashes_not [] r h = refl
      clashes_not (v ∷ vs) r h = go (clashes_not vs r h.1) (eqb v.rank r) refl
        where
          one : (b : Bool) → eqb v.rank r ≡ b → (b && flip (same_sign v.sign (sign_by r))) ≡ false
          one true e = same_sign_lem v.sign (sign_by r) (h.0 ∙ ap sign_by (eqb-true v.rank r e))
          one false e = refl

          go : clashes vs (sign_by r) r ≡ false → (b : Bool) → eqb v.rank r ≡ b → elim (b && flip (same_sign v.sign (sign_by r))) [ true ↦ true | false ↦ clashes vs (sign_by r) r ] ≡ false
          go ih b e = ap (λ z. elim z [ true ↦ true | false ↦ clashes vs (sign_by r) r ]) (one b e) ∙ ih

      pub good_variables : (ws vs : List Variable) → Every (λ (v : Variable). v.sign ≡ sign_by v.rank) vs → Every (λ (v : Variable). v.sign ≡ sign_by v.rank) ws →
          Every (λ (v : Variable). v.rank < 32) ws → Every (λ (v : Variable). FormFits n 8 v.body) ws →
          Good f (read_variables n (length ws) vs) (vs ++ ws) (flat (map variable_bits ws))
      good_variables [] vs h k r b = record { run = λ p s. ap₂ next (sym (append-nil vs)) (sym (add-zero p)) }
      good_variables (v ∷ ws) vs h k r b =
          let (i, e, l, e') = sign_good f v.sign in
          subst₂ (λ bs out. Good f (read_variables n (suc (length ws)) vs) out (bs ++ (bits 5 v.rank ++ form_bits v.body) ++ flat (map variable_bits ws))) (sym e) (append_assoc vs (v ∷ []) ws)
          (let rest = good_variables ws (vs ++ (v ∷ [])) (every_append (λ (w : Variable). w.sign ≡ sign_by w.rank) vs (v ∷ []) h (k.0, tt)) k.1 r.1 b.1 in
          good_then f (take 1) _ (good_take f 1 i l) (good_here f _ (λ p. good_then f (take 5) _ (good_take f 5 v.rank r.0)
          (good_must f (flip (clashes vs (sign_of i) v.rank)) RankOfBothSigns p (ap flip (ap (λ g. clashes vs g v.rank) (e' ∙ k.0) ∙ clashes_not vs v.rank h))
          (good_then f (read_token n 8) _ (good_token b.0)
          (subst (λ g. Good f (read_variables n (length ws) (vs ++ (record { sign = g; rank = v.rank; body = v.body } ∷ []))) (vs ++ (v ∷ []) ++ ws) (flat (map variable_bits ws))) (sym e') rest))))))

pub boolean_back : BooleansReadBack
boolean_back vs h l =
    let bs = boolean_bits vs in
    let f = packed bs in
    let p = packs bs (boolean_bits_lem vs) in
    let g : read_boolean f 0 ≡ next vs (length bs) =
    (good_then f (take 12) (λ n. read_variables (suc n) (suc n) []) (good_take f 12 (length vs - 1) (let u : length vs ≤ 4096 = h.few in let w : 1 ≤ length vs = h.some in omega arith))
    (subst (λ n. Good f (read_variables n n []) vs (flat (map variable_bits vs))) (let w : 1 ≤ length vs = h.some in let e : length vs ≡ suc (length vs - 1) = omega arith in e)
    (good_variables f (length vs) h.few h.sign_by vs [] tt h.signs h.ranks h.bodies))).run 0 p.stand ∙ ap (next vs) (zero-add (length bs)) in
    let some : (length f ≡ 0) → ⊥ = λ z. let w : 1 ≤ length vs = h.some in omega (arith, p.long) in
    file_got 65535 read_boolean f vs (length bs) some l g (ends f (length bs) p.short p.rest)
