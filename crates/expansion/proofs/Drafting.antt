-- What a draft becomes as parts are written one after the other.
use Rattle.std.specs.Result.{is_err}
use Rattle.std.proofs.Common.{◌≡◌, ℕ, ◌+◌, ◌*◌, ◌-◌, ◌<◌, ◌≤◌, Bool, true, false, List, [], ◌∷◌, ◌++◌, length, Ok, Err, Result, IsErr, sym, refl, ap, ◌∙◌, subst, append_assoc, append-nil, arith, length-append, ltb}
use Rattle.definitions.specs.Bits.{bits}
use Rattle.definitions.specs.Systems.{Quantifier, exists, forall, System}
use Rattle.definitions.specs.Truth.{Instance}
use Rattle.definitions.specs.Boolean.{Form, vars, over, come, number_in, forms}
use Rattle.definitions.specs.Fits.{Every}
use Rattle.theorems.proofs.Coming.{numbers_stay, come_longer, bits_by, all_bits_by, vars_of, forms_ask, vars_snoc, bits_snoc, vars_more, any_bits, all_bits}
use Rattle.bits.specs.declared.writer.BitWriter.{BitWriter}
use Rattle.bits.specs.Back.{are_bits}
use Rattle.bits.specs.declared.writer.Full.{Full}
use Rattle.bits.specs.Writes.{Wrote, NoRoom, Writes}
use Rattle.bits.proofs.Left.{left_first, left_next, left_stop, left_end}
use Rattle.bits.proofs.Written.{each_cons}
use Rattle.firstcome.specs.Coming.{listed}
use Rattle.system.specs.Walks.{Pairs}
use Rattle.expansion.specs.declared.draft.Draft.{Draft}
use Rattle.expansion.specs.declared.draft.Unfinished.{Unfinished}
use Rattle.expansion.specs.Drafts.{over_number, StandsFor, WroteOn, Drafted, Puts, Drafts, DraftsForm, DraftsForms}
use Rattle.theorems.proofs.Numbers.{come_append}

pub both_are : (bs cs : List ℕ) → are_bits bs ≡ true → are_bits cs ≡ true → are_bits (bs ++ cs) ≡ true
both_are [] cs e k = k
both_are (b ∷ bs) cs e k =
    let h = each_cons (λ b. ltb b 2) b bs e in
    ap (λ (t : Bool). elim t [ true ↦ are_bits (bs ++ cs) | false ↦ false ]) h.0 ∙ both_are bs cs h.1 k

abbrev pub well : Result (Unit {0}) Unfinished
well = Ok tt

-- bits behind bits
wrote_more : (bs cs : List ℕ) (first w new : BitWriter) → Wrote bs first w → Wrote cs w new → Wrote (bs ++ cs) first new
wrote_more bs cs first w new a b =
    subst (λ (zs : List ℕ). Wrote (bs ++ zs) first new) (append-nil cs)
    (left_end (left_next {rest = []} cs new (left_next {rest = cs ++ []} bs w (left_first (bs ++ (cs ++ [])) first) a) b))

no_room : (bs cs : List ℕ) (first w : BitWriter) → Wrote bs first w → NoRoom cs w → length first.bytes.now ≤ 65536 → 8 * length first.bytes.now < first.at + length (bs ++ cs)
no_room bs cs first w a n short =
    subst (λ (zs : List ℕ). 8 * length first.bytes.now < first.at + length (bs ++ zs)) (append-nil cs)
    (left_stop cs [] (left_next {rest = cs ++ []} bs w (left_first (bs ++ (cs ++ [])) first) a) n short)

too_long : (bs cs : List ℕ) (first : BitWriter) → 8 * length first.bytes.now < first.at + length bs → 8 * length first.bytes.now < first.at + length (bs ++ cs)
too_long bs cs first h = let l = length-append bs cs in omega arith

module _ (cs : List ℕ) (w new : BitWriter) (t u : Bool) where
  -- what is written so far goes on
  abbrev pub WritesOn : Type 0
  WritesOn = (first : BitWriter) (bs : List ℕ) → length first.bytes.now ≤ 65536 → WroteOn bs first w t → WroteOn (bs ++ cs) first new u

  pub on_ok : t ≡ false → u ≡ false → Wrote cs w new → WritesOn
  on_ok e k h first bs short b = subst (WroteOn (bs ++ cs) first new) (sym k) (wrote_more bs cs first w new (subst (WroteOn bs first w) e b) h)

  pub on_full : t ≡ false → u ≡ true → NoRoom cs w → WritesOn
  on_full e k h first bs short b = subst (WroteOn (bs ++ cs) first new) (sym k) (no_room bs cs first w (subst (WroteOn bs first w) e b) h short)

  pub on_long : t ≡ true → u ≡ true → WritesOn
  on_long e k first bs short b = subst (WroteOn (bs ++ cs) first new) (sym k) (too_long bs cs first (subst (WroteOn bs first w) e b))

pub put_goes : (cs : List ℕ) (w new : BitWriter) (t u : Bool) (r : Result (Unit {0}) Full) → t ≡ false → u ≡ is_err r → Writes cs w new r → WritesOn cs w new t u
put_goes cs w new t u (Ok x) e k h = on_ok cs w new t u e k h
put_goes cs w new t u (Err x) e k h = on_full cs w new t u e k h

pub puts_by : (cs : List ℕ) (old new : Draft) → are_bits cs ≡ true → new.list ≡ old.list →
    WritesOn cs old.writer new.writer old.too_long new.too_long → Puts cs old new
puts_by cs old new a l w s first places ns bs d =
    record {
      short = d.short;
      bytes = d.bytes;
      slice = ap (λ k. length k.items.now) l ∙ d.slice;
      few = d.few;
      count = ap (λ k. k.len) l ∙ d.count;
      lists = subst (λ k. Pairs StandsFor (listed k) ns) (sym l) d.lists;
      fine = d.fine;
      are = both_are bs cs d.are a;
      written = w first bs d.short d.written;
    }

pub puts_more : (bs cs : List ℕ) {old mid new : Draft} → Puts bs old mid → Puts cs mid new → Puts (bs ++ cs) old new
puts_more bs cs {new = new} h k s first places ns xs d =
    subst (λ (zs : List ℕ). Drafted s first places ns zs new) (append_assoc xs bs cs) (k s first places ns (xs ++ bs) (h s first places ns xs d))

pub puts_same : (bs cs : List ℕ) {old new : Draft} → bs ≡ cs → Puts bs old new → Puts cs old new
puts_same bs cs {old = old} {new = new} e h = subst (λ (zs : List ℕ). Puts zs old new) e h

-- bits that ask for the numbers of xs alone
abbrev pub Asks : List Instance → ((Instance → ℕ) → List ℕ) → Type 0
Asks xs b = (f g : Instance → ℕ) → Every (λ x. f x ≡ g x) xs → b f ≡ b g

module _ (s : System) where
  pub drafts_same : {T : Type 0} (xs : List Instance) (b c : (Instance → ℕ) → List ℕ) (old new : Draft) (r : Result T Unfinished) → ((f : Instance → ℕ) → b f ≡ c f) →
      Drafts s xs b old new r → Drafts s xs c old new r
  drafts_same xs b c old new (Ok x) e h = λ first places ns bs d.
      subst (λ (zs : List ℕ). Drafted s first places (come ns xs) (bs ++ zs) new) (e (number_in (come ns xs))) (h first places ns bs d)
  drafts_same xs b c old new (Err x) e h = h

  pub drafts_over : {T : Type 0} (xs ys : List Instance) (b : (Instance → ℕ) → List ℕ) (old new : Draft) (r : Result T Unfinished) → xs ≡ ys →
      Drafts s xs b old new r → Drafts s ys b old new r
  drafts_over xs ys b old new r e h = subst (λ (zs : List Instance). Drafts s zs b old new r) e h

  pub forms_same : {T : Type 0} {ps qs : List (Form Instance)} → ps ≡ qs → (old new : Draft) (r : Result T Unfinished) → DraftsForms s ps old new r → DraftsForms s qs old new r
  forms_same e old new r h = subst (λ (zs : List (Form Instance)). DraftsForms s zs old new r) e h

  -- one part, and then another
  pub drafts_then : {T : Type 0} (xs ys : List Instance) (b c : (Instance → ℕ) → List ℕ) (old mid new : Draft) (r : Result T Unfinished) → Asks xs b →
      Drafts {T = Unit {0}} s xs b old mid well → Drafts s ys c mid new r → Drafts s (xs ++ ys) (λ f. b f ++ c f) old new r
  drafts_then xs ys b c old mid new (Ok x) asks h k = λ first places ns bs d.
      let ms = come ns xs in
      let all = come ns (xs ++ ys) in
      let e : come ms ys ≡ all = come_append ns xs ys in
      let w : b (number_in ms) ≡ b (number_in all) = asks (number_in ms) (number_in all) (numbers_stay ns xs ys) in
      subst (λ (zs : List ℕ). Drafted s first places all zs new)
      (append_assoc bs (b (number_in ms)) (c (number_in all)) ∙ ap (λ zs. bs ++ (zs ++ c (number_in all))) w)
      (subst (λ (l : List Instance). Drafted s first places l ((bs ++ b (number_in ms)) ++ c (number_in l)) new) e
      (k first places ms (bs ++ b (number_in ms)) (h first places ns bs d)))
  drafts_then xs ys b c old mid new (Err x) asks h k = λ first places ns bs d.
      subst (λ (l : List Instance). places < length l) (come_append ns xs ys)
      (k first places (come ns xs) (bs ++ b (number_in (come ns xs))) (h first places ns bs d))

  -- where the first part finds no place, the whole finds none
  pub drafts_stop : {U : Type 0} (xs ys : List Instance) (b c : (Instance → ℕ) → List ℕ) (old mid new : Draft) (u : Unfinished) (r : Result U Unfinished) → IsErr r →
      Drafts {T = Unit {0}} s xs b old mid (Err u) → Drafts s (xs ++ ys) c old new r
  drafts_stop xs ys b c old mid new u (Ok y) j h = absurd cc
  drafts_stop xs ys b c old mid new u (Err y) j h = λ first places ns bs d.
      let l = come_longer ns xs ys in
      let k = h first places ns bs d in
      omega arith

  pub drafts_refused : {T : Type 0} (xs : List Instance) (b : (Instance → ℕ) → List ℕ) (old new : Draft) (r : Result T Unfinished) → IsErr r →
      ((first : BitWriter) (places : ℕ) (ns : List Instance) (bs : List ℕ) → Drafted s first places ns bs old → places < length (come ns xs)) → Drafts s xs b old new r
  drafts_refused xs b old new (Ok x) i h = absurd cc
  drafts_refused xs b old new (Err x) i h = h

  -- bits without a name
  pub puts_draft : {T : Type 0} (cs : List ℕ) (old new : Draft) (x : T) → Puts cs old new → Drafts s [] (λ f. cs) old new (Ok x)
  puts_draft cs old new x h = λ first places ns bs d. h s first places ns bs d

  pub puts_then : {T : Type 0} (cs : List ℕ) (ys : List Instance) (c : (Instance → ℕ) → List ℕ) (old mid new : Draft) (r : Result T Unfinished) → Puts cs old mid →
      Drafts s ys c mid new r → Drafts s ys (λ f. cs ++ c f) old new r
  puts_then cs ys c old mid new r h k = drafts_then [] ys (λ f. cs) c old mid new r (λ f g e. refl) (puts_draft cs old mid (tt {0}) h) k

  -- of the forms ps, behind a head, some are written, and the others are left
  pub record Writing (head : List ℕ) (ps left : List (Form Instance)) (old now : Draft) : Type 0 where
    pub done : List (Form Instance)
    pub whole : ps ≡ done ++ left
    pub drafts : Drafts {T = Unit {0}} s (vars_of done) (λ f. head ++ all_bits_by done f) old now well

  pub writing_here : (ps : List (Form Instance)) (now : Draft) → Writing [] ps ps now now
  writing_here ps now =
      record {
        done = [];
        whole = refl;
        drafts = λ first places ns bs d. subst (λ (zs : List ℕ). Drafted s first places ns zs now) (sym (append-nil bs)) d;
      }

  written_snoc : {T : Type 0} (head : List ℕ) (done : List (Form Instance)) (p : Form Instance) (old now new : Draft) (r : Result T Unfinished) →
      Drafts {T = Unit {0}} s (vars_of done) (λ f. head ++ all_bits_by done f) old now well → DraftsForm s p now new r →
      Drafts s (vars_of (done ++ (p ∷ []))) (λ f. head ++ all_bits_by (done ++ (p ∷ [])) f) old new r
  written_snoc head done p old now new r h k =
      drafts_over (vars_of done ++ vars p) (vars_of (done ++ (p ∷ []))) (λ f. head ++ all_bits_by (done ++ (p ∷ [])) f) old new r (sym (vars_snoc done p))
      (drafts_same (vars_of done ++ vars p) (λ f. (head ++ all_bits_by done f) ++ bits_by p f) (λ f. head ++ all_bits_by (done ++ (p ∷ [])) f) old new r
      (λ f. append_assoc head (all_bits_by done f) (bits_by p f) ∙ ap (λ zs. head ++ zs) (sym (bits_snoc done p f)))
      (drafts_then (vars_of done) (vars p) (λ f. head ++ all_bits_by done f) (bits_by p) old now new r
      (λ f g e. ap (λ zs. head ++ zs) (forms_ask (forms done) f g e)) h k))

  pub writing_next : (head : List ℕ) (ps : List (Form Instance)) (p : Form Instance) (left : List (Form Instance)) (old now new : Draft) →
      Writing head ps (p ∷ left) old now → DraftsForm {T = Unit {0}} s p now new well → Writing head ps left old new
  writing_next head ps p left old now new w h =
      record {
        done = w.done ++ (p ∷ []);
        whole = w.whole ∙ sym (append_assoc w.done (p ∷ []) left);
        drafts = written_snoc head w.done p old now new well w.drafts h;
      }

  pub writing_stop : {U : Type 0} (head : List ℕ) (ps : List (Form Instance)) (p : Form Instance) (left : List (Form Instance)) (old now mid new : Draft) (u : Unfinished) (r : Result U Unfinished) → IsErr r →
      Writing head ps (p ∷ left) old now → DraftsForm {T = Unit {0}} s p now mid (Err u) → Drafts s (vars_of ps) (λ f. head ++ all_bits_by ps f) old new r
  writing_stop head ps p left old now mid new u r j w h =
      let e : vars_of ps ≡ vars_of (w.done ++ (p ∷ [])) ++ vars_of left =
      ap vars_of (w.whole ∙ sym (append_assoc w.done (p ∷ []) left)) ∙ vars_more (w.done ++ (p ∷ [])) left in
      drafts_over (vars_of (w.done ++ (p ∷ [])) ++ vars_of left) (vars_of ps) (λ f. head ++ all_bits_by ps f) old new r (sym e)
      (drafts_stop (vars_of (w.done ++ (p ∷ []))) (vars_of left) (λ f. head ++ all_bits_by (w.done ++ (p ∷ [])) f) (λ f. head ++ all_bits_by ps f) old mid new u r j
      (written_snoc {T = Unit {0}} head w.done p old now mid (Err u) w.drafts h))

  pub writing_end : {T : Type 0} (head : List ℕ) (ps left : List (Form Instance)) (old now : Draft) (x : T) → left ≡ [] → Writing head ps left old now →
      Drafts s (vars_of ps) (λ f. head ++ all_bits_by ps f) old now (Ok x)
  writing_end head ps left old now x n w =
      let e : ps ≡ w.done = w.whole ∙ ap (λ l. w.done ++ l) n ∙ append-nil w.done in
      subst (λ (l : List (Form Instance)). Drafts {T = Unit {0}} s (vars_of l) (λ f. head ++ all_bits_by l f) old now well) (sym e) w.drafts

  -- an all or an any of forms
  pub over_drafts : {T : Type 0} (q : Quantifier) (ps : List (Form Instance)) (n : ℕ) (old new : Draft) (r : Result T Unfinished) → n ≡ length ps →
      Drafts s (vars_of ps) (λ f. (bits 3 (over_number q) ++ bits 8 (n - 1)) ++ all_bits_by ps f) old new r → DraftsForm s (over q ps) old new r
  over_drafts exists ps n old new r e h = drafts_same (vars_of ps) (λ f. (bits 3 3 ++ bits 8 (n - 1)) ++ all_bits_by ps f) (bits_by (over exists ps)) old new r (λ f. sym (any_bits ps n f e)) h
  over_drafts forall ps n old new r e h = drafts_same (vars_of ps) (λ f. (bits 3 2 ++ bits 8 (n - 1)) ++ all_bits_by ps f) (bits_by (over forall ps)) old new r (λ f. sym (all_bits ps n f e)) h
