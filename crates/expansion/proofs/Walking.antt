-- Loops over what stands in the file, which write a form for each thing that passes a test.
use Rattle.std.proofs.Common.{◌≡◌, ℕ, suc, ◌+◌, ◌<◌, Bool, true, false, List, [], ◌∷◌, map, length, drop, get_or, Ok, Err, Result, IsErr, sym, refl, ap, ◌∙◌, subst, add-one, arith, drop-cons, zero-add}
use lib.ListN.{length-map}
use Rattle.definitions.specs.Lists.{at, keep}
use Rattle.definitions.specs.Alg.{Alg}
use Rattle.definitions.specs.Systems.{Term, Occurrence, System}
use Rattle.definitions.specs.ReadSystem.{Scope, Header}
use Rattle.definitions.specs.Truth.{Instance, meant}
use Rattle.definitions.specs.Boolean.{Form}
use Rattle.definitions.specs.Fits.{TermsFit, OccurrenceFits, Every, header_of}
use Rattle.theorems.proofs.Listing.{at_map_some}
use Rattle.system.specs.Walks.{Pairs}
use Rattle.expansion.specs.declared.draft.Draft.{Draft}
use Rattle.expansion.specs.declared.draft.Unfinished.{Unfinished}
use Rattle.expansion.specs.Drafts.{Fine, DraftsForm, DraftsForms}
use Rattle.expansion.proofs.Drafting.{Writing, writing_here, writing_next, writing_stop, writing_end}

-- the item of a loop over a slice, and what is behind it
pub item : {A : Type 0} (xs : List A) (i : ℕ) (x : A) → i < length xs → x ≡ get_or xs i x → drop i xs ≡ x ∷ drop (i + 1) xs
item xs i x h e = rw add-one (drop-cons xs i x h) ∙ ap (λ y. y ∷ drop (i + 1) xs) (sym e)

-- a list's first, and what belongs to it
pub record Met {X Y : Type 0} (R : X → Y → Type 0) (x : X) (xs : List X) (ys : List Y) : Type 0 where
  pub first : Y
  pub rest : List Y
  pub is : ys ≡ first ∷ rest
  pub here : R x first
  pub there : Pairs R xs rest

pub met : {X Y : Type 0} (R : X → Y → Type 0) {xs more : List X} (x : X) (ys : List Y) → xs ≡ x ∷ more → Pairs R xs ys → Met R x more ys
met {Y = Y} R {more = more} x ys e h = go ys (subst (λ zs. Pairs R zs ys) e h)
  where
    go : (ys : List Y) → Pairs R (x ∷ more) ys → Met R x more ys
    go [] h = absurd h
    go (y ∷ ys) h = record { first = y; rest = ys; is = refl; here = h.0; there = h.1 }

pub none_left : {X Y : Type 0} (R : X → Y → Type 0) (xs : List X) (ys : List Y) → length xs ≡ 0 → Pairs R xs ys → ys ≡ []
none_left R [] [] e h = refl
none_left R [] (y ∷ ys) e h = absurd h
none_left R (x ∷ xs) ys e h = absurd (omega arith)

pub pairs_with : {X Y : Type 0} (P : X → Y → Type 0) (Q : Y → Type 0) (R : X → Y → Type 0) → ((x : X) (y : Y) → P x y → Q y → R x y) → (xs : List X) (ys : List Y) → Pairs P xs ys → Every Q ys → Pairs R xs ys
pairs_with P Q R f [] [] p q = tt
pairs_with P Q R f [] (y ∷ ys) p q = absurd p
pairs_with P Q R f (x ∷ xs) [] p q = absurd p
pairs_with P Q R f (x ∷ xs) (y ∷ ys) p q = (f x y p.0 q.0, pairs_with P Q R f xs ys p.1 q.1)

keep_yes : {Y : Type 0} (t : Y → Bool) (y : Y) (ys : List Y) → t y ≡ true → keep t (y ∷ ys) ≡ y ∷ keep t ys
keep_yes {Y} t y ys e = ap (λ b. elim b as (λ _. List Y) [ true ↦ y ∷ keep t ys | false ↦ keep t ys ]) e

keep_no : {Y : Type 0} (t : Y → Bool) (y : Y) (ys : List Y) → t y ≡ false → keep t (y ∷ ys) ≡ keep t ys
keep_no {Y} t y ys e = ap (λ b. elim b as (λ _. List Y) [ true ↦ y ∷ keep t ys | false ↦ keep t ys ]) e

-- of the things ys the forms of some are written, and the others belong to xs
pub record Parts {X Y : Type 0} (R : X → Y → Type 0) (t : Y → Bool) (g : Y → Form Instance) (s : System) (ys : List Y) (xs : List X) (old now : Draft) : Type 0 where
  pub left : List Y
  pub pairs : Pairs R xs left
  pub writing : Writing s [] (map g (keep t ys)) (map g (keep t left)) old now

module _ {X Y : Type 0} (R : X → Y → Type 0) (t : Y → Bool) (g : Y → Form Instance) (s : System) where
  pub parts_first : (xs : List X) (ys : List Y) (now : Draft) → Pairs R xs ys → Parts R t g s ys xs now now
  parts_first xs ys now h = record { left = ys; pairs = h; writing = writing_here s (map g (keep t ys)) now }

  behind : (ys : List Y) {left rest : List Y} {old now : Draft} (y : Y) → left ≡ y ∷ rest → t y ≡ true → Writing s [] (map g (keep t ys)) (map g (keep t left)) old now → Writing s [] (map g (keep t ys)) (g y ∷ map g (keep t rest)) old now
  behind ys {rest = rest} {old = old} {now = now} y e k w =
      subst (λ zs. Writing s [] (map g (keep t ys)) zs old now) (ap (λ zs. map g (keep t zs)) e ∙ ap (map g) (keep_yes t y rest k)) w

  pub parts_next : {ys : List Y} {xs more : List X} (x : X) (old now new : Draft) → xs ≡ x ∷ more → Parts R t g s ys xs old now →
      ((y : Y) → R x y → (t y ≡ true) × DraftsForm {T = Unit {0}} s (g y) now new (Ok tt)) → Parts R t g s ys more old new
  parts_next {ys = ys} x old now new e p h =
      let m = met R x p.left e p.pairs in
      let k = h m.first m.here in
      record { left = m.rest; pairs = m.there; writing = writing_next s [] (map g (keep t ys)) (g m.first) (map g (keep t m.rest)) old now new (behind ys m.first m.is k.0 p.writing) k.1 }

  pub parts_skip : {ys : List Y} {xs more : List X} (x : X) (old now : Draft) → xs ≡ x ∷ more → Parts R t g s ys xs old now → ((y : Y) → R x y → t y ≡ false) → Parts R t g s ys more old now
  parts_skip {ys = ys} x old now e p h =
      let m = met R x p.left e p.pairs in
      record {
        left = m.rest;
        pairs = m.there;
        writing = subst (λ zs. Writing s [] (map g (keep t ys)) zs old now) (ap (λ zs. map g (keep t zs)) m.is ∙ ap (map g) (keep_no t m.first m.rest (h m.first m.here))) p.writing;
      }

  pub parts_stop : {U : Type 0} {ys : List Y} {xs more : List X} (x : X) (old now mid new : Draft) (u : Unfinished) (r : Result U Unfinished) → IsErr r → xs ≡ x ∷ more → Parts R t g s ys xs old now →
      ((y : Y) → R x y → (t y ≡ true) × DraftsForm {T = Unit {0}} s (g y) now mid (Err u)) → DraftsForms s (map g (keep t ys)) old new r
  parts_stop {ys = ys} x old now mid new u r j e p h =
      let m = met R x p.left e p.pairs in
      let k = h m.first m.here in
      writing_stop s [] (map g (keep t ys)) (g m.first) (map g (keep t m.rest)) old now mid new u r j (behind ys m.first m.is k.0 p.writing) k.1

  pub parts_end : {T : Type 0} {ys : List Y} {xs : List X} (old now : Draft) (u : T) → length xs ≡ 0 → Parts R t g s ys xs old now → DraftsForms s (map g (keep t ys)) old now (Ok u)
  parts_end {ys = ys} {xs = xs} old now u e p = writing_end s [] (map g (keep t ys)) (map g (keep t p.left)) old now u (ap (λ zs. map g (keep t zs)) (none_left R xs p.left e p.pairs)) p.writing

-- as many terms as sorts
terms_long : (a : Alg) (c : Scope) (ss : List ℕ) (ts : List Term) → TermsFit a c ss ts → length ts ≡ length ss
terms_long a c [] [] h = refl
terms_long a c [] (t ∷ ts) h = absurd h
terms_long a c (s ∷ ss) [] h = absurd h
terms_long a c (s ∷ ss) (t ∷ ts) h = ap suc (terms_long a c ss ts h.1)

-- an occurrence that fits means an instance of the system
pub occurrence_fine : (a : Alg) (s : System) (hs : List Header) (c : Scope) (ps vs : List ℕ) (o : Occurrence) → hs ≡ map header_of s.equations → OccurrenceFits a hs c o → Fine s (meant a ps vs o)
occurrence_fine a s hs c ps vs o e h =
    let (t, there, is) = at_map_some header_of s.equations o.target h.header (sym (ap (λ ks. at ks o.target) e) ∙ h.there) in
    record {
      equation = t;
      there = there;
      values = length-map o.arguments _ ∙ terms_long a c h.header.sorts o.arguments h.fit ∙ ap (λ (k : Header). length k.sorts) (sym is);
    }

-- of the things ys that pass the test so many are counted, and the others belong to xs
pub record Counting {X Y : Type 0} (R : X → Y → Type 0) (t : Y → Bool) (ys : List Y) (xs : List X) (n : ℕ) : Type 0 where
  pub left : List Y
  pub pairs : Pairs R xs left
  pub count : n + length (keep t left) ≡ length (keep t ys)

module _ {X Y : Type 0} (R : X → Y → Type 0) (t : Y → Bool) where
  pub counting_first : (xs : List X) (ys : List Y) → Pairs R xs ys → Counting R t ys xs 0
  counting_first xs ys h = record { left = ys; pairs = h; count = zero-add (length (keep t ys)) }

  pub counting_next : {ys : List Y} {xs more : List X} (x : X) (n : ℕ) → xs ≡ x ∷ more → Counting R t ys xs n → ((y : Y) → R x y → t y ≡ true) → Counting R t ys more (n + 1)
  counting_next x n e c h =
      let m = met R x c.left e c.pairs in
      let k = ap length (ap (keep t) m.is ∙ keep_yes t m.first m.rest (h m.first m.here)) in
      let q = c.count in
      record { left = m.rest; pairs = m.there; count = omega arith }

  pub counting_skip : {ys : List Y} {xs more : List X} (x : X) (n : ℕ) → xs ≡ x ∷ more → Counting R t ys xs n → ((y : Y) → R x y → t y ≡ false) → Counting R t ys more n
  counting_skip x n e c h =
      let m = met R x c.left e c.pairs in
      let k = ap length (ap (keep t) m.is ∙ keep_no t m.first m.rest (h m.first m.here)) in
      let q = c.count in
      record { left = m.rest; pairs = m.there; count = omega arith }

  pub counting_end : {ys : List Y} {xs : List X} (n : ℕ) → length xs ≡ 0 → Counting R t ys xs n → n ≡ length (keep t ys)
  counting_end {xs = xs} n e c =
      let k = ap (λ zs. length (keep t zs)) (none_left R xs c.left e c.pairs) in
      let q = c.count in
      omega arith
