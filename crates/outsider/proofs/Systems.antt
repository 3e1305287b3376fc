-- The bits of a system: its headers, its bodies and its start.
use Rattle.std.proofs.Common.{◌≡◌, ℕ, suc, ◌+◌, ◌*◌, List, [], ◌∷◌, ◌++◌, map, length, Some, None, Option, sym, refl, ap, ◌∙◌, subst, append_assoc, zero-add, arith, length-append}
use lib.ListN.{length-map}
use Rattle.definitions.specs.Lists.{at, flat, or_else}
use Rattle.definitions.specs.Bits.{bits, Stands}
use Rattle.definitions.specs.Alg.{Alg, Lawful}
use Rattle.definitions.specs.Systems.{Equation, System}
use Rattle.definitions.specs.ReadSystem.{Header}
use Rattle.definitions.specs.Written.{header_bits, body_bits, system_bits}
use Rattle.definitions.specs.Fits.{ValuesFit, SystemFits, header_of}
use Rattle.theorems.proofs.Fields.{stands_left, stands_right}
use Rattle.theorems.proofs.Listing.{map_twice, none_some, some_same}
use Rattle.theorems.proofs.Goods.{bits_long}
use Rattle.theorems.proofs.Sounds.{sound_system}
use Rattle.rows.specs.Listed.{listed}
use Rattle.system.specs.declared.outline.Equation.{Equation as Told}
use Rattle.system.specs.declared.outline.Outline.{Outline}
use Rattle.system.specs.Files.{kept_header}
use Rattle.system.specs.Walks.{Pairs}
use Rattle.system.specs.Whole.{Outlined}
use Rattle.outsider.specs.declared.pieces.Piece.{Piece}
use Rattle.outsider.specs.Repeats.{equation_without_repeats, without_repeats}
use Rattle.outsider.specs.Pieces.{Made, HeaderThere}
use Rattle.outsider.proofs.Lengths.{flat_long}

abbrev pub heads : System → List ℕ
heads s = bits 5 (length s.equations) ++ flat (map header_bits s.equations)

abbrev pub bodies : System → List ℕ
bodies s = flat (map body_bits s.equations)

abbrev pub bodies_left : System → List ℕ
bodies_left s = flat (map (λ (e : Equation). body_bits (equation_without_repeats e)) s.equations)

abbrev pub start : System → List ℕ
start s = bits 5 s.start ++ flat (map (bits 8) s.values)

parts : (s : System) → system_bits s ≡ heads s ++ (bodies s ++ start s)
parts s = sym (append_assoc (bits 5 (length s.equations)) (flat (map header_bits s.equations)) (bodies s ++ start s))

pub parts_left : (a : Alg) (s : System) → system_bits (without_repeats a s) ≡ heads s ++ (bodies_left s ++ start s)
parts_left a s =
    let es = s.equations in
    let hs = flat (map header_bits es) in
    ap (λ n. bits 5 n ++ (flat (map header_bits (map equation_without_repeats es)) ++ (flat (map body_bits (map equation_without_repeats es)) ++ start s))) (length-map es equation_without_repeats) ∙
    ap (λ xs. bits 5 (length es) ++ (flat xs ++ (flat (map body_bits (map equation_without_repeats es)) ++ start s))) (map_twice header_bits equation_without_repeats es) ∙
    ap (λ xs. bits 5 (length es) ++ (hs ++ (flat xs ++ start s))) (map_twice body_bits equation_without_repeats es) ∙
    sym (append_assoc (bits 5 (length es)) hs (bodies_left s ++ start s))

values_long : (a : Alg) (ss vs : List ℕ) → ValuesFit a ss vs → length ss ≡ length vs
values_long a [] [] h = refl
values_long a [] (v ∷ vs) h = absurd h
values_long a (s ∷ ss) [] h = absurd h
values_long a (s ∷ ss) (v ∷ vs) h = ap suc (values_long a ss vs h.1)

pub headers_there : (ts : List Told) (es : List Equation) → map (λ (t : Told). kept_header t.header) ts ≡ map header_of es → Pairs (λ (t : Told). HeaderThere t.header) ts es
headers_there [] [] e = tt
headers_there [] (x ∷ es) e = absurd cc
headers_there (t ∷ ts) [] e = absurd cc
headers_there (t ∷ ts) (x ∷ es) e = (sym (ap (λ (hs : List Header). first (kept_header t.header) hs) e), headers_there ts es (ap others e))
  where
    first : Header → List Header → Header
    first d [] = d
    first d (h ∷ hs) = h

    others : List Header → List Header
    others [] = []
    others (h ∷ hs) = hs

module _ (a : Alg) (law : Lawful a) (f : List ℕ) (s : System) (o : Outline) (out : Outlined a f s o) (fit : SystemFits a s) where
  abbrev before_start : List ℕ
  before_start = heads s ++ bodies s

  all_there : Stands f 0 (heads s ++ (bodies s ++ start s)) × (o.end ≡ length (heads s ++ (bodies s ++ start s)))
  all_there =
      let c = (sound_system f a law).run 0 (omega arith) s o.end out.whole in
      let e : c.its ≡ heads s ++ (bodies s ++ start s) = c.fact.0 ∙ parts s in
      (subst (Stands f 0) e c.stands, c.behind ∙ zero-add (length c.its) ∙ ap length e)

  -- the headers stand at the beginning
  pub heads_made : (n : ℕ) → n ≡ 5 + length (flat (map header_bits s.equations)) → Made f (heads s) (record { at = 0; count = n })
  heads_made n e = record {
    stands = stands_left f 0 (heads s) (bodies s ++ start s) all_there.0;
    count = e ∙ ap (λ k. k + length (flat (map header_bits s.equations))) (sym (bits_long 5 (length s.equations))) ∙ sym (length-append (bits 5 (length s.equations)) (flat (map header_bits s.equations)));
  }

  -- the start stands at the end
  start_long : length (start s) ≡ 5 + 8 * length s.values
  start_long =
      let n = length-append (bits 5 s.start) (flat (map (bits 8) s.values)) in
      omega (arith, n, bits_long 5 s.start, flat_long (bits 8) 8 (bits_long 8) s.values)

  abbrev place : ℕ
  place = length before_start

  whole : heads s ++ (bodies s ++ start s) ≡ before_start ++ start s
  whole = sym (append_assoc (heads s) (bodies s) (start s))

  start_stands : Stands f place (start s)
  start_stands =
      subst (λ n. Stands f n (start s)) (zero-add place)
      (stands_right f 0 before_start (start s) (subst (Stands f 0) whole all_there.0))

  ends : o.end ≡ place + length (start s)
  ends = all_there.1 ∙ ap length whole ∙ length-append before_start (start s)

  module _ (n : ℕ) (same : n ≡ length s.values) (r : Option Piece) (h : (p : ℕ) → o.end ≡ p + (5 + 8 * n) → r ≡ Some (record { at = p; count = 5 + 8 * n })) where
    its_count : 5 + 8 * n ≡ length (start s)
    its_count = ap (λ k. 5 + 8 * k) same ∙ sym start_long

    told : r ≡ Some (record { at = place; count = 5 + 8 * n })
    told = h place (ends ∙ ap (λ k. place + k) (sym its_count))

    pub start_there : r ≡ None → ⊥
    start_there e = none_some {P = ⊥} (record { at = place; count = 5 + 8 * n }) (sym e ∙ told)

    pub start_made : (x : Piece) → r ≡ Some x → Made f (start s) x
    start_made x e =
        let y : Piece = record { at = place; count = 5 + 8 * n } in
        subst (Made f (start s)) (some_same y x (sym told ∙ e)) (record { stands = start_stands; count = its_count })

  -- the start's equation has as many parameters as the start has values
  pub start_values : (x : Told) → Some (kept_header x.header) ≡ at (map (λ (e : Told). kept_header e.header) (listed o.equations)) o.start.equation → length (listed x.header.sorts) ≡ length s.values
  start_values x it =
      let head : Some (kept_header x.header) ≡ Some fit.header = it ∙ ap (λ (hs : List Header). at hs o.start.equation) out.headers ∙ ap (at (map header_of s.equations)) out.start ∙ fit.there in
      ap (λ (o : Option Header). length (or_else o fit.header).sorts) head ∙ values_long a fit.header.sorts s.values fit.values
