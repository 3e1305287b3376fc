-- What expanding comes to, by the count of the instances and the length of the file.
use Rattle.faults.specs.declared.ExpandFault.TheVariants.{Refused}
use Rattle.faults.specs.declared.Reason.TheVariants.{TooManyInstances, BooleanTooLong}
use Rattle.std.proofs.Common.{◌≡◌, ℕ, ◌-◌, ◌<◌, ◌≤◌, Bool, true, false, ◌&&◌, leb, ◌⊎◌, List, ◌++◌, map, length, Some, None, Option, sym, refl, ap, ◌∙◌, subst, ap₂, inl, inr, arith}
use lib.ListN.{length-map}
use Rattle.std.proofs.lemmas.Bool.{leb-true, le-leb, lt-leb, and_from}
use Rattle.std.proofs.Math.Bool.{and-false}
use Rattle.definitions.specs.Lists.{flat}
use Rattle.definitions.specs.Bits.{bits, packed}
use Rattle.definitions.specs.Alg.{Alg}
use Rattle.definitions.specs.Systems.{System}
use Rattle.definitions.specs.Truth.{Instance}
use Rattle.definitions.specs.Boolean.{numbering, Variable, variable_of, variable_bits, boolean_written, Expanded, made, refused, shipped, expand_system}
use Rattle.theorems.proofs.Listing.{map_twice}
use Rattle.theorems.proofs.Growing.{member_bits}

-- the cases of what is shipped
module _ (places room : ℕ) (vs : List Variable) where
  by_bytes : Bool → Expanded
  by_bytes b = elim b [ true ↦ made (boolean_written vs) (length vs) | false ↦ refused (Refused BooleanTooLong) ]

  ship_many : places < length vs → shipped places room vs ≡ refused (Refused TooManyInstances)
  unfolding by_bytes
  ship_many h = ap (λ b. elim b as (λ _. Expanded) [ true ↦ by_bytes (leb (length (boolean_written vs)) room && leb (length (boolean_written vs)) 65535) | false ↦ refused (Refused TooManyInstances) ]) (lt-leb (length vs) places h)

  ship_by : length vs ≤ places → (b : Bool) → (leb (length (boolean_written vs)) room && leb (length (boolean_written vs)) 65535) ≡ b → shipped places room vs ≡ by_bytes b
  unfolding by_bytes
  ship_by h b e =
      ap (λ c. elim c as (λ _. Expanded) [ true ↦ by_bytes (leb (length (boolean_written vs)) room && leb (length (boolean_written vs)) 65535) | false ↦ refused (Refused TooManyInstances) ]) (le-leb (length vs) places h) ∙
      ap by_bytes e

  ship_fits : length vs ≤ places → length (boolean_written vs) ≤ room → length (boolean_written vs) ≤ 65535 → shipped places room vs ≡ made (boolean_written vs) (length vs)
  unfolding by_bytes
  ship_fits h r m = ship_by h true (and_from (leb (length (boolean_written vs)) room) (leb (length (boolean_written vs)) 65535) (le-leb (length (boolean_written vs)) room r) (le-leb (length (boolean_written vs)) 65535 m))

  ship_long : length vs ≤ places → (room < length (boolean_written vs)) ⊎ (65535 < length (boolean_written vs)) → shipped places room vs ≡ refused (Refused BooleanTooLong)
  unfolding by_bytes
  ship_long h (inl r) = ship_by h false (ap (λ b. b && leb (length (boolean_written vs)) 65535) (lt-leb (length (boolean_written vs)) room r))
  ship_long h (inr m) = ship_by h false (ap (λ b. leb (length (boolean_written vs)) room && b) (lt-leb (length (boolean_written vs)) 65535 m) ∙ and-false (leb (length (boolean_written vs)) room))

abbrev by_count : Alg → ℕ → ℕ → System → List Instance → Bool → Expanded
by_count a places room s ns b =
    elim (elim b as (λ _. Option (List Variable)) [ true ↦ Some (map (variable_of a s ns) ns) | false ↦ None ]) [ None ↦ refused (Refused TooManyInstances) | Some vs ↦ shipped places room vs ]

module _ (a : Alg) (s : System) where
  -- the bits of the file of the instances
  abbrev pub content : List Instance → List ℕ
  content ns = bits 12 (length ns - 1) ++ member_bits a s ns ns

  variables_long : (ns : List Instance) → length (map (variable_of a s ns) ns) ≡ length ns
  variables_long ns = length-map ns (variable_of a s ns)

  written_content : (ns : List Instance) → boolean_written (map (variable_of a s ns) ns) ≡ packed (content ns)
  written_content ns =
      ap (λ m. packed (bits 12 (m - 1) ++ flat (map variable_bits (map (variable_of a s ns) ns)))) (variables_long ns) ∙
      ap (λ z. packed (bits 12 (length ns - 1) ++ flat z)) (map_twice variable_bits (variable_of a s ns) ns)

  module _ (places room : ℕ) (ns : List Instance) where
    count_many : (n : ℕ) → (n < length ns) ⊎ (places < length ns) → by_count a places room s ns (leb (length ns) n) ≡ refused (Refused TooManyInstances)
    count_many n h = go (leb (length ns) n) refl h
      where
        go : (b : Bool) → leb (length ns) n ≡ b → (n < length ns) ⊎ (places < length ns) → by_count a places room s ns b ≡ refused (Refused TooManyInstances)
        go false e h = refl
        go true e (inl h) = absurd (let l : length ns ≤ n = leb-true (length ns) n e in omega arith)
        go true e (inr h) = ship_many places room (map (variable_of a s ns) ns) (let l = variables_long ns in omega arith)

    count_few : (n : ℕ) → length ns ≤ n → by_count a places room s ns (leb (length ns) n) ≡ shipped places room (map (variable_of a s ns) ns)
    count_few n h = ap (by_count a places room s ns) (le-leb (length ns) n h)

  module _ (places room : ℕ) where
    -- the instances are too many
    pub expands_many : (4096 < length (numbering a s)) ⊎ (places < length (numbering a s)) → expand_system a places room s ≡ refused (Refused TooManyInstances)
    expands_many h = count_many places room (numbering a s) 4096 h

    module _ (ns : List Instance) (all : ns ≡ numbering a s) (few : length ns ≤ 4096) (placed : length ns ≤ places) where
      by_file : expand_system a places room s ≡ shipped places room (map (variable_of a s ns) ns)
      by_file = subst (λ ms. length ms ≤ 4096 → expand_system a places room s ≡ shipped places room (map (variable_of a s ms) ms)) (sym all) (count_few places room (numbering a s) 4096) few

      same : length (boolean_written (map (variable_of a s ns) ns)) ≡ length (packed (content ns))
      same = ap length (written_content ns)

      -- the bytes are too many
      pub expands_long : (room < length (packed (content ns))) ⊎ (65535 < length (packed (content ns))) → expand_system a places room s ≡ refused (Refused BooleanTooLong)
      expands_long h = by_file ∙ ship_long places room (map (variable_of a s ns) ns) (let l = variables_long ns in omega arith) (subst (λ n. (room < n) ⊎ (65535 < n)) (sym same) h)

      -- the file is made
      pub expands_made : length (packed (content ns)) ≤ room → length (packed (content ns)) ≤ 65535 → expand_system a places room s ≡ made (packed (content ns)) (length ns)
      expands_made r m =
          by_file ∙
          ship_fits places room (map (variable_of a s ns) ns) (let l = variables_long ns in omega arith) (omega (arith, same)) (omega (arith, same)) ∙
          ap₂ (λ g n. made g n) (written_content ns) (variables_long ns)
