-- Loads of a file.
use Rattle.std.proofs.Common.{◌≡◌, ℕ, zero, suc, ◌<◌, ◌≤◌, Bool, true, false, ◌||◌, eqb, ltb, List, [], ◌∷◌, length, get_or, Ok, Err, Result, refl, ap, ◌∙◌, arith}
use Rattle.std.proofs.lemmas.Bool.{ltb-false}
use Rattle.faults.specs.declared.Reason.TheVariants.{BadLength}
use Rattle.faults.specs.declared.ReadFault.{ReadFault}
use Rattle.definitions.specs.Alg.{Alg}
use Rattle.definitions.specs.Systems.{System}
use Rattle.definitions.specs.Reading.{Reading, got, bad, ended, complete}
use Rattle.definitions.specs.ReadSystem.{read_system, reading}
use Rattle.definitions.specs.Calls.{Bytes, Loads}
use Rattle.definitions.specs.Past.{loads}
use Rattle.definitions.specs.Histories.{Follows}
use Rattle.theorems.proofs.Main.{follows}
use Rattle.bench.specs.declared.Bench.{Bench}
use Rattle.bench.specs.Holds.{holding}
use Rattle.bench.proofs.Tails.{none}

-- the elements of a slice of bytes are bytes
pub are_bytes : (f : List ℕ) → ((i : ℕ) → get_or f i 0 < 256) → Bytes f
are_bytes [] h = tt
are_bytes (x ∷ xs) h = (h 0, are_bytes xs (λ i. h (suc i)))

pub each_byte : (f : List ℕ) → Bytes f → (k : ℕ) → get_or f k 0 < 256
each_byte [] b k = omega (arith, none k)
each_byte (x ∷ xs) b zero = b.0
each_byte (x ∷ xs) b (suc k) = each_byte xs b.1 k

-- what a bench holds are bytes
pub held_bytes : (b : Bench) → Bytes (holding b)
held_bytes b = are_bytes (holding b) b.small

pub declined_load : (a : Alg) (f h : List ℕ) (r : Result (Unit {0}) ReadFault) (e : ReadFault) → reading a f ≡ bad e.reason e.place → r ≡ Err e → Loads a f h h r
declined_load a f h (Ok x) e w q = absurd cc
declined_load a f h (Err d) e w q = let k : e ≡ d = cc in record { why = w ∙ ap (λ (x : ReadFault). bad x.reason x.place) k; kept = refl }

pub load_follows : (a : Alg) (f h k : List ℕ) (r : Result (Unit {0}) ReadFault) → ((i : ℕ) → get_or f i 0 < 256) → Loads a f h k r → Follows (loads a f r) h k
load_follows a f h k r b l = follows (loads a f r) h k (are_bytes f b, l)
