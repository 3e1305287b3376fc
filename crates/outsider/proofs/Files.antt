-- The file that is written, and what the pass then answers.
use Rattle.std.proofs.Common.{◌≡◌, ℕ, suc, ◌+◌, ◌*◌, ◌/◌, ◌<◌, ◌≤◌, Bool, true, false, List, [], ◌∷◌, ◌++◌, length, get_or, drop, Ok, Err, Result, sym, refl, ap, ◌∙◌, arith}
use Rattle.std.proofs.lemmas.Bool.{lt-ltb}
use Rattle.std.specs.Result.{result_or}
use Rattle.faults.specs.declared.Reason.TheVariants.{ResultTooLong}
use Rattle.faults.specs.declared.PassFault.TheVariants.{Declined}
use Rattle.definitions.specs.Bits.{packed}
use Rattle.definitions.specs.Alg.{Alg, Lawful}
use Rattle.definitions.specs.Systems.{System}
use Rattle.definitions.specs.Written.{system_bits, written}
use Rattle.definitions.specs.Fits.{Every, SystemFits}
use Rattle.definitions.specs.Settle.{Pass, Ran}
use Rattle.definitions.specs.Rules.{applied, applied_to, fitted_in}
use Rattle.definitions.specs.Calls.{Applies}
use Rattle.theorems.proofs.Packs.{bytes_long}
use Rattle.theorems.proofs.Whole.{system_bits_lem}
use Rattle.theorems.proofs.Repack.{whole_forth}
use Rattle.bits.specs.declared.writer.BitWriter.{BitWriter}
use Rattle.bits.specs.declared.writer.Full.{Full}
use Rattle.bits.specs.Back.{Bytes, are_bits}
use Rattle.bits.specs.Put.{overwritten, closed}
use Rattle.bits.specs.Writes.{Wrote}
use Rattle.bits.proofs.Packs.{packs}
use Rattle.system.specs.declared.outline.Outline.{Outline}
use Rattle.system.specs.Whole.{Outlined, Read}
use Rattle.system.proofs.Outlines.{got_short}
use Rattle.outsider.specs.Pieces.{Fitted}

are : (bs : List ℕ) → Every (λ b. b < 2) bs → are_bits bs ≡ true
are [] h = refl
are (b ∷ bs) h = ap (λ (t : Bool). elim t as (λ _. Bool) [ true ↦ are_bits bs | false ↦ false ]) (lt-ltb b 2 h.0) ∙ are bs h.1

pub system_are : (s : System) → are_bits (system_bits s) ≡ true
system_are s = are (system_bits s) (system_bits_lem s)

packed_long : (bs : List ℕ) → length (packed bs) ≡ (length bs + 7) / 8
packed_long bs = bytes_long ((length bs + 7) / 8) bs

-- written from the first place on, and closed
pub packed_whole : (bs buffer file : List ℕ) (n : ℕ) {old new : BitWriter} → Bytes buffer → are_bits bs ≡ true → Wrote bs old new → old.at ≡ 0 → old.bytes.now ≡ buffer → file ≡ closed new.bytes.now new.at → n ≡ (new.at + 7) / 8 →
    (n ≡ length (packed bs)) × (n ≤ length buffer) × (file ≡ packed bs ++ drop n buffer)
packed_whole bs buffer file n {old = old} {new = new} b i w s f e k =
    let p : new.at ≡ length bs = (let h = w.place in omega arith) in
    let m : n ≡ (length bs + 7) / 8 = k ∙ ap (λ j. (j + 7) / 8) p in
    let room : length bs ≤ 8 * length buffer = (let r : new.at ≤ 8 * length old.bytes.now = w.room (omega arith) in let l = ap length f in omega arith) in
    let over : new.bytes.now ≡ overwritten buffer 0 bs = w.bytes ∙ ap (λ g. overwritten g old.at bs) f ∙ ap (λ j. overwritten buffer j bs) s in
    let shut : file ≡ closed (overwritten buffer 0 bs) (length bs) = e ∙ ap (λ g. closed g new.at) over ∙ ap (closed (overwritten buffer 0 bs)) p in
    (m ∙ sym (packed_long bs), omega arith, shut ∙ packs buffer bs b i room ∙ ap (λ j. packed bs ++ drop j buffer) (sym m))

-- and where there is no room for the bits, there is none for the file
pub packed_large : (bs buffer : List ℕ) (n : ℕ) → 8 * length buffer < n + length bs → n ≡ 0 → length buffer < length (packed bs)
packed_large bs buffer n h e = let l = packed_long bs in omega arith

-- the items of a list of bytes
pub bytes_each : (f : List ℕ) → ((i : ℕ) → get_or f i 0 < 256) → Every (λ x. x < 256) f
bytes_each [] h = tt
bytes_each (x ∷ f) h = (h 0, bytes_each f (λ i. h (suc i)))

fitted_applies : (o : Ran) (g before after : List ℕ) (w : Result ℕ Full) → o ≡ fitted_in (length before) g → Fitted g before after w → Applies o before after (result_or w (Err (Declined ResultTooLong)))
fitted_applies o g before after (Ok n) e h = record { file = g; wrote = e ∙ h.0; put = h.1 }
fitted_applies o g before after (Err x) e h = record { why = e ∙ h.0; kept = h.1 }

-- where the file of the meant system is written, or too long, that is what the pass makes of a file that is read
pub applies : (m : Pass) (a : Alg) (f before after : List ℕ) (o : Outline) (w : Result ℕ Full) → Lawful a → Every (λ x. x < 256) f → Read a f (Ok o) →
    ((s : System) → length f ≤ 65536 → Outlined a f s o → SystemFits a s → Fitted (written (m a s)) before after w) →
    Applies (applied m a (length before) f) before after (result_or w (Err (Declined ResultTooLong)))
applies m a f before after o w law bytes read writes =
    let s = read.0 in
    let short : length f ≤ 65536 = (let h = got_short a f s read.1.0 in omega arith) in
    let fits : SystemFits a s = (whole_forth a law f bytes s read.1.0).1 in
    fitted_applies (applied m a (length before) f) (written (m a s)) before after w (ap (applied_to m a (length before)) read.1.0) (writes s short read.1.1 fits)
