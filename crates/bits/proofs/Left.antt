-- Writing bits piece by piece.
use Rattle.std.proofs.Common.{◌≡◌, ℕ, ◌*◌, ◌≤◌, List, [], ◌++◌, length, sym, refl, ap, ◌∙◌, subst, arith, length-append}
use Rattle.std.proofs.lemmas.List.{append_assoc, append-nil}
use Rattle.bits.specs.declared.writer.BitWriter.{BitWriter}
use Rattle.bits.specs.Put.{overwritten}
use Rattle.bits.specs.Writes.{Wrote, NoRoom, Left}
use Rattle.bits.proofs.Puts.{in_a_row}
use Rattle.bits.proofs.Written.{long}

wrote_none : (w : BitWriter) → Wrote [] w w
wrote_none w = record { bytes = refl; place = omega arith; room = λ h. h; named = refl }

wrote_more : (bs cs : List ℕ) {old now : BitWriter} (new : BitWriter) → Wrote bs old now → Wrote cs now new → Wrote (bs ++ cs) old new
wrote_more bs cs {old = old} {now = now} new a b =
    let l : length now.bytes.now ≡ length old.bytes.now = ap length a.bytes ∙ long old.bytes.now old.at bs in
    let n = length-append bs cs in
    record {
      bytes = b.bytes ∙ ap (λ f. overwritten f now.at cs) a.bytes ∙ ap (λ p. overwritten (overwritten old.bytes.now old.at bs) p cs) a.place ∙ in_a_row old.bytes.now old.at bs cs;
      place = omega (arith, a.place, b.place);
      room = λ h. subst (λ (k : ℕ). new.at ≤ 8 * k) l (b.room (subst (λ (k : ℕ). now.at ≤ 8 * k) (sym l) (a.room h)));
      named = b.named ∙ a.named;
    }

pub left_first : (bs : List ℕ) (w : BitWriter) → Left bs bs w w
left_first bs w = record { done = []; wrote = wrote_none w; whole = refl }

pub left_next : {bs rest : List ℕ} {old now : BitWriter} (cs : List ℕ) (new : BitWriter) → Left bs (cs ++ rest) old now → Wrote cs now new → Left bs rest old new
left_next {rest = rest} cs new l w = record {
  done = l.done ++ cs;
  wrote = wrote_more l.done cs new l.wrote w;
  whole = l.whole ∙ sym (append_assoc l.done cs rest);
}

pub left_stop : {bs : List ℕ} {old now : BitWriter} (cs rest : List ℕ) → Left bs (cs ++ rest) old now → NoRoom cs now → NoRoom bs old
left_stop {old = old} {now = now} cs rest l h short =
    let k : length now.bytes.now ≡ length old.bytes.now = ap length l.wrote.bytes ∙ long old.bytes.now old.at l.done in
    let n = ap length l.whole ∙ length-append l.done (cs ++ rest) in
    let m = length-append cs rest in
    let p = l.wrote.place in
    let r = h (subst (λ (i : ℕ). i ≤ 65536) (sym k) short) in
    omega arith

pub left_end : {bs : List ℕ} {old now : BitWriter} → Left bs [] old now → Wrote bs old now
left_end {old = old} {now = now} l = subst (λ (xs : List ℕ). Wrote xs old now) (sym (l.whole ∙ append-nil l.done)) l.wrote
