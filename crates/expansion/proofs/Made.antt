-- The whole Boolean file, drafted and handed over: what the answers say is what expanding comes to.
use Rattle.faults.specs.declared.ExpandFault.{ExpandFault}
use Rattle.faults.specs.declared.ExpandFault.TheVariants.{Unread, Refused}
use Rattle.faults.specs.declared.ReadFault.{ReadFault}
use Rattle.faults.specs.declared.Reason.TheVariants.{TooManyInstances}
use Rattle.std.proofs.Common.{◌≡◌, ℕ, ◌-◌, ◌<◌, ◌≤◌, ◌⊎◌, inl, inr, min, suc, List, [], ◌∷◌, ◌++◌, length, get_or, take, drop, Ok, Err, Result, sym, refl, ap, ◌∙◌, subst, length-append, arith}
use Rattle.std.proofs.lemmas.Bool.{cases_lt}
use Rattle.std.proofs.lemmas.List.{length-take, length-drop}
use Rattle.std.proofs.Math.Seq.{take-append_seam}
use Rattle.std.specs.List.{slice_range}
use Rattle.std.specs.Result.{result_or, is_ok, IsOk, OnOk}
use Rattle.definitions.specs.Alg.{Alg, Lawful}
use Rattle.definitions.specs.Bits.{bits, packed}
use Rattle.definitions.specs.Systems.{System}
use Rattle.definitions.specs.ReadSystem.{reading}
use Rattle.definitions.specs.Fits.{Every, SystemFits}
use Rattle.definitions.specs.Boolean.{numbering, Expanded, made, refused, expand_system, expand_read}
use Rattle.definitions.specs.Calls.{Delivered, Expanding}
use Rattle.theorems.proofs.Repack.{whole_forth}
use Rattle.theorems.proofs.Growing.{start_comes}
use Rattle.theorems.proofs.Shipping.{content, expands_many, expands_long, expands_made}
use Rattle.bits.specs.declared.writer.BitWriter.{BitWriter}
use Rattle.bits.specs.declared.writer.Full.{Full}
use Rattle.system.specs.declared.outline.Outline.{Outline}
use Rattle.system.specs.Whole.{Outlined, Read}
use Rattle.system.proofs.Outlines.{got_short}
use Rattle.expansion.specs.declared.Expansion.{Expansion}
use Rattle.expansion.specs.declared.draft.Draft.{Draft}
use Rattle.expansion.specs.declared.draft.Unfinished.{Unfinished}
use Rattle.expansion.specs.Drafts.{Drafted, Shut}
use Rattle.expansion.specs.Whole.{variables_bits, Numbers, HandsOver, told}

-- one answer or another
pub or_err : {T E D : Type 0} (r : Result T E) (f g : D) → result_or r (Err f) ≡ Err g → (e : E) × (r ≡ Err e) × (g ≡ f)
or_err (Ok x) f g e = absurd cc
or_err (Err e) f g k = (e, refl, (let i : f ≡ g = cc in sym i))

pub or_ok : {T E D : Type 0} (r : Result T E) (f : D) (x : T) → result_or r (Err f) ≡ Ok x → r ≡ Ok x
or_ok (Ok y) f x e = cc
or_ok (Err e) f x k = absurd cc

-- the places are the first of the work memory
pub few_places : {A : Type 0} (n : ℕ) (work : List A) → n ≡ min (length work) 4096 → length (take (n - 0) work) ≡ min (length work) 4096
few_places n work e = let l = length-take (n - 0) work in omega arith

-- what stands in front of a draft that was shut
module _ (first : BitWriter) (bs : List ℕ) (w : BitWriter) (n : ℕ) (h : Shut first bs w n) where
  pub shut_within : n ≤ length w.bytes.now
  shut_within =
      let l = ap length h.file in
      let k = length-append (packed bs) (drop n first.bytes.now) in
      let d = length-drop n first.bytes.now in
      let m = h.long in
      omega arith

  pub shut_front : (part : List ℕ) → part ≡ slice_range w.bytes.now 0 n → part ≡ packed bs
  shut_front part e =
      e ∙ ap (λ m. take m w.bytes.now) (let m = h.long in let k : n - 0 ≡ length (packed bs) = omega arith in k) ∙
      ap (take (length (packed bs))) h.file ∙
      take-append_seam (packed bs) (drop n first.bytes.now)

  -- the draft that was shut is handed over
  pub shut_delivered : (part before after : List ℕ) (r : Result ℕ Full) (f : ExpandFault) (m : ℕ) → part ≡ slice_range w.bytes.now 0 n → result_or r (Err f) ≡ Ok m →
      (IsOk r → length part ≤ length before) → OnOk r (after ≡ part ++ drop (length part) before) → Delivered (packed bs) before after n
  shut_delivered part before after r f m e k fits put =
      let is = shut_front part e in
      let ok = or_ok r f m k in
      let l = ap length is in
      let w = fits (ap is_ok ok) in
      let q = h.long in
      record {
        long = h.long;
        room = omega arith;
        front = subst (λ (r : Result ℕ Full). OnOk r (after ≡ part ++ drop (length part) before)) ok put ∙ ap (λ z. z ++ drop (length z) before) is;
      }

-- the answer is what expanding comes to
module _ (a : Alg) (s : System) (first : BitWriter) (work places : ℕ) (p : places ≡ min work 4096) (before after : List ℕ) where
  -- the instances are too many
  pub too_many : {T : Type 0} (old new : Draft) (r : Result T Unfinished) (f : ExpandFault) → Numbers a s old new r → Drafted s first places [] [] old →
      result_or r (Err (Refused TooManyInstances)) ≡ Err f → after ≡ before → Expanding (expand_system a work (length before) s) before after (Err f)
  too_many old new r f h d e kept =
      let (x, k, q) = or_err r (Refused TooManyInstances) f e in
      let l = subst (λ r. Numbers a s old new r) k h first places d in
      record { why = expands_many a s work (length before) (go l (cases_lt work 4096)) ∙ ap refused (sym q); kept = kept }
    where
      go : places < length (numbering a s) → (work < 4096) ⊎ (4096 ≤ work) → (4096 < length (numbering a s)) ⊎ (work < length (numbering a s))
      go l (inl h) = inr (omega arith)
      go l (inr h) = inl (omega arith)

  -- all are written
  pub all_written : {T D : Type 0} (old new : Draft) (r : Result T Unfinished) (f : D) (x : T) → Numbers a s old new r → Drafted s first places [] [] old → result_or r (Err f) ≡ Ok x →
      Drafted s first places (numbering a s) (bits 12 0 ++ variables_bits a s (numbering a s)) new
  all_written old new r f x h d e = subst (λ r. Numbers a s old new r) (or_ok r f x e) h first places d

  -- and handed over
  pub handed : (room : ℕ) (d : Draft) (r : Result Expansion ExpandFault) → room ≡ 65535 → Drafted s first places (numbering a s) (bits 12 0 ++ variables_bits a s (numbering a s)) d →
      (1 ≤ length (numbering a s) → HandsOver room (content a s (numbering a s)) (length (numbering a s)) before after r) → Expanding (expand_system a work (length before) s) before after (told r)
  handed room d r long drafted h = go r (h (start_comes a s 4096))
    where
      within : length (numbering a s) ≤ places
      within = let w = d.list.within in let n = drafted.count in let m = drafted.slice in omega arith

      few : length (numbering a s) ≤ 4096
      few = let l = within in omega arith

      placed : length (numbering a s) ≤ work
      placed = let l = within in omega arith

      large : (length before < length (packed (content a s (numbering a s)))) ⊎ (room < length (packed (content a s (numbering a s)))) →
          (length before < length (packed (content a s (numbering a s)))) ⊎ (65535 < length (packed (content a s (numbering a s))))
      large (inl l) = inl l
      large (inr l) = inr (omega arith)

      go : (r : Result Expansion ExpandFault) → HandsOver room (content a s (numbering a s)) (length (numbering a s)) before after r → Expanding (expand_system a work (length before) s) before after (told r)
      go (Ok x) k =
          let g = packed (content a s (numbering a s)) in
          let l = k.0.long in
          let w = k.0.room in
          let z = k.1 in
          record {
            file = g;
            makes = expands_made a s work (length before) (numbering a s) refl few placed (omega arith) (omega arith) ∙ ap (made g) (sym k.2);
            put = k.0;
          }
      go (Err e) k =
          record {
            why = expands_long a s work (length before) (numbering a s) refl few placed (large k.2) ∙ ap refused (sym k.0);
            kept = k.1;
          }

-- a file that is not read, and one that is
pub unread : (a : Alg) (f before after : List ℕ) (work room : ℕ) (e : ReadFault) → Read a f (Err e) → after ≡ before → Expanding (expand_read a work room (reading a f)) before after (Err (Unread e))
unread a f before after work room e h kept = record { why = ap (expand_read a work room) h; kept = kept }

pub was_read : (a : Alg) (f before after : List ℕ) (work : ℕ) (o : Outline) (r : Result Expansion ExpandFault) → Lawful a → Every (λ x. x < 256) f → Read a f (Ok o) →
    ((s : System) → length f ≤ 65536 → Outlined a f s o → SystemFits a s → Expanding (expand_system a work (length before) s) before after (told r)) → Expanding (expand_read a work (length before) (reading a f)) before after (told r)
was_read a f before after work o r law bytes h makes =
    let (s, (got, out)) = h in
    let short = got_short a f s got in
    subst (λ g. Expanding (expand_read a work (length before) g) before after (told r)) (sym got) (makes s (omega arith) out (whole_forth a law f bytes s got).1)

-- the items of a list of bytes
pub bytes_each : (f : List ℕ) → ((i : ℕ) → get_or f i 0 < 256) → Every (λ x. x < 256) f
bytes_each [] h = tt
bytes_each (x ∷ f) h = (h 0, bytes_each f (λ i. h (suc i)))
