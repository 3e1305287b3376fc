-- Walking the list of a draft while it grows.
use Rattle.std.proofs.Common.{◌≡◌, ℕ, zero, suc, ◌<◌, ◌≤◌, List, [], ◌∷◌, ◌++◌, length, Some, None, Ok, Err, Result, sym, refl, ap, ◌∙◌, subst, arith}
use Rattle.definitions.specs.Lists.{at}
use Rattle.definitions.specs.Alg.{Alg}
use Rattle.definitions.specs.Bits.{bits}
use Rattle.definitions.specs.Systems.{System}
use Rattle.definitions.specs.ReadSystem.{Header}
use Rattle.definitions.specs.Truth.{Instance}
use Rattle.definitions.specs.Boolean.{vars, form, come, numbering, renamed, sign_at, variable_of, variable_bits}
use Rattle.definitions.specs.Fits.{ValuesFit, SystemFits, header_of}
use Rattle.theorems.proofs.Listing.{every_at, at_map_some}
use Rattle.theorems.proofs.Growing.{Walked, start_comes, walk_begins, walk_goes, walk_within, AllWalked, walk_ends, walk_full}
use Rattle.bits.specs.declared.writer.BitWriter.{BitWriter}
use Rattle.firstcome.specs.Coming.{listed}
use Rattle.system.specs.declared.instance.Instance.{Instance as Kept}
use Rattle.system.specs.declared.outline.Outline.{Outline}
use Rattle.system.specs.Walks.{Pairs}
use Rattle.system.specs.Whole.{Outlined}
use Rattle.expansion.specs.declared.draft.Draft.{Draft}
use Rattle.expansion.specs.declared.draft.Unfinished.{Unfinished}
use Rattle.expansion.specs.Drafts.{Fine, StandsFor, Drafted, Drafts}
use Rattle.expansion.specs.Whole.{variables_bits}

-- the instance of the start is one of the system's, and the kept one stands for it
values_long : (a : Alg) (ss vs : List ℕ) → ValuesFit a ss vs → length vs ≡ length ss
values_long a [] [] f = refl
values_long a [] (v ∷ vs) f = absurd f
values_long a (s ∷ ss) [] f = absurd f
values_long a (s ∷ ss) (v ∷ vs) f = ap suc (values_long a ss vs f.1)

pub start_fine : (a : Alg) (s : System) → SystemFits a s → Fine s (s.start, s.values)
start_fine a s f =
    let (e, there, is) = at_map_some header_of s.equations s.start f.header f.there in
    record { equation = e; there = there; values = values_long a f.header.sorts s.values f.values ∙ ap (λ (h : Header). length h.sorts) (sym is) }

pub start_stands : (a : Alg) (f : List ℕ) (s : System) (o : Outline) → Outlined a f s o → StandsFor o.start (s.start, s.values)
start_stands a f s o h = record { equation = h.start; values = h.values }

-- what stands at a place of the one stands for what stands there in the other
pub pairs_some : {X Y : Type 0} (P : X → Y → Type 0) (xs : List X) (ys : List Y) → Pairs P xs ys → (k : ℕ) (x : X) → at xs k ≡ Some x → (y : Y) × (at ys k ≡ Some y) × P x y
pairs_some P [] [] h k x e = absurd cc
pairs_some P [] (y ∷ ys) h k x e = absurd h
pairs_some P (z ∷ xs) [] h k x e = absurd h
pairs_some P (z ∷ xs) (y ∷ ys) h zero x e = (y, refl, (let i : z ≡ x = cc in subst (λ w. P w y) i h.0))
pairs_some P (z ∷ xs) (y ∷ ys) h (suc k) x e = pairs_some P xs ys h.1 k x e

pub pairs_none : {X Y : Type 0} (P : X → Y → Type 0) (xs : List X) (ys : List Y) → Pairs P xs ys → (k : ℕ) → at xs k ≡ None → at ys k ≡ None
pairs_none P [] [] h k e = refl
pairs_none P [] (y ∷ ys) h k e = absurd h
pairs_none P (z ∷ xs) [] h k e = absurd h
pairs_none P (z ∷ xs) (y ∷ ys) h zero e = absurd cc
pairs_none P (z ∷ xs) (y ∷ ys) h (suc k) e = pairs_none P xs ys h.1 k e

-- in a draft the instances ns have come, of which k are walked and written
pub record Walks (a : Alg) (s : System) (first : BitWriter) (places k : ℕ) (d : Draft) : Type 0 where
  pub instances : List Instance
  pub bits : List ℕ
  pub walked : Walked a s 4096 k instances bits
  pub drafted : Drafted s first places instances bits d

module _ (a : Alg) (s : System) (first : BitWriter) (places : ℕ) where
  -- the start has come, and the place of the count is written
  pub walks_begin : {T : Type 0} (old new : Draft) (r : Result T Unfinished) (x : T) → r ≡ Ok x → Drafted s first places [] [] old → Drafts s ((s.start, s.values) ∷ []) (λ f. bits 12 0) old new r → Walks a s first places 0 new
  walks_begin old new r x e d h =
      record {
        instances = (s.start, s.values) ∷ [];
        bits = bits 12 0;
        walked = walk_begins a s 4096;
        drafted = subst (Drafts s ((s.start, s.values) ∷ []) (λ f. bits 12 0) old new) e h first places [] [] d;
      }

  -- not even the start has a place
  pub start_short : {T : Type 0} (old new : Draft) (r : Result T Unfinished) (z : Unfinished) → r ≡ Err z → Drafted s first places [] [] old → Drafts s ((s.start, s.values) ∷ []) (λ f. bits 12 0) old new r → places < length (numbering a s)
  start_short old new r z e d h =
      let l = subst (Drafts s ((s.start, s.values) ∷ []) (λ f. bits 12 0) old new) e h first places [] [] d in
      let m = start_comes a s 4096 in
      omega arith

  -- the instance at the place k is that of the numbering
  met : (k : ℕ) (d : Draft) (i : Kept) (w : Walks a s first places k d) → at (listed d.list) k ≡ Some i → (x : Instance) × (at w.instances k ≡ Some x) × StandsFor i x
  met k d i w e = pairs_some StandsFor (listed d.list) w.instances w.drafted.lists k i e

  -- one more is walked
  pub walks_next : {T : Type 0} (k : ℕ) (i : Kept) (old new : Draft) (r : Result T Unfinished) (t : T) → k < 4096 → Walks a s first places k old → at (listed old.list) k ≡ Some i → r ≡ Ok t →
      ((x : Instance) → Fine s x → StandsFor i x → Drafts s (vars (form a s x)) (λ f. variable_bits (record { sign = sign_at (at s.equations x.0); rank = x.0; body = renamed (form a s x) f })) old new r) → Walks a s first places (suc k) new
  walks_next k i old new r t l w e q h =
      let (x, there, stands) = met k old i w e in
      let fine = every_at (Fine s) w.instances k x there w.drafted.fine in
      let ms = come w.instances (vars (form a s x)) in
      record {
        instances = ms;
        bits = w.bits ++ variable_bits (variable_of a s ms x);
        walked = walk_goes a s 4096 k w.instances w.bits x w.walked there l;
        drafted = subst (Drafts s (vars (form a s x)) (λ f. variable_bits (record { sign = sign_at (at s.equations x.0); rank = x.0; body = renamed (form a s x) f })) old new) q (h x fine stands) first places w.instances w.bits w.drafted;
      }

  -- or there are too few places for all
  pub walks_short : {T : Type 0} (k : ℕ) (i : Kept) (old new : Draft) (r : Result T Unfinished) (z : Unfinished) → k < 4096 → Walks a s first places k old → at (listed old.list) k ≡ Some i → r ≡ Err z →
      ((x : Instance) → Fine s x → StandsFor i x → Drafts s (vars (form a s x)) (λ f. variable_bits (record { sign = sign_at (at s.equations x.0); rank = x.0; body = renamed (form a s x) f })) old new r) → places < length (numbering a s)
  walks_short k i old new r z l w e q h =
      let (x, there, stands) = met k old i w e in
      let fine = every_at (Fine s) w.instances k x there w.drafted.fine in
      let many = subst (Drafts s (vars (form a s x)) (λ f. variable_bits (record { sign = sign_at (at s.equations x.0); rank = x.0; body = renamed (form a s x) f })) old new) q (h x fine stands) first places w.instances w.bits w.drafted in
      let more = walk_within a s 4096 k w.instances w.bits x w.walked there l in
      omega arith

  all_done : (k : ℕ) (d : Draft) (w : Walks a s first places k d) → AllWalked a s 4096 w.instances w.bits → Drafted s first places (numbering a s) (bits 12 0 ++ variables_bits a s (numbering a s)) d
  all_done k d w h =
      subst (λ ns. Drafted s first places ns (bits 12 0 ++ variables_bits a s ns) d) h.whole (subst (λ bs. Drafted s first places w.instances bs d) h.wrote w.drafted)

  -- no instance is left, or so many are walked as there may be
  pub walks_end : (k : ℕ) (d : Draft) → Walks a s first places k d → at (listed d.list) k ≡ None → Drafted s first places (numbering a s) (bits 12 0 ++ variables_bits a s (numbering a s)) d
  walks_end k d w e = all_done k d w (walk_ends a s 4096 k w.instances w.bits w.walked (pairs_none StandsFor (listed d.list) w.instances w.drafted.lists k e))

  pub walks_full : (k : ℕ) (d : Draft) → Walks a s first places k d → 4096 ≤ k → Drafted s first places (numbering a s) (bits 12 0 ++ variables_bits a s (numbering a s)) d
  walks_full k d w l =
      all_done k d w (walk_full a s 4096 k w.instances w.bits w.walked (let i = d.list.within in let n = w.drafted.count in let m = w.drafted.slice in let f = w.drafted.few in omega arith))
