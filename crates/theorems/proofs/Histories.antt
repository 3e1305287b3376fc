-- Every history of a bench is sound.
use Rattle.std.proofs.Common.{◌≡◌, ℕ, ◌+◌, ◌/◌, ◌≤◌, Bool, true, false, ◌||◌, eqb, ltb, leb, List, [], ◌∷◌, ◌++◌, length, take, drop, Some, Ok, Err, sym, refl, ap, ◌∙◌, subst, ap₂, inl, inr, arith, ltb-false, le-leb, leb-true}
use lib.ListN.{length-map}
use Rattle.definitions.specs.Lists.{at, up_to}
use Rattle.definitions.specs.Alg.{Alg, Lawful}
use Rattle.definitions.specs.Algebras.{truth}
use Rattle.definitions.specs.Systems.{System}
use Rattle.definitions.specs.Reading.{Reading, got, bad, Reader, file, ended as EndingOf, complete}
use Rattle.definitions.specs.ReadSystem.{reading, read_system}
use Rattle.definitions.specs.Written.{written, system_bits}
use Rattle.definitions.specs.Fits.{Every, SystemFits}
use Rattle.definitions.specs.Truth.{verdict}
use Rattle.definitions.specs.Settle.{Pass, Ran, wrote, refused, fitted, ran_on, run, passes, Round, ended, failed, round_by}
use Rattle.definitions.specs.Boolean.{made, expand_read, expand_system, Variable, boolean_reading, solves, expand_on}
use Rattle.faults.specs.declared.Reason.TheVariants.{BadLength, ResultTooLong, TooFewTruths}
use Rattle.faults.specs.declared.PassFault.TheVariants.{Reading as Unread, Declined}
use Rattle.definitions.specs.Rules.{Rules}
use Rattle.definitions.specs.Calls.{Bytes, Taken, run_on, lettered, run_by, Settles, equal, again, Makes, Solved, found, unsolved, solve_variables, solve, Solving}
use Rattle.definitions.specs.Past.{Event, loads, runs, letters, settles, expands, Step, Past, fresh, call, NoLoad, Served, Wrote}
use Rattle.definitions.specs.Histories.{FirstByte, HistoriesSound}
use Rattle.theorems.specs.PassLaws.{PassesKeepRules}
use Rattle.theorems.proofs.Whole.{whole_back, system_bits_lem}
use Rattle.theorems.proofs.Repack.{whole_forth, small_bytes}
use Rattle.theorems.proofs.Expanding.{expand_ships}
use Rattle.theorems.proofs.Listing.{from_long}

-- what an obeyed pass makes of a system that fits
pub record Next (a : Alg) (s : System) (g : List ℕ) : Type 0 where
  pub system : System
  pub fits : SystemFits a system
  pub reads : reading a g ≡ got system
  pub same : verdict a system ≡ verdict a s

-- what an obeyed run, by letter or not, or a part of a round does to what is held
pub record Does (a : Alg) (f g : List ℕ) : Type 0 where
  pub short : length f ≤ 8192 → length g ≤ 8192
  pub bytes : Bytes f → Bytes g
  pub next : Lawful a → (s : System) → SystemFits a s → reading a f ≡ got s → Next a s g

pub fitted_short : (f g : List ℕ) → fitted f ≡ wrote g → (length f ≤ 8192) × (f ≡ g)
fitted_short f g e = go (leb (length f) 8192) refl e
  where
    go : (b : Bool) → leb (length f) 8192 ≡ b → elim b as (λ _. Ran) [ true ↦ wrote f | false ↦ refused (Declined ResultTooLong) ] ≡ wrote g → (length f ≤ 8192) × (f ≡ g)
    go true t e = (leb-true (length f) 8192 t, cc)
    go false t e = absurd cc

ran_short : (m : Pass) (a : Alg) (r : Reading System) (g : List ℕ) → ran_on m a r ≡ wrote g → length g ≤ 8192
ran_short m a (got s) g e = let w = fitted_short (written (m a s)) g e in subst (λ (g : List ℕ). length g ≤ 8192) w.1 w.0
ran_short m a (bad r p) g e = absurd cc

pub written_bytes : (s : System) → Bytes (written s)
written_bytes s = small_bytes ((length (system_bits s) + 7) / 8) (system_bits s) (system_bits_lem s)

pub ran_bytes : (m : Pass) (a : Alg) (r : Reading System) (g : List ℕ) → ran_on m a r ≡ wrote g → Bytes g
ran_bytes m a (got s) g e = subst Bytes (fitted_short (written (m a s)) g e).1 (written_bytes (m a s))
ran_bytes m a (bad r p) g e = absurd cc

does_run : (m : Pass) (a : Alg) (f g : List ℕ) → Rules m → run m a f ≡ wrote g → Does a f g
does_run m a f g r e = record {
  short = λ _. ran_short m a (reading a f) g e;
  bytes = λ _. ran_bytes m a (reading a f) g e;
  next = λ law s fit p.
      let w = fitted_short (written (m a s)) g (sym (ap (ran_on m a) p) ∙ e) in
      record {
        system = m a s;
        fits = r.fits a law s fit;
        reads = ap (reading a) (sym w.1) ∙ whole_back a (m a s) (r.fits a law s fit) w.0;
        same = r.same_verdict a law s fit;
      };
}

does_both : (a : Alg) (f g h : List ℕ) → Does a f g → Does a g h → Does a f h
does_both a f g h p q = record {
  short = λ l. q.short (p.short l);
  bytes = λ l. q.bytes (p.bytes l);
  next = λ law s fit e.
      let x = p.next law s fit e in
      let y = q.next law x.system x.fits x.reads in
      record { system = y.system; fits = y.fits; reads = y.reads; same = y.same ∙ x.same };
}

does_none : (a : Alg) (f : List ℕ) → Does a f f
does_none a f = record {
  short = λ l. l;
  bytes = λ l. l;
  next = λ law s fit e. record { system = s; fits = fit; reads = e; same = refl };
}

abbrev pub AllRule : List (ℕ × Pass) → Type 0
AllRule ms = Every (λ (m : ℕ × Pass). Rules m.1) ms

does_lettered : (ms : List (ℕ × Pass)) → AllRule ms → (l : ℕ) (a : Alg) (f g : List ℕ) → lettered ms l a f ≡ wrote g → Does a f g
does_lettered [] rs l a f g e = absurd cc
does_lettered (m ∷ ms) rs l a f g e = go (does_lettered ms rs.1 l a f g) (eqb l m.0) e
  where
    go : (lettered ms l a f ≡ wrote g → Does a f g) → (b : Bool) → elim b as (λ _. Ran) [ true ↦ run m.1 a f | false ↦ lettered ms l a f ] ≡ wrote g → Does a f g
    go i true e = does_run m.1 a f g rs.0 e
    go i false e = i e

does_round : (ms : List (ℕ × Pass)) → AllRule ms → (a : Alg) (f g : List ℕ) → round_by a ms f ≡ ended g → Does a f g
does_round [] rs a f g e = let q : f ≡ g = cc in subst (Does a f) q (does_none a f)
does_round (m ∷ ms) rs a f g e = go (λ k. does_round ms rs.1 a k g) (run m.1 a f) refl e
  where
    go : ((k : List ℕ) → round_by a ms k ≡ ended g → Does a k g) → (r : Ran) → run m.1 a f ≡ r → elim r as (λ _. Round) [ wrote k ↦ round_by a ms k | refused e ↦ failed e m.0 ] ≡ ended g → Does a f g
    go i (wrote k) p e = does_both a f k g (does_run m.1 a f k rs.0 p) (i k e)
    go i (refused x) p e = absurd cc

-- what an obeyed call that changes the file does
pub record Moves (a : Alg) (f g : List ℕ) : Type 0 where
  pub not_empty : f ≡ [] → ⊥
  pub does : Does a f g

round_empty : (a : Alg) (f g : List ℕ) → round_by a passes f ≡ ended g → f ≡ [] → ⊥
round_empty a f g e z =
    let q : failed (Unread (record { reason = BadLength; place = 0 })) 0x43 ≡ ended g = sym (ap (round_by a passes) z) ∙ e in
    cc

moves_run : (m : Pass) (a : Alg) (f g : List ℕ) → Rules m → run_on m a f ≡ wrote g → Moves a f g
moves_run m a [] g r e = absurd cc
moves_run m a (x ∷ xs) g r e = record {
  not_empty = λ p. cc;
  does = does_run m a (x ∷ xs) g r e;
}

short_file : {A : Type 0} (n : ℕ) (r : Reader A) (f : List ℕ) (x : A) → file n r f ≡ got x → length f ≤ n
short_file {A} n r f x = go (eqb (length f) 0) (ltb n (length f)) refl
  where
    go : (b c : Bool) → ltb n (length f) ≡ c → elim (b || c) as (λ _. Reading A) [ true ↦ bad BadLength 0 | false ↦ EndingOf (complete r f 0) ] ≡ got x → length f ≤ n
    go true c t e = absurd cc
    go false true t e = absurd cc
    go false false t e = ltb-false n (length f) t

-- a result in front of a buffer
pub take_front : (xs ys : List ℕ) → take (length xs) (xs ++ ys) ≡ xs
take_front [] ys = refl
take_front (x ∷ xs) ys = ap (λ z. x ∷ z) (take_front xs ys)

pub found_same : {xs ys : List ℕ} → ◌≡◌ {A = Solved} (found xs) (found ys) → xs ≡ ys
found_same e = cc

at_front : (xs ys : List ℕ) (b : ℕ) → at xs 0 ≡ Some b → at (xs ++ ys) 0 ≡ Some b
at_front [] ys b e = absurd cc
at_front (x ∷ xs) ys b e = e

pub solves_long : (vs : List Variable) → length (solves vs) ≡ length vs
solves_long vs = length-map (up_to (length vs)) _ ∙ from_long 0 (length vs)

-- a Boolean file that is read, solved
pub first_byte : (g : List ℕ) (b : ℕ) (vs : List Variable) → boolean_reading g ≡ got vs → at (solves vs) 0 ≡ Some b → FirstByte g b
first_byte g b vs e f = record { byte = byte; variables = length vs; obeyed = obeyed }
  where
    by : (room : ℕ) (c : Bool) → leb (length vs) room ≡ c → solve room g ≡ elim c as (λ _. Solved) [ true ↦ found (solves vs) | false ↦ unsolved (record { reason = TooFewTruths; place = 0 }) ]
    by room c t = ap (solve_variables room) e ∙ ap (λ (c : Bool). elim c as (λ _. Solved) [ true ↦ found (solves vs) | false ↦ unsolved (record { reason = TooFewTruths; place = 0 }) ]) t

    byte : (before after : List ℕ) (n : ℕ) → Solving g before after (Ok n) → at after 0 ≡ Some b
    byte before after n s = go (leb (length vs) (length before)) refl
      where
        go : (c : Bool) → leb (length vs) (length before) ≡ c → at after 0 ≡ Some b
        go true t =
            let q : solves vs ≡ s.bytes = found_same (sym (by (length before) true t) ∙ s.finds) in
            ap (λ (z : List ℕ). at z 0) s.put.front ∙ at_front s.bytes (drop (length s.bytes) before) b (ap (λ (z : List ℕ). at z 0) (sym q) ∙ f)
        go false t = let w : unsolved (record { reason = TooFewTruths; place = 0 }) ≡ found s.bytes = sym (by (length before) false t) ∙ s.finds in
            absurd cc

    obeyed : (before : List ℕ) → length vs ≤ length before → (after : List ℕ) × Solving g before after (Ok (length vs))
    obeyed before l = (
      solves vs ++ drop (length (solves vs)) before,
      record { bytes = solves vs; finds = by (length before) true (le-leb (length vs) (length before) l); put = record { long = sym (solves_long vs); room = l; front = refl } },
    )

-- the history's own invariant: the system held fits
pub record Holds (a : Alg) (f h : List ℕ) (es : List Event) : Type 0 where
  pub first : System
  pub last : System
  pub loaded : reading a f ≡ got first
  pub holds : reading a h ≡ got last
  pub began : SystemFits a first
  pub fits : SystemFits a last
  pub same : verdict a last ≡ verdict a first
  pub solved : (g : List ℕ) → Wrote g es → FirstByte g (truth (verdict a first))

pub record Good (es : List Event) (h : List ℕ) : Type 0 where
  pub short : length h ≤ 8192
  pub bytes : Bytes h
  pub empty : NoLoad es → h ≡ []
  pub kept : (a : Alg) → Lawful a → (f : List ℕ) → Served a f es → Holds a f h es

move : (e : Event) (es : List Event) (h k : List ℕ) (a : Alg) → Moves a h k → (NoLoad (e ∷ es) → NoLoad es) →
    ((b : Alg) (g : List ℕ) → Served b g (e ∷ es) → (a ≡ b) × Served b g es) → ((g : List ℕ) → Wrote g (e ∷ es) → Wrote g es) → Good es h → Good (e ∷ es) k
move e es h k a d n sv w i = record {
  short = d.does.short i.short;
  bytes = d.does.bytes i.bytes;
  empty = λ x. absurd (d.not_empty (i.empty (n x)));
  kept = λ b law f s. let t = sv b f s in go b law f (subst (λ (b : Alg). Moves b h k) t.0 d) (i.kept b law f t.1);
}
  where
    go : (b : Alg) → Lawful b → (f : List ℕ) → Moves b h k → Holds b f h es → Holds b f k (e ∷ es)
    go b law f d q =
        let x = d.does.next law q.last q.fits q.holds in
        record {
          first = q.first;
          last = x.system;
          loaded = q.loaded;
          holds = x.reads;
          began = q.began;
          fits = x.fits;
          same = x.same ∙ q.same;
          solved = λ g y. q.solved g (w g y);
        }

stay : (e : Event) (es : List Event) (h k : List ℕ) → k ≡ h → (NoLoad (e ∷ es) → NoLoad es) →
    ((b : Alg) (g : List ℕ) → Served b g (e ∷ es) → Served b g es) → ((g : List ℕ) → Wrote g (e ∷ es) → Wrote g es) → Good es h → Good (e ∷ es) k
stay e es h k z n sv w i = record {
  short = subst (λ (h : List ℕ). length h ≤ 8192) (sym z) i.short;
  bytes = subst Bytes (sym z) i.bytes;
  empty = λ x. z ∙ i.empty (n x);
  kept = λ b law f s. go b f (i.kept b law f (sv b f s));
}
  where
    go : (b : Alg) (f : List ℕ) → Holds b f h es → Holds b f k (e ∷ es)
    go b f q = record {
      first = q.first;
      last = q.last;
      loaded = q.loaded;
      holds = ap (reading b) z ∙ q.holds;
      began = q.began;
      fits = q.fits;
      same = q.same;
      solved = λ g y. q.solved g (w g y);
    }

loaded : (a : Alg) (f : List ℕ) (u : Unit {0}) (es : List Event) (h k : List ℕ) → Bytes f → Taken a f k → Good (loads a f (Ok u) ∷ es) k
loaded a f u es h k small t = record {
  short = subst (λ (h : List ℕ). length h ≤ 8192) (sym t.holds) (short_file 8192 (read_system a) f t.system t.read);
  bytes = subst Bytes (sym t.holds) small;
  empty = λ x. absurd x;
  kept = λ b law g s. subst (λ (g : List ℕ). Holds b g k (loads a f (Ok u) ∷ es)) s.1 (go b s.0 law);
}
  where
    go : (b : Alg) → a ≡ b → Lawful b → Holds b f k (loads a f (Ok u) ∷ es)
    go b p law =
        let r : reading b f ≡ got t.system = ap (λ (a : Alg). reading a f) (sym p) ∙ t.read in
        record {
          first = t.system;
          last = t.system;
          loaded = r;
          holds = ap (reading b) t.holds ∙ r;
          began = (whole_forth b law f small t.system r).1;
          fits = (whole_forth b law f small t.system r).1;
          same = refl;
          solved = λ g x. absurd x;
        }

-- what was expanded is what is held
expand_from : (a : Alg) (places room : ℕ) (h g : List ℕ) (n : ℕ) (s : System) → expand_on a places room h ≡ made g n → reading a h ≡ got s → expand_system a places room s ≡ made g n
expand_from a places room [] g n s e p = absurd cc
expand_from a places room (x ∷ xs) g n s e p = sym (ap (expand_read a places room) p) ∙ e

expanded : (a : Alg) (places : ℕ) (before after : List ℕ) (x : ℕ × ℕ) (es : List Event) (h k : List ℕ) → Makes (expand_on a places (length before) h) before after x.0 x.1 → k ≡ h → Good es h →
    Good (expands a places before after (Ok x) ∷ es) k
expanded a places before after x es h k m z i = record {
  short = subst (λ (h : List ℕ). length h ≤ 8192) (sym z) i.short;
  bytes = subst Bytes (sym z) i.bytes;
  empty = λ x. z ∙ i.empty x;
  kept = λ b law f s. go b law f s.0 (i.kept b law f s.1);
}
  where
    g : List ℕ
    g = m.file

    front : take x.0 after ≡ m.file
    front = ap₂ take m.put.long m.put.front ∙ take_front m.file (drop (length m.file) before)

    go : (b : Alg) → Lawful b → (f : List ℕ) → a ≡ b → Holds b f h es → Holds b f k (expands a places before after (Ok x) ∷ es)
    go b law f p q =
        let ships = expand_ships b law q.last q.fits places (length before) m.file x.1
        (expand_from b places (length before) h m.file x.1 q.last (ap (λ (a : Alg). expand_on a places (length before) h) (sym p) ∙ m.makes) q.holds) in
        let byte : FirstByte m.file (truth (verdict b q.first)) =
        first_byte m.file (truth (verdict b q.first)) ships.variables ships.read (ships.solved ∙ ap (λ (v : Bool). Some (truth v)) q.same) in
        record {
          first = q.first;
          last = q.last;
          loaded = q.loaded;
          holds = ap (reading b) z ∙ q.holds;
          began = q.began;
          fits = q.fits;
          same = q.same;
          solved = λ c y. elim y [ inl y ↦ subst (λ (c : List ℕ). FirstByte c (truth (verdict b q.first))) (sym front ∙ y) byte | inr w ↦ q.solved c w ];
        }

module _ (rules : PassesKeepRules) where
  pub all_rule : AllRule passes
  all_rule = (rules.C, (rules.F, (rules.R, (rules.U, tt))))

  moves_letter : (l : ℕ) (a : Alg) (f g : List ℕ) → run_by l a f ≡ wrote g → Moves a f g
  moves_letter l a [] g e = absurd cc
  moves_letter l a (x ∷ xs) g e = record {
    not_empty = λ p. cc;
    does = does_lettered passes all_rule l a (x ∷ xs) g e;
  }

  moves_round : (a : Alg) (f g : List ℕ) → round_by a passes f ≡ ended g → Moves a f g
  moves_round a f g e = record { not_empty = round_empty a f g e; does = does_round passes all_rule a f g e }

  pub moves_settle : (a : Alg) {k n : ℕ} {f g : List ℕ} → Settles a k f n g → Moves a f g
  moves_settle a {f = f} (equal e) = moves_round a f f e
  moves_settle a {f = f} {g = h} (again g e d t) =
      let p = moves_round a f g e in
      record { not_empty = p.not_empty; does = does_both a f g h p.does (moves_settle a t).does }

  step : (e : Event) (es : List Event) (h k : List ℕ) → Step e h k → Good es h → Good (e ∷ es) k
  step (loads a f (Ok u)) es h k st i = loaded a f u es h k st.0 st.1
  step (loads a f (Err x)) es h k st i = stay (loads a f (Err x)) es h k st.1.kept (λ n. n) (λ b g s. s) (λ b w. w) i
  step (runs a m (Ok u)) es h k st i = move (runs a m (Ok u)) es h k a (moves_run m a h k st.0 st.1) (λ n. n) (λ b g s. s) (λ b w. w) i
  step (runs a m (Err x)) es h k st i = stay (runs a m (Err x)) es h k st.1.kept (λ n. n) (λ b g s. s) (λ b w. w) i
  step (letters a l (Ok u)) es h k st i = move (letters a l (Ok u)) es h k a (moves_letter l a h k st) (λ n. n) (λ b g s. s) (λ b w. w) i
  step (letters a l (Err x)) es h k st i = stay (letters a l (Err x)) es h k st.kept (λ n. n) (λ b g s. s) (λ b w. w) i
  step (settles a (Ok n)) es h k st i = move (settles a (Ok n)) es h k a (moves_settle a st) (λ n. n) (λ b g s. s) (λ b w. w) i
  step (settles a (Err x)) es h k st i = stay (settles a (Err x)) es h k st.kept (λ n. n) (λ b g s. s) (λ b w. w) i
  step (expands a places before after (Ok x)) es h k st i = expanded a places before after x es h k st.0 st.1 i
  step (expands a places before after (Err x)) es h k st i = stay (expands a places before after (Err x)) es h k st.1 (λ n. n) (λ b g s. s) (λ b w. w) i

  pub good : (es : List Event) (h : List ℕ) → Past es h → Good es h
  good _ _ fresh = record { short = omega arith; bytes = tt; empty = λ _. refl; kept = λ a law f s. absurd s }
  good _ _ (call {e} {es} {h} {k} p s) = step e es h k s (good es h p)

  pub sound : HistoriesSound
  sound es h p =
      let q = good es h p in
      record {
        short = q.short;
        bytes = q.bytes;
        empty = q.empty;
        kept = λ a law f s.
            let x = q.kept a law f s in
            record { first = x.first; last = x.last; loaded = x.loaded; holds = x.holds; same_verdict = x.same; solved = x.solved };
      }
