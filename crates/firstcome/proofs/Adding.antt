-- What one more record makes of a list.
use Rattle.std.proofs.Common.{◌≡◌, ℕ, suc, Bool, true, false, List, [], ◌∷◌, ◌++◌, length, drop, Some, None, Option, refl, sym, ap, ◌∙◌}
use Rattle.definitions.specs.Lists.{some}
use Rattle.firstcome.specs.declared.FirstCome.{FirstCome}
use Rattle.firstcome.specs.Coming.{listed, place_from, place_of, Came, NoPlace}

placed : {T : Type 0} (p : T → Bool) (xs : List T) (k i : ℕ) → place_from k p xs ≡ Some i → some p xs ≡ true
placed p [] k i e = absurd cc
placed {T} p (x ∷ xs) k i e = go (p x) (placed p xs (suc k) i) e
  where
    go : (b : Bool) → (place_from (suc k) p xs ≡ Some i → some p xs ≡ true) → ◌≡◌ {A = Option ℕ} (elim b [ true ↦ Some k | false ↦ place_from (suc k) p xs ]) (Some i) → elim b [ true ↦ true | false ↦ some p xs ] ≡ true
    go true h q = refl
    go false h q = h q

unplaced : {T : Type 0} (p : T → Bool) (xs : List T) (k : ℕ) → place_from k p xs ≡ None → some p xs ≡ false
unplaced p [] k e = refl
unplaced {T} p (x ∷ xs) k e = go (p x) (unplaced p xs (suc k)) e
  where
    go : (b : Bool) → (place_from (suc k) p xs ≡ None → some p xs ≡ false) → ◌≡◌ {A = Option ℕ} (elim b [ true ↦ Some k | false ↦ place_from (suc k) p xs ]) None → elim b [ true ↦ true | false ↦ some p xs ] ≡ false
    go true h q = absurd cc
    go false h q = h q

-- a record that came before
pub came_before : {T : Type 0} (same : T → Bool) (x : T) (l : FirstCome T) (i : ℕ) → place_of same (listed l) ≡ Some i → Came same x l l i
came_before same x l i e =
    record {
      lists = sym (ap (λ b. elim b [ true ↦ listed l | false ↦ listed l ++ (x ∷ []) ]) (placed same (listed l) 0 i e));
      place = sym (ap (λ o. elim o [ Some k ↦ k | None ↦ l.len ]) e);
      places = refl;
      behind = refl;
      named = refl;
    }

-- a record that is new
pub came_now : {T : Type 0} (same : T → Bool) (x : T) (old new : FirstCome T) → place_of same (listed old) ≡ None →
    listed new ≡ listed old ++ (x ∷ []) → length new.items.now ≡ length old.items.now → drop new.len new.items.now ≡ drop new.len old.items.now → new.items.ghost_name ≡ old.items.ghost_name →
    Came same x old new old.len
came_now same x old new e l n d g =
    record {
      lists = l ∙ sym (ap (λ b. elim b [ true ↦ listed old | false ↦ listed old ++ (x ∷ []) ]) (unplaced same (listed old) 0 e));
      place = sym (ap (λ o. elim o [ Some k ↦ k | None ↦ old.len ]) e);
      places = n;
      behind = d;
      named = g;
    }

pub no_place : {T : Type 0} (same : T → Bool) (l : FirstCome T) → place_of same (listed l) ≡ None → l.len ≡ length l.items.now → NoPlace same l l
no_place same l e f = record { is_new = unplaced same (listed l) 0 e; full = f; len = refl; items = refl; named = refl }
