use Rattle.std.proofs.Common.{◌≡◌, ◌+◌, ◌^◌, ◌<◌, ◌≤◌, true, ltb, length}
use Rattle.definitions.specs.Lists.{each}
use Rattle.definitions.specs.Alg.{within, sized}
use Rattle.definitions.specs.Tables.{place_of}
use Rattle.algebra.proofs.table.calls.place_of.Given as goal

-- with the sorts and arguments that are left
abbrev pub invariant-loop-sort : goal.invariant-loop-sort
invariant-loop-sort l =
    let sorts = l.sort-iterator.a.rest.now in
    let args = l.sort-iterator.b.rest.now in
    let done = length l.yielded in
    record {
      small : l.place < 65536 ^ done;
      few : done + length sorts ≤ 3;
      even : length args ≡ length sorts;
      known : each (λ s. ltb s (length l.sizes)) sorts ≡ true;
      inside : within (sized l.sizes l.sorts) l.args ≡ within (sized l.sizes sorts) args;
      place : place_of 0 (sized l.sizes l.sorts) l.args ≡ place_of l.place (sized l.sizes sorts) args;
    }
