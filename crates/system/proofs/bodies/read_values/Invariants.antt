use Rattle.std.proofs.Common.{◌≡◌, ◌-◌, length, take, drop, replicate}
use Rattle.definitions.specs.ReadSystem.{read_value_of}
use Rattle.system.specs.Rows.{Kept}
use Rattle.system.proofs.bodies.read_values.Given as goal

abbrev pub invariant-loop-i : goal.invariant-loop-i
invariant-loop-i g l =
    (length l.values ≡ 15) × Kept (read_value_of (g.G.Algebra.meaning l.alg)) l.sorts l.i (take l.i l.values) l.fn.cursor.bytes.now l.fn.cursor.at l.cursor × (drop l.i l.values ≡ replicate (15 - l.i) 0)
