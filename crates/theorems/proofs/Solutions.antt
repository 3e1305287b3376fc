-- The truths of systems and of Boolean systems are the solutions of their ranked systems.
use Rattle.std.proofs.Common.{false, map}
use Rattle.definitions.specs.Lists.{map_from}
use Rattle.definitions.specs.Order as order
use Rattle.definitions.specs.Truth.{body, block_of, truths}
use Rattle.definitions.specs.Boolean.{rank_block, used_ranks}
use Rattle.theorems.specs.ExpandLaws.{variable_truths}
use Rattle.theorems.specs.SolutionLaws.{SystemsSolved, variable_body, BooleansSolved}
use Rattle.fixpoint.proofs.Meaning.{one, found}
use Rattle.theorems.proofs.Monotone.{body_mono}
use Rattle.theorems.proofs.Enough.{blocks_enough, ranks_enough}
use Rattle.theorems.proofs.Expands.{variables_mono}

pub systems_solved : SystemsSolved
systems_solved a s =
    record {
      monotone = body_mono a s;
      rounds_suffice = blocks_enough a 0 s.equations;
      solution = found order.truths (body a s) (body_mono a s) (map_from 0 (block_of a) s.equations) (blocks_enough a 0 s.equations) (λ _. false);
      only = λ t h. one order.truths (body a s) (map_from 0 (block_of a) s.equations) (λ _. false) t (truths a s) h
          (found order.truths (body a s) (body_mono a s) (map_from 0 (block_of a) s.equations) (blocks_enough a 0 s.equations) (λ _. false));
    }

pub booleans_solved : BooleansSolved
booleans_solved vs =
    record {
      monotone = variables_mono vs;
      rounds_suffice = ranks_enough vs (used_ranks vs);
      solution = found order.truths (variable_body vs) (variables_mono vs) (map (rank_block vs) (used_ranks vs)) (ranks_enough vs (used_ranks vs)) (λ _. false);
      only = λ t h. one order.truths (variable_body vs) (map (rank_block vs) (used_ranks vs)) (λ _. false) t (variable_truths vs) h
          (found order.truths (variable_body vs) (variables_mono vs) (map (rank_block vs) (used_ranks vs)) (ranks_enough vs (used_ranks vs)) (λ _. false));
    }
