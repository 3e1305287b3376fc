-- The worked examples hold: each is computed.
use Rattle.std.proofs.Common.{length, refl, ap, arith}
use Rattle.definitions.specs.Written.{written}
use Rattle.definitions.specs.Calls.{Settles, equal, again}
use Rattle.definitions.specs.Past.{fresh, call}
use Rattle.theorems.specs.Sample.{four, sample}
use Rattle.theorems.specs.Examples.{settled_file, expanded_file, Examples}
use Rattle.theorems.proofs.Histories.{written_bytes}

settles_sample : Settles four 1 (written sample) 2 (settled_file 0x0C 0x00)
settles_sample = again (settled_file 0x0C 0x00) refl (λ e. omega (arith, ap length e)) (equal refl)

pub examples : Examples
examples =
    record {
      empty_file_declined = refl;
      no_equation_declined = refl;
      cut_short_declined = refl;
      padding_declined = refl;
      sample_read_back = refl;
      nothing_redundant = refl;
      first_parameter_known = refl;
      constants_put_in = refl;
      settles_in_two_rounds = refl;
      settled_form_expands = refl;
      settled_form_is_true = refl;
      least_form_is_false = refl;
      sample_has_four_variables = refl;
      sample_is_true = refl;
      solved_expansion = refl;
      solved_sample = refl;
      depth_32_accepted = refl;
      depth_33_declined = refl;
      over_a_table = refl;
      history = call (call (call fresh (written_bytes sample, record { system = sample; read = refl; holds = refl })) settles_sample)
          (record { file = expanded_file; makes = refl; put = record { long = refl; room = omega arith; front = refl } }, refl);
    }
