use Rattle.std.proofs.Common.{arith, rules}
use Rattle.std.proofs.lemmas.Int.{ints, to_z-of_z}
use Rattle.std.proofs.lemmas.Bool.Decides.{nat_tests}
use Rattle.curve.specs.KneeStepsLemmas.{take_kept, knees_kept}
use Rattle.curve.proofs.knees.Knees.new.Goals as goal

pub invariant_of-result : goal.invariant_of-result
invariant_of-result c =
    record {
      some = search rules;
      few = search rules;
      rising = search (rules, take_kept, c.keep.ensures, c.rises.ensures);
      fair = search (rules, take_kept, to_z-of_z, c.keep-2.ensures, c.never_falls.ensures, c.held_by.ensures);
      grounded = grind (arith, ints, nat_tests);
    }

pub returns-clause-meaning : goal.returns-clause-meaning
returns-clause-meaning c v = search (rules, to_z-of_z, knees_kept, c.keep.ensures, c.keep-2.ensures)
