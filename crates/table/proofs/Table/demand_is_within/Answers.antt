use Rattle.std.proofs.Common.{arith, rules}
use Rattle.std.proofs.lemmas.Bool.Decides.{nat_tests}
use Rattle.rules.specs.declared.Place.{Place}
use Rattle.rules.specs.Numbers.{place_count}
use Rattle.rules.specs.Table.{zero_place}
use Rattle.rules.specs.Fit.{due, demand, job_of}
use Rattle.table.proofs.Loops.{sum_each}
use Rattle.table.proofs.Table.demand_is_within.Goals as goal

pub returns : goal.returns
unfolding demand
returns c =
    let f = λ (p : Place). due c.args.deadline.0 (job_of p) in
    grind (arith, nat_tests, c.left_after.ensures f (λ p s e. search rules), sum_each f zero_place c.args.self.now.places place_count (search rules))
