use Rattle.std.proofs.Common.{arith, rules}
use Rattle.std.proofs.lemmas.Bool.Decides.{nat_tests}
use Rattle.std.proofs.lemmas.Grind.{common_steps}
use Rattle.rules.specs.declared.Place.{Place}
use Rattle.rules.specs.Numbers.{place_count}
use Rattle.rules.specs.Table.{zero_place}
use Rattle.table.proofs.Loops.{sum_each}
use Rattle.table.proofs.Table.clock_adds_up.Goals as goal

pub returns : goal.returns
returns c =
    let f = λ (p : Place). p.total.0 in
    grind (arith, nat_tests, common_steps, c.left_after.ensures f (λ p s e. search rules), sum_each f zero_place c.args.self.now.places place_count (search rules))
