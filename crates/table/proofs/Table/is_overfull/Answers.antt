use Rattle.std.proofs.Common.{arith, rules}
use Rattle.table.specs.Dress.{ruled}
use Rattle.table.proofs.Clauses.{fits_each}
use Rattle.table.proofs.Table.is_overfull.Goals as goal

pub returns-then-is_under : goal.returns-then-is_under
returns-then-is_under c = grind (arith, fits_each (ruled c.args.self.now) (search rules))
