use Rattle.std.proofs.Common.{arith, Err}
use Rattle.std.proofs.lemmas.Bool.Decides.{nat_tests}
use Rattle.rules.specs.Call.{set_up}
use Rattle.table.proofs.Laws.{names_known}
use Rattle.table.proofs.Table.set_up.Goals as goal

pub returns-in-Err : goal.returns-in-Err
unfolding set_up
returns-in-Err c = grind (arith, nat_tests, names_known c.args.policy (Err _) c.in-Err.ensures)
