-- Neither sum is cut off.
use Rattle.std.proofs.Common.{arith}
use Rattle.std.proofs.lemmas.Grind.{common_steps}
use Rattle.rules.specs.Slot.{serve, idle_more}
use Rattle.table.specs.Leaves.{after_serving}
use Rattle.table.proofs.Table.serve.Goals as goal

pub returns-in-Some : goal.returns-in-Some
unfolding after_serving serve idle_more
returns-in-Some c = grind (arith, common_steps)

pub returns-in-None : goal.returns-in-None
unfolding after_serving serve idle_more
returns-in-None c = grind (arith, common_steps)
