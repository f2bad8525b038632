use Rattle.std.proofs.Common.{◌∙◌, sym, map-id, arith, take_all, eqb-true}
use Rattle.std.proofs.lemmas.Grind.{common_steps}
use Rattle.std.proofs.lemmas.List.{drop_all}
use Rattle.std.proofs.lemmas.List.Edits.{map_over_more}
use Rattle.rules.specs.Numbers.{fixed_priority}
use Rattle.rules.specs.Slot.{unless_late}
use Rattle.table.specs.Leaves.{late_table}
use Rattle.table.proofs.Table.end_late.Goals as goal

pub loop-p-preserved : goal.loop-p-preserved
loop-p-preserved c = grind (arith, common_steps, map_over_more (unless_late fixed_priority c.args.self.now.now.0))

pub returns-after-loop-p : goal.returns-after-loop-p
unfolding late_table
returns-after-loop-p c = grind (arith, common_steps, take_all, drop_all, eqb-true)

pub returns-else-is_under : goal.returns-else-is_under
unfolding late_table unless_late
returns-else-is_under c = simp (late_table, unless_late, sym c.is_under.ensures ∙ c.if-is_under.false, map-id)
