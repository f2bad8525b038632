-- The places seen are as step 4 leaves them, and the others as they were.
use Rattle.std.proofs.Common.{◌≡◌, ◌++◌, map, take, drop}
use Rattle.rules.specs.Numbers.{fixed_priority}
use Rattle.rules.specs.Slot.{unless_late}
use Rattle.table.proofs.Table.end_late.Given as goal

abbrev pub invariant-loop-p : goal.invariant-loop-p
invariant-loop-p l = l.p-items ≡ map (unless_late fixed_priority l.now.0) (take l.p-index l.initial.p-items) ++ drop l.p-index l.initial.p-items
