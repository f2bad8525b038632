-- The code keeps the leader of the places seen.
use Rattle.std.proofs.Common.{◌≡◌}
use Rattle.table.specs.Dress.{ruled}
use Rattle.table.proofs.Leads.{lead_below}
use Rattle.table.proofs.Table.elect.Given as goal

abbrev pub invariant-loop-i : goal.invariant-loop-i
invariant-loop-i l = l.lead ≡ lead_below (ruled l.self) l.i
