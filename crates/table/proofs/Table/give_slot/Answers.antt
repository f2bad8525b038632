use Rattle.std.proofs.Common.{rules}
use Rattle.rules.specs.Slot.{slot}
use Rattle.table.specs.Leaves.{after_serving, late_table}
use Rattle.table.proofs.Turns.{serve_room}
use Rattle.table.proofs.Table.give_slot.Goals as goal

pub serve-requires : goal.serve-requires
serve-requires c = search (rules, serve_room)

pub returns-clause-table : goal.returns-clause-table
unfolding after_serving late_table slot
returns-clause-table c = search rules
