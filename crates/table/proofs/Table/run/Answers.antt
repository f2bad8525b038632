use Rattle.std.proofs.Common.{arith, rules, length}
use Rattle.rules.specs.Slot.{slots, named}
use Rattle.table.specs.Dress.{ruled}
use Rattle.table.proofs.Turns.{number_byte, run_sound, run_slot, bytes_next}
use Rattle.table.proofs.Table.run.Goals as goal

pub loop-byte-init : goal.loop-byte-init
unfolding slots named
loop-byte-init c = search rules

pub give_slot-requires : goal.give_slot-requires
give_slot-requires c = run_sound (ruled c.args.self.now) (length c.args.piece.now) c.loop-byte.byte-index c.requires.0 c.requires.1 c.loop-byte-test.true c.loop-byte.invariant.slotted

pub overflow_cast-byte : goal.overflow_cast-byte
overflow_cast-byte c = grind (arith, number_byte)

pub loop-byte-preserved : goal.loop-byte-preserved
loop-byte-preserved c = grind (arith, run_slot, bytes_next)
