-- After k slots the table is that of k slots, and the piece has their names in front.
use Rattle.std.proofs.Common.{◌≡◌, ◌++◌, drop}
use Rattle.rules.specs.Slot.{slots, named}
use Rattle.table.specs.Dress.{ruled, dressed}
use Rattle.table.proofs.Table.run.Given as goal

abbrev pub invariant-loop-byte : goal.invariant-loop-byte
invariant-loop-byte l = record {
  slotted : l.self ≡ dressed (slots l.byte-index (ruled l.fn.self));
  written : l.piece ≡ named l.byte-index (ruled l.fn.self) ++ drop l.byte-index l.initial.piece;
}
