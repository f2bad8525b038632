-- The place that the rules name, as a number: 255 where the call is refused.
use Rattle.std.proofs.Common.{◌≡◌, arith}
use Rattle.rules.specs.Table.{Table}
use Rattle.rules.specs.Election.{number}
use Rattle.rules.specs.Call.{Elect, Slot, called, named_by}
use Rattle.table.specs.Dress.{named_in}

pub choice_named : (t : Table) → number (named_in t Elect) ≡ (called t Elect).place
unfolding named_by called number
choice_named t = grind arith

pub turn_named : (t : Table) → number (named_in t Slot) ≡ (called t Slot).place
unfolding named_by called number
turn_named t = grind arith
