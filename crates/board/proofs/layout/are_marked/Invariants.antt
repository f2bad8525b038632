-- The places seen are marked.
use Rattle.std.proofs.Common.{◌≡◌, take}
use Rattle.board.specs.Layout.{marked_places}
use Rattle.board.proofs.layout.are_marked.Given as goal

abbrev pub invariant-loop-i : goal.invariant-loop-i
invariant-loop-i l = take l.i l.places ≡ marked_places l.i
