-- What is left, with the shares of the places seen, is the span.
use Rattle.std.proofs.Common.{◌≡◌, ℕ, ◌+◌, take}
use Rattle.std.specs.List.{sum_by}
use Rattle.std.specs.Fn.{FnReturnsAt}
use Rattle.time.specs.declared.Span.{Span}
use Rattle.rules.specs.declared.Place.{Place}
use Rattle.table.proofs.Table.left_after.Given as goal

abbrev pub invariant-loop-p : goal.invariant-loop-p
invariant-loop-p g l = (f : Place → ℕ) → ((p : Place) (s : Span) → FnReturnsAt g.F.Fn l.share p s → s.0 ≡ f p) → l.left.0 + sum_by f (take l.p-index l.p-items) ≡ l.fn.span.0
