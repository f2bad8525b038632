use Rattle.std.proofs.Common.{arith, length-take, length-drop, take_all, append-nil}
use Rattle.std.proofs.lemmas.List.{drop_all, drop-drop, append_assoc}
use Rattle.std.proofs.lemmas.Bool.Decides.{nat_tests}
use Rattle.rules.specs.Call.{called, refusal, checks, judge, written}
use Rattle.table.proofs.Table.try_advance.Goals as goal

pub returns-clause-bytes : goal.returns-clause-bytes
unfolding called refusal checks judge written
returns-clause-bytes c = rw c.run_first.ensures.named (grind (arith, nat_tests, length-take, length-drop, take_all, drop_all, drop-drop, append_assoc, append-nil))
