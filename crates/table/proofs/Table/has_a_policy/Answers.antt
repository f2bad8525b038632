use Rattle.std.proofs.Common.{◌∙◌}
use Rattle.table.proofs.Laws.{names_known}
use Rattle.table.proofs.Table.has_a_policy.Goals as goal

pub returns : goal.returns
returns c = c.is_ok.ensures.value ∙ names_known c.args.self.now.policy c.try_from.result c.try_from.ensures
