use Rattle.std.proofs.Common.{◌∙◌}
use Rattle.table.proofs.Laws.{names_rule}
use Rattle.table.proofs.Table.rule.Goals as goal

pub returns : goal.returns
returns c = c.unwrap_or.ensures ∙ names_rule c.args.self.now.policy c.try_from.result c.try_from.ensures
