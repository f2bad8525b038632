use Rattle.std.proofs.Common.{◌∙◌, ◌≡◌, ap, rules, arith}
use Rattle.rules.specs.Kinds.{policy_number}
use Rattle.rules.specs.Table.{at}
use Rattle.table.specs.Dress.{ruled, who}
use Rattle.table.specs.Leaves.{ahead}
use Rattle.table.proofs.Leads.{lead_none, lead_next, lead_elected, place_of}
use Rattle.table.proofs.Table.elect.Goals as goal

pub loop-i-init : goal.loop-i-init
loop-i-init c = lead_none (ruled c.args.self.now)

pub loop-i-preserved : goal.loop-i-preserved
loop-i-preserved c =
    let t = ruled c.args.self.now in
    lead_next t c.loop-i.i c.loop-i.invariant (c.leader-lead.ensures ∙ ap (λ p. ahead (policy_number p) c.loop-i.lead c.loop-i.i (at t c.loop-i.i)) c.rule-policy.ensures)

pub returns : goal.returns
returns c =
    let place : c.map.result ≡ place_of c.loop-i.lead = search rules in
    ap who place ∙ lead_elected (ruled c.args.self.now) c.loop-i.i c.loop-i.invariant (omega arith)
