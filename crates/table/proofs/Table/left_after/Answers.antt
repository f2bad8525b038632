use Rattle.std.proofs.Common.{refl, arith, take_all}
use Rattle.std.proofs.lemmas.Grind.{common_steps}
use Rattle.std.proofs.lemmas.List.Sums.{sum_by_more, sum_by_more_le}
use Rattle.rules.specs.Table.{zero_place}
use Rattle.table.proofs.Table.left_after.Goals as goal

pub loop-p-init : goal.loop-p-init
loop-p-init g c = λ f e. grind (arith, common_steps)

pub returns-then-lt : goal.returns-then-lt
returns-then-lt g c = λ f e.
    let taken = e _ c.share-taken.result (record { shown = _; shows = refl; says = record { met = c.share-taken.ensures } }) in
    grind (arith, common_steps, taken, c.loop-p.invariant f e, sum_by_more_le f c.args.self.now.places c.loop-p.p-index zero_place)

pub loop-p-preserved : goal.loop-p-preserved
loop-p-preserved g c = λ f e.
    let taken = e _ c.share-taken.result (record { shown = _; shows = refl; says = record { met = c.share-taken.ensures } }) in
    grind (arith, common_steps, taken, c.loop-p.invariant f e, sum_by_more f c.args.self.now.places c.loop-p.p-index zero_place)

pub returns : goal.returns
returns g c = λ f e. grind (arith, common_steps, take_all, c.loop-p.invariant f e)
