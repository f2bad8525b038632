-- Each call gave a marked place, so the list is that of the marked places.
use Rattle.std.proofs.Common.{refl, arith, rules}
use Rattle.std.proofs.lemmas.List.FromFn.{fill_by_all}
use Rattle.rules.specs.Numbers.{place_count}
use Rattle.rules.specs.Table.{zero_place}
use Rattle.board.specs.Layout.{marked_place, marked_places}
use Rattle.board.proofs.layout.marked_table.Goals as goal

pub returns : goal.returns
unfolding marked_places
returns c =
    let items = c.from_fn.ensures.items in
    rw (fill_by_all marked_place c.from_fn.result place_count zero_place (omega arith) (λ i h. search (rules, items.at i zero_place h))) refl
