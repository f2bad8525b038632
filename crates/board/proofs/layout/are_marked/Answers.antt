use Rattle.std.proofs.Common.{◌≡◌, refl, sym, ap, ap₂, ◌∙◌, List, [], ◌∷◌, ◌++◌, get_or, arith, rules}
use Rattle.std.proofs.lemmas.List.{take_more}
use Rattle.std.proofs.lemmas.Grind.{common_steps}
use Rattle.rules.specs.declared.Place.{Place}
use Rattle.rules.specs.Numbers.{place_count}
use Rattle.rules.specs.Table.{zero_place}
use Rattle.board.specs.Layout.{marked_place, marked_places}
use Rattle.board.proofs.Marks.{marks_at, marks_next}
use Rattle.board.proofs.layout.are_marked.Goals as goal

pub loop-i-init : goal.loop-i-init
unfolding marked_places
loop-i-init c = refl

pub returns-then-ne : goal.returns-then-ne
returns-then-ne c = (
  (λ e. search rules),
  (λ e.
      let here : get_or c.args.places.now c.loop-i.i zero_place ≡ marked_place c.loop-i.i = ap (λ (l : List Place). get_or l c.loop-i.i zero_place) e ∙ marks_at place_count c.loop-i.i (omega arith) in
      grind (arith, here)),
)

pub loop-i-preserved : goal.loop-i-preserved
loop-i-preserved c =
    let here : get_or c.args.places.now c.loop-i.i zero_place ≡ marked_place c.loop-i.i = search rules in
    take_more c.args.places.now c.loop-i.i zero_place (omega arith) ∙ ap₂ (λ (l : List Place) (p : Place). l ++ (p ∷ [])) c.loop-i.invariant here ∙ sym (marks_next c.loop-i.i)

pub returns : goal.returns
returns c = ((λ e. grind (arith, common_steps, c.loop-i.invariant)), (λ e. refl))
