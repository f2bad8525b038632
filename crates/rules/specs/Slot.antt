-- 01, What each call does: one slot in its four steps, and n of them.
use Rattle.std.specs.Prelude.{ℕ, zero, suc, ◌+◌, ◌-◌, cond, ◌&&◌, List, [], ◌∷◌, map, leb, eqb, get_or, set}
use Rattle.time.specs.Kinds.{instant, span}
use Rattle.rules.specs.declared.Place.{Place}
use Rattle.rules.specs.Numbers.{spent, late, fixed_priority}
use Rattle.rules.specs.Table.{Table, zero_place, is_live}
use Rattle.rules.specs.Election.{Who, nobody, place, number, elected}

-- the job is gone with this ending; next stays
abbrev pub ended : ℕ → Place → Place
ended e x = record { opened = x.opened; level = x.level; cap = x.cap; gap = x.gap; next = x.next; live = 0; budget = span 0; remaining = span 0; deadline = instant 0; ending = e; total = x.total }

-- step 2: the elected place loses one remaining slot and its total grows by one
abbrev pub given : Place → Place
given x = record { opened = x.opened; level = x.level; cap = x.cap; gap = x.gap; next = x.next; live = x.live; budget = x.budget; remaining = span (x.remaining.0 - 1); deadline = x.deadline; ending = x.ending; total = span (x.total.0 + 1) }

-- step 3: an elected job with remaining 0 is gone with ending 2
abbrev pub unless_spent : Place → Place
unless_spent x = cond (eqb x.remaining.0 0) (ended spent x) x

unfoldable pub served : Place → Place
served x = unless_spent (given x)

-- step 4: under policy 2, every job still live whose deadline is ≤ now is gone with ending 3
unfoldable pub unless_late : ℕ → ℕ → Place → Place
unless_late policy now x = cond (eqb policy fixed_priority && is_live x && leb x.deadline.0 now) (ended late x) x

-- steps 2 and 3 of the places
unfoldable pub serve : Who → List Place → List Place
serve nobody l = l
serve (place p) l = set l p (served (get_or l p zero_place))

-- or idle grows by one
unfoldable pub idle_more : Who → ℕ
idle_more nobody = 1
idle_more (place p) = 0

-- one slot; now grows by one
unfoldable pub slot : Table → Table
slot t = record { policy = t.policy; now = instant (t.now.0 + 1); idle = span (t.idle.0 + idle_more (elected t)); places = map (unless_late t.policy (t.now.0 + 1)) (serve (elected t) t.places) }

-- n slots, one after the other
unfoldable pub slots : ℕ → Table → Table
slots zero t = t
slots (suc n) t = slots n (slot t)

-- what is written for them in turn
unfoldable pub named : ℕ → Table → List ℕ
named zero t = []
named (suc n) t = number (elected t) ∷ named n (slot t)
