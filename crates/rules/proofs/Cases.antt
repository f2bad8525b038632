-- The starred cases hold by computation.
use Rattle.std.proofs.Common.{refl}
use Rattle.rules.specs.Tests.{sum, each}
use Rattle.rules.specs.Election.{number, better, elect, elected}
use Rattle.rules.specs.Fit.{due, demand, sums_fit, fits_by_sums}
use Rattle.rules.specs.Sound.{sound_place, sound}
use Rattle.rules.specs.Slot.{served, unless_late, serve, idle_more, slot, slots, named}
use Rattle.rules.specs.Call.{judge, checks, refusal, effect, named_by, lent, written, called, set_up}
use Rattle.rules.specs.Cases.{figures_of, figures, same, seen_of, bytes_of, table_after, outcome, notebook, outcome_of, StarredCasesHold}

pub starred_cases_hold : StarredCasesHold
unfolding outcome_of outcome table_after notebook bytes_of seen_of same figures figures_of set_up called written lent named_by effect refusal checks judge named slots slot idle_more serve unless_late served sound sound_place fits_by_sums sums_fit demand due elected elect better number each sum
starred_cases_hold = refl
