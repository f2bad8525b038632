-- The chronicles happen by computation, and so do their premises; that nobody outranks a job is tried at each slot.
use Rattle.std.proofs.Common.{◌≡◌, refl, ap, ◌∙◌, subst, Bool, true, ◌&&◌, ◌||◌, not, List, [], ◌∷◌, ◌++◌, append-nil, append_assoc, ℕ, arith, ltb, eqb}
use Rattle.std.proofs.lemmas.Bool.Decides.{nat_tests}
use Rattle.rules.specs.Numbers.{place_count}
use Rattle.rules.specs.Tests.{sum, each}
use Rattle.rules.specs.Election.{number, better, elect, elected}
use Rattle.rules.specs.Fit.{due, demand, sums_fit, fits_by_sums}
use Rattle.rules.specs.Sound.{sound_place, sound}
use Rattle.rules.specs.Slot.{served, unless_late, serve, idle_more, slot, slots, named}
use Rattle.rules.specs.Call.{judge, checks, refusal, effect, named_by, lent, written, called, set_up}
use Rattle.rules.specs.History.{Happening, Did, Gave, did, happened, history_from, table_from, ticks, slots_naming, until, arrives_at, departs_from, closes, job_slots, withdrawn, undisturbed, place_of, entered, ticked, unless_overdue, noted, ledger_from, ledger}
use Rattle.rules.specs.Demands.{NoneOutranks}
use Rattle.rules.specs.Chronicles.{answers_from, told, expected, outranking, ChroniclesHappen, TheTakenJobIsServed, TheRivalIsTurnedAway, TheGapIsKept, TheOutrankedJobIsLate, TheWithdrawnJobLeaves, TheUnoutrankedJobIsServed}
use Rattle.rules.proofs.Sums.{each_true}

pub chronicles_happen : ChroniclesHappen
unfolding told expected answers_from history_from table_from happened did set_up called written lent named_by effect refusal checks judge named slots slot idle_more serve unless_late served sound sound_place fits_by_sums sums_fit demand due elected elect better number each sum
chronicles_happen = refl

pub the_taken_job_is_served : TheTakenJobIsServed
unfolding ticks withdrawn until job_slots slots_naming arrives_at departs_from
the_taken_job_is_served = record { reached = refl; stayed = refl; its_slots = refl; the_place's = refl }

pub the_rival_is_turned_away : TheRivalIsTurnedAway
unfolding table_from set_up called written lent named_by effect refusal checks judge sound sound_place fits_by_sums sums_fit demand due each sum
the_rival_is_turned_away = record { refused = refl; taken = refl }

pub the_gap_is_kept : TheGapIsKept
unfolding ticks ledger_from noted entered place_of
the_gap_is_kept = record { gap = refl; between = refl; apart = refl }

pub the_outranked_job_is_late : TheOutrankedJobIsLate
unfolding undisturbed ticks until job_slots arrives_at closes table_from set_up called written lent named_by effect refusal checks judge named slots slot idle_more serve unless_late served sound sound_place fits_by_sums sums_fit demand due elected elect better number each sum
the_outranked_job_is_late = record { calm = refl; reached = refl; its_slots = refl; ends = refl }

pub the_withdrawn_job_leaves : TheWithdrawnJobLeaves
unfolding withdrawn job_slots arrives_at departs_from
the_withdrawn_job_leaves = record { left = refl; its_slots = refl }

-- what holds before each slot of a row holds wherever the row is split at a slot
abbrev BeforeEachSlot : (List Happening → Type 0) → List Happening → List Happening → Type 0
BeforeEachSlot P since [] = Unit {0}
BeforeEachSlot P since (Did x ∷ hs) = BeforeEachSlot P (since ++ (Did x ∷ [])) hs
BeforeEachSlot P since (Gave s ∷ hs) = P since × BeforeEachSlot P (since ++ (Gave s ∷ [])) hs

at_each_split : (P : List Happening → Type 0) (hs past since later : List Happening) (s : ℕ) → BeforeEachSlot P past hs → hs ≡ since ++ (Gave s ∷ later) → P (past ++ since)
at_each_split P [] past [] later s b e = cc
at_each_split P [] past (h ∷ since) later s b e = cc
at_each_split P (Did x ∷ hs) past [] later s b e = cc
at_each_split P (Gave n ∷ hs) past [] later s b e = rw append-nil b.0
at_each_split P (Did x ∷ hs) past (h ∷ since) later s b e =
    let i : Did x ≡ h = cc in
    subst P (append_assoc past (Did x ∷ []) since ∙ ap (λ k. past ++ (k ∷ since)) i) (at_each_split P hs (past ++ (Did x ∷ [])) since later s b (cc))
at_each_split P (Gave n ∷ hs) past (h ∷ since) later s b e =
    let i : Gave n ≡ h = cc in
    subst P (append_assoc past (Gave n ∷ []) since ∙ ap (λ k. past ++ (k ∷ since)) i) (at_each_split P hs (past ++ (Gave n ∷ [])) since later s b.1 (cc))

-- nobody outranks p, as a test
outranks : List Happening → ℕ → ℕ → Bool
outranks h q p = ltb (ledger 2 q h).level (ledger 2 p h).level || (eqb (ledger 2 q h).level (ledger 2 p h).level && ltb q p)

none_by_test : (h : List Happening) (p : ℕ) → each (λ q. not ((ledger 2 q h).live && outranks h q p)) place_count ≡ true → NoneOutranks h p
unfolding outranks
none_by_test h p e q l v r = grind (arith, nat_tests, each_true (λ q. not ((ledger 2 q h).live && outranks h q p)) place_count e q l)

abbrev then : List Happening → List Happening
then l = outranking.before ++ (outranking.arrival ∷ l)

pub the_unoutranked_job_is_served : TheUnoutrankedJobIsServed
unfolding withdrawn until job_slots arrives_at departs_from ledger_from noted entered place_of ticked unless_overdue outranks each
the_unoutranked_job_is_served = record {
  stayed = refl;
  none = λ since later s e. at_each_split (λ l. NoneOutranks (then l) 1) (until 3 outranking.after) [] since later s (none_by_test (then []) 1 refl, (none_by_test (then (Gave 1 ∷ [])) 1 refl, (none_by_test (then (Gave 1 ∷ Gave 1 ∷ [])) 1 refl, tt))) e;
  rival = refl;
  its_slots = refl;
}
