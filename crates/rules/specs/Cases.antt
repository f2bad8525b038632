-- 01, From the bench notebook: the starred cases, of the rules themselves, as a single table under a single claim.
use Rattle.std.specs.Prelude.{◌≡◌, Bool, true, false, ◌&&◌, List, [], ◌∷◌, ◌++◌, map, ℕ, eqb, replicate}
use Rattle.rules.specs.declared.Place.{Place}
use Rattle.rules.specs.Table.{Table, at}
use Rattle.rules.specs.Call.{Call, Open, Close, Arrive, Depart, Advance, called, set_up}

-- every figure of a table, in a row
unfoldable pub figures_of : List Place → List ℕ
figures_of [] = []
figures_of (x ∷ l) = x.opened ∷ x.level ∷ x.cap.0 ∷ x.gap.0 ∷ x.next.0 ∷ x.live ∷ x.budget.0 ∷ x.remaining.0 ∷ x.deadline.0 ∷ x.ending ∷ x.total.0 ∷ figures_of l

unfoldable pub figures : Table → List ℕ
figures t = t.policy ∷ t.now.0 ∷ t.idle.0 ∷ figures_of t.places

unfoldable pub same : List ℕ → List ℕ → Bool
same [] [] = true
same [] (b ∷ bs) = false
same (a ∷ xs) [] = false
same (a ∷ xs) (b ∷ bs) = eqb a b && same xs bs

-- what is seen of a call: its answer, and whether the whole table came back as it was
abbrev pub Seen : Type 0
Seen = ℕ × Bool

unfoldable pub seen_of : Table → List Call → List Seen
seen_of t [] = []
seen_of t (c ∷ cs) = let r = called t c in (r.answer, same (figures t) (figures r.table)) ∷ seen_of r.table cs

-- the records, one after the other
unfoldable pub bytes_of : Table → List Call → List ℕ
bytes_of t [] = []
bytes_of t (c ∷ cs) = let r = called t c in r.bytes ++ bytes_of r.table cs

unfoldable pub table_after : Table → List Call → Table
table_after t [] = t
table_after t (c ∷ cs) = table_after (called t c).table cs

-- what a case comes to; endings and totals are those of places 0, 1 and 2
pub record Outcome : Type 0 where
  pub calls : List Seen
  pub bytes : List ℕ
  pub endings : List ℕ
  pub totals : List ℕ
  pub clock : ℕ
  pub idle : ℕ

unfoldable pub outcome : Table → List Call → Outcome
outcome t cs = let e = table_after t cs in record {
  calls = seen_of t cs;
  bytes = bytes_of t cs;
  endings = (at e 0).ending ∷ (at e 1).ending ∷ (at e 2).ending ∷ [];
  totals = (at e 0).total.0 ∷ (at e 1).total.0 ∷ (at e 2).total.0 ∷ [];
  clock = e.now.0;
  idle = e.idle.0;
}

-- place 0 has C 3, T 10; place 1 has C 4, T 20; place 2 has C 1, T 5; all open, clock 0
unfoldable pub notebook : ℕ → ℕ → ℕ → Table
notebook policy level0 level1 = table_after (set_up policy).table (Open 0 level0 3 10 ∷ Open 1 level1 4 20 ∷ Open 2 0 1 5 ∷ [])

pub record Case : Type 0 where
  pub start : Table
  pub calls : List Call
  pub expected : Outcome

unfoldable pub outcome_of : Case → Outcome
outcome_of c = outcome c.start c.calls

-- n slots into a record of n bytes
abbrev pub slots_of : ℕ → Call
slots_of n = Advance n (replicate n 9) 0

-- done, and the table is another; done, nothing changed; refused with this number, nothing changed
abbrev pub ok : Seen
ok = (0, false)

abbrev pub still : Seen
still = (0, true)

abbrev pub no : ℕ → Seen
no k = (k, true)

abbrev pub case : Table → List Call → List Seen → List ℕ → List ℕ → List ℕ → ℕ → ℕ → Case
case start calls seen bytes endings totals clock idle =
    record { start = start; calls = calls; expected = record { calls = seen; bytes = bytes; endings = endings; totals = totals; clock = clock; idle = idle } }

-- under policy 1; under policy 2 with place 0 at level 5 and place 1 at level 2
abbrev pub by_deadline : Table
by_deadline = notebook 1 0 0

abbrev pub by_level : Table
by_level = notebook 2 5 2

-- for each call what is seen of it; then the records, the endings, the totals, the clock and the idle count
abbrev pub starred_cases : List Case
starred_cases =
    -- A. Arrive 0 (3, 7), 1 (4, 7), 2 (1, 8): all taken. Nine slots: 0 0 0 1 1 1 1 2 255.
    case by_deadline (Arrive 0 3 7 ∷ Arrive 1 4 7 ∷ Arrive 2 1 8 ∷ slots_of 9 ∷ []) (ok ∷ ok ∷ ok ∷ ok ∷ [])
    (0 ∷ 0 ∷ 0 ∷ 1 ∷ 1 ∷ 1 ∷ 1 ∷ 2 ∷ 255 ∷ []) (2 ∷ 2 ∷ 2 ∷ []) (3 ∷ 4 ∷ 1 ∷ []) 9 1 ∷
    -- B. Arrive 0 (3, 7), 1 (4, 6): taken. Seven slots: 1 1 1 1 0 0 0.
    case by_deadline (Arrive 0 3 7 ∷ Arrive 1 4 6 ∷ slots_of 7 ∷ []) (ok ∷ ok ∷ ok ∷ [])
    (1 ∷ 1 ∷ 1 ∷ 1 ∷ 0 ∷ 0 ∷ 0 ∷ []) (2 ∷ 2 ∷ 0 ∷ []) (3 ∷ 4 ∷ 0 ∷ []) 7 0 ∷
    -- C. B's arrivals, then 2 (1, 7): 9. Then 2 (1, 8): taken.
    case by_deadline (Arrive 0 3 7 ∷ Arrive 1 4 6 ∷ Arrive 2 1 7 ∷ Arrive 2 1 8 ∷ []) (ok ∷ ok ∷ no 9 ∷ ok ∷ [])
    [] (0 ∷ 0 ∷ 0 ∷ []) (0 ∷ 0 ∷ 0 ∷ []) 0 0 ∷
    -- D. Arrive 0 (3, 10), one slot, arrive 1 (2, 4), five slots: 0, then 1 1 0 0 255.
    case by_deadline (Arrive 0 3 10 ∷ slots_of 1 ∷ Arrive 1 2 4 ∷ slots_of 5 ∷ []) (ok ∷ ok ∷ ok ∷ ok ∷ [])
    (0 ∷ 1 ∷ 1 ∷ 0 ∷ 0 ∷ 255 ∷ []) (2 ∷ 2 ∷ 0 ∷ []) (3 ∷ 2 ∷ 0 ∷ []) 6 1 ∷
    -- E. Arrive 0 (3, 3), 1 (1, 3): the second 9. One slot, depart 0, arrive 1 (2, 2): taken.
    case by_deadline (Arrive 0 3 3 ∷ Arrive 1 1 3 ∷ slots_of 1 ∷ Depart 0 ∷ Arrive 1 2 2 ∷ []) (ok ∷ no 9 ∷ ok ∷ ok ∷ ok ∷ [])
    (0 ∷ []) (1 ∷ 0 ∷ 0 ∷ []) (1 ∷ 0 ∷ 0 ∷ []) 1 0 ∷
    -- F. Arrive 0 (3, 7) at 0. Arrive 0 again at clock 2: 6. At 9: 7. At 10: taken.
    case by_deadline (Arrive 0 3 7 ∷ slots_of 2 ∷ Arrive 0 3 7 ∷ slots_of 7 ∷ Arrive 0 3 7 ∷ slots_of 1 ∷ Arrive 0 3 7 ∷ []) (ok ∷ ok ∷ no 6 ∷ ok ∷ no 7 ∷ ok ∷ ok ∷ [])
    (0 ∷ 0 ∷ 0 ∷ 255 ∷ 255 ∷ 255 ∷ 255 ∷ 255 ∷ 255 ∷ 255 ∷ []) (0 ∷ 0 ∷ 0 ∷ []) (3 ∷ 0 ∷ 0 ∷ []) 10 7 ∷
    -- G. Job at place 0 taken at 0 and spent. Close at 9: 7. At 10: done.
    case by_deadline (Arrive 0 3 7 ∷ slots_of 9 ∷ Close 0 ∷ slots_of 1 ∷ Close 0 ∷ []) (ok ∷ ok ∷ no 7 ∷ ok ∷ ok ∷ [])
    (0 ∷ 0 ∷ 0 ∷ 255 ∷ 255 ∷ 255 ∷ 255 ∷ 255 ∷ 255 ∷ 255 ∷ []) (0 ∷ 0 ∷ 0 ∷ []) (3 ∷ 0 ∷ 0 ∷ []) 10 7 ∷
    -- H. Policy 2; place 0 level 5, place 1 level 2; arrive 0 (3, 5), 1 (4, 5). Five slots: 1 1 1 1 0; place 0 then ends late, ending 3.
    case by_level (Arrive 0 3 5 ∷ Arrive 1 4 5 ∷ slots_of 5 ∷ []) (ok ∷ ok ∷ ok ∷ [])
    (1 ∷ 1 ∷ 1 ∷ 1 ∷ 0 ∷ []) (3 ∷ 2 ∷ 0 ∷ []) (1 ∷ 4 ∷ 0 ∷ []) 5 0 ∷
    -- I. Policy 2; arrive 1 (4, 4) alone, four slots: ending 2, not 3.
    case by_level (Arrive 1 4 4 ∷ slots_of 4 ∷ []) (ok ∷ ok ∷ []) (1 ∷ 1 ∷ 1 ∷ 1 ∷ []) (0 ∷ 2 ∷ 0 ∷ []) (0 ∷ 4 ∷ 0 ∷ []) 4 0 ∷
    -- J. Advance 0 slots into an empty record at start 0: done, nothing changed.
    case by_deadline (Advance 0 [] 0 ∷ []) (still ∷ []) [] (0 ∷ 0 ∷ 0 ∷ []) (0 ∷ 0 ∷ 0 ∷ []) 0 0 ∷
    -- O. Arrive 0 (3, 4): taken. Arrive 1 (2, 2): 9, for the two jobs together would need five slots by tick 4. Arrive 1 (1, 2): taken.
    case by_deadline (Arrive 0 3 4 ∷ Arrive 1 2 2 ∷ Arrive 1 1 2 ∷ []) (ok ∷ no 9 ∷ ok ∷ []) [] (0 ∷ 0 ∷ 0 ∷ []) (0 ∷ 0 ∷ 0 ∷ []) 0 0 ∷ []

-- each case comes to what the notebook says
abbrev pub StarredCasesHold : Type 0
StarredCasesHold = map outcome_of starred_cases ≡ map (λ c. c.expected) starred_cases
