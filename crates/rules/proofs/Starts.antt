-- Where a history begins: an accepted set-up gives a fresh table, and from there on every row of the history is allowed.
use Rattle.std.proofs.Common.{◌≡◌, refl, sym, ap, ap₂, ◌∙◌, subst, false, List, ◌++◌, ℕ, ◌<◌, arith}
use Rattle.rules.specs.Numbers.{place_count}
use Rattle.rules.specs.Table.{Table, fresh_table}
use Rattle.rules.specs.Sound.{Sound}
use Rattle.rules.specs.Call.{Call, set_up}
use Rattle.rules.specs.History.{Happening, history, table_after, ticks, reserve, ledger_from, ledger}
use Rattle.rules.specs.Demands.{SetUp, figures_of}
use Rattle.rules.proofs.Promises.{fresh_at, set_up_done, set_up_gives_sound}
use Rattle.rules.proofs.Histories.{AllAllowed, after, allowed_split, after_sound, after_clock, history_allowed}
use Rattle.rules.proofs.Ledgers.{shown, ledger_shown}

pub one_ok : SetUp 1
one_ok = unfold set_up in refl

pub two_ok : SetUp 2
two_ok = unfold set_up in refl

-- A history from an accepted set-up on.
abbrev pub start : ℕ → Table
start policy = (set_up policy).table

module _ (policy : ℕ) (ok : SetUp policy) where
  pub start_is : start policy ≡ fresh_table policy
  start_is = (set_up_done policy ok).1

  pub start_sound : Sound (start policy)
  start_sound = set_up_gives_sound policy ok

  -- the ledger of an allowed row is what the table after it holds
  pub ledger_is : (hs : List Happening) (p : ℕ) → p < place_count → AllAllowed (start policy) hs → ledger policy p hs ≡ figures_of (after (start policy) hs) p
  ledger_is hs p l a =
      let shown_fresh : figures_of (start policy) p ≡ reserve 0 false 0 0 0 = rw start_is (ap (shown 0) (fresh_at policy p l)) in
      ap₂ (λ n k. ledger_from n p k hs) (sym (ap (λ t. t.policy) start_is)) (sym shown_fresh) ∙ ledger_shown hs (start policy) p start_sound l a

  -- a part of a history is allowed, and what comes after it
  pub parts : (calls : List Call) (before rest : List Happening) → history policy calls ≡ before ++ rest → AllAllowed (start policy) before × AllAllowed (after (start policy) before) rest
  parts calls before rest e = allowed_split before rest (start policy) (subst (AllAllowed (start policy)) e (history_allowed calls (start policy) start_sound).0)

  pub now_is : (hs : List Happening) → (after (start policy) hs).now.0 ≡ ticks hs
  now_is hs = omega (arith, after_clock hs (start policy), ap (λ t. t.now.0) start_is)

  pub table_is : (calls : List Call) → (AllAllowed (start policy) (history policy calls)) × (after (start policy) (history policy calls) ≡ table_after policy calls)
  table_is calls = history_allowed calls (start policy) start_sound

  pub table_sound : (calls : List Call) → Sound (table_after policy calls)
  table_sound calls = subst Sound (table_is calls).1 (after_sound (history policy calls) (start policy) start_sound (table_is calls).0)
