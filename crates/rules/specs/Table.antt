-- 01, The table: places, policy, clock, idle count. Any numbers, and any number of places, are a table; Sound.antt says which are sound.
use Rattle.std.specs.Prelude.{ℕ, Bool, List, eqb, get_or, set, replicate}
use Rattle.time.specs.declared.Instant.{Instant}
use Rattle.time.specs.declared.Span.{Span}
use Rattle.time.specs.Kinds.{instant, span}
use Rattle.rules.specs.declared.Place.{Place}
use Rattle.rules.specs.Numbers.{place_count}

pub record Table : Type 0 where
  pub policy : ℕ
  pub now : Instant
  pub idle : Span
  pub places : List Place

-- a closed place: zero in everything but its total
abbrev pub closed_place : Span → Place
closed_place total = record { opened = 0; level = 0; cap = span 0; gap = span 0; next = instant 0; live = 0; budget = span 0; remaining = span 0; deadline = instant 0; ending = 0; total = total }

abbrev pub zero_place : Place
zero_place = closed_place (span 0)

-- clock 0, idle 0, all places closed, all totals 0
abbrev pub fresh_table : ℕ → Table
fresh_table policy = record { policy = policy; now = instant 0; idle = span 0; places = replicate place_count zero_place }

-- the table of zeros
abbrev pub zero_table : Table
zero_table = fresh_table 0

abbrev pub is_open : Place → Bool
is_open p = eqb p.opened 1

abbrev pub is_live : Place → Bool
is_live p = eqb p.live 1

-- the place of this number
abbrev pub at : Table → ℕ → Place
at t p = get_or t.places p zero_place

-- the table with another place at this number
abbrev pub put : Table → ℕ → Place → Table
put t p x = record { policy = t.policy; now = t.now; idle = t.idle; places = set t.places p x }
