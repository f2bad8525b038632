-- The trial of the layout: which mark every field holds.
use Rattle.std.specs.Prelude.{◌≡◌, ◌⊎◌, List, [], ◌∷◌, ◌++◌, ℕ, zero, suc, ◌+◌, ◌*◌}
use Rattle.time.specs.Kinds.{instant, span}
use Rattle.rules.specs.declared.Place.{Place}
use Rattle.rules.specs.Numbers.{place_count}
use Rattle.table.specs.declared.Table.{Table}
use Rattle.board.specs.declared.crossing.Turn.{Turn}

-- the version of the layout
abbrev pub Version : ℕ → Type 0
Version r = r ≡ 1

-- the k-th mark of all
abbrev pub mark : ℕ → ℕ
mark k = 1000000000000000000 + k

-- the k-th mark of place i
abbrev pub place_mark : ℕ → ℕ → ℕ
place_mark i k = mark (16 * (i + 1)) + k

-- place i with a mark in every field
abbrev pub marked_place : ℕ → Place
marked_place i =
    record {
      opened = place_mark i 1;
      level = place_mark i 2;
      cap = span (place_mark i 3);
      gap = span (place_mark i 4);
      next = instant (place_mark i 5);
      live = place_mark i 6;
      budget = span (place_mark i 7);
      remaining = span (place_mark i 8);
      deadline = instant (place_mark i 9);
      ending = place_mark i 10;
      total = span (place_mark i 11);
    }

-- the places below m, each marked
unfoldable pub marked_places : ℕ → List Place
marked_places zero = []
marked_places (suc m) = marked_places m ++ (marked_place m ∷ [])

abbrev pub marked_table : Table
marked_table = record { policy = mark 3; now = instant (mark 4); idle = span (mark 5); places = marked_places place_count }

abbrev pub marked_turn : Turn
marked_turn = record { number = mark 1; place = mark 2; table = marked_table }

abbrev pub Marked : Turn → Type 0
Marked r = r ≡ marked_turn

-- 1 of the marked turn, 0 of any other
abbrev pub MarkedNumber : Turn → ℕ → Type 0
MarkedNumber t r = (Marked t × (r ≡ 1)) ⊎ ((Marked t → ⊥) × (r ≡ 0))
