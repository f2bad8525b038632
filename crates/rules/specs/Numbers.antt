-- The paper's numbers, each named once. The constants of src/lib.rt, and the numbers of its kinds, are the same.
use Rattle.std.specs.Prelude.{ℕ}

-- how many places a table has
abbrev pub place_count : ℕ
place_count = 16

abbrev pub last_tick : ℕ
last_tick = 4000000000

abbrev pub longest_span : ℕ
longest_span = 1000000

-- level 0 is the most urgent
abbrev pub last_level : ℕ
last_level = 7

abbrev pub most_slots : ℕ
most_slots = 4096

-- what a slot record holds for an idle slot
abbrev pub idle_byte : ℕ
idle_byte = 255

abbrev pub earliest_deadline : ℕ
earliest_deadline = 1

abbrev pub fixed_priority : ℕ
fixed_priority = 2

-- how a job ended: 0 none, 1 left, 2 spent, 3 late
abbrev pub left : ℕ
left = 1

abbrev pub spent : ℕ
spent = 2

abbrev pub late : ℕ
late = 3
