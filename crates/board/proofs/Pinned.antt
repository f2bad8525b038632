-- Each exported contract allows one result, for every input; of an advance, one record too. And no two fields have the same mark.
use Rattle.std.proofs.Common.{◌≡◌, sym, ◌∙◌, List, ℕ, ◌<◌, arith}
use Rattle.table.specs.declared.Table.{Table}
use Rattle.time.specs.declared.Span.{Span}
use Rattle.board.specs.declared.crossing.Answer.{Answer}
use Rattle.board.specs.declared.crossing.Choice.{Choice}
use Rattle.board.specs.declared.crossing.Turn.{Turn}
use Rattle.board.specs.Crossing.{SetUpGives, OpenGives, CloseGives, ArriveGives, DepartGives, ElectionGives, SlotGives, AdvanceGives}
use Rattle.board.specs.Sound.{SoundNumber}
use Rattle.board.specs.Layout.{mark, place_mark, Version, Marked, MarkedNumber}

pub is_sound_pinned : (t : Table) (q r : ℕ) → SoundNumber t q → SoundNumber t r → q ≡ r
is_sound_pinned t q r e f = e ∙ sym f

pub set_up_pinned : (policy : ℕ) (q r : Answer) → SetUpGives policy q → SetUpGives policy r → q ≡ r
set_up_pinned policy q r e f = e ∙ sym f

pub open_pinned : (t : Table) (place level : ℕ) (cap gap : Span) (q r : Answer) → OpenGives t place level cap gap q → OpenGives t place level cap gap r → q ≡ r
open_pinned t place level cap gap q r e f = e ∙ sym f

pub close_pinned : (t : Table) (place : ℕ) (q r : Answer) → CloseGives t place q → CloseGives t place r → q ≡ r
close_pinned t place q r e f = e ∙ sym f

pub arrive_pinned : (t : Table) (place : ℕ) (budget away : Span) (q r : Answer) → ArriveGives t place budget away q → ArriveGives t place budget away r → q ≡ r
arrive_pinned t place budget away q r e f = e ∙ sym f

pub depart_pinned : (t : Table) (place : ℕ) (q r : Answer) → DepartGives t place q → DepartGives t place r → q ≡ r
depart_pinned t place q r e f = e ∙ sym f

pub election_pinned : (t : Table) (q r : Choice) → ElectionGives t q → ElectionGives t r → q ≡ r
election_pinned t q r e f = e ∙ sym f

pub slot_pinned : (t : Table) (q r : Turn) → SlotGives t q → SlotGives t r → q ≡ r
slot_pinned t q r e f = e ∙ sym f

pub advance_pinned : (t : Table) (n : Span) (bytes : List ℕ) (start : ℕ) (q r : Answer) (x y : List ℕ) → AdvanceGives t n bytes start q x → AdvanceGives t n bytes start r y → (q ≡ r) × (x ≡ y)
advance_pinned t n bytes start q r x y e f = (e.0 ∙ sym f.0, e.1 ∙ sym f.1)

pub layout_version_pinned : (q r : ℕ) → Version q → Version r → q ≡ r
layout_version_pinned q r e f = e ∙ sym f

pub layout_write_pinned : (q r : Turn) → Marked q → Marked r → q ≡ r
layout_write_pinned q r e f = e ∙ sym f

pub layout_read_pinned : (t : Turn) (q r : ℕ) → MarkedNumber t q → MarkedNumber t r → q ≡ r
layout_read_pinned t q r e f = grind arith

-- a place has fewer than sixteen fields, and so has a turn beside its places
pub marks_of_places_differ : (i j k l : ℕ) → k < 16 → l < 16 → place_mark i k ≡ place_mark j l → (i ≡ j) × (k ≡ l)
marks_of_places_differ i j k l g h e = (omega arith, omega arith)

pub marks_of_figures_differ : (i k n : ℕ) → n < 16 → place_mark i k ≡ mark n → ⊥
marks_of_figures_differ i k n h e = omega arith
