-- Each public contract of this crate allows one result, for every input; of an advance, one record too.
use Rattle.std.proofs.Common.{List, ◌≡◌, refl, sym, ap, ◌∙◌, Bool, ℕ, arith, Option, Result}
use Rattle.rules.specs.declared.Refusal.{Refusal}
use Rattle.rules.specs.Kinds.{outcome_number}
use Rattle.rules.specs.Election.{Who, number}
use Rattle.rules.specs.Call.{Result as RuledResult}
use Rattle.rules.proofs.Pinned.{outcome_pinned}
use Rattle.table.specs.declared.Table.{Table}
use Rattle.table.specs.declared.Answer.{Answer}
use Rattle.table.specs.Dress.{dressed, who, whose, Answers, SoundGives}

pub is_sound_pinned : (t : Table) (q r : Bool) → SoundGives t q → SoundGives t r → q ≡ r
is_sound_pinned t q r e f = e ∙ sym f

same : {A : Type 0} (q r : Answer A) → q.outcome ≡ r.outcome → q.table ≡ r.table → q ≡ r
same q r o t = grind arith

-- an answer that says no more than that the call is done: set up, open, close, arrive, depart, advance
pub answer_pinned : (c : RuledResult) (q r : Answer Unit) → Answers c q.outcome q.table → Answers c r.outcome r.table → q ≡ r
answer_pinned c q r e f = same q r (outcome_pinned q.outcome r.outcome (e.0 ∙ sym f.0) (λ a b g h. refl)) (ap dressed (e.1 ∙ sym f.1))

who_pinned : (a b : Option ℕ) → who a ≡ who b → a ≡ b
who_pinned a b e = grind arith

-- what the election says
pub election_pinned : (q r : Result (Option ℕ) Refusal) (n : ℕ) (w : Who) → outcome_number q ≡ n → outcome_number r ≡ n → whose q ≡ w → whose r ≡ w → q ≡ r
election_pinned q r n w e f g h = outcome_pinned q r (e ∙ sym f) (λ a b i j. who_pinned a b (cc))

-- what a slot says
pub slot_pinned : (c : RuledResult) (w : Who) (q r : Answer (Option ℕ)) → Answers c q.outcome q.table → Answers c r.outcome r.table → whose q.outcome ≡ w → whose r.outcome ≡ w → q ≡ r
slot_pinned c w q r e f g h = same q r (election_pinned q.outcome r.outcome c.answer w e.0 f.0 g h) (ap dressed (e.1 ∙ sym f.1))

-- what an advance says, and the record
pub advance_pinned : (c : RuledResult) (q r : Answer Unit) (x y : List ℕ) → Answers c q.outcome q.table → Answers c r.outcome r.table → x ≡ c.bytes → y ≡ c.bytes → (q ≡ r) × (x ≡ y)
advance_pinned c q r x y e f g h = (answer_pinned c q r e f, g ∙ sym h)

pub number_of_pinned : {A : Type 0} (outcome : Result A Refusal) (q r : ℕ) → q ≡ outcome_number outcome → r ≡ outcome_number outcome → q ≡ r
number_of_pinned outcome q r e f = e ∙ sym f

pub named_number_pinned : (outcome : Result (Option ℕ) Refusal) (q r : ℕ) → q ≡ number (whose outcome) → r ≡ number (whose outcome) → q ≡ r
named_number_pinned outcome q r e f = e ∙ sym f
