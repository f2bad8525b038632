-- Each contract of this crate allows one result; and the number of an outcome tells which it is.
use Rattle.std.proofs.Common.{◌≡◌, refl, sym, ◌∙◌, ap, Bool, ℕ, Result, Ok, arith}
use Rattle.rules.specs.declared.Place.{Place}
use Rattle.rules.specs.declared.Policy.{Policy}
use Rattle.rules.specs.declared.Refusal.{Refusal}
use Rattle.rules.specs.Kinds.{outcome_number, Names}
use Rattle.rules.specs.Table.{is_open, is_live}

-- two outcomes of one number are both done or are refused alike
pub outcome_pinned : {A : Type 0} (q r : Result A Refusal) → outcome_number q ≡ outcome_number r → ((a b : A) → q ≡ Ok a → r ≡ Ok b → a ≡ b) → q ≡ r
outcome_pinned (Ok a) (Ok b) h same = ap Ok (same a b refl refl)
outcome_pinned q r h same = grind arith

pub try_from_pinned : (n : ℕ) (q r : Result Policy Refusal) → Names n q → Names n r → q ≡ r
try_from_pinned n q r e f = grind arith

pub is_open_pinned : (p : Place) (q r : Bool) → q ≡ is_open p → r ≡ is_open p → q ≡ r
is_open_pinned p q r e f = e ∙ sym f

pub is_live_pinned : (p : Place) (q r : Bool) → q ≡ is_live p → r ≡ is_live p → q ≡ r
is_live_pinned p q r e f = e ∙ sym f
