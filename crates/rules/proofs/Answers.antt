-- What a call answers.
use Rattle.std.proofs.Common.{◌≡◌, ℕ, arith, ne_eqb}
use Rattle.std.proofs.lemmas.Bool.Decides.{nat_tests}
use Rattle.rules.specs.Table.{Table}
use Rattle.rules.specs.Call.{Call, refusal, done, refused, called}

pub called_done : (t : Table) (c : Call) → refusal t c ≡ 0 → called t c ≡ done t c
unfolding called
called_done t c e = rw e

pub called_refused : (t : Table) (c : Call) (k : ℕ) → k ≡ refusal t c → (k ≡ 0 → ⊥) → called t c ≡ refused k t c
unfolding called
called_refused t c k e n = rw (← e, ne_eqb k 0 n)

pub answer_is : (t : Table) (c : Call) → (called t c).answer ≡ refusal t c
unfolding called
answer_is t c = grind (arith, nat_tests)
