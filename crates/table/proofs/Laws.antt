-- Laws of comparisons and of policies.
use Rattle.std.proofs.Common.{◌≡◌, ℕ, leb, is_le, nat_cmp, Result, Ok, Err, is_ok, arith, rules}
use Rattle.std.proofs.lemmas.Bool.Decides.{nat_tests}
use Rattle.rules.specs.declared.Policy.{Policy}
use Rattle.rules.specs.declared.Policy.TheVariants.{EarliestDeadline, FixedPriority}
use Rattle.rules.specs.declared.Refusal.{Refusal}
use Rattle.rules.specs.Kinds.{Names}
use Rattle.rules.specs.Sound.{known_policy}
use Rattle.std.specs.Result.{result_unwrap_or}
use Rattle.table.specs.Leaves.{rule_of}

pub is_le_leb : (a b : ℕ) → is_le (nat_cmp a b) ≡ leb a b
is_le_leb a b = search rules

-- a number names a policy where it is one of the two
pub names_known : (n : ℕ) (r : Result Policy Refusal) → Names n r → is_ok r ≡ known_policy n
names_known n (Ok EarliestDeadline) e = grind (arith, nat_tests)
names_known n (Ok FixedPriority) e = grind (arith, nat_tests)
names_known n (Err e) h = grind (arith, nat_tests, h.1 EarliestDeadline, h.1 FixedPriority)

-- and the slots go by that one, or by fixed priority
pub names_rule : (n : ℕ) (r : Result Policy Refusal) → Names n r → result_unwrap_or r FixedPriority ≡ rule_of n
names_rule n (Ok EarliestDeadline) e = grind (arith, nat_tests)
names_rule n (Ok FixedPriority) e = grind (arith, nat_tests)
names_rule n (Err e) h = grind (arith, nat_tests, h.1 EarliestDeadline)
