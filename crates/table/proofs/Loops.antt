-- Laws of what is done to each place of a table: a test of each, and a sum.
use Rattle.std.proofs.Common.{◌≡◌, refl, Bool, List, ℕ, zero, suc, ◌≤◌, length, get_or, take, take_all, arith}
use Rattle.std.specs.List.{list_all, sum_by}
use Rattle.std.proofs.lemmas.List.Sums.{sum_by_more}
use Rattle.std.proofs.lemmas.List.Folds.{list_all_more}
use Rattle.rules.specs.Tests.{sum, each}

-- a test of each item is one of each index
module _ {A : Type 0} (b : A → Bool) (d : A) where
  all_below : (l : List A) (i : ℕ) → i ≤ length l → list_all b (take i l) ≡ each (λ k. b (get_or l k d)) i
  unfolding each
  all_below l zero h = refl
  all_below l (suc i) h = grind (arith, list_all_more b l i d, all_below l i)

  pub all_each : (l : List A) (m : ℕ) → length l ≡ m → list_all b l ≡ each (λ k. b (get_or l k d)) m
  all_each l m e = grind (arith, take_all m l, all_below l m)

-- and so is a sum
module _ {A : Type 0} (f : A → ℕ) (d : A) where
  sum_below : (l : List A) (i : ℕ) → i ≤ length l → sum_by f (take i l) ≡ sum (λ k. f (get_or l k d)) i
  unfolding sum
  sum_below l zero h = refl
  sum_below l (suc i) h = grind (arith, sum_by_more f l i d, sum_below l i)

  pub sum_each : (l : List A) (m : ℕ) → length l ≡ m → sum_by f l ≡ sum (λ k. f (get_or l k d)) m
  sum_each l m e = grind (arith, take_all m l, sum_below l m)
