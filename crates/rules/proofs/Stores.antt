-- What a store and a slot make of each place, and what a slot leaves as it was.
use Rattle.std.proofs.Common.{◌≡◌, refl, ap, ◌∙◌, ◌≢◌, cond, List, ℕ, ◌+◌, ◌<◌, arith, eqb, length, get_or, length-set, get_or-set_same, get_or-set_other}
use Rattle.std.proofs.lemmas.List.{length-map, get_or-map}
use Rattle.std.proofs.lemmas.Bool.Decides.{nat_tests}
use Rattle.rules.specs.declared.Place.{Place}
use Rattle.rules.specs.Numbers.{spent, late}
use Rattle.rules.specs.Table.{Table, zero_place, at, put}
use Rattle.rules.specs.Election.{Who, nobody, place, elected}
use Rattle.rules.specs.Slot.{given, ended, served, unless_late, serve, idle_more, slot}

-- what a store at p makes of place q
pub data Put (t : Table) (p : ℕ) (x : Place) (q : ℕ) : Type 0 where
  there : q ≡ p → at (put t p x) q ≡ x → Put t p x q
  other : q ≢ p → at (put t p x) q ≡ at t q → Put t p x q

pub put_view : (t : Table) (p : ℕ) (x : Place) (q : ℕ) → p < length t.places → Put t p x q
put_view t p x q h = grind (arith, get_or-set_same, get_or-set_other, there, other)

-- steps 2 and 3 of place q where w is elected
unfoldable pub gave : Who → ℕ → Place → Place
gave nobody q x = x
gave (place p) q x = cond (eqb q p) (served x) x

serve_at : (w : Who) (l : List Place) (q : ℕ) → q < length l → get_or (serve w l) q zero_place ≡ gave w q (get_or l q zero_place)
unfolding serve gave
serve_at w l q h = grind (arith, nat_tests, get_or-set_same, get_or-set_other)

serve_size : (w : Who) (l : List Place) → length (serve w l) ≡ length l
unfolding serve
serve_size w l = grind (arith, length-set {A = Place})

-- what a slot makes of place q
pub slot_at : (t : Table) (q : ℕ) → q < length t.places → at (slot t) q ≡ unless_late t.policy (t.now.0 + 1) (gave (elected t) q (at t q))
unfolding slot
slot_at t q h =
    let f = unless_late t.policy (t.now.0 + 1) in
    get_or-map f (serve (elected t) t.places) q zero_place zero_place (simp serve_size h) ∙ ap f (serve_at (elected t) t.places q h)

-- what a slot leaves as it was, and the clock
pub record SlotKeeps (t : Table) : Type 0 where
  pub policy : (slot t).policy ≡ t.policy
  pub clock : (slot t).now.0 ≡ t.now.0 + 1
  pub idle : (slot t).idle.0 ≡ t.idle.0 + idle_more (elected t)
  pub size : length (slot t).places ≡ length t.places

pub slot_keeps : (t : Table) → SlotKeeps t
unfolding slot
slot_keeps t = record {
  policy = refl;
  clock = refl;
  idle = refl;
  size = length-map (serve (elected t) t.places) (unless_late t.policy (t.now.0 + 1)) ∙ serve_size (elected t) t.places;
}

-- a slot leaves every figure of a place that neither a slot given nor a job's end changes
pub slot_leaves : (f : Place → ℕ) → ((x : Place) → f (given x) ≡ f x) → ((e : ℕ) (x : Place) → f (ended e x) ≡ f x) → (t : Table) (p : ℕ) → p < length t.places → f (at (slot t) p) ≡ f (at t p)
unfolding unless_late gave served
slot_leaves f g e t p h = ap f (slot_at t p h) ∙ late_leaves (gave (elected t) p (at t p)) ∙ gave_leaves (elected t) (at t p)
  where
    gave_leaves : (w : Who) (x : Place) → f (gave w p x) ≡ f x
    gave_leaves nobody x = refl
    gave_leaves (place q) x = grind (arith, g x, e spent (given x))

    late_leaves : (x : Place) → f (unless_late t.policy (t.now.0 + 1) x) ≡ f x
    late_leaves x = grind (arith, e late x)
