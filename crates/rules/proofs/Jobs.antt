-- The course of one job through a history: what each happening can do to it, and what that comes to until its deadline.
use Rattle.std.proofs.Common.{get_or-set_same, get_or-set_other, length, ◌≡◌, refl, sym, ap, ◌∙◌, subst, Bool, true, false, cond, ◌||◌, true≢false, List, [], ◌∷◌, ◌++◌, ℕ, zero, suc, ◌+◌, ◌≤◌, ◌<◌, arith, eqb, eq-eqb, eqb-true}
use Rattle.std.proofs.lemmas.Bool.{cond_both}
use Rattle.std.proofs.lemmas.Bool.Decides.{nat_tests}
use Rattle.rules.specs.Numbers.{place_count}
use Rattle.rules.specs.Table.{Table, at}
use Rattle.rules.specs.Election.{place, number, RanksBefore, goes_to, live_at, rank_at, elected}
use Rattle.rules.specs.Sound.{Sound}
use Rattle.rules.specs.Slot.{served, ended, unless_late, slot}
use Rattle.rules.specs.Call.{judge, checks, refusal, effect}
use Rattle.rules.specs.History.{Deed, Happening, Did, Gave, is_its, ticks, until, arrives_at, departs_from, closes, job_slots, withdrawn, undisturbed}
use Rattle.rules.proofs.Elections.{elected_unique}
use Rattle.rules.proofs.Stores.{gave, slot_at, slot_keeps}
use Rattle.rules.proofs.Kept.{elected_ok, elected_live, live_bounds, slot_sound}
use Rattle.rules.proofs.Histories.{call_of, next, AllAllowed, after, allowed_split, next_policy, deed_clock, deed_sound}

-- What a slot does to the live job of p. k is 1 where it is p's slot.
pub data JobSlot (t : Table) (p k : ℕ) : Type 0 where
  goes_on : (at (slot t) p).live ≡ 1 → (at (slot t) p).remaining.0 + k ≡ (at t p).remaining.0 → (at (slot t) p).deadline.0 ≡ (at t p).deadline.0 → JobSlot t p k
  is_spent : (at (slot t) p).live ≡ 0 → (at (slot t) p).ending ≡ 2 → k ≡ 1 → (at t p).remaining.0 ≡ 1 → JobSlot t p k
  is_late : t.policy ≡ 2 → (at t p).deadline.0 ≤ t.now.0 + 1 → (at (slot t) p).live ≡ 0 → (at (slot t) p).ending ≡ 3 → k < (at t p).remaining.0 → JobSlot t p k

pub job_slot : (t : Table) (p : ℕ) → Sound t → p < place_count → (at t p).live ≡ 1 → JobSlot t p (is_its (number (elected t)) p)
unfolding unless_late gave served number
job_slot t p s l v = grind (arith, nat_tests, live_bounds (s.places p l) v, slot_at t p (omega (arith, s.size)), goes_on, is_spent, is_late)

-- What an accepted call does to the live job of p.
pub data JobDeed (t : Table) (p : ℕ) (x : Deed) : Type 0 where
  untouched : arrives_at p x ≡ false → departs_from p x ≡ false → at (effect t (call_of x)) p ≡ at t p → JobDeed t p x
  is_left : arrives_at p x ≡ false → departs_from p x ≡ true → at (effect t (call_of x)) p ≡ ended 1 (at t p) → JobDeed t p x

deed_on_job : (t : Table) (p : ℕ) (x : Deed) → p < length t.places → (at t p).opened ≡ 1 → (at t p).live ≡ 1 → refusal t (call_of x) ≡ 0 → JobDeed t p x
unfolding call_of refusal checks judge effect arrives_at departs_from
deed_on_job t p x h o v a = grind (arith, nat_tests, get_or-set_same, get_or-set_other, untouched, is_left)

pub job_deed : (t : Table) (p : ℕ) (x : Deed) → Sound t → p < place_count → (at t p).live ≡ 1 → refusal t (call_of x) ≡ 0 → JobDeed t p x
job_deed t p x s l v a = deed_on_job t p x (omega (arith, s.size)) (live_bounds (s.places p l) v).0.opened v a

-- Where no job is live at p.
off_slot : (t : Table) (p : ℕ) → Sound t → p < place_count → (at t p).live ≡ 0 → (eqb (number (elected t)) p ≡ false) × (at (slot t) p ≡ at t p)
unfolding unless_late gave served number
off_slot t p s l z = grind (arith, nat_tests, slot_at t p (omega (arith, s.size)), elected_live t p)

off_deed : (t : Table) (p : ℕ) (x : Deed) → Sound t → (at t p).live ≡ 0 → refusal t (call_of x) ≡ 0 → arrives_at p x ≡ false → (at (effect t (call_of x)) p).live ≡ 0
unfolding call_of refusal checks judge effect arrives_at
off_deed t p x s z a n = grind (arith, nat_tests, get_or-set_same, get_or-set_other, s.size)

-- no slot names p before an arrival there
pub off_row : (hs : List Happening) (t : Table) (p : ℕ) → Sound t → p < place_count → AllAllowed t hs → (at t p).live ≡ 0 → job_slots p hs ≡ 0
unfolding job_slots
off_row [] t p s l a z = refl
off_row (Did x ∷ hs) t p s l a z =
    cond_both (arrives_at p x) 0 (job_slots p hs) (λ k. k ≡ 0) (λ e. refl)
    (λ e. off_row hs (effect t (call_of x)) p (deed_sound t x s a.0) l a.1 (off_deed t p x s z a.0 e))
off_row (Gave n ∷ hs) t p s l a z =
    let o = off_slot t p s l z in
    rw (ap (λ k. eqb k p) a.0.1 ∙ o.0) (omega (arith, off_row hs (slot t) p (slot_sound t a.0.0 s) l a.1 (rw o.1 z)))

-- a job has at most the slots it is owed
pub job_bounded : (hs : List Happening) (t : Table) (p : ℕ) → Sound t → p < place_count → AllAllowed t hs → (at t p).live ≡ 1 → job_slots p hs ≤ (at t p).remaining.0
unfolding job_slots
job_bounded [] t p s l a v = omega arith
job_bounded (Did x ∷ hs) t p s l a v =
    let u = deed_sound t x s a.0 in
    elim (job_deed t p x s l v a.0) [
      | untouched n m e ↦ rw n (subst (λ y. job_slots p hs ≤ y.remaining.0) e (job_bounded hs (effect t (call_of x)) p u l a.1 (rw e v)))
      | is_left n m e ↦ rw n (omega (arith, off_row hs (effect t (call_of x)) p u l a.1 (rw e refl)))
    ]
job_bounded (Gave n ∷ hs) t p s l a v =
    let u = slot_sound t a.0.0 s in
    rw a.0.1 (elim (job_slot t p s l v) [
      | goes_on w r d ↦ omega (arith, job_bounded hs (slot t) p u l a.1 w)
      | is_spent w e k r ↦ omega (arith, off_row hs (slot t) p u l a.1 w)
      | is_late e d w f k ↦ omega (arith, off_row hs (slot t) p u l a.1 w)
    ])

-- the first n ticks are a part of the row
until_split : (n : ℕ) (hs : List Happening) → (rest : List Happening) × (hs ≡ until n hs ++ rest)
unfolding until
until_split zero hs = (hs, refl)
until_split (suc n) [] = ([], refl)
until_split (suc n) (Did x ∷ hs) = let r = until_split (suc n) hs in (r.0, ap (λ l. Did x ∷ l) r.1)
until_split (suc n) (Gave s ∷ hs) = let r = until_split n hs in (r.0, ap (λ l. Gave s ∷ l) r.1)

pub until_fewer : (n p : ℕ) (hs : List Happening) → job_slots p (until n hs) ≤ job_slots p hs
unfolding until job_slots
until_fewer zero p hs = omega arith
until_fewer (suc n) p [] = omega arith
until_fewer (suc n) p (Did x ∷ hs) = let ih = until_fewer (suc n) p hs in grind arith
until_fewer (suc n) p (Gave s ∷ hs) = omega (arith, until_fewer n p hs)

pub until_allowed : (n : ℕ) (hs : List Happening) (t : Table) → AllAllowed t hs → AllAllowed t (until n hs)
until_allowed n hs t a = let r = until_split n hs in (allowed_split (until n hs) r.0 t (subst (AllAllowed t) r.1 a)).0

-- a job had all its slots within the first n ticks, the last of them in the slot that ended it
pub record HadAll (t : Table) (p n : ℕ) (hs : List Happening) : Type 0 where
  pub all : job_slots p (until n hs) ≡ (at t p).remaining.0
  pub its : List Happening
  pub later : List Happening
  pub split : until n hs ≡ its ++ (Gave p ∷ later)
  pub last_one : suc (job_slots p its) ≡ (at t p).remaining.0
  pub ends : (at (after t (its ++ (Gave p ∷ []))) p).ending ≡ 2

-- the slot that spends it
had_now : (t : Table) (p n m : ℕ) (hs : List Happening) → Sound t → p < place_count → AllAllowed t (Gave m ∷ hs) → is_its m p ≡ 1 → (at t p).remaining.0 ≡ 1 → (at (slot t) p).live ≡ 0 → (at (slot t) p).ending ≡ 2 → HadAll t p (suc n) (Gave m ∷ hs)
unfolding until job_slots
had_now t p n m hs s l a k r z e = record {
  all = omega (arith, off_row (until n hs) (slot t) p (slot_sound t a.0.0 s) l (until_allowed n hs (slot t) a.1) z);
  its = [];
  later = until n hs;
  split = ap (λ q. Gave q ∷ until n hs) is;
  last_one = sym r;
  ends = e;
}
  where
    is : m ≡ p
    is = grind (arith, nat_tests)

-- one happening more in front
had_after : (t : Table) (p n : ℕ) (h : Happening) (hs : List Happening) (k m : ℕ) → until m (h ∷ hs) ≡ h ∷ until n hs → ((l : List Happening) → job_slots p (h ∷ l) ≡ k + job_slots p l) → (at (next t h) p).remaining.0 + k ≡ (at t p).remaining.0 → HadAll (next t h) p n hs → HadAll t p m (h ∷ hs)
had_after t p n h hs k m u j r d = record {
  all = omega (arith, ap (job_slots p) u, j (until n hs), d.all);
  its = h ∷ d.its;
  later = d.later;
  split = u ∙ ap (λ l. h ∷ l) d.split;
  last_one = omega (arith, j d.its, d.last_one);
  ends = d.ends;
}

-- Under policy 1 a live job that is not withdrawn has all its slots when the clock reaches its deadline: while it is live its deadline is ahead.
pub job_served : (hs : List Happening) (t : Table) (p n : ℕ) → Sound t → t.policy ≡ 1 → p < place_count → AllAllowed t hs → (at t p).live ≡ 1 → (at t p).deadline.0 ≡ t.now.0 + n → n ≤ ticks hs → withdrawn p (until n hs) ≡ false → HadAll t p n hs
unfolding ticks until withdrawn
job_served hs t p zero s one l a v d h w = absurd (omega (arith, (live_bounds (s.places p l) v).1.ahead))
job_served [] t p (suc n) s one l a v d h w = absurd (omega arith)
job_served (Did x ∷ hs) t p (suc n) s one l a v d h w = elim (job_deed t p x s l v a.0) [
  | untouched e f g ↦ had_after t p (suc n) (Did x) hs 0 (suc n) refl (λ y. unfold job_slots in rw e (omega arith)) (rw g (omega arith))
      (job_served hs (effect t (call_of x)) p (suc n) (deed_sound t x s a.0) (next_policy t (Did x) ∙ one) l a.1 (rw g v) (rw g (omega (arith, deed_clock t x))) h (rw (e, f) at w))
  | is_left e f g ↦ absurd (true≢false (rw (e, f) at w))
]
job_served (Gave m ∷ hs) t p (suc n) s one l a v d h w = elim (job_slot t p s l v) [
  | goes_on z r e ↦ had_after t p n (Gave m) hs (is_its (number (elected t)) p) (suc n) refl (λ y. unfold job_slots in rw a.0.1 refl) r
      (job_served hs (slot t) p n (slot_sound t a.0.0 s) (next_policy t (Gave m) ∙ one) l a.1 z (omega (arith, (slot_keeps t).clock)) (omega arith) w)
  | is_spent z e k r ↦ had_now t p n m hs s l a (rw a.0.1 k) r z e
  | is_late e f g i k ↦ absurd (omega arith)
]

-- Policy 2. What has become of the live job of p, n ticks before its deadline, after the row hs, where no arrival or close at p hides it.
pub data Fate (t : Table) (p n : ℕ) (hs : List Happening) : Type 0 where
  still_live : (at (after t hs) p).live ≡ 1 → withdrawn p hs ≡ false → ticks hs < n → job_slots p (until n hs) < (at t p).remaining.0 → Fate t p n hs
  has_left : (at (after t hs) p).live ≡ 0 → (at (after t hs) p).ending ≡ 1 → withdrawn p hs ≡ true → withdrawn p (until n hs) ≡ true → job_slots p (until n hs) < (at t p).remaining.0 → Fate t p n hs
  was_spent : (at (after t hs) p).live ≡ 0 → (at (after t hs) p).ending ≡ 2 → withdrawn p hs ≡ false → job_slots p (until n hs) ≡ (at t p).remaining.0 → Fate t p n hs
  was_late : (at (after t hs) p).live ≡ 0 → (at (after t hs) p).ending ≡ 3 → withdrawn p hs ≡ false → withdrawn p (until n hs) ≡ false → n ≤ ticks hs → job_slots p (until n hs) < (at t p).remaining.0 → Fate t p n hs

-- nothing hides how the job of p ended
calm : (b y : Bool) → cond b false y ≡ true → (b ≡ false) × (y ≡ true)
calm b y e = grind arith

-- an accepted call where the job of p is over: it is for another place, or it hides how that job ended
over_deed : (t : Table) (p : ℕ) (x : Deed) → (at t p).live ≡ 0 → (at t p).opened ≡ 1 → refusal t (call_of x) ≡ 0 → (arrives_at p x || closes p x) ≡ false → (arrives_at p x ≡ false) × (departs_from p x ≡ false) × (at (effect t (call_of x)) p ≡ at t p)
unfolding call_of refusal checks judge effect arrives_at departs_from closes
over_deed t p x z o a u = grind (arith, nat_tests, get_or-set_same, get_or-set_other)

-- once over, a job is over, and how it ended stays
over_stays : (hs : List Happening) (t : Table) (p : ℕ) → Sound t → p < place_count → AllAllowed t hs → undisturbed p hs ≡ true → (at t p).live ≡ 0 → (at t p).opened ≡ 1 → ((at (after t hs) p).live ≡ 0) × ((at (after t hs) p).ending ≡ (at t p).ending) × (withdrawn p hs ≡ false)
unfolding undisturbed withdrawn
over_stays [] t p s l a u z o = (z, refl, refl)
over_stays (Did x ∷ hs) t p s l a u z o =
    let c = calm (arrives_at p x || closes p x) (undisturbed p hs) u in
    let e = over_deed t p x z o a.0 c.0 in
    let r = over_stays hs (effect t (call_of x)) p (deed_sound t x s a.0) l a.1 c.1 (rw e.2 z) (rw e.2 o) in
    (r.0, r.1 ∙ ap (λ y. y.ending) e.2, rw (e.0, e.1) r.2)
over_stays (Gave m ∷ hs) t p s l a u z o =
    let e = (off_slot t p s l z).1 in
    let r = over_stays hs (slot t) p (slot_sound t a.0.0 s) l a.1 u (rw e z) (rw e o) in
    (r.0, r.1 ∙ ap (λ x. x.ending) e, r.2)

-- one happening more in front, which leaves the job as it is but for k slots
fate_after : (t : Table) (p n : ℕ) (h : Happening) (hs : List Happening) (k c m : ℕ) → until m (h ∷ hs) ≡ h ∷ until n hs → ((l : List Happening) → job_slots p (h ∷ l) ≡ k + job_slots p l) → ((l : List Happening) → withdrawn p (h ∷ l) ≡ withdrawn p l) → ticks (h ∷ hs) ≡ c + ticks hs → m ≡ c + n → (at (next t h) p).remaining.0 + k ≡ (at t p).remaining.0 → Fate (next t h) p n hs → Fate t p m (h ∷ hs)
fate_after t p n h hs k c m u j w e f r d = grind (arith, u, j (until n hs), w hs, w (until n hs), still_live, has_left, was_spent, was_late)

slot_open : (t : Table) (p : ℕ) → p < length t.places → (at (slot t) p).opened ≡ (at t p).opened
unfolding unless_late gave served
slot_open t p h = grind (arith, nat_tests, slot_at t p h)

pub job_fate : (hs : List Happening) (t : Table) (p n : ℕ) → Sound t → p < place_count → AllAllowed t hs → undisturbed p hs ≡ true → (at t p).live ≡ 1 → (at t p).deadline.0 ≡ t.now.0 + n → Fate t p n hs
unfolding ticks until withdrawn job_slots undisturbed
job_fate hs t p zero s l a u v d = absurd (omega (arith, (live_bounds (s.places p l) v).1.ahead))
job_fate [] t p (suc n) s l a u v d = still_live v refl (omega arith) (omega (arith, (live_bounds (s.places p l) v).1.some_left))
job_fate (Did x ∷ hs) t p (suc n) s l a u v d =
    let c = calm (arrives_at p x || closes p x) (undisturbed p hs) u in
    let q = deed_sound t x s a.0 in
    elim (job_deed t p x s l v a.0) [
      | untouched e f g ↦ fate_after t p (suc n) (Did x) hs 0 0 (suc n) refl (λ y. rw e (omega arith)) (λ y. rw (e, f)) (omega arith) (omega arith) (rw g (omega arith))
          (job_fate hs (effect t (call_of x)) p (suc n) q l a.1 c.1 (rw g v) (rw g (omega (arith, deed_clock t x))))
      | is_left e f g ↦
          let r = over_stays hs (effect t (call_of x)) p q l a.1 c.1 (rw g refl) (rw g (live_bounds (s.places p l) v).0.opened) in
          has_left r.0 (r.1 ∙ ap (λ y. y.ending) g) (rw (e, f)) (rw (e, f))
          (rw e (omega (arith, (live_bounds (s.places p l) v).1.some_left, off_row (until (suc n) hs) (effect t (call_of x)) p q l (until_allowed (suc n) hs _ a.1) (rw g refl))))
    ]
job_fate (Gave m ∷ hs) t p (suc n) s l a u v d =
    let q = slot_sound t a.0.0 s in
    let o = slot_open t p (omega (arith, s.size)) ∙ (live_bounds (s.places p l) v).0.opened in
    elim (job_slot t p s l v) [
      | goes_on z r e ↦ fate_after t p n (Gave m) hs (is_its (number (elected t)) p) 1 (suc n) refl (λ y. rw a.0.1 refl) (λ y. refl) (omega arith) (omega arith) r
          (job_fate hs (slot t) p n q l a.1 u z (omega (arith, (slot_keeps t).clock)))
      | is_spent z e k r ↦
          let f = over_stays hs (slot t) p q l a.1 u z o in
          was_spent f.0 (f.1 ∙ e) f.2 (rw a.0.1 (omega (arith, off_row (until n hs) (slot t) p q l (until_allowed n hs (slot t) a.1) z)))
      | is_late e f z g k ↦
          let r = over_stays hs (slot t) p q l a.1 u z o in
          let i : n ≡ 0 = omega arith in
          was_late r.0 (r.1 ∙ g) r.2 (rw i refl) (omega arith) (rw (i, a.0.1) (omega arith))
    ]

-- Policy 2. A live job that nobody outranks in any slot until its deadline, and that has as many ticks as it is owed slots, has them all.
pub unoutranked_served : (hs : List Happening) (t : Table) (p n : ℕ) → Sound t → t.policy ≡ 2 → p < place_count → AllAllowed t hs → (at t p).live ≡ 1 → (at t p).deadline.0 ≡ t.now.0 + n → n ≤ ticks hs → (at t p).remaining.0 ≤ n → withdrawn p (until n hs) ≡ false
    → ((since later : List Happening) (m : ℕ) → until n hs ≡ since ++ (Gave m ∷ later) → (q : ℕ) → q < place_count → (at (after t since) q).live ≡ 1 → ¬ RanksBefore (λ r. (at (after t since) r).level) q p)
    → HadAll t p n hs
unfolding ticks until withdrawn
unoutranked_served hs t p zero s two l a v d h r w none = absurd (omega (arith, (live_bounds (s.places p l) v).1.ahead))
unoutranked_served [] t p (suc n) s two l a v d h r w none = absurd (omega arith)
unoutranked_served (Did x ∷ hs) t p (suc n) s two l a v d h r w none = elim (job_deed t p x s l v a.0) [
  | untouched e f g ↦ had_after t p (suc n) (Did x) hs 0 (suc n) refl (λ y. unfold job_slots in rw e (omega arith)) (rw g (omega arith))
      (unoutranked_served hs (effect t (call_of x)) p (suc n) (deed_sound t x s a.0) (next_policy t (Did x) ∙ two) l a.1 (rw g v) (rw g (omega (arith, deed_clock t x))) h (rw g r) (rw (e, f) at w)
      (λ since later m i. none (Did x ∷ since) later m (ap (λ y. Did x ∷ y) i)))
  | is_left e f g ↦ absurd (true≢false (rw (e, f) at w))
]
unoutranked_served (Gave m ∷ hs) t p (suc n) s two l a v d h r w none = elim (job_slot t p s l v) [
  | goes_on z k e ↦ had_after t p n (Gave m) hs 1 (suc n) refl (λ y. unfold job_slots in rw its refl) (rw its' at k)
      (unoutranked_served hs (slot t) p n (slot_sound t a.0.0 s) (next_policy t (Gave m) ∙ two) l a.1 z (omega (arith, (slot_keeps t).clock)) (omega arith) (omega (arith, rw its' at k)) w
      (λ since later k i. none (Gave m ∷ since) later k (ap (λ y. Gave m ∷ y) i)))
  | is_spent z e k i ↦ had_now t p n m hs s l a (rw its refl) i z e
  | is_late e f z g k ↦ absurd (omega (arith, rw its' at k))
]
  where
    -- nobody ranks before p, so p is elected
    first : elected t ≡ place p
    first = elected_unique (live_at t) (rank_at t) place_count (elected t) (place p) (elected_ok t)
        (goes_to l (eq-eqb (at t p).live 1 v) (λ q k y z. none [] (until n hs) m refl q k (eqb-true (at t q).live 1 y) (rw two at z)))

    its' : eqb (number (elected t)) p ≡ true
    its' = rw first (unfold number in eq-eqb p p refl)

    its : eqb m p ≡ true
    its = ap (λ k. eqb k p) a.0.1 ∙ its'
