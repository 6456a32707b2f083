-- What the steps leave of the waiters: each stands where it did, or where it ought to.
use Rattle.std.proofs.Common.{Bool, Option, Some, [], ap, arith, cond, eq-eqb, eqb, false, inl, inr, length, ne_eqb, refl, subst, sym, true, ℕ, ◌&&◌, ◌+◌, ◌<◌, ◌∷◌, ◌≡◌, ◌≢◌, ◌≤◌}
use Rattle.ns_word.proofs.Prelude.{InAcquire, InQueuing, InWait, Lists, LoadToScan, Owed, Queue, QueueToWait, WaitersPlaced, Walk, awaits, cases_eq, counts_in, flags_with, has_armed, is_armed, is_unwoken, one_if, one_most, owed_to, times_among, walk_at, ◌∙◌}
use Rattle.ns_word.proofs.Bases.{Move, OnceInEach, news, olds, owed_at, view_of, walk_is, walk_stays, walk_was}

pub not_due : {C : Type 0} (walk : Option (Walk C)) (flag : ℕ) → awaits walk ≡ false → is_unwoken walk flag ≡ false
not_due walk flag e = rw e refl

-- who is about to queue doesn't wait
pub unqueued : {C : Type 0} (walk : Option (Walk C)) → has_armed walk ≡ true → awaits walk ≡ false
unqueued (Some (InAcquire aim (Queue arrival last))) e = refl
unqueued (Some (InWait wait (InQueuing again (LoadToScan last i)))) e = refl
unqueued (Some (InWait wait (InQueuing again (QueueToWait last)))) e = refl
unqueued _ e = absurd (cc)

-- nor does one whose flag has another value than 1
pub cleared : {C : Type 0} (walk : Option (Walk C)) (flag : ℕ) → flag ≢ 1 → is_unwoken walk flag ≡ false
cleared walk flag ne = rw (ne_eqb flag 1 ne) (elim (awaits walk) as (λ b. (b && false) ≡ false) [ true ↦ refl | false ↦ refl ])

-- One seat's view changes, and so may the lists and the flags: it is enough to look at each seat's own balance.
module _ {C : Type 0} {N : ℕ} (m : Move C N) where
  open m use {front, who, walk, held, owed, walk', held', owed', back}

  balance : (seat : ℕ) (lists lists' : Lists C) (b b' : Bool) →
      counts_in seat lists' + times_among seat owed' + cond b 1 0 ≡ counts_in seat lists + times_among seat owed + cond b' 1 0 →
      counts_in seat lists + owed_to seat (olds m) ≡ cond b 1 0 →
      counts_in seat lists' + owed_to seat (news m) ≡ cond b' 1 0
  balance seat lists lists' b b' e p =
      let was = owed_at seat front (view_of who walk held owed) back in
      let is = owed_at seat front (view_of who walk' held' owed') back in
      omega (arith, e, p, was, is)

  pub balanced : (lists lists' : Lists C) (flags flags' : ℕ → ℕ) → length lists'.cvs ≡ 4 → OnceInEach lists' →
      -- the seat of the view
      counts_in who lists' + times_among who owed' + one_if (is_unwoken walk (flags who)) ≡ counts_in who lists + times_among who owed + one_if (is_unwoken walk' (flags' who)) →
      (has_armed walk' ≡ true → flags' who ≡ 1) →
      -- every other
      ((seat : ℕ) → who ≢ seat →
      counts_in seat lists' + times_among seat owed' + one_if (is_unwoken (walk_at seat (olds m)) (flags seat)) ≡ counts_in seat lists + times_among seat owed + one_if (is_unwoken (walk_at seat (olds m)) (flags' seat))) →
      ((seat : ℕ) → who ≢ seat → has_armed (walk_at seat (olds m)) ≡ true → flags' seat ≡ 1) →
      ((seat : ℕ) → flags' seat < 10) →
      WaitersPlaced lists flags (olds m) → WaitersPlaced lists' flags' (news m)
  balanced lists lists' flags flags' four once here set there sets bound p =
      record {
        placed = λ seat. elim (cases_eq who seat) [
          | inl e ↦ subst (λ s. counts_in s lists' + owed_to s (news m) ≡ one_if (is_unwoken (walk_at s (news m)) (flags' s))) e
              (rw (walk_is m) (balance who lists lists' (is_unwoken walk (flags who)) (is_unwoken walk' (flags' who)) here
              (subst (λ w. counts_in who lists + owed_to who (olds m) ≡ one_if (is_unwoken w (flags who))) (walk_was m) (p.placed who))))
          | inr ne ↦ rw (walk_stays m seat ne) (balance seat lists lists' (is_unwoken (walk_at seat (olds m)) (flags seat)) (is_unwoken (walk_at seat (olds m)) (flags' seat)) (there seat ne) (p.placed seat))
        ];
        armed = λ seat f. elim (cases_eq who seat) [
          | inl e ↦ subst (λ s. flags' s ≡ 1) e (set (subst (λ w. has_armed w ≡ true) (walk_is m) (subst (λ s. has_armed (walk_at s (news m)) ≡ true) (sym e) f)))
          | inr ne ↦ sets seat ne (subst (λ w. has_armed w ≡ true) (walk_stays m seat ne) f)
        ];
        flag = bound;
        four = four;
        once = once;
      }

  -- how the seat itself is placed
  pub placed_here : (lists : Lists C) (flags : ℕ → ℕ) → WaitersPlaced lists flags (olds m) → counts_in who lists + owed_to who (olds m) ≡ one_if (is_unwoken walk (flags who))
  placed_here lists flags p = p.placed who ∙ ap (λ w. one_if (is_unwoken w (flags who))) (walk_was m)

  -- ---- the kinds

  -- lists, flags and owed wakes stay
  pub rested : (lists : Lists C) (flags : ℕ → ℕ) → owed' ≡ owed →
      one_if (is_unwoken walk' (flags who)) ≡ one_if (is_unwoken walk (flags who)) → (has_armed walk' ≡ true → has_armed walk ≡ true) →
      WaitersPlaced lists flags (olds m) → WaitersPlaced lists flags (news m)
  rested lists flags owes due set p =
      balanced lists lists flags flags p.four p.once
      (rw owes (omega (arith, due)))
      (λ f. p.armed who (rw (walk_was m) (set f)))
      (λ seat ne. rw owes refl)
      (λ seat ne f. p.armed seat f)
      p.flag p

  -- a seat sets its flag
  pub armed : (lists : Lists C) (flags : ℕ → ℕ) → owed' ≡ owed → awaits walk ≡ false → awaits walk' ≡ false →
      WaitersPlaced lists flags (olds m) → WaitersPlaced lists (flags_with flags who 1) (news m)
  armed lists flags owes a a' p = balanced lists lists flags (flags_with flags who 1) p.four p.once
      (rw owes (rw (not_due walk (flags who) a) (rw (not_due walk' (flags_with flags who 1 who) a') refl)))
      (λ f. rw (eq-eqb who who refl) refl)
      (λ seat ne. rw owes (rw (ne_eqb who seat ne) refl))
      (λ seat ne f. rw (ne_eqb who seat ne) (p.armed seat f))
      (λ seat. elim (eqb who seat) as (λ b. cond b 1 (flags seat) < 10) [ true ↦ omega arith | false ↦ p.flag seat ]) p

  -- some go from the lists to those who are owed wakes, or within the lists, and the seat doesn't wait
  pub taken : (lists lists' : Lists C) (flags : ℕ → ℕ) → length lists'.cvs ≡ 4 → OnceInEach lists' → owed ≡ [] → ((seat : ℕ) → counts_in seat lists' + times_among seat owed' ≡ counts_in seat lists) →
      awaits walk ≡ false → awaits walk' ≡ false → has_armed walk' ≡ false →
      WaitersPlaced lists flags (olds m) → WaitersPlaced lists' flags (news m)
  taken lists lists' flags four once none all a a' set' p =
      let sum : (seat : ℕ) → counts_in seat lists' + times_among seat owed' ≡ counts_in seat lists + times_among seat owed = λ seat. let was : times_among seat owed ≡ 0 = rw none refl in omega (arith, all seat, was) in
      balanced lists lists' flags flags four once
      (rw (not_due walk (flags who) a) (rw (not_due walk' (flags who) a') (ap (λ n. n + 0) (sum who))))
      (λ f. absurd (cc))
      (λ seat ne. ap (λ n. n + one_if (is_unwoken (walk_at seat (olds m)) (flags seat))) (sum seat))
      (λ seat ne f. p.armed seat f)
      p.flag p

  -- the same, and the seat puts itself in
  pub entered : (lists lists' : Lists C) (flags : ℕ → ℕ) → length lists'.cvs ≡ 4 → OnceInEach lists' → owed ≡ [] → ((seat : ℕ) → counts_in seat lists' + times_among seat owed' ≡ one_if (eqb who seat) + counts_in seat lists) →
      has_armed walk ≡ true → awaits walk ≡ false → awaits walk' ≡ true → has_armed walk' ≡ false →
      WaitersPlaced lists flags (olds m) → WaitersPlaced lists' flags (news m)
  entered lists lists' flags four once none all set a a' set' p =
      let one : flags who ≡ 1 = p.armed who (rw (walk_was m) set) in
      let nothing : (seat : ℕ) → times_among seat owed ≡ 0 = λ seat. rw none refl in
      balanced lists lists' flags flags four once
      (let before : one_if (is_unwoken walk (flags who)) ≡ 0 = ap one_if (not_due walk (flags who) a) in
      let after_all : one_if (is_unwoken walk' (flags who)) ≡ 1 = rw a' (rw one refl) in
      let self : one_if (eqb who who) ≡ 1 = ap one_if (eq-eqb who who refl) in
      omega (arith, all who, nothing who, before, after_all, self))
      (λ f. absurd (cc))
      (λ seat ne. let other : one_if (eqb who seat) ≡ 0 = ap one_if (ne_eqb who seat ne) in omega (arith, all seat, nothing seat, other))
      (λ seat ne f. p.armed seat f)
      p.flag p

  -- a seat takes itself out of a list where it stands there, and else waits on
  pub withdraws : (lists lists' : Lists C) (n : ℕ) (flags : ℕ → ℕ) → length lists'.cvs ≡ 4 → OnceInEach lists' → owed' ≡ owed → has_armed walk' ≡ false →
      counts_in who lists' + n ≡ counts_in who lists → ((seat : ℕ) → who ≢ seat → counts_in seat lists' ≡ counts_in seat lists) →
      (1 ≤ n → awaits walk' ≡ false) → (n ≡ 0 → awaits walk' ≡ awaits walk) →
      WaitersPlaced lists flags (olds m) → WaitersPlaced lists' flags (news m)
  withdraws lists lists' n flags four once owes set' gone others goes stays p =
      let same : times_among who owed' ≡ times_among who owed = ap (times_among who) owes in
      let sum = placed_here lists flags p in
      let most = one_most (is_unwoken walk (flags who)) in
      balanced lists lists' flags flags four once
      (elim (cases_eq n 0) [
        | inl none ↦ let due : one_if (is_unwoken walk' (flags who)) ≡ one_if (is_unwoken walk (flags who)) = ap (λ b. one_if (b && is_armed (flags who))) (stays none) in omega (arith, gone, same, none, due)
        | inr some ↦ let due : one_if (is_unwoken walk' (flags who)) ≡ 0 = ap one_if (not_due walk' (flags who) (goes (omega (arith, some)))) in omega (arith, gone, same, sum, most, some, due)
      ])
      (λ f. absurd (cc))
      (λ seat ne. rw owes (rw (others seat ne) refl))
      (λ seat ne f. p.armed seat f)
      p.flag p

  -- one that the seat owes a wake is due
  pub due_of : (wake : Owed) (seat : ℕ) (lists : Lists C) (flags : ℕ → ℕ) → owed ≡ wake ∷ owed' → wake.seat ≡ seat → WaitersPlaced lists flags (olds m) → one_if (is_unwoken (walk_at seat (olds m)) (flags seat)) ≡ 1
  due_of wake seat lists flags owes e p =
      let all = owed_at seat front (view_of who walk held owed) back in
      let one : times_among seat owed ≡ 1 + times_among seat owed' = ap (times_among seat) owes ∙ rw (eq-eqb wake.seat seat e) refl in
      let most = one_most (is_unwoken (walk_at seat (olds m)) (flags seat)) in
      let sum : counts_in seat lists + owed_to seat (olds m) ≡ one_if (is_unwoken (walk_at seat (olds m)) (flags seat)) = p.placed seat in
      omega (arith, all, one, most, sum)

  -- a seat clears the flag of one that is owed a wake
  pub woke : (wake : Owed) (lists : Lists C) (flags : ℕ → ℕ) → owed ≡ wake ∷ owed' → wake.value ≢ 1 → wake.value < 10 → awaits walk' ≡ awaits walk → has_armed walk' ≡ false →
      WaitersPlaced lists flags (olds m) → WaitersPlaced lists (flags_with flags wake.seat wake.value) (news m)
  woke wake lists flags owes clear few a set' p =
      let target = wake.seat in let value = wake.value in
      let count : (seat : ℕ) → times_among seat owed ≡ one_if (eqb target seat) + times_among seat owed' = λ seat. ap (times_among seat) owes in
      let due : (seat : ℕ) → target ≡ seat → one_if (is_unwoken (walk_at seat (olds m)) (flags seat)) ≡ 1 = λ seat e. due_of wake seat lists flags owes e p in
      let each : (seat : ℕ) → counts_in seat lists + times_among seat owed' + one_if (is_unwoken (walk_at seat (olds m)) (flags seat)) ≡ counts_in seat lists + times_among seat owed + one_if (is_unwoken (walk_at seat (olds m)) (flags_with flags target value seat)) =
      λ seat. elim (cases_eq target seat) [
        | inl e ↦ let one : times_among seat owed ≡ 1 + times_among seat owed' = count seat ∙ rw (eq-eqb target seat e) refl in
            let none : one_if (is_unwoken (walk_at seat (olds m)) (flags_with flags target value seat)) ≡ 0 = rw (eq-eqb target seat e) (rw (cleared (walk_at seat (olds m)) value clear) refl) in
            omega (arith, one, none, due seat e)
        | inr ne ↦ rw (ne_eqb target seat ne) (let same : times_among seat owed ≡ times_among seat owed' = count seat ∙ rw (ne_eqb target seat ne) (omega arith) in omega (arith, same))
      ] in
      balanced lists lists flags (flags_with flags target value) p.four p.once
      (rw a (subst (λ w. counts_in who lists + times_among who owed' + one_if (is_unwoken w (flags who)) ≡ counts_in who lists + times_among who owed + one_if (is_unwoken w (flags_with flags target value who))) (walk_was m) (each who)))
      (λ f. absurd (cc))
      (λ seat ne. each seat)
      (λ seat ne f. elim (cases_eq target seat) [
        | inl e ↦ let none : one_if (is_unwoken (walk_at seat (olds m)) (flags seat)) ≡ 0 = rw (not_due (walk_at seat (olds m)) (flags seat) (unqueued (walk_at seat (olds m)) f)) refl in absurd (omega (arith, none, due seat e))
        | inr other ↦ rw (ne_eqb target seat other) (p.armed seat f)
      ])
      (λ seat. elim (eqb target seat) as (λ b. cond b value (flags seat) < 10) [ true ↦ few | false ↦ p.flag seat ]) p

  -- a seat sees its flag cleared
  pub seen : (lists : Lists C) (flags : ℕ → ℕ) → owed' ≡ owed → flags who ≢ 1 → awaits walk' ≡ false → has_armed walk' ≡ false →
      WaitersPlaced lists flags (olds m) → WaitersPlaced lists flags (news m)
  seen lists flags owes clear a' set' p =
      rested lists flags owes (rw (cleared walk (flags who) clear) (rw (cleared walk' (flags who) clear) refl)) (λ f. absurd (cc)) p
