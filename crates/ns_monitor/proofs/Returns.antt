-- The rounds of a wait for a condition: where it goes by what it tests and sees.
use Rattle.std.proofs.Common.{Bool, List, None, Option, Some, ap, cond, false, inl, inr, is_some, option_map, refl, subst, sym, true, ℕ, ⊎_elim, ◌-◌, ◌||◌, ◌∙◌, ◌≡◌, ◌⊎◌}
use Rattle.ns_monitor.proofs.Prelude.{Answer, Await, Canceled, Cause, EnvEvent, EnvKnown, Expired, ForWait, HadLooked, HasAcquired, HasLooked, HasReached, HasRow, HasTested}
use Rattle.ns_monitor.proofs.Prelude.{Held, IfAnswered, InQueuing, InWait, IsAtPlace, IsFresh, IsFreshIn, IsInRange, IsWide, Limits, Load, Look, LookIn, LookShows, Looked, Met, Mode, Note, Notified, On, OnCondition, OnReturn, Outcome, Part, Performed, PlaceFits}
use Rattle.ns_monitor.proofs.Prelude.{QueuesOrEnds, SeatOf, SeatView, Subject, TestCells, TestLast, Tests, TimedOut, Truths, Visit, Wait, answer_of, back_with, does, goes, got_queuing, hand_of, held_after, held_by, is_limited, limits_of}
use Rattle.ns_monitor.proofs.Prelude.{look_or_queue, test_place, tested_by, the}

-- a wait for a condition is for something that there is
pub in_range : {C : Type 0} (on : Subject C) (c : C) → on ≡ OnCondition c → IsInRange on
in_range on c is = subst IsInRange (sym is) tt

-- and has its row at hand
pub has_row : {C : Type 0} (on : Subject C) (c : C) (row held : List ℕ) → on ≡ OnCondition c → row ≡ held → HasRow on row held
has_row on c row held is same = subst (λ o. HasRow o row held) (sym is) same

-- what is so of a cause is so of the answer that it makes
pub ended_as : (so : Cause → Type 0) (cause : Cause) (answer : Answer) → answer ≡ answer_of cause → so cause → IfAnswered answer so
ended_as so Expired answer is shown = subst (λ a. IfAnswered a so) (sym is) shown
ended_as so Notified answer is shown = subst (λ a. IfAnswered a so) (sym is) shown

-- and as it is so of each cause
pub ended_since : (so then : Cause → Type 0) (answer : Answer) → ((cause : Cause) → so cause → then cause) → IfAnswered answer so → IfAnswered answer then
ended_since so then Met each shown = tt
ended_since so then TimedOut each shown = each Expired shown
ended_since so then Canceled each shown = each Notified shown

module _ {C : Type 0} {N : ℕ} (truths : Truths C) where
  -- ---- a section that came back

  fresh_by : (wait : Wait C) (outcome : Outcome) (held : Option (Held C N)) → Tests truths wait (OnReturn outcome) held → IsWide held → IsFreshIn N wait.mode held
  fresh_by wait outcome None t wide = absurd t
  fresh_by wait outcome (Some section) t wide = record { mode_is = t.0; width = wide.0; row_is = t.1.cells }

  tests_at : (wait : Wait C) (visit : Visit) (b : Bool) (i j : ℕ) (held : Option (Held C N)) → PlaceFits truths (Some (cond b (InWait wait (TestCells visit i)) (InWait wait (TestLast visit j)))) held → Tests truths wait visit held
  tests_at wait visit true i j held fits = fits.0.0
  tests_at wait visit false i j held fits = fits.0.0

  -- has just begun
  pub comes_fresh : (wait : Wait C) (outcome : Outcome) (me : SeatOf C N) → IsAtPlace truths (test_place N wait (OnReturn outcome) 0) me → IsFreshIn N wait.mode (the me.0).at.held
  comes_fresh wait outcome me at = fresh_by wait outcome (the me.0).at.held (tests_at wait (OnReturn outcome) _ 0 (N - 1) (the me.0).at.held at.fits) at.wide

  -- ---- where a wait goes

  -- one that has acquired goes to test
  pub back_to_test : (wait : Wait C) (c : C) (outcome : Outcome) (me : SeatOf C N) → wait.on ≡ OnCondition c → HasAcquired truths (ForWait wait outcome) me → IsAtPlace truths (test_place N wait (OnReturn outcome) 0) me
  back_to_test wait c outcome me is acquired = subst (λ next. HasReached truths (Await wait) next me) (ap (λ on. back_with N on wait outcome) is) acquired

  -- and by the truth of its condition
  pub tested_so : (wait : Wait C) (visit : Visit) (c : C) (met b : Bool) (row : List ℕ) (me now : SeatOf C N) → met ≡ b → HasTested truths wait visit c met row me now → HasReached truths (Await wait) (tested_by wait visit b) now
  tested_so wait visit c met b row me now is t = subst (λ x. HasReached truths (Await wait) (tested_by wait visit x) now) is t.leads

  -- ---- a look before it queues

  pub by_limits : (wait : Wait C) (again b : Bool) (me : SeatOf C N) → is_limited wait.limits ≡ b → HasReached truths (Await wait) (look_or_queue wait again) me → HasReached truths (Await wait) (cond b (On (InWait wait (InQueuing again LookIn))) (On (InWait wait (InQueuing again Load)))) me
  by_limits wait again b me is led = subst (λ x. HasReached truths (Await wait) (cond x (On (InWait wait (InQueuing again LookIn))) (On (InWait wait (InQueuing again Load)))) me) is led

  -- it leaves the section in hand, but for the cause that one which came back goes by
  held_looked : (limits : Limits) (again : Bool) (shown : Option Cause) (me now : SeatOf C N) → Performed truths None (Look limits again) (Looked shown) me now → (the now.0).at.held ≡ held_after again shown (the me.0).at.held
  held_looked limits again shown me now p = let e = does truths None (Look limits again) (Looked shown) me now p in ap (λ (x : SeatView C N). x.held) p.did.becomes ∙ ap (λ (q : Part C N). q.held) e.1

  pub looks_in : (wait : Wait C) (again : Bool) (shown : Option Cause) (me now : SeatOf C N) → IsAtPlace truths (InWait wait (InQueuing again LookIn)) me → Performed truths None (Look wait.limits again) (Looked shown) me now → QueuesOrEnds truths wait again shown me now
  looks_in wait again None me now at p = (goes truths (InWait wait (InQueuing again LookIn)) (Look wait.limits again) (Looked None) (On (InWait wait (InQueuing again Load))) me now at refl refl refl p, held_looked wait.limits again None me now p)
  looks_in wait again (Some cause) me now at p = (
    goes truths (InWait wait (InQueuing again LookIn)) (Look wait.limits again) (Looked (Some cause)) (got_queuing N wait again LookIn (Looked (Some cause))) me now at refl refl refl p,
    λ first. held_looked wait.limits again (Some cause) me now p ∙ ap (λ (b : Bool). cond b (held_by cause (the me.0).at.held) (the me.0).at.held) first,
  )

  still_fresh : (mode : Mode) (again : Bool) (shown : Option Cause) (held : Option (Held C N)) → IsFreshIn N mode held → IsFreshIn N mode (held_after again shown held)
  still_fresh mode again None held is = is
  still_fresh mode again (Some cause) None is = absurd is
  still_fresh mode false (Some cause) (Some held) is = is
  still_fresh mode true (Some cause) (Some held) is = record { mode_is = is.mode_is; width = is.width; row_is = is.row_is }

  pub look_fresh : (wait : Wait C) (again : Bool) (shown : Option Cause) (me now : SeatOf C N) → Performed truths None (Look wait.limits again) (Looked shown) me now → IsFreshIn N wait.mode (the me.0).at.held → IsFreshIn N wait.mode (the now.0).at.held
  look_fresh wait again shown me now p is = subst (IsFreshIn N wait.mode) (sym (held_looked wait.limits again shown me now p)) (still_fresh wait.mode again shown (the me.0).at.held is)

-- what is so of each section that has just begun is so of the one in hand
pub fits_fresh : {C : Type 0} (N : ℕ) (mode : Mode) (held : Option (Held C N)) (fits : Option (Held C N) → Type 0) → ((section : Held C N) → IsFresh N mode section → fits (Some section)) → IsFreshIn N mode held → fits held
fits_fresh N mode held fits each h = let section = hand_of (IsFreshIn N mode) held (λ e. e) h in subst fits (sym section.1) (each section.0 section.2)

-- it was told the note's number, and left its section only once a look had shown nothing, to a seat that has seen this
pub looked_by : (P : Type 0) (note : Option Note) (deadline number : Option ℕ) (old new : EnvKnown) (seen : List EnvEvent) → seen ≡ new.seen → number ≡ option_map (λ n. n.index) note →
    (is_limited (record { deadline = deadline; note = number }) ≡ true → P ⊎ LookShows (record { deadline = deadline; note = number }) old new None) → is_some deadline || is_some note ≡ true → P ⊎ HadLooked note deadline old.seen seen
looked_by P given deadline number old new seen same is before limited =
    let none = subst (λ (x : List EnvEvent × Option ℕ). HasLooked (record { deadline = deadline; note = x.1 }) None old.seen x.0) (λ i. (sym same i, is i)) in
    ⊎_elim (λ kept. inl kept) (λ shown. inr (record { none = none shown })) (before (ap (λ o. is_limited (record { deadline = deadline; note = o })) is ∙ named given limited)) where
      named : (o : Option Note) → is_some deadline || is_some o ≡ true → is_limited (limits_of deadline o) ≡ true
      named None l = l
      named (Some n) l = l
