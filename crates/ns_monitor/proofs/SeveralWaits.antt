-- Waits for any of several condition variables: where they stand, and what they tell once they are over.
use Rattle.std.proofs.Common.{List, None, Option, Some, [], ap, append-nil, false, refl, subst, sym, true, ℕ, ◌++◌, ◌∙◌, ◌∷◌, ◌≡◌}
use Rattle.ns_monitor.proofs.Prelude.{Act, AnyWait, AnyWaitMeans, Await, AwaitWakeInWait, BeginsWith, Cause, Course, Cvs, Flag, Found, HasAnswered, HasComeBackFromAny, HasLeft, HasSeenTrue, HasSince, HasStoodUnwoken, Held, InHand, InWait, IsByOneOf}
use Rattle.ns_monitor.proofs.Prelude.{IsTold, IsWaitingForAny, LoadFlag, LockState, Look, Looked, MayEnd, Mode, Owed, Performed, SaysWoken, SeatOf, TableId, Told, Truths, WaitKnown, WaitsOn, WaitsStill, Walk, WokenBy, at_will}
use Rattle.ns_monitor.proofs.Prelude.{effect_of, has_some, known_of, leave_any_told, pays, row_after, section_of, since, since_then, the, waits_for_any}
use Rattle.ns_monitor.proofs.Waits.{looks_out, waits_on}

abbrev behind : {A : Type 0} → List A → List A
behind [] = []
behind (x ∷ xs) = xs

none_in : (owed : List Owed) → has_some owed ≡ false → owed ≡ []
none_in [] e = refl
none_in (wake ∷ owed) e = let f : true ≡ false = e in absurd (cc)

by_one : (cvs : Cvs) (looked : Option (Option Cause)) (by : Option ℕ) → MayEnd cvs at_will looked by → IsByOneOf cvs by
by_one cvs looked None may = tt
by_one cvs looked (Some k) may = may

module _ {C : Type 0} {N : ℕ} (truths : Truths C) where
  -- behind each step, what a seat has seen is such a history
  pub true_now : (b : Option (Walk C)) (act : Act C) (found : Found) (me now : SeatOf C N) → Performed truths b act found me now → HasSeenTrue truths now
  true_now b act found me now p =
      let d = p.did in let w = the now.0 in
      let told = subst (λ n. IsTold truths.holds n (d.history ++ d.commits) w.at.seat w.at.walk w.told) (sym d.seat_count) d.told_now in
      record { legal = told.legal; by_seats = told.by_seats; own = sym told.own_seen }

  -- behind a step that leads to a place where it pays none, a seat owes none
  pub owes_none : (act : Act C) (found : Found) (walk : Walk C) (me now : SeatOf C N) → Performed truths None act found me now → (the now.0).at.walk ≡ Some walk → pays (Some walk) ≡ false → (the now.0).at.owed ≡ []
  owes_none act found walk me now p at free = none_in (the now.0).at.owed (p.did.fits.owes.0 ∙ (ap pays at ∙ free))

  module _ (mode : Mode) (cvs : Cvs) where
    -- ---- it waits still

    -- it has found its flag set, and shown nothing to end it
    pub still_waits : (flag : ℕ) (me mid now : SeatOf C N) → flag ≡ 1 → IsWaitingForAny truths mode cvs me → Performed truths None LoadFlag (Flag flag) me mid → Performed truths None (Look at_will false) (Looked None) mid now
        → IsWaitingForAny truths mode cvs now × HasSince None (the me.0) (the now.0)
    still_waits flag me mid now set w loads looks =
        let out = looks_out truths (waits_for_any mode cvs) flag me mid set refl w.at loads in
        let on = waits_on truths (waits_for_any mode cvs) None mid now refl out looks in (
          record { at = on; true_to = true_now None (Look at_will false) (Looked None) mid now looks; owes = owes_none (Look at_will false) (Looked None) (InWait (waits_for_any mode cvs) AwaitWakeInWait) mid now looks on.walks refl; are = w.are },
          since_then None _ _ _ (since truths None LoadFlag (Flag flag) me mid loads) (since truths None (Look at_will false) (Looked None) mid now looks),
        )

    -- nothing was committed between two places where it waits
    silent : (me now : SeatOf C N) → IsWaitingForAny truths mode cvs me → IsWaitingForAny truths mode cvs now → (s : HasSince None (the me.0) (the now.0)) → s.commits ≡ []
    silent me now v w s =
        let was : HasLeft truths (the me.0).at.seat (waits_for_any mode cvs) None (the me.0).course = v.at.so_far in
        let is : HasLeft truths (the now.0).at.seat (waits_for_any mode cvs) None (the now.0).course = w.at.so_far in
        let whole : section_of truths.holds (the me.0).at.seat was.was (AnyWait cvs) ∷ s.commits ≡ section_of truths.holds (the now.0).at.seat is.was (AnyWait cvs) ∷ [] = sym (ap (λ es. es ++ s.commits) was.committed) ∙ (sym s.committed ∙ is.committed) in ap behind whole

    goes_on_waiting : (was is : TableId) (me now : SeatOf C N) → is ≡ was → IsWaitingForAny truths mode cvs me → IsWaitingForAny truths mode cvs now → HasSince None (the me.0) (the now.0)
        → WaitsOn truths (record { known = known_of was me; cvs = cvs }) (record { known = known_of is now; cvs = cvs })
    goes_on_waiting was is me now same v w s = record {
      variables = refl;
      monitor = same;
      seat_count = s.seat_count;
      seat = s.seat;
      begins = s.begins;
      begun = s.calls ∙ append-nil (the me.0).told.begun;
      mine = s.mine ∙ (ap (λ es. (the me.0).told.mine ++ es) (silent me now v w s) ∙ append-nil (the me.0).told.mine);
      true_to = w.true_to;
      call = w.at.walks ∙ sym v.at.walks;
      held = w.at.fits.0.0 ∙ sym v.at.fits.0.0;
      owes = w.owes;
      empty = w.at.empty refl;
    }

    -- the load of its flag was of a lawful state in which nobody had woken it
    stood_unwoken : (was is : TableId) (flag : ℕ) (me mid now : SeatOf C N) → flag ≡ 1 → Performed truths None LoadFlag (Flag flag) me mid → BeginsWith (the now.0).told.seen (the mid.0).told.seen → HasStoodUnwoken truths (known_of was me) (known_of is now)
    stood_unwoken was is flag me mid now set p more =
        let d = p.did in let e = effect_of truths LoadFlag (Flag flag) me mid p in
        let seen : (the mid.0).told.seen ≡ d.history = ap (λ (t : Told C N). t.seen) d.tells ∙ (ap (λ es. d.history ++ es) e.2 ∙ append-nil d.history) in
        record {
          history = d.history;
          state = d.old;
          lawful = d.lawful;
          unwoken = sym e.0 ∙ set;
          after = d.told_was.seen_of;
          before = subst (BeginsWith (the now.0).told.seen) seen more;
          own = sym d.told_was.own_of;
          front = d.made.step.front;
          view = (the me.0).at;
          back = d.made.step.back;
          there = ap (λ (x : LockState C N). x.views) (sym d.made.begins) ∙ d.made.step.was;
          seat = refl;
          stands = refl;
        }

    pub tells_still : (old : WaitKnown C N) (was is : TableId) (flag : ℕ) (me mid now : SeatOf C N) → record { known = known_of was me; cvs = cvs } ≡ old → is ≡ old.known.monitor → flag ≡ 1 →
        IsWaitingForAny truths mode cvs me → IsWaitingForAny truths mode cvs now → HasSince None (the me.0) (the now.0)
        → Performed truths None LoadFlag (Flag flag) me mid → Performed truths None (Look at_will false) (Looked None) mid now → WaitsStill truths old (record { known = known_of is now; cvs = cvs })
    tells_still old was is flag me mid now view same set v w s loads looks = subst (λ (k : WaitKnown C N). is ≡ k.known.monitor → WaitsStill truths k (record { known = known_of is now; cvs = cvs })) view (λ same. record {
      on = goes_on_waiting was is me now same v w s;
      stood = stood_unwoken was is flag me mid now set loads (since truths None (Look at_will false) (Looked None) mid now looks).begins;
    }) same

    -- ---- it has come back

    module _ (by : Option ℕ) (seat : ℕ) (row : List ℕ) (course : Course C N) where
      abbrev Over : Held C N → Type 0
      Over back = AnyWaitMeans truths seat row mode cvs at_will course by back

      says : (held : Option (Held C N)) → InHand held Over → InHand held (SaysWoken truths row mode by)
      says None m = absurd m
      says (Some back) m = record { begins = m.begins; entry = m.entry }

      told : (held : Option (Held C N)) → InHand held Over → (was : Held C N) × (course.committed ≡ section_of truths.holds seat was (AnyWait cvs) ∷ leave_any_told seat cvs by) × IsByOneOf cvs by
      told None m = absurd m
      told (Some back) m = (m.was, m.committed, by_one cvs course.looked by m.may)

    pub has_come_back : (by : Option ℕ) (old : WaitKnown C N) (was is : TableId) (me now : SeatOf C N) → record { known = known_of was me; cvs = cvs } ≡ old → is ≡ old.known.monitor →
        IsWaitingForAny truths mode cvs me → HasSince None (the me.0) (the now.0) → HasAnswered truths (Await (waits_for_any mode cvs)) (WokenBy by) now
        → HasComeBackFromAny truths mode by old (known_of is now)
    has_come_back by old was is me now view same w s a = subst (λ (k : WaitKnown C N). is ≡ k.known.monitor → HasComeBackFromAny truths mode by k (known_of is now)) view (λ same.
        let v = the me.0 in let u = the now.0 in
        let left : HasLeft truths v.at.seat (waits_for_any mode cvs) None v.course = w.at.so_far in
        let m = told by u.at.seat (row_after u.told.seen) u.course u.at.held a.means in
        let whole : section_of truths.holds v.at.seat left.was (AnyWait cvs) ∷ s.commits ≡ section_of truths.holds u.at.seat m.0 (AnyWait cvs) ∷ leave_any_told u.at.seat cvs by = sym (ap (λ es. es ++ s.commits) left.committed) ∙ (sym s.committed ∙ m.1) in
        let commits : s.commits ≡ leave_any_told v.at.seat cvs by = ap behind whole ∙ ap (λ n. leave_any_told n cvs by) s.seat in record {
          monitor = same;
          seat_count = s.seat_count;
          seat = s.seat;
          begins = s.begins;
          begun = s.calls ∙ append-nil v.told.begun;
          mine = s.mine ∙ ap (λ es. v.told.mine ++ es) commits;
          among = m.2;
          back = says by u.at.seat (row_after u.told.seen) u.course u.at.held a.means;
          true_to = a.rest.true_to;
          over = a.rest.over;
          owes = a.rest.owes;
          empty = a.rest.empty;
        }) same
