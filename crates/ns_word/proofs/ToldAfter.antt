-- What a step leaves of what the seats were told.
use Rattle.std.proofs.Common.{All, Bool, List, None, Option, Some, [], ap, append-nil, append_assoc, eq-eqb, eqb, ne_eqb, refl, subst, sym, ℕ, ◌++◌, ◌<◌, ◌∷◌, ◌≡◌, ◌≢◌, ◌≤◌}
use Rattle.ns_word.proofs.Prelude.{All-append, All-nil, All-push, AreBy, BeginsIf, BeginsWith, Event, Found, IsBySeats, IsFirst, IsLawful, IsLed, IsLegal, IsTold, LedBy, LockState, QuietKeeps, SeatStep, SeatView, Step, Told, Truths, Walk, calls_of, filter-append, got_of, nothing_told, own}
use Rattle.ns_word.proofs.Prelude.{place_after, told_after, view_in, walk_over, want_of, who_of, ◌∙◌}
use Rattle.ns_word.proofs.Starts.{begins}
use Rattle.ns_word.proofs.Dispatch.{keeps}
use Rattle.ns_word.proofs.Effects.{makes}

-- what was found leads on from where what was found before it led
over_more : {C : Type 0} (N : ℕ) (founds : List Found) (found : Found) (from : Option (Walk C)) (walk : Walk C) → walk_over N founds from ≡ Some walk → walk_over N (founds ++ found ∷ []) from ≡ place_after (got_of N walk found)
over_more N [] found from walk e = ap (walk_over N (found ∷ [])) e
over_more N (before ∷ founds) found None walk e = absurd (cc)
over_more N (before ∷ founds) found (Some first) walk e = over_more N founds found (place_after (got_of N first before)) walk e

led_at : {C : Type 0} (N : ℕ) (begun : List (Walk C)) (next : Option (Walk C)) (earlier : List (Walk C)) (first : Walk C) (founds : List Found) → begun ≡ earlier ++ first ∷ [] → walk_over N founds (Some first) ≡ next → IsLed N begun next
led_at N begun None earlier first founds last leads = tt
led_at N begun (Some walk) earlier first founds last leads = record { earlier = earlier; first = first; founds = founds; last = last; leads = leads }

led_on : {C : Type 0} (N : ℕ) (begun : List (Walk C)) (walk : Walk C) (found : Found) → LedBy N begun walk → IsLed N begun (place_after (got_of N walk found))
led_on N begun walk found led = led_at N begun (place_after (got_of N walk found)) led.earlier led.first (led.founds ++ found ∷ []) led.last (over_more N led.founds found (Some led.first) walk led.leads)

module _ {C : Type 0} {N : ℕ} where
  -- what a step commits is its seat's
  pub step_by : (truths : Truths C) (old : LockState C N) (view : SeatView C N) (found : Found) (new : LockState C N) (commits : List (Event C N)) → Step truths old view found new commits → AreBy view.seat commits
  step_by truths old view found new commits step = (makes truths view.seat (want_of step.walk) _ found _ commits step.effect).by

  -- of a seat's own events all are its own, of another's none
  pub own_all : (seat : ℕ) (commits : List (Event C N)) → AreBy seat commits → own commits seat ≡ commits
  own_all seat [] p = refl
  own_all seat (e ∷ es) p = rw (eq-eqb (who_of e) seat p.0) (ap (λ xs. e ∷ xs) (own_all seat es p.1))

  pub own_none : (seat other : ℕ) (commits : List (Event C N)) → seat ≢ other → AreBy seat commits → own commits other ≡ []
  own_none seat other [] ne p = refl
  own_none seat other (e ∷ es) ne p = rw (ne_eqb (who_of e) other (λ f. ne (sym p.0 ∙ f))) (own_none seat other es ne p.1)

  pub own_append : (seat : ℕ) (g h : List (Event C N)) → own (g ++ h) seat ≡ own g seat ++ own h seat
  own_append seat g h = filter-append (λ event. eqb (who_of event) seat) g h

  -- the seat that steps
  pub told_here : (holds : C → List ℕ → Bool) (seats : ℕ) (h : List (Event C N)) (seat : ℕ) (walk walk' : Option (Walk C)) (commits : List (Event C N)) (begun : List (Walk C)) (told : Told C N) → AreBy seat commits →
      IsLegal holds (h ++ commits) → IsBySeats seats (h ++ commits) → All (IsFirst N) begun → IsLed N (told.begun ++ begun) walk' → IsTold holds seats h seat walk told → IsTold holds seats (h ++ commits) seat walk' (told_after h commits begun told)
  told_here holds seats h seat walk walk' commits begun told by legal by_seats firsts led p =
      let mine : told.mine ++ commits ≡ own (h ++ commits) seat = ap (λ xs. xs ++ commits) p.own_of ∙ ap (λ xs. own h seat ++ xs) (sym (own_all seat commits by)) ∙ sym (own_append seat h commits) in
      record {
        seen_of = ([], sym (append-nil (h ++ commits)));
        legal = legal;
        by_seats = by_seats;
        own_of = mine;
        own_seen = mine;
        firsts = All-append (IsFirst N) told.begun begun p.firsts firsts;
        led = led;
      }

  -- what a seat has seen goes on being a beginning
  pub seen_grows : (h seen commits : List (Event C N)) → BeginsWith h seen → BeginsWith (h ++ commits) seen
  seen_grows h seen commits p = (p.0 ++ commits, ap (λ xs. xs ++ commits) p.1 ∙ append_assoc seen p.0 commits)

  -- another seat
  pub told_there : (holds : C → List ℕ → Bool) (seats : ℕ) (h : List (Event C N)) (seat other : ℕ) (walk : Option (Walk C)) (commits : List (Event C N)) (told : Told C N) → AreBy seat commits → seat ≢ other →
      IsTold holds seats h other walk told → IsTold holds seats (h ++ commits) other walk told
  told_there holds seats h seat other walk commits told by ne p = record {
    seen_of = seen_grows h told.seen commits p.seen_of;
    legal = p.legal;
    by_seats = p.by_seats;
    own_of = p.own_of ∙ sym (own_append other h commits ∙ ap (λ xs. own h other ++ xs) (own_none seat other commits ne by) ∙ append-nil (own h other));
    own_seen = p.own_seen;
    firsts = p.firsts;
    led = p.led;
  }

  -- at first nobody was told anything
  pub told_first : (holds : C → List ℕ → Bool) (seats seat : ℕ) → IsTold {C = C} {N = N} holds seats [] seat None nothing_told
  told_first holds seats seat = record { seen_of = ([], refl); legal = tt; by_seats = tt; own_of = refl; own_seen = refl; firsts = All-nil (IsFirst N); led = tt }

module _ {C : Type 0} {N : ℕ} (truths : Truths C) where
  -- where a call begins with the step, or goes on
  led_if : (view : SeatView C N) (begun : Option (Walk C)) (between : LockState C N) (found : Found) (new : LockState C N) (commits : List (Event C N)) (old : LockState C N) → BeginsIf truths old view begun between → (step : Step truths between (view_in view begun) found new commits) →
      (told : List (Walk C)) → IsLed N told view.walk → All (IsFirst N) (calls_of begun) × IsLed N (told ++ calls_of begun) (place_after (got_of N step.walk found))
  led_if view None between found new commits old start step told was =
      let led : LedBy N told step.walk = subst (λ walk. IsLed N told walk) step.walks was in
      (All-nil (IsFirst N), subst (λ begun. IsLed N begun (place_after (got_of N step.walk found))) (sym (append-nil told)) (led_on N told step.walk found led))
  led_if view (Some walk) between found new commits old start step told was =
      let same : walk ≡ step.walk = cc (step.walks) in
      (All-push (IsFirst N) [] walk (All-nil (IsFirst N)) start.first, led_at N (told ++ walk ∷ []) (place_after (got_of N step.walk found)) told walk (found ∷ []) refl (ap (λ w. place_after (got_of N w found)) same))

  -- a view's number stays where its call begins
  pub seat_in : (view : SeatView C N) (begun : Option (Walk C)) → (view_in view begun).seat ≡ view.seat
  seat_in view None = refl
  seat_in view (Some walk) = refl

  pub seat_step_by : (old : LockState C N) (view : SeatView C N) (begun : Option (Walk C)) (found : Found) (new : LockState C N) (commits : List (Event C N)) → SeatStep truths old view begun found new commits → AreBy view.seat commits
  seat_step_by old view begun found new commits made = subst (λ seat. AreBy seat commits) (seat_in view begun) (step_by truths made.between (view_in view begun) found new commits made.step)

module _ {C : Type 0} {N : ℕ} (truths : Truths C) (cells : 0 < N) (quiet : QuietKeeps N truths) (seats : ℕ) (h : List (Event C N)) (few : seats ≤ 64) where
  -- a lock stays lawful where a call begins, or none does
  pub begins_if : (old : LockState C N) (view : SeatView C N) (begun : Option (Walk C)) (between : LockState C N) → BeginsIf truths old view begun between → IsLawful truths seats h old → IsLawful truths seats h between
  begins_if old view None between same p = subst (IsLawful truths seats h) (sym same) p
  begins_if old view (Some walk) between start p = begins truths seats h old view walk between start p

  pub seat_steps_keep : (old : LockState C N) (view : SeatView C N) (begun : Option (Walk C)) (found : Found) (new : LockState C N) (commits : List (Event C N)) →
      SeatStep truths old view begun found new commits → IsLawful truths seats h old → IsLawful truths seats (h ++ commits) new
  seat_steps_keep old view begun found new commits made p =
      keeps truths cells quiet seats h made.between (view_in view begun) found new commits few made.step (begins_if old view begun made.between made.begins p)

  pub seat_step_tells : (old : LockState C N) (view : SeatView C N) (begun : Option (Walk C)) (found : Found) (new : LockState C N) (commits : List (Event C N)) → (made : SeatStep truths old view begun found new commits) → IsLawful truths seats h old →
      (told : Told C N) → IsTold truths.holds seats h view.seat view.walk told →
      IsTold truths.holds seats (h ++ commits) view.seat (place_after (got_of N made.step.walk found)) (told_after h commits (calls_of begun) told) × BeginsWith (h ++ commits) told.seen
  seat_step_tells old view begun found new commits made p told was =
      let after_all = seat_steps_keep old view begun found new commits made p in
      let led = led_if truths view begun made.between found new commits old made.begins made.step told.begun was.led in (
        told_here truths.holds seats h view.seat view.walk (place_after (got_of N made.step.walk found)) commits (calls_of begun) told
            (seat_step_by truths old view begun found new commits made) after_all.one_history.legal after_all.one_history.by_seats led.0 led.1 was,
        seen_grows h told.seen commits was.seen_of,
      )
