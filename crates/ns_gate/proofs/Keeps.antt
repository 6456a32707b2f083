-- A step of the machine keeps the rule.
use Rattle.std.proofs.Common.{IfSome, List, None, Option, Some, [], ap, arith, cond, drop, eq-eqb, eqb, false, inl, inr, nat_lt, refl, set, slice_get, slice_set, subst, suc, sym, take, true, zero, ℕ, ◌++◌, ◌<◌, ◌∙◌, ◌∷◌, ◌≡◌, ◌≢◌, ◌≤◌, ◌⊎◌}
use Rattle.ns_gate.proofs.Prelude.{AtHome, BeginsIf, BeginsWith, CallGoes, Course, Done, Effect, Event, Every, Fits, Found, GateView, HasCome, HasStepped, Held, Homes, Idle, IsLawful, IsRuled, IsTold, LockState, MayBegin, Next, On, Others, Owed, Part, QuietKeeps, Reply, Request, SeatStep, SeatView}
use Rattle.ns_gate.proofs.Prelude.{Shows, SoFar, Step, Truths, Underlying, ViewFits, Views, Walk, asked_of, begin_at, begins_if, begins_unchanged, calls_of, course_after, course_by, course_from, every_at, every_both, every_put, get_elem?, got_of, has_queues, is_seat, one_if, one_most, others_both}
use Rattle.ns_gate.proofs.Prelude.{others_map, others_none, others_of, part_of, place_after, row_after, seat_in, seat_step_by, seat_step_tells, seat_steps_keep, set_here, set_same, set_there, slice_get_within, some, split_at, standing_after, step_at, takers, takes_on, told_after, told_there, total}
use Rattle.ns_gate.proofs.Prelude.{total_none, total_set, view_fits, view_in, walk_by, want_of}

-- nobody has the queues where none is counted
pub none_takes : {C : Type 0} {N : ℕ} (views : List (SeatView C N)) (n : ℕ) (view : SeatView C N) → takers views ≡ 0 → slice_get views n ≡ Some view → has_queues view.walk ≡ true → ⊥
none_takes [] n view none e q = absurd (cc)
none_takes (x ∷ xs) zero view none e q =
    let is : x ≡ view = cc in
    let one : one_if (has_queues x.walk) ≡ 1 = ap one_if (ap (λ (y : SeatView _ _). has_queues y.walk) is ∙ q) in omega (arith, one, none)
none_takes (x ∷ xs) (suc n) view none e q = none_takes xs n view (omega (arith, none)) e q

-- what is so of a section in hand, but not of none
pub hand_of : {A : Type 0} (Q : Option A → Type 0) (o : Option A) → (Q None → ⊥) → Q o → (held : A) × (o ≡ Some held) × Q (Some held)
hand_of Q None never so = absurd (never so)
hand_of Q (Some held) never so = (held, refl, so)

-- a seat stands in one view at most
pub once : {C : Type 0} {N : ℕ} (truths : Truths C) (seat_count : ℕ) (words : List ℕ) (homes : Homes C) (views : Views C N) (shown : Underlying C N) → IsRuled truths seat_count words homes views shown → (seat : ℕ) → total (total (is_seat seat)) views ≤ 1
once truths seat_count words homes views shown r seat = subst (λ n. n ≤ 1) (sym (r.seats seat)) (one_most (nat_lt seat seat_count))

module _ {C : Type 0} {N : ℕ} where
  -- the view in the call that it begins stands at the place where the step is made
  pub walk_in : (begun : Option (Walk C)) (view : SeatView C N) → (view_in view begun).walk ≡ walk_by begun view.walk
  walk_in None view = refl
  walk_in (Some walk) view = refl

  -- a seat's view after it found this, with this part of the state
  abbrev pub next_view : SeatView C N → Walk C → Found → Part C N → SeatView C N
  next_view view walk found part = record { seat = view.seat; walk = place_after (got_of N walk found); held = part.held; owed = part.owed }

  -- how far its call has come then
  has_come : (truths : Truths C) (seat : ℕ) (row : List ℕ) (request : Request C) (course : Course C N) (next : Next (Walk C) Reply) (held : Option (Held C N)) (owed : List Owed) → CallGoes truths seat row request course next held →
      HasCome truths course (record { seat = seat; walk = place_after next; held = held; owed = owed })
  has_come truths seat row request course (On walk) held owed goes = goes.so_far
  has_come truths seat row request course (Idle walk) held owed goes = goes.so_far
  has_come truths seat row request course (Done reply) held owed goes = tt

module _ {C : Type 0} {N : ℕ} (truths : Truths C) (cells : 0 < N) (quiet : QuietKeeps N truths) (seat_count : ℕ) (words : List ℕ) (homes : Homes C) (views : Views C N) (shown : Underlying C N) (r : IsRuled truths seat_count words homes views shown)
    (id : ℕ) (v : GateView C N) (at : get_elem? views id ≡ some (v ∷ [])) (begun : Option (Walk C)) (may : MayBegin truths begun v.at) where
  -- what the rule says of the seat
  pub its_fit : Fits truths seat_count shown.history shown.state v
  its_fit = (every_at (Every (Fits truths seat_count shown.history shown.state)) views id (v ∷ []) r.each at).0

  -- the state as the seat makes its step
  abbrev pub between : LockState C N
  between = record shown.state { views = slice_set shown.state.views v.at.seat (view_in v.at begun) }

  begins_so : (begun : Option (Walk C)) → MayBegin truths begun v.at → BeginsIf truths shown.state v.at begun (record shown.state { views = slice_set shown.state.views v.at.seat (view_in v.at begun) })
  begins_so None may = ap (λ vs. record shown.state { views = vs }) (set_same shown.state.views v.at.seat v.at its_fit.stands)
  begins_so (Some walk) may = begin_at truths shown.state v.at.seat v.at its_fit.stands walk (record shown.state { views = slice_set shown.state.views v.at.seat (record v.at { walk = Some walk }) }) may.0 may.1 may.2 refl

  pub lawful_between : IsLawful truths seat_count shown.history between
  lawful_between = begins_if truths cells quiet seat_count shown.history r.few shown.state v.at begun between (begins_so begun may) r.lawful

  pub stands_between : slice_get between.views v.at.seat ≡ Some (view_in v.at begun)
  stands_between = set_here shown.state.views v.at.seat (view_in v.at begun) (slice_get_within shown.state.views v.at.seat v.at its_fit.stands)

  -- no other seat has its number
  others_apart : Others (Every (λ (x : GateView C N). is_seat v.at.seat x ≡ 0)) id views
  others_apart = let one : one_if (eqb v.at.seat v.at.seat) ≡ 1 = ap one_if (eq-eqb v.at.seat v.at.seat refl) in let most = once truths seat_count words homes views shown r v.at.seat in
      others_map (λ xs. total (is_seat v.at.seat) xs ≡ 0) (Every (λ x. is_seat v.at.seat x ≡ 0)) (λ xs e. total_none (is_seat v.at.seat) xs e) views id (others_none (total (is_seat v.at.seat)) views id (v ∷ []) at (omega (arith, one, most)))

  apart : (x : GateView C N) → is_seat v.at.seat x ≡ 0 → v.at.seat ≢ x.at.seat
  apart x z e = let one : one_if (eqb x.at.seat v.at.seat) ≡ 1 = ap one_if (eq-eqb x.at.seat v.at.seat (sym e)) in omega (arith, one, z)

  module _ (walk : Walk C) (walks : walk_by begun v.at.walk ≡ Some walk) (found : Found) (part : Part C N) (commits : List (Event C N)) (e : Effect truths v.at.seat (want_of walk) (part_of shown.state v.at.held v.at.owed) found part commits) where
    -- the seat's view, its course, and the state, after the step
    abbrev pub next : SeatView C N
    next = next_view v.at walk found part

    abbrev pub course : Course C N
    course = course_after found commits (course_by begun v)

    abbrev pub after : LockState C N
    after = record { word = part.word; row = part.row; lists = part.lists; flags = part.flags; views = slice_set between.views v.at.seat next }

    abbrev pub later : Underlying C N
    later = record { state = after; history = shown.history ++ commits }

    abbrev pub now : GateView C N
    now = record { seat_count = v.seat_count; at = next; told = told_after shown.history commits (calls_of begun) v.told; course = course; stood = part.lists }

    -- the machine's step
    step_by_effect : (begun : Option (Walk C)) (between : LockState C N) → between ≡ record shown.state { views = slice_set shown.state.views v.at.seat (view_in v.at begun) } → slice_get between.views v.at.seat ≡ Some (view_in v.at begun) → walk_by begun v.at.walk ≡ Some walk →
        (step : Step truths between (view_in v.at begun) found (record { word = part.word; row = part.row; lists = part.lists; flags = part.flags; views = slice_set between.views v.at.seat next }) commits) × (step.walk ≡ walk) × (step.held ≡ part.held) × (step.owed ≡ part.owed)
    step_by_effect None between is stands walks = (
      step_at truths between v.at.seat v.at stands walk found (record { word = part.word; row = part.row; lists = part.lists; flags = part.flags; views = slice_set between.views v.at.seat next }) part.held part.owed commits walks refl
          (subst (λ s. Effect truths v.at.seat (want_of walk) (part_of s v.at.held v.at.owed) found part commits) (sym is) e),
      refl,
      refl,
      refl,
    )
    step_by_effect (Some first) between is stands walks = (
      step_at truths between v.at.seat (view_in v.at (Some first)) stands walk found (record { word = part.word; row = part.row; lists = part.lists; flags = part.flags; views = slice_set between.views v.at.seat next }) part.held part.owed commits walks refl
          (subst (λ s. Effect truths v.at.seat (want_of walk) (part_of s v.at.held v.at.owed) found part commits) (sym is) e),
      refl,
      refl,
      refl,
    )

    made_all : (step : Step truths between (view_in v.at begun) found after commits) × (step.walk ≡ walk) × (step.held ≡ part.held) × (step.owed ≡ part.owed)
    made_all = step_by_effect begun between refl stands_between walks

    pub made : SeatStep truths shown.state v.at begun found after commits
    made = record { between = between; begins = begins_so begun may; step = made_all.0 }

    pub lawful_after : IsLawful truths seat_count (shown.history ++ commits) after
    lawful_after = seat_steps_keep truths cells quiet seat_count shown.history r.few shown.state v.at begun found after commits made r.lawful

    stands_after : slice_get after.views v.at.seat ≡ Some next
    stands_after = set_here (slice_set shown.state.views v.at.seat (view_in v.at begun)) v.at.seat next (slice_get_within (slice_set shown.state.views v.at.seat (view_in v.at begun)) v.at.seat (view_in v.at begun) stands_between)

    -- what the law says of the seat then
    fits_after : ViewFits truths seat_count (standing_after (shown.history ++ commits)) part.row next
    fits_after = view_fits truths seat_count r.few (shown.history ++ commits) after (take v.at.seat after.views) next (drop (suc v.at.seat) after.views) (split_at after.views v.at.seat next stands_after) lawful_after

    -- what the seat is told
    told_all : IsTold truths.holds seat_count (shown.history ++ commits) v.at.seat (place_after (got_of N walk found)) (told_after shown.history commits (calls_of begun) v.told) × BeginsWith (shown.history ++ commits) v.told.seen
    unfolding made_all made
    told_all = subst (λ w. IsTold truths.holds seat_count (shown.history ++ commits) v.at.seat (place_after (got_of N w found)) (told_after shown.history commits (calls_of begun) v.told) × BeginsWith (shown.history ++ commits) v.told.seen) made_all.1
        (seat_step_tells truths cells quiet seat_count shown.history r.few shown.state v.at begun found after commits made r.lawful v.told its_fit.told)

    -- how far the call has come before the step
    come_before : (begun : Option (Walk C)) → MayBegin truths begun v.at → walk_by begun v.at.walk ≡ Some walk → SoFar truths (view_in v.at begun).seat (course_by begun v) walk (view_in v.at begun).held
    come_before None may walks = subst (λ w. IfSome w (λ walk. SoFar truths v.at.seat v.course walk v.at.held)) walks its_fit.come
    come_before (Some first) may walks = let same : first ≡ walk = cc in subst (λ w. SoFar truths v.at.seat (course_from v.at.held) w v.at.held) same (begins_unchanged C N truths v.at.seat v.at.held first may.1)

    -- and what the step makes of it
    goes_on : CallGoes truths v.at.seat (row_after (shown.history ++ commits)) (asked_of walk) course (got_of N walk found) part.held
    goes_on =
        let so_far = subst (λ w. SoFar truths (view_in v.at begun).seat (course_by begun v) w (view_in v.at begun).held) (sym made_all.1) (come_before begun may walks) in
        let goes = takes_on C N truths seat_count shown.history between after (view_in v.at begun) found commits (course_by begun v) made_all.0 lawful_between so_far in
        let at_seat = subst (λ n. CallGoes truths n (row_after (shown.history ++ commits)) (asked_of made_all.0.walk) course (got_of N made_all.0.walk found) made_all.0.held) (seat_in truths v.at begun) goes in
        let at_walk = subst (λ w. CallGoes truths v.at.seat (row_after (shown.history ++ commits)) (asked_of w) course (got_of N w found) made_all.0.held) made_all.1 at_seat in
        subst (λ held. CallGoes truths v.at.seat (row_after (shown.history ++ commits)) (asked_of walk) course (got_of N walk found) held) made_all.2 at_walk

    -- the step, as its caller sees it
    pub did : HasStepped truths begun found v now
    unfolding made_all made
    did =
        let limited = sym its_fit.limited in
        record {
          old = shown.state;
          new = after;
          history = shown.history;
          commits = commits;
          few = subst (λ n. n ≤ 64) limited r.few;
          lawful = subst (λ n. IsLawful truths n shown.history shown.state) limited r.lawful;
          lawful_now = subst (λ n. IsLawful truths n (shown.history ++ commits) after) limited lawful_after;
          made = made;
          seat_count = refl;
          becomes = λ i. record { seat = v.at.seat; walk = place_after (got_of N (sym made_all.1 i) found); held = sym made_all.2 i; owed = sym made_all.3 i };
          tells = refl;
          told_was = subst (λ n. IsTold truths.holds n shown.history v.at.seat v.at.walk v.told) limited its_fit.told;
          told_now = subst (λ n. IsTold truths.holds n (shown.history ++ commits) v.at.seat (place_after (got_of N walk found)) (told_after shown.history commits (calls_of begun) v.told)) limited told_all.0;
          grows = told_all.1;
          course = refl;
          goes = subst (λ w. CallGoes truths v.at.seat (row_after (shown.history ++ commits)) (asked_of w) course (got_of N w found) part.held) (sym made_all.1) goes_on;
          fits = subst (λ n. ViewFits truths n (standing_after (shown.history ++ commits)) part.row next) limited fits_after;
          stood_was = its_fit.stood;
          stood_now = refl;
        }

    -- the state that it is made from
    pub did_from : did.old ≡ shown.state
    unfolding did
    did_from = refl

    -- another seat's view
    others_fit : (part.lists ≡ shown.state.lists) ⊎ (part.word.spin ≡ false) → (x : GateView C N) → is_seat v.at.seat x ≡ 0 → Fits truths seat_count shown.history shown.state x → Fits truths seat_count (shown.history ++ commits) after x
    unfolding made_all made
    others_fit kept x z fits =
        let ne = apart x z in
        let stands : slice_get after.views x.at.seat ≡ Some x.at = set_there (slice_set shown.state.views v.at.seat (view_in v.at begun)) v.at.seat x.at.seat next (λ e. ne (sym e)) ∙ set_there shown.state.views v.at.seat x.at.seat (view_in v.at begun) (λ e. ne (sym e)) ∙ fits.stands in
        record {
          limited = fits.limited;
          stands = stands;
          told = told_there truths.holds seat_count shown.history v.at.seat x.at.seat x.at.walk commits x.told (seat_step_by truths shown.state v.at begun found after commits made) ne fits.told;
          come = fits.come;
          stood = by_lists kept stands;
        }
      where
        by_lists : (part.lists ≡ shown.state.lists) ⊎ (part.word.spin ≡ false) → slice_get after.views x.at.seat ≡ Some x.at → has_queues x.at.walk ≡ true → x.stood ≡ part.lists
        by_lists (inl same) stands has = fits.stood has ∙ sym same
        by_lists (inr clear) stands has = absurd (none_takes after.views x.at.seat x.at (lawful_after.spin_held_once ∙ ap (λ b. cond b 1 0) clear) stands has)

    -- the rule, where the table's words show what the step leaves
    pub ruled : (words' : List ℕ) (homes' : Homes C) → Shows N words' part.word part.row part.flags → AtHome part.word.spin part.lists homes' → (part.lists ≡ shown.state.lists) ⊎ (part.word.spin ≡ false) → IsRuled truths seat_count words' homes' (set views id (now ∷ [])) later
    ruled words' homes' shows home kept = record {
      few = r.few;
      lawful = lawful_after;
      shows = shows;
      home = home;
      seats = λ x. let s = total_set (total (is_seat x)) views id (v ∷ []) (now ∷ []) at in let was = r.seats x in omega (arith, s, was);
      each = every_put (Every (Fits truths seat_count (shown.history ++ commits) after)) views id (now ∷ [])
          (others_both (Every (λ (x : GateView C N). is_seat v.at.seat x ≡ 0)) (Every (Fits truths seat_count shown.history shown.state)) (Every (Fits truths seat_count (shown.history ++ commits) after))
          (λ xs p q. every_both (λ (x : GateView C N). is_seat v.at.seat x ≡ 0) (Fits truths seat_count shown.history shown.state) (Fits truths seat_count (shown.history ++ commits) after) (λ x a c. others_fit kept x a c) xs p q) views id
          others_apart (others_of (Every (Fits truths seat_count shown.history shown.state)) views id r.each)) (
            record {
              limited = its_fit.limited;
              stands = stands_after;
              told = told_all.0;
              come = has_come truths v.at.seat (row_after (shown.history ++ commits)) (asked_of walk) course (got_of N walk found) part.held part.owed goes_on;
              stood = λ has. refl;
            },
            tt,
          );
    }
