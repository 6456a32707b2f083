-- No seat is past its last call.
use Rattle.std.proofs.Common.{All, Bool, Global, IfSome, List, None, Option, Some, Vec, [], ap, arith, cond, false, inl, inr, length, map, refl, replicate, slice_get, slice_index, slice_set, subst, suc, sym, true, zero, ℕ, ◌++◌, ◌+◌, ◌<◌, ◌∙◌, ◌∷◌, ◌≡◌, ◌≢◌, ◌≤◌}
use Rattle.ns_world.proofs.Prelude.{All-head, All-nil, All-tail, AnyWait, Call, CallInRange, Counts, Doing, EnvEnd, EnvSays, EnvWalk, Finished, GoesOnOrBegins, IsCounted, Line, ListFits, LookOver, Next, ObjectLeads, ObjectReply, ObjectWalk, On, OnNotes, OnObjects, Over, Progress, Reply, Round, RoundLeads, Seat}
use Rattle.ns_world.proofs.Prelude.{SeatLooks, SeatMakes, Sees, Step, TurnOf, Walk, Whole, WholeMoves, calls_of, cases_eq, doing_at, env_got_of, few, get_or-set_other, get_or-set_same, got_of, in_call, is_call, length-set, most, option_map_or, place_after, step_after}
use Rattle.ns_world.proofs.Prelude.{progress, progressed, set_there, slice_get_within, tests_at, tests_told, there, waits_then, whole_busy}
use Rattle.ns_env.specs.declared.next.Next.TheVariants.{Done}
use Rattle.ns_world.proofs.Fresh.{each_same}
use Rattle.ns_world.proofs.SeatSet.{here_then, others_stay}
use Rattle.ns_world.proofs.Turns.{busy_at}
use Rattle.ns_word.specs.declared.act.Found.TheVariants as TheFound

-- ---- the lists

-- each seat's calls are such a list
pub calls_fit : {C : Type 0} (n : ℕ) (lists : List (Vec (Call C) Global)) (seat : ℕ) → All (λ calls. ListFits n calls.items) lists → ListFits n (calls_of (map (λ calls. calls.items) lists) seat)
calls_fit n [] seat fits = (omega arith, All-nil (CallInRange n))
calls_fit n (calls ∷ lists) zero fits = All-head (λ calls. ListFits n calls.items) calls lists fits
calls_fit n (calls ∷ lists) (suc seat) fits = calls_fit n lists seat (All-tail (λ calls. ListFits n calls.items) calls lists fits)

-- so is the seat's next call
pub next_fits : {C : Type 0} (n : ℕ) (calls : List (Call C)) (i : ℕ) → ListFits n calls → IfSome (slice_get calls i) (CallInRange n)
next_fits n [] i fits = tt
next_fits n (call ∷ calls) zero fits = All-head (CallInRange n) call calls fits.1
next_fits n (call ∷ calls) (suc i) fits = next_fits n calls i (omega (arith, fits.0), All-tail (CallInRange n) call calls fits.1)

-- ---- one seat's change

bit_most : (b : Bool) → cond b 1 0 ≤ 1
bit_most true = omega arith
bit_most false = omega arith

-- a call that is over leaves its seat idle
idle_over : {C W R : Type 0} (at : W → Doing C) (ends : R → Step) (next : Next W R) (reply : Reply) → Finished reply ≡ step_after ends next → is_call (there at (place_after next)) ≡ false
idle_over at ends (Done answer) reply e = refl
idle_over at ends next reply e = absurd (cc)

asks_over : (C : Type 0) (next : Next EnvWalk EnvEnd) (reply : Reply) → EnvSays next (Finished reply) → is_call {C = C} (there OnNotes (place_after next)) ≡ false
asks_over C (Done (Over answer)) reply says = refl
asks_over C (Done (LookOver cause)) reply says = absurd says
asks_over C next reply says = absurd (cc)

module _ {C : Type 0} {N : ℕ} where
  -- a seat and its count change, and no other's
  changes : (old new : Whole C N) (over over' : List ℕ) (seat : ℕ) → length over' ≡ length over → ((other : ℕ) → other ≢ seat → whole_busy new other ≡ whole_busy old other) → ((other : ℕ) → other ≢ seat → slice_index over' other ≡ slice_index over other) →
      slice_index over' seat + cond (whole_busy new seat) 1 0 ≤ 256 → IsCounted old over → IsCounted new over'
  changes old new over over' seat long same count here c = record {
    many = long ∙ c.many;
    most = λ other. elim (cases_eq other seat) [
      | inl e ↦ subst (λ n. slice_index over' n + cond (whole_busy new n) 1 0 ≤ 256) (sym e) here
      | inr ne ↦ rw (same other ne, count other ne) (c.most other)
    ];
  }

  -- one more call of the seat is over, which leaves it idle
  one_over : (old new : Whole C N) (over : List ℕ) (seat : ℕ) → seat < 64 → ((other : ℕ) → other ≢ seat → whole_busy new other ≡ whole_busy old other) → whole_busy new seat ≡ false → slice_index over seat + 1 ≤ 256 →
      IsCounted old over → IsCounted new (slice_set over seat (slice_index over seat + 1))
  one_over old new over seat low same idle below c = changes old new over (slice_set over seat (slice_index over seat + 1)) seat (length-set over seat _) same (λ other ne. get_or-set_other over seat other (slice_index over seat + 1) 0 ne)
      (rw (idle, get_or-set_same over seat (slice_index over seat + 1) 0 (omega (arith, c.many, low))) (omega (arith, below))) c

  -- a seat of which nothing has changed is as busy as it was
  busy_still : (old new : Whole C N) (other : ℕ) → slice_get new.seats other ≡ slice_get old.seats other → whole_busy new other ≡ whole_busy old other
  busy_still old new other same = ap (λ o. option_map_or in_call o false) same

  -- ---- what the last step of a call leaves of its seat

  sees_over : (seat next : Seat C N) (walk : Walk C) (wait : Option AnyWait) (cause : _) (reply : Reply) → Sees seat walk wait cause next (Finished reply) → in_call next ≡ false
  sees_over seat next walk wait cause reply q = ap in_call q.goes ∙ idle_over (doing_at wait) _ (got_of N walk (TheFound.Looked cause)) reply q.answers

  makes_over : (old new : Whole C N) (here next : Seat C N) (reply : Reply) → SeatMakes old new here next (Finished reply) → in_call next ≡ false
  makes_over old new here next reply (inl p) = ap in_call p.performs.goes ∙ idle_over (doing_at p.wait) _ (got_of N p.walk p.found) reply p.performs.answers
  makes_over old new here next reply (inr (inl p)) = by (env_got_of p.place p.looks.found) p.looks.goes where
    by : (n : Next EnvWalk EnvEnd) → SeatLooks n here p.walk next (Finished reply) → in_call next ≡ false
    by (On place) g = let e = g.1 in absurd (cc)
    by (Done (LookOver cause)) g = sees_over here next p.walk None cause reply g
    by n g = absurd g
  makes_over old new here next reply (inr (inr (inl p))) = by p.leads p.goes where
    by : (n : Next ObjectWalk ObjectReply) → RoundLeads n here p.walk p.wait next (Finished reply) → in_call next ≡ false
    by (On round) g = let e = g.1 in absurd (cc)
    by n g = sees_over here next p.walk _ _ reply g
  makes_over old new here next reply (inr (inr (inr (inl p)))) = ap in_call p.asks.goes ∙ asks_over C (env_got_of p.walk p.asks.found) reply p.asks.answers
  makes_over old new here next reply (inr (inr (inr (inr p)))) = by (waits_then p.walk p.leads) p.goes where
    by : (round : Option Round) → ObjectLeads round p.leads here next (Finished reply) → in_call next ≡ false
    by (Some round) g = let e = g.answers in absurd (cc)
    by None g = ap in_call g.0 ∙ idle_over OnObjects _ p.leads reply g.1

  whole_over : (old new : Whole C N) (seat : ℕ) (reply : Reply) → WholeMoves old new seat (Finished reply) → whole_busy new seat ≡ false
  whole_over old new seat reply p = busy_at new seat p.next false (here_then old new seat p.here p.next p.at p.seats) (makes_over old new p.here p.next reply p.makes)

  -- a call that goes on or begins is one of the seat's, so it is not past its last
  leads_below : (lists : List (List (Call C))) (p : Progress C N) (seat : ℕ) (begun : Whole C N) → length (calls_of lists seat) ≤ 256 → GoesOnOrBegins lists p seat begun →
      slice_index p.over seat + cond (whole_busy p.world seat) 1 0 ≤ 256 → slice_index p.over seat + 1 ≤ 256
  leads_below lists p seat begun few (inl busy) most =
      let yes = busy_at p.world seat busy.0.0 true busy.0.1 busy.0.2 in
      omega (arith, rw yes at most)
  leads_below lists p seat begun few (inr called) most =
      let within = slice_get_within (calls_of lists seat) (slice_index p.over seat) called.0 called.1 in
      omega (arith, within, few)

  leads_others : (lists : List (List (Call C))) (p : Progress C N) (seat : ℕ) (begun : Whole C N) → GoesOnOrBegins lists p seat begun →
      (other : ℕ) → other ≢ seat → whole_busy begun other ≡ whole_busy p.world other
  leads_others lists p seat begun (inl busy) other ne = ap (λ (world : Whole C N). whole_busy world other) busy.1
  leads_others lists p seat begun (inr called) other ne = busy_still p.world begun other (ap (λ (w : Whole C N). slice_get w.seats other) called.2.begins ∙ set_there p.world.seats seat other _ ne)

  -- a turn keeps the count
  pub turn_counted : (lists : List (List (Call C))) (p q : Progress C N) (seat : ℕ) (step : Step) → length (calls_of lists seat) ≤ 256 → seat < 64 → TurnOf lists p seat step q →
      IsCounted p.world p.over → IsCounted q.world q.over
  turn_counted lists p q seat step few low (inl t) c = subst (λ (x : Progress C N). IsCounted x.world x.over) (sym t.after) (by step t.moves) where
    below : slice_index p.over seat + 1 ≤ 256
    below = leads_below lists p seat t.begun few t.leads (c.most seat)

    others : (step : Step) → WholeMoves t.begun t.world seat step → (other : ℕ) → other ≢ seat → whole_busy t.world other ≡ whole_busy p.world other
    others step moves other ne = busy_still t.begun t.world other (others_stay t.begun t.world seat moves.here moves.next moves.at moves.seats other ne) ∙ leads_others lists p seat t.begun t.leads other ne

    by : (step : Step) → WholeMoves t.begun t.world seat step → IsCounted (progressed p seat step t.world).world (progressed p seat step t.world).over
    by (Finished reply) moves = one_over p.world t.world p.over seat low (others (Finished reply) moves) (whole_over t.begun t.world seat reply moves) below c
    by step moves = changes p.world t.world p.over p.over seat refl (others step moves) (λ other ne. refl) (omega (arith, below, bit_most (whole_busy t.world seat))) c
  turn_counted lists p q seat step few low (inr (inl t)) c =
      let within = slice_get_within (calls_of lists seat) (slice_index p.over seat) t.call t.next in
      let r = t.refused.1 in
      let idle = busy_at p.world seat r.here false r.at r.idle in
      subst (λ (x : Progress C N). IsCounted x.world x.over) (sym t.after) (one_over p.world p.world p.over seat low (λ other ne. refl) idle (omega (arith, within, few)) c)
  turn_counted lists p q seat step few low (inr (inr t)) c = subst (λ (x : Progress C N). IsCounted x.world x.over) (sym t.after) c

  -- before the first turn
  pub start_counted : (world : Whole C N) → ((seat : ℕ) → whole_busy world seat ≡ false) → IsCounted world (replicate 64 0)
  start_counted world idle = record { many = refl; most = λ seat. rw (idle seat, each_same {A = ℕ} 0 64 seat) (omega arith) }

  -- what was counted, with the count of tests of the world after, is what the turn leaves
  pub counts_progress : (world new : Whole C N) (over over' : List ℕ) (lines lines' : List Line) (seat tests : ℕ) (step : Step) → tests ≡ tests_at new.seats seat → Counts over lines seat step tests over' lines' →
      progress new over' lines' ≡ progressed (progress world over lines) seat step new
  counts_progress world new over over' lines lines' seat tests (Finished reply) same e = ap (λ o. progress new o lines') e.0
      ∙ ap (progress new (slice_set over seat (slice_index over seat + 1))) (e.1 ∙ ap (λ n. lines ++ record { thread = seat; call = slice_index over seat; reply = reply; tests = tests_told reply n } ∷ []) same)
  counts_progress world new over over' lines lines' seat tests other same e = ap (λ o. progress new o lines') e.0 ∙ ap (progress new over) e.1
