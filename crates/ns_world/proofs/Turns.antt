-- A turn of a run, by what beginning a call and a step promise.
use Rattle.std.proofs.Common.{Bool, Err, IfErr, IfOk, List, None, Ok, Option, Result, Some, [], ap, arith, cond, false, inl, inr, length, length-set, nat_lt, refl, slice_get, subst, sym, true, ℕ, ◌-◌, ◌<◌, ◌∙◌, ◌∷◌, ◌≡◌}
use Rattle.ns_world.proofs.Prelude.{Call, Commits, Fault, Finished, GoesOnOrBegins, InCells, Lists, Mode, NoSuchSeat, OutOfMemory, Progress, Seat, Step, TurnFault, TurnOf, Turned}
use Rattle.ns_world.proofs.Prelude.{TurnsOf, TurnsWith, UnlockQuiet, Walk, Went, Whole, WholeBegins, WholeFault, WholeIsBusy, WholeIsIdle, WholeStarts, WholeStep, Word, in_call, is_call, mode_of, option_map_or, placed, progress, progressed, same_Some, set_here}
use Rattle.ns_world.proofs.Prelude.{slice_get_within, start_of, walk_of, want_of, whole_busy}
use Rattle.ns_world.specs.Names.{Misuse}
use Rattle.ns_world.specs.Prelude.{BeginFault, Nothing, Wait}
use Rattle.ns_world.specs.declared.reply.Reply.TheVariants as TheReply
use Rattle.std.proofs.lemmas.Option.{slice_get_cases}
use Rattle.ns_world.proofs.SeatSet.{as_many}

-- a step at this place may commit an event
abbrev CommitsAt : {C : Type 0} → ℕ → Option (Walk C) → Word → Lists C → Type 0
CommitsAt seat None word lists = ⊥
CommitsAt seat (Some walk) word lists = Commits seat (want_of walk) word lists

by_either : {A : Type 0} (P : A → Type 0) (b : Bool) {x y : A} → (P x → ⊥) → (P y → ⊥) → P (cond b x y) → ⊥
by_either P true one other p = one p
by_either P false one other p = other p

-- no call's first step commits an event
starts_apart : {C : Type 0} (N : ℕ) (mode : Option Mode) (call : Call C) (seat : ℕ) (word : Word) (lists : Lists C) → CommitsAt seat (walk_of (start_of N mode call)) word lists → ⊥
starts_apart {C} N mode UnlockQuiet seat word lists p = by_either (λ place. Commits {C = C} seat (want_of (InCells place)) word lists) (nat_lt 0 (N - 1)) (λ q. q) (λ q. q) p
starts_apart {C} N mode (Wait c limits) seat word lists p = by_either (λ (walk : Walk C). Commits seat (want_of walk) word lists) (nat_lt 0 (N - 1)) (λ q. q) (λ q. q) p
starts_apart N mode other seat word lists p = p

-- what holds of an answer's value, and of its fault, as something else
pub map_ok : {X E : Type 0} {P Q : X → Type 0} (r : Result X E) → ((x : X) → P x → Q x) → IfOk r P → IfOk r Q
map_ok (Ok x) f p = f x p
map_ok (Err e) f p = tt

pub map_err : {X E : Type 0} {P Q : E → Type 0} (r : Result X E) → ((e : E) → P e → Q e) → IfErr r P → IfErr r Q
map_err (Ok x) f p = tt
map_err (Err e) f p = f e p

-- every call's first place is one
starts_call : {C : Type 0} (N : ℕ) (mode : Option Mode) (call : Call C) → is_call (start_of N mode call) ≡ true
starts_call N mode UnlockQuiet = refl
starts_call N mode other = refl

module _ {C : Type 0} {N : ℕ} where
  -- ---- who is busy

  -- what is so of a seat's calls is so of its number
  pub busy_at : (world : Whole C N) (i : ℕ) (seat : Seat C N) (b : Bool) → slice_get world.seats i ≡ Some seat → in_call seat ≡ b → whole_busy world i ≡ b
  busy_at world i seat b at is = ap (λ o. option_map_or in_call o false) at ∙ is

  -- no seat is both
  idle_clash : {A : Type 0} (world : Whole C N) (i : ℕ) → whole_busy world i ≡ true → WholeIsIdle world i → A
  idle_clash world i busy p = let idle = busy_at world i p.0 false p.1 p.2 in absurd (cc)

  placed_at : (old new : Whole C N) (seat : ℕ) (call : Call C) (p : WholeStarts old new seat call) → slice_get new.seats seat ≡ Some (placed p.here (start_of N (mode_of p.here.held) call))
  placed_at old new seat call p = ap (λ (w : Whole C N). slice_get w.seats seat) p.begins ∙ set_here old.seats seat (placed p.here (start_of N (mode_of p.here.held) call)) (slice_get_within old.seats seat p.here p.at)

  started_busy : (old new : Whole C N) (seat : ℕ) (call : Call C) → WholeStarts old new seat call → whole_busy new seat ≡ true
  started_busy old new seat call p = busy_at new seat _ true (placed_at old new seat call p) (starts_call N (mode_of p.here.held) call)

  -- ---- turns

  -- a call is in progress, and makes a step, whatever would have come next
  pub turns_on : (next : Option (Call C)) (old new : Whole C N) (seat : ℕ) (step : Step) → whole_busy old seat ≡ true → WholeStep old new seat step → TurnsWith next old seat step new
  turns_on next old new seat step busy (inl p) = idle_clash old seat busy p.2
  turns_on next old new seat step busy (inr p) = λ lists over lines e.
      inl (record { begun = old; leads = inl ((p.here, p.at, sym (busy_at old seat p.here (in_call p.here) p.at refl) ∙ busy), refl); world = new; moves = p; after = refl })

  -- none is, and none is left
  pub turns_idle : (old : Whole C N) (seat : ℕ) → seat < length old.seats → whole_busy old seat ≡ false → TurnsWith None old seat Nothing old
  turns_idle old seat within idle = λ lists over lines e. inr (inr (record { idle = here; none = e; answer = refl; after = refl })) where
    here : WholeIsIdle old seat
    here = elim (slice_get_cases old.seats seat).1 [
      | inl p ↦ (p.0, p.2, sym (busy_at old seat p.0 (in_call p.0) p.2 refl) ∙ idle)
      | inr p ↦ absurd (omega (arith, within, p.0))
    ]

  -- the call began, and made its first step
  pub turns_started : (old begun new : Whole C N) (seat : ℕ) (call : Call C) (step : Step) → WholeStarts old begun seat call → WholeStep begun new seat step → TurnsWith (Some call) old seat step new
  turns_started old begun new seat call step s (inl p) = idle_clash begun seat (started_busy old begun seat call s) p.2
  turns_started old begun new seat call step s (inr p) = λ lists over lines e. inl (record { begun = begun; leads = inr (call, e, s); world = new; moves = p; after = refl })

  -- a call was in progress, and made a step
  pub turns_busy : (old begun new : Whole C N) (seat : ℕ) (call : Call C) (step : Step) → (begun ≡ old) × WholeIsBusy old seat → WholeStep begun new seat step → TurnsWith (Some call) old seat step new
  turns_busy old begun new seat call step s made = turns_on (Some call) old new seat step (busy_at old seat s.1.0 true s.1.1 s.1.2) (subst (λ world. WholeStep world new seat step) s.0 made)

  -- the call's need isn't met
  pub turns_misused : (old new : Whole C N) (seat : ℕ) (call : Call C) → WholeBegins old new seat call Misuse → TurnsWith (Some call) old seat (Finished TheReply.Misuse) new
  turns_misused old new seat call m = λ lists over lines e.
      inr (inl (record { call = call; next = e; refused = (refl, m.1); answer = refl; after = ap (progressed (progress old over lines) seat (Finished TheReply.Misuse)) m.0 }))

  -- it is refused as a turn is
  pub begin_refused : (old : Whole C N) (seat : ℕ) (fault : Fault) → BeginFault old seat fault → TurnFault old seat fault
  begin_refused old seat NoSuchSeat p = p
  begin_refused old seat other p = absurd p

  -- a call's first step is never refused
  pub started_steps : (old begun : Whole C N) (seat : ℕ) (call : Call C) (fault : Fault) → WholeStarts old begun seat call → WholeFault begun seat fault → ⊥
  started_steps old begun seat call OutOfMemory p refused =
      let start = start_of N (mode_of p.here.held) call in
      let is : placed p.here start ≡ refused.seat = same_Some _ _ (sym (placed_at old begun seat call p) ∙ refused.at) in
      starts_apart N (mode_of p.here.held) call seat begun.word begun.queues (subst (λ w. CommitsAt seat w begun.word begun.queues) (sym (ap (λ (s : Seat C N). walk_of s.doing) is ∙ refused.walks)) refused.commits)
  started_steps old begun seat call NoSuchSeat p refused = let within = slice_get_within begun.seats seat _ (placed_at old begun seat call p) in absurd (omega (arith, within, refused))
  started_steps old begun seat call other p refused = refused

  -- ---- a turn leaves as many seats

  leads_stays : (lists : List (List (Call C))) (p : Progress C N) (seat : ℕ) (begun : Whole C N) → GoesOnOrBegins lists p seat begun → length begun.seats ≡ length p.world.seats
  leads_stays lists p seat begun (inl busy) = ap (λ (world : Whole C N). length world.seats) busy.1
  leads_stays lists p seat begun (inr called) = ap (λ (world : Whole C N). length world.seats) called.2.begins ∙ length-set p.world.seats seat _

  -- the world that a turn leaves
  progressed_world : (p : Progress C N) (seat : ℕ) (step : Step) (new : Whole C N) → (progressed p seat step new).world ≡ new
  progressed_world p seat Went new = refl
  progressed_world p seat other new = refl

  turn_stays : (lists : List (List (Call C))) (p q : Progress C N) (seat : ℕ) (step : Step) → TurnOf lists p seat step q → length q.world.seats ≡ length p.world.seats
  turn_stays lists p q seat step (inl t) =
      ap (λ (x : Progress C N). length x.world.seats) t.after ∙ ap (λ (w : Whole C N). length w.seats) (progressed_world p seat step t.world)
      ∙ as_many t.begun t.world seat t.moves.here t.moves.next t.moves.at t.moves.seats ∙ leads_stays lists p seat t.begun t.leads
  turn_stays lists p q seat step (inr (inl t)) = ap (λ (x : Progress C N). length x.world.seats) t.after
  turn_stays lists p q seat step (inr (inr t)) = ap (λ (x : Progress C N). length x.world.seats) t.after

  pub seats_stay : (lists : List (List (Call C))) (p : Progress C N) (seat : ℕ) (step : Step) (new : Whole C N) → TurnOf lists p seat step (progressed p seat step new) → length new.seats ≡ length p.world.seats
  seats_stay lists p seat step new turn = ap (λ (world : Whole C N). length world.seats) (sym (progressed_world p seat step new)) ∙ turn_stays lists p (progressed p seat step new) seat step turn

  -- so do many
  pub turns_stay : (lists : List (List (Call C))) (p : Progress C N) (turns : List Turned) (q : Progress C N) → TurnsOf lists p turns q → length q.world.seats ≡ length p.world.seats
  turns_stay lists p [] q e = ap (λ (r : Progress C N). length r.world.seats) e
  turns_stay lists p (turned ∷ turns) q t = turns_stay lists t.0 turns q t.2 ∙ turn_stays lists p t.0 turned.seat turned.step t.1
