-- What laws say in words of their own, by which the program isn't proved: of rounds and of replies.
use Rattle.std.proofs.Common.{Bool, IsSome, List, None, Option, Some, [], ap, arith, cond, drop, false, if◌then◌else◌, refl, subst, suc, sym, true, ℕ, ◌==◌, ◌∙◌, ◌∷◌, ◌≡◌, ◌≤◌}
use Rattle.ns_world.proofs.Prelude.{AnswersOfLock, Any, AnyMeans, Await, EnvEvent, GoesRound, HasMode, Held, InHand, InRound, Mode, Next, ObjectLeads, ObjectWalk, OnObjects, OnVariables, Releasing, Reply, Round, RoundLeads, RoundPlace, Seat, Step}
use Rattle.ns_world.proofs.Prelude.{Subject, Wait, WalkReply, Whole, have_variable, held_at, is_among, items_of, none_among, reply_of_lock, row_after, waits_then}
use Rattle.ns_world.specs.Among.{LooksOn, is_for_any, object_at}
use Rattle.ns_world.specs.Meanings.{GoesOnBy, GoesOnInRound, SaysOfRead, SaysOfRelease, SaysOfTry, SaysOfWait}
use Rattle.ns_world.specs.Moves.{ObjectsSteps}
use Rattle.ns_word.specs.Meanings.{Means}
use Rattle.ns_world.specs.Names.{Cause, QuietWriter}
use Rattle.ns_counters.specs.Asks.{ObjectEffect}
use Rattle.ns_counters.specs.Names.{Clock, EnvEnd, EnvPlain, EnvWalk, NoteLoad, Over, env_got_of, is_due}
use Rattle.ns_counters.specs.declared.items.Item.TheVariants.{OnCounter, OnNote, OnVariable}
use Rattle.ns_counters.specs.declared.items.Item.{Item}
use Rattle.ns_counters.specs.declared.object.ObjectEvent.{ObjectEvent}
use Rattle.ns_counters.specs.declared.object.Place.{Place}
use Rattle.ns_counters.specs.declared.round.ObjectFound.TheVariants.{Env, Word}
use Rattle.ns_counters.specs.declared.round.ObjectFound.{ObjectFound}
use Rattle.ns_counters.specs.declared.round.RoundNext.TheVariants.{RoundGo, RoundOver}
use Rattle.ns_counters.specs.declared.round.RoundNext.{RoundNext}
use Rattle.ns_counters.specs.declared.round.RoundPlace.TheVariants.{AtCounter, AtNote, FirstClock}
use Rattle.ns_counters.specs.RoundWalks.{by_chain, chain_from, from_items, from_place, round_got, round_want}
use Rattle.ns_counters.specs.Walks.{by_round, object_got, object_place, object_want}
use Rattle.ns_counters.specs.Words.{counter_of}
use Rattle.ns_counters.specs.declared.reply.ObjectReply.TheVariants as TheObject
use Rattle.ns_env.specs.declared.next.Next.TheVariants as TheNext
use Rattle.ns_env.specs.declared.reply.EnvReply.TheVariants as TheEnv
use Rattle.ns_word.specs.declared.request.Request.TheVariants as TheRequest
use Rattle.ns_word.specs.declared.walk.Reply.TheVariants as TheWalk

-- ---- rounds

-- a round that is over goes to no place
over_not : (b : Bool) (one other : Option ℕ) (behind : RoundPlace) → (if b then RoundOver one else RoundOver other) ≡ RoundGo behind → ⊥
over_not true one other behind is = let e : RoundOver one ≡ RoundGo behind = is in absurd (cc)
over_not false one other behind is = let e : RoundOver other ≡ RoundGo behind = is in absurd (cc)

-- it goes to the place that it goes to
goes_there : (place one other : RoundPlace) → RoundGo one ≡ RoundGo other → LooksOn place one → LooksOn place other
goes_there place one other is on = let same : one ≡ other = cc in subst (LooksOn place) same on

-- the first of these objects is no earlier, and so is no other
items_on : (round : Round) (clock at : ℕ) (items : List Item) (place behind : RoundPlace) → object_at place ≤ at → from_items round clock at items ≡ RoundGo behind → LooksOn place behind
items_on round clock at [] place behind low is = absurd (over_not (is_due clock round.deadline) (Some round.items.count) None behind is)
items_on round clock at (OnNote note ∷ items) place behind low is = goes_there place (AtNote at clock note note) behind is low
items_on round clock at (OnCounter counter ∷ items) place behind low is = goes_there place (AtCounter at clock counter) behind is low
items_on round clock at (OnVariable k ∷ items) place behind low is = items_on round clock (suc at) items place behind (omega (arith, low)) is

place_on : (round : Round) (clock at : ℕ) (place behind : RoundPlace) → object_at place ≤ at → from_place round clock at ≡ RoundGo behind → LooksOn place behind
place_on round clock at place behind low is = items_on round clock at (drop at (items_of round.items)) place behind low is

-- up from a note, or on to the next object
chain_on : (round : Round) (at clock asked note : ℕ) (behind : RoundPlace) (leads : Next EnvWalk EnvEnd) → by_chain round at clock asked leads ≡ RoundGo behind → LooksOn (AtNote at clock asked note) behind
chain_on round at clock asked note behind (TheNext.On (NoteLoad chain moment above)) is = goes_there (AtNote at clock asked note) (AtNote at clock asked above) behind is (omega arith)
chain_on round at clock asked note behind (TheNext.Done (Over (TheEnv.Is true))) is = let e : RoundOver (Some at) ≡ RoundGo behind = is in absurd (cc)
chain_on round at clock asked note behind leads is = place_on round clock (suc at) (AtNote at clock asked note) behind (omega arith) is

-- a counter at 0 ends the round; else it goes on to the next object
counter_on : (round : Round) (at clock counter : ℕ) (behind : RoundPlace) (zero : Bool) → (if zero then RoundOver (Some at) else from_place round clock (suc at)) ≡ RoundGo behind → LooksOn (AtCounter at clock counter) behind
counter_on round at clock counter behind true is = let e : RoundOver (Some at) ≡ RoundGo behind = is in absurd (cc)
counter_on round at clock counter behind false is = place_on round clock (suc at) (AtCounter at clock counter) behind (omega arith) is

-- so a step of a round leads to no earlier object
round_on : (round : Round) (place behind : RoundPlace) (found : ObjectFound) (seat : ℕ) (free : Place) (words words' : List ℕ) (env : EnvPlain) (events : List ObjectEvent) → ObjectEffect seat free (round_want place) words env found words' events → round_got round place found ≡ RoundGo behind → LooksOn place behind
round_on round FirstClock behind (Env (Clock clock)) seat free words words' env events effect is = place_on round clock 0 FirstClock behind (omega arith) is
round_on round FirstClock behind (Env other) seat free words words' env events effect is = let e = effect.0.found_is in absurd (cc)
round_on round FirstClock behind (Word word) seat free words words' env events effect is = absurd effect
round_on round (AtNote at clock asked note) behind (Env found) seat free words words' env events effect is = chain_on round at clock asked note behind (env_got_of (chain_from asked clock note) found) is
round_on round (AtNote at clock asked note) behind (Word word) seat free words words' env events effect is = absurd effect
round_on round (AtCounter at clock counter) behind (Word word) seat free words words' env events effect is = counter_on round at clock counter behind ((counter_of word).value == 0) is
round_on round (AtCounter at clock counter) behind (Env found) seat free words words' env events effect is = absurd effect

module _ {C : Type 0} {N : ℕ} where
  -- a call that names a variable waits on the lock behind its round
  waits_behind : (here next : Seat C N) (step : Step) (round again : Round) (place behind : RoundPlace) (named : Bool) → have_variable round.items ≡ named → (k : ℕ) → is_among k (items_of round.items) ≡ true →
      ObjectLeads (waits_then (InRound round place) (TheNext.Idle (InRound round FirstClock))) (TheNext.Idle (InRound round FirstClock)) here next step → next.doing ≡ OnObjects (InRound again behind) → ⊥
  waits_behind here next step round again place behind false is k among g stands = none_among (items_of round.items) k is among
  waits_behind here next step round again place behind true is k among g stands =
      let waits = (subst (λ b. ObjectLeads (cond b (Some round) None) (TheNext.Idle (InRound round FirstClock)) here next step) is g).goes in
      let e = sym (ap (λ (s : Seat C N). s.doing) waits) ∙ stands in
      absurd (cc)

  pub one_round_only : (old new : Whole C N) (here next : Seat C N) (step : Step) (steps : ObjectsSteps old new here next step) (round again : Round) (place behind : RoundPlace) (k : ℕ) → GoesOnInRound steps round place again behind → is_among k (items_of round.items) ≡ true → (again ≡ round) × LooksOn place behind
  one_round_only old new here next step steps round again place behind k (is, stands) among = by (round_got round place found) refl goes where
    found : ObjectFound
    found = steps.operates.found

    leads : steps.leads ≡ by_round round (round_got round place found)
    leads = steps.operates.leads ∙ ap (λ w. object_got w found) is

    goes : ObjectLeads (waits_then (InRound round place) (by_round round (round_got round place found))) (by_round round (round_got round place found)) here next step
    goes = subst (λ n. ObjectLeads (waits_then (InRound round place) n) n here next step) leads (subst (λ w. ObjectLeads (waits_then w steps.leads) steps.leads here next step) is steps.goes)

    effect : ObjectEffect here.number (object_place (Some (InRound round place))) (round_want place) old.objects.words old.env found new.objects.words steps.operates.events
    effect = subst (λ w. ObjectEffect here.number (object_place (Some w)) (object_want w) old.objects.words old.env found new.objects.words steps.operates.events) is steps.operates.effect

    by : (r : RoundNext) → round_got round place found ≡ r → ObjectLeads (waits_then (InRound round place) (by_round round r)) (by_round round r) here next step → (again ≡ round) × LooksOn place behind
    by (RoundGo there) e g =
        let d = sym (ap (λ (s : Seat C N). s.doing) g.0) ∙ stands in
        let rounds : again ≡ round = cc in
        let places : there ≡ behind = cc in
        (rounds, round_on round place behind found here.number _ old.objects.words new.objects.words old.env steps.operates.events effect (e ∙ ap RoundGo places))
    by (RoundOver (Some at)) e g = let d = sym (ap (λ (s : Seat C N). s.doing) g.0) ∙ stands in absurd (cc)
    by (RoundOver None) e g = absurd (waits_behind here next step round again place behind (have_variable round.items) refl k among g stands)

  pub shown_ends : (old new : Whole C N) (here next : Seat C N) (step : Step) (round : GoesRound old new here next step) (place : ℕ) → round.leads ≡ TheNext.Done (TheObject.Number place) → (cause : Cause) × GoesOnBy round (Some place) (Some cause)
  shown_ends old new here next step round place is =
      let goes : RoundLeads (TheNext.Done (TheObject.Number place)) here round.walk round.wait next step = subst (λ n. RoundLeads n here round.walk round.wait next step) is round.goes in
      (_, (ap (λ (s : Seat C N). s.doing) goes.goes, ap (λ (s : Seat C N). s.held) goes.goes, goes.answers))

  pub nothing_shown : (old new : Whole C N) (here next : Seat C N) (step : Step) (round : GoesRound old new here next step) (walk : ObjectWalk) → round.leads ≡ TheNext.Idle walk → GoesOnBy round None None
  nothing_shown old new here next step round walk is =
      let goes : RoundLeads (TheNext.Idle walk) here round.walk round.wait next step = subst (λ n. RoundLeads n here round.walk round.wait next step) is round.goes in
      (ap (λ (s : Seat C N). s.doing) goes.goes, ap (λ (s : Seat C N). s.held) goes.goes, goes.answers)

  -- ---- replies

  module _ (before after : Whole C N) (earlier later : List EnvEvent) (seat : ℕ) (reply : Reply) where
    pub of_try : (mode : Mode) → AnswersOfLock before earlier seat (TheRequest.TryLock mode) reply after later → SaysOfTry mode reply (held_at before seat) (held_at after seat)
    of_try mode a = subst (λ r. SaysOfTry mode r (held_at before seat) (held_at after seat)) (sym a.tells) (by a.answer a.means) where
      by : (answer : WalkReply) → Means after.truths seat (row_after after.history) (TheRequest.TryLock mode) a.course answer (held_at after seat) → SaysOfTry mode (reply_of_lock answer) (held_at before seat) (held_at after seat)
      by TheWalk.Succeeded means = subst (HasMode mode) (sym means.section) refl
      by TheWalk.Busy means = means.same ∙ a.began
      by other means = absurd means

    was_some : (was : Held C N) (held : Option (Held C N)) → held ≡ Some was → IsSome held
    was_some was held is = subst IsSome (sym is) refl

    quiet_some : (held : Option (Held C N)) → InHand held (λ section. false ≡ after.truths.quiet section.before section.row) → IsSome held
    quiet_some None means = absurd means
    quiet_some (Some held) means = refl

    pub of_release : (releasing : Releasing) → AnswersOfLock before earlier seat (TheRequest.Release releasing) reply after later → SaysOfRelease releasing reply (held_at before seat) (held_at after seat)
    of_release releasing a = subst (λ r. SaysOfRelease releasing r (held_at before seat) (held_at after seat)) (sym a.tells) (by releasing a.answer a.means) where
      by : (releasing : Releasing) (answer : WalkReply) → Means after.truths seat (row_after after.history) (TheRequest.Release releasing) a.course answer (held_at after seat) → SaysOfRelease releasing (reply_of_lock answer) (held_at before seat) (held_at after seat)
      by releasing TheWalk.Succeeded means = (means.left, was_some means.was (held_at before seat) (sym a.began ∙ means.began))
      by QuietWriter TheWalk.Noisy means = let same = means.0.same ∙ a.began in (same, subst IsSome same (quiet_some (held_at after seat) means.1))
      by releasing other means = absurd means

    pub of_read : (i : ℕ) → AnswersOfLock before earlier seat (TheRequest.Get i) reply after later → SaysOfRead i reply (held_at after seat)
    of_read i a = by a.answer a.tells a.means where
      by : (answer : WalkReply) → reply ≡ reply_of_lock answer → Means after.truths seat (row_after after.history) (TheRequest.Get i) a.course answer (held_at after seat) → SaysOfRead i reply (held_at after seat)
      by (TheWalk.Number value) tells means = (value, tells, means.1)
      by other tells means = absurd means

    no_any : (wait : Wait C) (by : Option ℕ) (held : Option (Held C N)) (a : AnswersOfLock before earlier seat (Await wait) reply after later) → is_for_any wait.on ≡ false →
        InHand held (λ back. AnyMeans after.truths seat (row_after after.history) wait.mode wait.on wait.limits a.course by back) → ⊥
    no_any wait by None a alone means = means
    no_any wait by (Some back) a alone means = on wait.on alone means where
      on : (on : Subject C) → is_for_any on ≡ false → AnyMeans after.truths seat (row_after after.history) wait.mode on wait.limits a.course by back → ⊥
      on (OnVariables (Any cvs)) alone means = absurd (cc)
      on other alone means = means

    pub of_wait : (wait : Wait C) → is_for_any wait.on ≡ false → (a : AnswersOfLock before earlier seat (Await wait) reply after later) → SaysOfWait seat wait a.course reply after
    of_wait wait alone a = by a.answer a.tells a.means where
      by : (answer : WalkReply) → reply ≡ reply_of_lock answer → Means after.truths seat (row_after after.history) (Await wait) a.course answer (held_at after seat) → SaysOfWait seat wait a.course reply after
      by (TheWalk.Answered said) tells means = (said, tells, means)
      by (TheWalk.WokenBy woken) tells means = absurd (no_any wait woken (held_at after seat) a alone means)
      by other tells means = absurd means
