-- Where a call on counters and once cells may go: it is over, or goes on to one of these places.
use Rattle.std.proofs.Common.{Err, None, Ok, Option, Result, Some, eqb, refl, ℕ, ℤ, ◌≡◌}
use Rattle.ns_counters.proofs.Prelude.{AddExchange, Already, CounterFault, CounterState, Done, FirstClock, Idle, InRound, Next, Number, ObjectReply, ObjectWalk, On, OnceBegin, OnceEnd, OnceLoad, Refused, Round, RoundGo, RoundNext, RoundOver, RoundPlace, Stage, WaitClock, WaitLoad, by_answer}
use Rattle.ns_counters.proofs.Prelude.{by_begun, by_deadline, by_round, by_stage, either, waited_next}
use Rattle.ns_counters.specs.declared.word.Stage.TheVariants as TheStage

module _ (P : Next ObjectWalk ObjectReply → Type 0) (over : (reply : ObjectReply) → P (Done reply)) where
  pub at_answer : (counter : ℕ) (delta : ℤ) (seen : CounterState) (r : Result ℕ CounterFault) → ((value : ℕ) → r ≡ Ok value → P (On (AddExchange counter delta seen value))) → P (by_answer counter delta seen r)
  at_answer counter delta seen (Ok value) on = on value refl
  at_answer counter delta seen (Err fault) on = over (Refused fault)

  pub at_waited : (counter : ℕ) (deadline : Option ℕ) (value : ℕ) → (deadline ≡ None → P (Idle (WaitLoad counter None))) → ((moment : ℕ) → deadline ≡ Some moment → P (On (WaitClock counter moment value))) → P (waited_next counter deadline value)
  at_waited counter deadline value ever until = either P (eqb value 0) (over (Number 0)) (late deadline ever until) where
    late : (deadline : Option ℕ) → (deadline ≡ None → P (Idle (WaitLoad counter None))) → ((moment : ℕ) → deadline ≡ Some moment → P (On (WaitClock counter moment value))) → P (by_deadline counter deadline value)
    late None ever until = ever refl
    late (Some moment) ever until = until moment refl

  pub at_stage : (once : ℕ) (stage : Stage) → P (On (OnceBegin once)) → P (Idle (OnceLoad once)) → P (by_stage once stage)
  at_stage once TheStage.Unused begin load = begin
  at_stage once TheStage.Running begin load = load
  at_stage once TheStage.Done begin load = over Already

  pub at_begun : (once : ℕ) (stage : Stage) → P (On (OnceEnd once)) → P (Idle (OnceLoad once)) → P (by_begun once stage)
  at_begun once TheStage.Unused end load = end
  at_begun once TheStage.Running end load = load
  at_begun once TheStage.Done end load = over Already

  pub at_round : (round : Round) (next : RoundNext) → ((place : RoundPlace) → P (On (InRound round place))) → P (Idle (InRound round FirstClock)) → P (by_round round next)
  at_round round (RoundGo place) on again = on place
  at_round round (RoundOver None) on again = again
  at_round round (RoundOver (Some at)) on again = over (Number at)
