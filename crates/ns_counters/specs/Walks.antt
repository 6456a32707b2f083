-- The walks of the calls on counters and once cells: what each place wants, and where each answer leads.
use Rattle.std.specs.Prelude.{Bool, Err, None, Ok, Option, Result, Some, false, if◌then◌else◌, nat_lt, true, ℕ, ℤ, ◌==◌}
use Rattle.ns_counters.specs.Names.{AddExchange, AddLoad, Adding, Already, BeginOnce, Clock, CounterFault, CounterState, Done, DoneLoad, EndOnce, Env, ExchangeToAdd, FirstClock, Free, Idle, InRound, LoadClock, LoadToAdd, LookCounter, LookOnce, MarkWait, Next, Number, ObjectFound, ObjectReply}
use Rattle.ns_counters.specs.Names.{ObjectWalk, ObjectWant, On, OnEnv, OnWord, OnceBegin, OnceEnd, OnceLoad, Place, Refused, Round, RoundGo, RoundNext, RoundOver, Running, Stage, ValueLoad, WaitClock, WaitLoad, WaitMark, Word, judged}
use Rattle.ns_counters.specs.RoundWalks.{IsInList, round_got, round_want}
use Rattle.ns_counters.specs.Words.{counter_of, counter_word, stage_of}
use Rattle.ns_counters.specs.declared.reply.ObjectReply.TheVariants.{Is, Ran}
use Rattle.ns_counters.specs.declared.word.Stage.TheVariants as TheStage

-- the step that each place wants
abbrev pub object_want : ObjectWalk → ObjectWant
object_want (AddLoad counter delta) = OnWord (LoadToAdd counter delta)
object_want (AddExchange counter delta seen value) = OnWord (ExchangeToAdd counter delta seen value)
object_want (ValueLoad counter) = OnWord (LookCounter counter)
object_want (WaitMark counter deadline) = OnWord (MarkWait counter)
object_want (WaitLoad counter deadline) = OnWord (LookCounter counter)
object_want (WaitClock counter moment value) = OnEnv LoadClock
object_want (OnceLoad once) = OnWord (LookOnce once)
object_want (OnceBegin once) = OnWord (BeginOnce once)
object_want (OnceEnd once) = OnWord (EndOnce once)
object_want (DoneLoad once) = OnWord (LookOnce once)
object_want (InRound round place) = round_want place

-- A change that was judged by the counter seen goes on to make it, or is refused.
abbrev pub by_answer : ℕ → ℤ → CounterState → Result ℕ CounterFault → Next ObjectWalk ObjectReply
by_answer counter delta seen (Ok value) = On (AddExchange counter delta seen value)
by_answer counter delta seen (Err fault) = Done (Refused fault)

-- where a change goes by the word found
abbrev pub by_judging : ℕ → ℤ → ℕ → Next ObjectWalk ObjectReply
by_judging counter delta word = by_answer counter delta (counter_of word) (judged (counter_of word) delta)

-- A wait for 0 compares the clock with its deadline, if it has one, and else waits.
abbrev pub by_deadline : ℕ → Option ℕ → ℕ → Next ObjectWalk ObjectReply
by_deadline counter None value = Idle (WaitLoad counter None)
by_deadline counter (Some moment) value = On (WaitClock counter moment value)

-- where a wait for 0 goes by the value
abbrev pub waited_next : ℕ → Option ℕ → ℕ → Next ObjectWalk ObjectReply
waited_next counter deadline value = if value == 0 then Done (Number 0) else by_deadline counter deadline value

-- Where nobody has begun to run a function, the call is to begin; where somebody runs one, it waits; where one has run, it is over.
abbrev pub by_stage : ℕ → Stage → Next ObjectWalk ObjectReply
by_stage once TheStage.Unused = On (OnceBegin once)
by_stage once TheStage.Running = Idle (OnceLoad once)
by_stage once TheStage.Done = Done Already

-- the same, where the call has tried to begin: if nobody had, it has
abbrev pub by_begun : ℕ → Stage → Next ObjectWalk ObjectReply
by_begun once TheStage.Unused = On (OnceEnd once)
by_begun once stage = by_stage once stage

-- whether the function has run
abbrev pub has_run : Stage → Bool
has_run TheStage.Done = true
has_run stage = false

-- A wait for any answers what its round shows; if that is nothing, it waits for a new round.
abbrev pub by_round : Round → RoundNext → Next ObjectWalk ObjectReply
by_round round (RoundGo place) = On (InRound round place)
by_round round (RoundOver None) = Idle (InRound round FirstClock)
by_round round (RoundOver (Some at)) = Done (Number at)

-- where the walk goes with what its step found; what no step of the place finds leaves it there
abbrev pub object_got : ObjectWalk → ObjectFound → Next ObjectWalk ObjectReply
object_got (AddLoad counter delta) (Word word) = by_judging counter delta word
object_got (AddExchange counter delta seen value) (Word word) = if word == counter_word seen then Done (Number value) else by_judging counter delta word
object_got (ValueLoad counter) (Word word) = Done (Number (counter_of word).value)
object_got (WaitMark counter deadline) (Word word) = waited_next counter deadline (counter_of word).value
object_got (WaitLoad counter deadline) (Word word) = waited_next counter deadline (counter_of word).value
object_got (WaitClock counter moment value) (Env (Clock clock)) = if nat_lt clock moment then Idle (WaitLoad counter (Some moment)) else Done (Number value)
object_got (OnceLoad once) (Word word) = by_stage once (stage_of word)
object_got (OnceBegin once) (Word word) = by_begun once (stage_of word)
object_got (OnceEnd once) (Word word) = Done Ran
object_got (DoneLoad once) (Word word) = Done (Is (has_run (stage_of word)))
object_got (InRound round place) found = by_round round (round_got round place found)
object_got walk found = On walk

-- what binds a seat at this place of its walk to its next step
abbrev pub object_place : Option ObjectWalk → Place
object_place (Some (AddExchange counter delta seen value)) = Adding counter delta
object_place (Some (OnceEnd once)) = Running once
object_place walk = Free

-- a round's place in its list is one of 16
abbrev pub IsInBounds : ObjectWalk → Type 0
IsInBounds (InRound round place) = IsInList place
IsInBounds walk = Unit {0}
