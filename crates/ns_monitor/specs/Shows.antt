-- What a call shows of how the monitor stands.
use Rattle.std.specs.Prelude.{List, Some, false, ℕ, ◌++◌, ◌∷◌, ◌≡◌}
use Rattle.ns_monitor.specs.Names.{BeginsWith, DebugState, Event, IsLawful, Lists, LockState, SeatView, ShowsLists, Truths, Word, own_of, Bounded, HasMadeSteps, HasUnchangedQueues, InShow, IsAtPlace, IsPackable, ReturnShown, ToChange, the, word_taken}
use Rattle.ns_monitor.specs.Known.{Known, known_of}
use Rattle.ns_monitor.specs.Walks.{showing}

-- At one moment between what the caller had seen and what it has seen now, the lock was in a lawful state, with this word and these lists, which nobody had in hand; in it the caller had the section in hand that it has, and its own events were just those that it had done.
pub record HasStood {C : Type 0} {N : ℕ} (truths : Truths C) (word : Word) (lists : Lists C) (old new : Known C N) : Type 0 where
  pub history : List (Event C N)
  pub state : LockState C N
  pub lawful : IsLawful truths old.seat_count history state
  pub word_is : state.word ≡ word
  pub clear : word.spin ≡ false
  pub lists_are : state.lists ≡ lists
  pub after : BeginsWith history old.seen
  pub before : BeginsWith new.seen history
  pub own : own_of history old.seat ≡ old.mine
  pub front : List (SeatView C N)
  pub view : SeatView C N
  pub back : List (SeatView C N)
  pub there : state.views ≡ front ++ view ∷ back
  pub seat : view.seat ≡ old.seat
  pub held : view.held ≡ old.held

-- A call that shows has taken the queues, at a word that has a number: they stand as they did, and so did the lock then.
pub record HasTakenToShow {C : Type 0} {N : ℕ} (truths : Truths C) (word : Word) (old new : Bounded C N) : Type 0 where
  pub since : HasMadeSteps (Some showing) old new
  pub at : IsAtPlace truths (InShow (ReturnShown (word_taken ToChange word))) new.me
  pub packs : IsPackable word
  pub taken : HasUnchangedQueues new.me
  pub stood : HasStood truths word (the new.me.0).stood (known_of old.gate old.me) (known_of new.gate new.me)

-- What is shown is that word, and who stands in each of those lists.
pub record ShowsState {C : Type 0} {N : ℕ} (truths : Truths C) (shown : DebugState) (old new : Known C N) : Type 0 where
  pub lists : Lists C
  pub stood : HasStood truths shown.word lists old new
  pub shows : ShowsLists lists (record { lock = shown.lock; cvs = shown.cvs })
