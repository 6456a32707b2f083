-- What each step of a seat tells its caller.
use Rattle.std.specs.Prelude.{◌≡◌, ℕ, ◌-◌, ℤ, pos, List, [], ◌∷◌, ◌++◌}
use Rattle.ns_objects.specs.Names.{Adding, AreObjectsBySeats, BeginsWith, CounterState, EndOnce, Free, HasActed, HaveLearnedBy, IsLegalObjects, IsOne, IsWordOf, Me, ObjectAct, ObjectEvent, ObjectView, Outcome, Place, Running, TableId, counter_of, judged, objects_own, tried}
use Rattle.ns_objects.specs.Known.{known_of, the, no_setup, Grows, AreOfOneHistory}
use Rattle.ns_objects.specs.Law.{fresh_seat}

-- the once cell whose word this is
abbrev pub once_at : ℕ → ℕ
once_at word = word - 16

-- the counter that a word was seen to tell of
abbrev pub word_seen : ℕ → CounterState
word_seen word = counter_of word

-- the value that a new word has
abbrev pub value_of : ℕ → ℕ
value_of word = (counter_of word).value

-- the change that a load was told
abbrev pub change_said : List ℤ → ℤ
change_said [] = pos 0
change_said (delta ∷ others) = delta

-- the change that a caller goes to make
abbrev pub change_in_hand : Place → ℤ
change_in_hand Free = pos 0
change_in_hand (Adding counter delta) = delta
change_in_hand (Running once) = pos 0

-- the seat stands for itself alone before and after, holds what it held, and has made this step
abbrev pub OneActs : {S : Type 0} → ObjectAct → ℕ → Me S (List ObjectView) → Me S (List ObjectView) → Type 0
OneActs act found me now = IsOne now.0 × (now.1 ≡ me.1) × HasActed act found (the me.0) (the now.0)

-- the seat has said that the function of a once cell has run; a store finds nothing
abbrev pub OneEnds : {S : Type 0} → ℕ → Me S (List ObjectView) → Me S (List ObjectView) → Type 0
OneEnds once me now = (found : ℕ) × OneActs (EndOnce once) found me now

-- The caller has come further: just these events of its own have come to what it had seen, with any of others' between, and it now stands at this place. What it has seen is a legal history, by the seats that there are, in which its own events are just its own.
pub record HasCome (events : List ObjectEvent) (place : Place) (old new : ObjectView) : Type 0 where
  pub setup : new.setup ≡ old.setup
  pub seat : new.seat ≡ old.seat
  pub since : BeginsWith new.seen old.seen
  pub mine : new.mine ≡ old.mine ++ events
  pub place_is : new.place ≡ place
  pub legal : IsLegalObjects old.setup new.seen
  pub by_seats : AreObjectsBySeats old.setup new.seen
  pub own : objects_own new.seen new.seat ≡ new.mine

-- the seat stands for itself alone before and after, holds what it held, and has come so far
abbrev pub OneComes : {S : Type 0} → List ObjectEvent → Place → Me S (List ObjectView) → Me S (List ObjectView) → Type 0
OneComes events place me now = IsOne now.0 × (now.1 ≡ me.1) × HasCome events place (the me.0) (the now.0)

-- a word that a table keeps of a counter
abbrev pub IsCounterWord : ℕ → Type 0
IsCounterWord word = IsWordOf word (counter_of word)

-- A change was judged by the counter of this word: what a refusal leaves, or the place from where it is made.
abbrev pub judging : ℕ → ℕ → ℤ → ℕ → Outcome
judging who counter delta word = tried who counter delta word (judged (counter_of word) delta)

-- the change was judged by this word, and has not been made
abbrev pub HasJudged : {S : Type 0} → ℕ → ℤ → ℕ → Me S (List ObjectView) → Me S (List ObjectView) → Type 0
HasJudged counter delta word me now = OneComes (judging (the me.0).seat counter delta word).events (judging (the me.0).seat counter delta word).place me now

-- two seats that are joined have seen the history so far
pub record HaveMet (a b a' b' : ObjectView) : Type 0 where
  pub first : (objects : TableId) → Grows (known_of objects a) (known_of objects a')
  pub second : (objects : TableId) → Grows (known_of objects b) (known_of objects b')
  pub first_mine : a'.mine ≡ a.mine
  pub second_mine : b'.mine ≡ b.mine
  pub first_place : a'.place ≡ a.place
  pub second_place : b'.place ≡ b.place
  pub same : b'.seen ≡ a'.seen
  pub before : (objects : TableId) → AreOfOneHistory (known_of objects a) (known_of objects b)

-- two seats that stand together have learned the history so far, and hold what they held
abbrev pub Learned : {S : Type 0} → Me S (List ObjectView) → Me S (List ObjectView) → Type 0
Learned = HaveLearnedBy (fresh_seat no_setup 0) HaveMet
