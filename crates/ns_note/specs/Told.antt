-- What each step of a seat tells its caller.
use Rattle.std.specs.Prelude.{◌≡◌, ℕ, ◌<◌, ◌≤◌, List, [], ◌∷◌, ◌++◌}
use Rattle.ns_note.specs.Names.{EnvAct, EnvEvent, EnvPlain, EnvView, HasActed, HaveLearnedBy, IsOne, Me, Nothing, StoreNote, TableId, Take, Taken, takes_in}
use Rattle.ns_note.specs.Known.{known_of, the, Grows, AreOfOneHistory}
use Rattle.ns_note.specs.Law.{IsWordAt, fresh_seat}
use Rattle.ns_note.specs.Words.{note_of}

-- the step by which the note of this word is made
abbrev pub note_stored : ℕ → ℕ → EnvAct
note_stored note word = StoreNote note (note_of word).parent (note_of word).deadline

-- the step was made, which has found this word
pub record FoundWord (act : EnvAct) (word : ℕ) (old new : EnvView) : Type 0 where
  pub plain : EnvPlain
  pub word_is : IsWordAt act plain word
  pub acted : HasActed act plain old new

-- the seat stands for itself alone before and after, holds what it held, and has made this step, which has found this word
abbrev pub OneActs : {S : Type 0} → EnvAct → ℕ → Me S (List EnvView) → Me S (List EnvView) → Type 0
OneActs act word me now = IsOne now.0 × (now.1 ≡ me.1) × FoundWord act word (the me.0) (the now.0)

-- the same of a step that is a store, which finds nothing
abbrev pub OneMakes : {S : Type 0} → EnvAct → Me S (List EnvView) → Me S (List EnvView) → Type 0
OneMakes act me now = (word : ℕ) × OneActs act word me now

-- what the caller knows has grown by these events of its own
pub record Adds (events : List EnvEvent) (old new : EnvView) : Type 0 where
  pub grows : (env : TableId) → Grows (known_of env old) (known_of env new)
  pub mine : new.mine ≡ old.mine ++ events

-- two seats that are joined have seen the history so far
pub record HaveLearned (a b a' b' : EnvView) : Type 0 where
  pub first : Adds [] a a'
  pub second : Adds [] b b'
  pub first_making : a'.making ≡ a.making
  pub second_making : b'.making ≡ b.making
  pub same : b'.seen ≡ a'.seen
  pub before : (env : TableId) → AreOfOneHistory (known_of env a) (known_of env b)

-- two seats that stand together have learned the history so far, and hold what they held
abbrev pub Learned : {S : Type 0} → Me S (List EnvView) → Me S (List EnvView) → Type 0
Learned = HaveLearnedBy (fresh_seat 0 0) HaveLearned

-- the seat has taken this number, which is past all that it had seen taken
abbrev pub HasTakenNumber : ℕ → EnvView → EnvView → Type 0
HasTakenNumber number old new = (number < 64) × Adds (Take old.seat number ∷ []) old new × (new.making ≡ Taken number) × (takes_in old.seen ≤ number)

-- the seat found no number left
abbrev pub FoundFull : EnvView → EnvView → Type 0
FoundFull old new = Adds [] old new × (new.making ≡ Nothing) × (takes_in new.seen ≡ 64)
