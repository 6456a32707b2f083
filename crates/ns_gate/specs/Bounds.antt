-- What contracts see of a seat that is bound to its gate, and what a call of it leaves as it was.
use Rattle.std.specs.Prelude.{IfErr, None, Option, Result, ℕ, ◌≡◌}
use Rattle.atomic_table.specs.Seated.{TableId}
use Rattle.ns_gate.specs.Names.{Act, Found, IsPackable, Truths, Walk, Word}
use Rattle.ns_gate.specs.Calls.{HasSince, SeatOf}
use Rattle.ns_gate.specs.Steps.{CameByGuess, Performed, the, tried_for}

-- which gate the seat is of, the name of the reference by which it is lent, and what the table says of it
pub record Bounded (C : Type 0) (N : ℕ) : Type 0 where
  pub gate : TableId
  pub lent : ℕ
  pub me : SeatOf C N

-- It is the same seat of the same gate, lent by the same reference, and has come so far.
pub record HasComeBy {C : Type 0} {N : ℕ} (far : SeatOf C N → SeatOf C N → Type 0) (old new : Bounded C N) : Type 0 where
  pub gate : new.gate ≡ old.gate
  pub lent : new.lent ≡ old.lent
  pub by : far old.me new.me

-- the seat has made the act, and found this
abbrev pub HasMade : {C : Type 0} {N : ℕ} → Truths C → Option (Walk C) → Act C → Found → Bounded C N → Bounded C N → Type 0
HasMade truths begun act found = HasComeBy (Performed truths begun act found)

-- the seat has made some steps of one call
abbrev pub HasMadeSteps : {C : Type 0} {N : ℕ} → Option (Walk C) → Bounded C N → Bounded C N → Type 0
HasMadeSteps begun = HasComeBy (λ me now. HasSince begun (the me.0) (the now.0))

-- the seat has made no step, but may have changed the queues that it has in hand
abbrev pub HasWorked : {C : Type 0} {N : ℕ} → Bounded C N → Bounded C N → Type 0
HasWorked = HasComeBy (λ me now. now.0 ≡ me.0)

-- The seat has tried to make the act by an exchange, which finds this if it is made, and else another word; that word has a number.
pub record HasTried {C : Type 0} {N : ℕ} (truths : Truths C) (act : Act C) (made : Found) (result : Result Unit Word) (old new : Bounded C N) : Type 0 where
  pub word : IfErr result IsPackable
  pub did : HasMade truths None act (tried_for made result) old new

-- The seat has begun a call by an exchange for which it has guessed the word, and which would make this act, too; where it finds another word, that has a number.
pub record HasGuessedTo {C : Type 0} {N : ℕ} (truths : Truths C) (first : Walk C) (guess : Word) (act : Act C) (result : Result Unit Word) (old new : Bounded C N) : Type 0 where
  pub word : IfErr result IsPackable
  pub came : HasComeBy (CameByGuess truths first guess act result) old new
