-- What a step finds, of the one word that it loads or compares and of what its seat has.
use Rattle.std.specs.Prelude.{List, None, Option, Some, [], false, if◌then◌else◌, slice_index, ℕ, ◌==◌, ◌∷◌}
use Rattle.ns_word.specs.Names.{Acquire, Act, ArmFlag, Cell, Flag, Found, Held, JudgeMet, JudgeQuiet, Lists, LoadCell, LoadFlag, LoadWord, Look, Looked, Made, Owed, Paid, PayWake, Quiet, Release, ReleaseReturning, ReturnQueues, Saw, Scanned, SeatView, StoreCell, TakeQueues, Tested, Truths}
use Rattle.ns_word.specs.Names.{WaitReturning, Waiter, Word, has_some, tests_of, woken_of}
use Rattle.ns_word.specs.Owed.{called_of}
use Rattle.ns_word.specs.Codec.{number_of, word_of}
use Rattle.ns_word.specs.Steps.{LockState, change_found, meets_at}

-- the row of a section in hand, and the row that it began at
abbrev pub row_in : {C : Type 0} {N : ℕ} → Option (Held C N) → List ℕ
row_in None = []
row_in (Some held) = held.row

abbrev pub before_in : {C : Type 0} {N : ℕ} → Option (Held C N) → List ℕ
before_in None = []
before_in (Some held) = held.before

-- the content that an act loads, or that its exchange compares; the others load none
abbrev pub content_at : {C : Type 0} {N : ℕ} → ℕ → Act C → LockState C N → ℕ
content_at seat (LoadCell i) s = slice_index s.row i
content_at seat LoadFlag s = s.flags seat
content_at seat act s = number_of s.word

-- what an exchange finds at this content: that it is made, or the word that is there
abbrev pub exchanged : ℕ → Word → Found → Found
exchanged number last made = if number_of last == number then made else Saw (word_of number)

-- what a scan of this list finds at this row
abbrev pub scanned : {C : Type 0} → Truths C → List ℕ → List (Waiter C) → Found
scanned truths row lock = Scanned (has_some (called_of (woken_of (meets_at truths row) lock))) (tests_of truths.same (meets_at truths row) lock)

-- whether wakes are owed behind the first
abbrev pub owes_more : List Owed → Found
owes_more [] = Paid false
owes_more (wake ∷ rest) = Paid (has_some rest)

-- What the act of a seat finds: of the content that it loads or compares, of the seat's section and wakes, and of the lists, if it has them in hand. What a look shows stands in no word of the lock.
abbrev pub found_of : {C : Type 0} {N : ℕ} → Truths C → Act C → SeatView C N → Lists C → ℕ → Found
found_of truths LoadWord view lists number = Saw (word_of number)
found_of truths (Acquire aim arrival last) view lists number = exchanged number last Made
found_of truths (TakeQueues taking last) view lists number = exchanged number last Made
found_of truths (ReturnQueues change last) view lists number = exchanged number last (change_found view.seat change last lists)
found_of truths (Release releasing last) view lists number = exchanged number last Made
found_of truths (ReleaseReturning releasing last) view lists number = exchanged number last (scanned truths (row_in view.held) lists.lock)
found_of truths (WaitReturning wait again last) view lists number = exchanged number last (scanned truths (row_in view.held) lists.lock)
found_of truths (LoadCell i) view lists number = Cell number
found_of truths (JudgeQuiet i) view lists number = Quiet (truths.quiet (before_in view.held) (row_in view.held))
found_of truths (JudgeMet i c) view lists number = Tested (truths.holds c (row_in view.held))
found_of truths (StoreCell i v) view lists number = Made
found_of truths ArmFlag view lists number = Made
found_of truths PayWake view lists number = owes_more view.owed
found_of truths LoadFlag view lists number = Flag number
found_of truths (Look limits again) view lists number = Looked None

-- the act is a look
abbrev pub IsLook : {C : Type 0} → Act C → Type 0
IsLook (Look limits again) = Unit {0}
IsLook act = ⊥
