-- What one step of a seat is: a step of the machine between two lawful states.
use Rattle.std.specs.Prelude.{Bool, Err, List, None, Ok, Option, Result, Some, [], slice_index, true, ℕ, ◌++◌, ◌+◌, ◌∷◌, ◌≡◌, ◌≤◌}
use Rattle.ns_gate.specs.Names.{Acquire, Act, ArmFlag, BeginsWith, Bits, CallGoes, Cause, Changed, Course, Event, Found, IsFirst, IsLawful, IsLook, IsOne, IsTold, JudgeMet, JudgeQuiet, Left, Lists, LoadCell, LoadFlag, LoadWord, LockState, Looked, Made, Me, Owed, PayWake, PlaceFits, Release}
use Rattle.ns_gate.specs.Names.{ReleaseReturning, Released, ReturnQueues, Returning, Saw, Scanned, SeatStep, SeatView, StoreCell, TakeQueues, Truths, Turned, ViewFits, WaitReturning, Waited, Walk, Woke, Word, asked_of, bits_of, calls_of, change_found, changed, content_at, course_after, course_from}
use Rattle.ns_gate.specs.Names.{found_of, got_of, has_queues, has_some, left_of, meets_at, mode_for, moves, place_after, releasing_of, rest, row_after, row_in, scanned, standing_after, the_or, times, told_after, waited_in, want_of, with_lock, woken_of, word_acquired, word_released}
use Rattle.ns_gate.specs.Names.{word_released_returning, word_returned, word_taken}
use Rattle.ns_gate.specs.Law.{GateView, fresh_seat}

-- the seat that a view stands for, where it is one
abbrev pub the : {C : Type 0} {N : ℕ} → List (GateView C N) → GateView C N
the = the_or (fresh_seat 0 0)

-- the place of a seat in its call as it makes its step: the first one, where the step begins the call
abbrev pub walk_by : {C : Type 0} → Option (Walk C) → Option (Walk C) → Option (Walk C)
walk_by None walk = walk
walk_by (Some first) walk = Some first

-- how far the call has come before the step
abbrev pub course_by : {C : Type 0} {N : ℕ} → Option (Walk C) → GateView C N → Course C N
course_by None view = view.course
course_by (Some walk) view = course_from view.at.held

-- the seat may begin this call, if it begins one
abbrev pub MayBegin : {C : Type 0} {N : ℕ} → Truths C → Option (Walk C) → SeatView C N → Type 0
MayBegin truths None view = Unit {0}
MayBegin {C} {N} truths (Some walk) view = (view.walk ≡ None) × IsFirst N walk × PlaceFits truths (Some walk) view.held

-- the seat may make this act next, as the next step of its call or as the first of one that it begins
pub record CanStep {C : Type 0} {N : ℕ} (truths : Truths C) (begun : Option (Walk C)) (act : Act C) (me : Me (Lists C) (List (GateView C N))) : Type 0 where
  pub one : IsOne me.0
  pub may : MayBegin truths begun (the me.0).at
  pub walk : Walk C
  pub walks : walk_by begun (the me.0).at.walk ≡ Some walk
  pub wants : want_of walk ≡ act

-- A step of one seat, between two lawful states, and what its call has come to.
pub record HasStepped {C : Type 0} {N : ℕ} (truths : Truths C) (begun : Option (Walk C)) (found : Found) (v w : GateView C N) : Type 0 where
  pub old : LockState C N
  pub new : LockState C N
  pub history : List (Event C N)
  pub commits : List (Event C N)
  pub few : v.seat_count ≤ 64
  pub lawful : IsLawful truths v.seat_count history old
  pub lawful_now : IsLawful truths v.seat_count (history ++ commits) new
  pub made : SeatStep truths old v.at begun found new commits
  pub seat_count : w.seat_count ≡ v.seat_count
  pub becomes : w.at ≡ record { seat = v.at.seat; walk = place_after (got_of N made.step.walk found); held = made.step.held; owed = made.step.owed }
  pub tells : w.told ≡ told_after history commits (calls_of begun) v.told
  pub told_was : IsTold truths.holds v.seat_count history v.at.seat v.at.walk v.told
  pub told_now : IsTold truths.holds v.seat_count (history ++ commits) w.at.seat w.at.walk w.told
  pub grows : BeginsWith w.told.seen v.told.seen
  pub course : w.course ≡ course_after found commits (course_by begun v)
  pub goes : CallGoes truths v.at.seat (row_after (history ++ commits)) (asked_of made.step.walk) w.course (got_of N made.step.walk found) w.at.held
  pub fits : ViewFits truths v.seat_count (standing_after (history ++ commits)) new.row w.at
  pub stood_was : has_queues v.at.walk ≡ true → v.stood ≡ old.lists
  pub stood_now : w.stood ≡ new.lists

-- The slots that the seat holds behind the act, where the lists then stand so: who takes the queues has them as they stood, and who puts them back has none.
abbrev pub carried_by : {C : Type 0} → Act C → Found → Lists C → List (ℕ × Lists C) → List (ℕ × Lists C)
carried_by (TakeQueues taking last) Made stood slots = (0, stood) ∷ slots
carried_by (ReturnQueues change last) Made stood slots = rest slots
carried_by (ReturnQueues change last) (Left stands) stood slots = rest slots
carried_by (ReturnQueues change last) (Woke owes) stood slots = rest slots
carried_by (ReleaseReturning releasing last) (Scanned owes tests) stood slots = rest slots
carried_by (WaitReturning wait again last) (Scanned owes tests) stood slots = rest slots
carried_by act found stood slots = slots

-- the seat has these lists in hand, and no other slot
abbrev pub Carries : {C : Type 0} {N : ℕ} → Lists C → Me (Lists C) (List (GateView C N)) → Type 0
Carries lists me = me.1 ≡ (0, lists) ∷ []

-- the lists in hand are as they stood at home
abbrev pub HasUnchangedQueues : {C : Type 0} {N : ℕ} → Me (Lists C) (List (GateView C N)) → Type 0
HasUnchangedQueues me = Carries (the me.0).stood me

-- it has lists in hand, and the seat of this number stands in none of them
abbrev pub StandsNowhere : {C : Type 0} {N : ℕ} → ℕ → Me (Lists C) (List (GateView C N)) → Type 0
StandsNowhere {C} number me = (lists : Lists C) × Carries lists me × (times number lists ≡ 0)

-- the next wake that is owed
abbrev pub next_owed : List Owed → Owed
next_owed [] = record { seat = 0; value = 0 }
next_owed (wake ∷ others) = wake

-- the content that an act loads, compares or stores in a state; one that judges loads the row's last cell
abbrev pub content_by : {C : Type 0} {N : ℕ} → SeatView C N → Act C → LockState C N → ℕ
content_by view (JudgeQuiet i) s = slice_index s.row i
content_by view (JudgeMet i c) s = slice_index s.row i
content_by view (StoreCell i v) s = v
content_by view ArmFlag s = 1
content_by view PayWake s = (next_owed view.owed).value
content_by view act s = content_at view.seat act s

-- The seat has made the act, and found this: what the content that the state has there tells, but for a look.
pub record Performed {C : Type 0} {N : ℕ} (truths : Truths C) (begun : Option (Walk C)) (act : Act C) (found : Found) (me now : Me (Lists C) (List (GateView C N))) : Type 0 where
  pub one : IsOne now.0
  pub carried : now.1 ≡ carried_by act found (the now.0).stood me.1
  pub did : HasStepped truths begun found (the me.0) (the now.0)
  pub act_is : want_of did.made.step.walk ≡ act
  pub finds : (IsLook act → ⊥) → found ≡ found_of truths act (the me.0).at (the me.0).stood (content_by (the me.0).at act did.old)

-- the same, where this is the content that the act loads, compares or stores
pub record PerformedWith {C : Type 0} {N : ℕ} (truths : Truths C) (begun : Option (Walk C)) (act : Act C) (content : ℕ) (me now : Me (Lists C) (List (GateView C N))) : Type 0 where
  pub made : Performed truths begun act (found_of truths act (the me.0).at (the me.0).stood content) me now
  pub tells : content ≡ content_by (the me.0).at act made.did.old

-- the act that a call wants
abbrev pub act_of : {C : Type 0} → Option (Walk C) → Act C
act_of None = LoadWord
act_of (Some walk) = want_of walk

-- the act that a seat's call wants next, or begins with
abbrev pub act_by : {C : Type 0} {N : ℕ} → Option (Walk C) → GateView C N → Act C
act_by begun view = act_of (walk_by begun view.at.walk)

-- the first of the things that a step was told, if it was told any
abbrev pub first_said : {A : Type 0} → List (Option A) → Option A
first_said [] = None
first_said (said ∷ others) = said

-- the table's word that an act is on: the lock word, a cell, or a flag
abbrev pub word_at : {C : Type 0} {N : ℕ} → Act C → GateView C N → ℕ
word_at (LoadCell i) view = i + 1
word_at (JudgeQuiet i) view = i + 1
word_at (JudgeMet i c) view = i + 1
word_at (StoreCell i v) view = i + 1
word_at {C} {N} ArmFlag view = view.at.seat + (N + 1)
word_at {C} {N} LoadFlag view = view.at.seat + (N + 1)
word_at {C} {N} PayWake view = (next_owed view.at.owed).seat + (N + 1)
word_at act view = 0

-- the act loads a word, and does nothing else
abbrev pub IsLoad : {C : Type 0} → Act C → Type 0
IsLoad LoadWord = Unit {0}
IsLoad (LoadCell i) = Unit {0}
IsLoad (JudgeQuiet i) = Unit {0}
IsLoad (JudgeMet i c) = Unit {0}
IsLoad LoadFlag = Unit {0}
IsLoad act = ⊥

-- the act stores this content
abbrev pub IsStoreOf : {C : Type 0} {N : ℕ} → SeatView C N → ℕ → Act C → Type 0
IsStoreOf view content (StoreCell i v) = content ≡ v
IsStoreOf view content ArmFlag = content ≡ 1
IsStoreOf view content PayWake = content ≡ (next_owed view.owed).value
IsStoreOf view content act = ⊥

-- the seat may load this word, for the act that its call wants next or begins with
pub record MayLoad {C : Type 0} {N : ℕ} (truths : Truths C) (begun : Option (Walk C)) (word : ℕ) (me : Me (Lists C) (List (GateView C N))) : Type 0 where
  pub act : Act C
  pub can : CanStep truths begun act me
  pub loads : IsLoad act
  pub there : word ≡ word_at act (the me.0)

-- the seat may store this content into this word, for the act that its call wants next
pub record MayStore {C : Type 0} {N : ℕ} (truths : Truths C) (word content : ℕ) (me : Me (Lists C) (List (GateView C N))) : Type 0 where
  pub act : Act C
  pub can : CanStep truths None act me
  pub stores : IsStoreOf (the me.0).at content act
  pub there : word ≡ word_at act (the me.0)

-- what an exchange came to, as the machine says it, where this is found if it is made
abbrev pub tried_for : {A : Type 0} → Found → Result A Word → Found
tried_for found (Ok x) = found
tried_for found (Err word) = Saw word

-- the same where nothing else is found
abbrev pub tried : {A : Type 0} → Result A Word → Found
tried r = tried_for Made r

-- the look that the seat's call wants was made, and has shown this
pub record HasLooked {C : Type 0} {N : ℕ} (truths : Truths C) (cause : Option Cause) (me now : Me (Lists C) (List (GateView C N))) : Type 0 where
  pub made : Performed truths None (act_by None (the me.0)) (Looked cause) me now

-- the lists that a scan at this row leaves
abbrev pub lists_scanned : {C : Type 0} → Truths C → List ℕ → Lists C → Lists C
lists_scanned truths row lists = with_lock lists (left_of (meets_at truths row) lists.lock)

-- the act with which the queues are put back for this, where this is the word last seen
abbrev pub act_returning : {C : Type 0} → Returning C → Word → Act C
act_returning (Changed change) last = ReturnQueues change last
act_returning (Released releasing) last = ReleaseReturning releasing last
act_returning (Waited wait again) last = WaitReturning wait again last

-- the lists that a seat puts back then, which stood so, and whose section in hand has this row
abbrev pub lists_returned : {C : Type 0} → Truths C → ℕ → Returning C → Word → List ℕ → Lists C → Lists C
lists_returned truths seat (Changed change) last row stood = changed seat change last stood
lists_returned truths seat (Released releasing) last row stood = lists_scanned truths row stood
lists_returned truths seat (Waited wait again) last row stood = waited_in truths seat wait again row stood

-- whether somebody was moved to the lock list, or taken from it by the scan
abbrev pub some_returned : {C : Type 0} → Truths C → Returning C → Word → List ℕ → Lists C → Bool
some_returned truths (Changed change) last row stood = moves change last stood
some_returned truths returning last row stood = has_some (woken_of (meets_at truths row) stood.lock)

-- what is found where they were put back
abbrev pub found_returned : {C : Type 0} → Truths C → ℕ → Returning C → Word → List ℕ → Lists C → Found
found_returned truths seat (Changed change) last row stood = change_found seat change last stood
found_returned truths seat returning last row stood = scanned truths row stood.lock

-- the same of a seat that has them in hand
abbrev pub found_back : {C : Type 0} {N : ℕ} → Truths C → Returning C → Word → Me (Lists C) (List (GateView C N)) → Found
found_back truths returning last me = found_returned truths (the me.0).at.seat returning last (row_in (the me.0).at.held) (the me.0).stood

-- The seat has the queues in hand as they are put back for this, at this word last seen; and this tells of them.
pub record HasTurned {C : Type 0} {N : ℕ} (truths : Truths C) (returning : Returning C) (last : Word) (turned : Turned) (me : Me (Lists C) (List (GateView C N))) : Type 0 where
  pub carries : Carries (lists_returned truths (the me.0).at.seat returning last (row_in (the me.0).at.held) (the me.0).stood) me
  pub some : turned.some ≡ some_returned truths returning last (row_in (the me.0).at.held) (the me.0).stood
  pub bits : turned.bits ≡ bits_of (lists_returned truths (the me.0).at.seat returning last (row_in (the me.0).at.held) (the me.0).stood).lock

-- the word that is then left, where the lock list holds what these bits tell of
abbrev pub word_returning : {C : Type 0} → Returning C → Bool → Bits → Word → Word
word_returning (Changed change) some bits last = word_returned some bits last
word_returning (Released releasing) some bits last = word_released_returning releasing some bits last
word_returning (Waited wait again) some bits last = word_released_returning (releasing_of wait.mode) some bits last

-- The queues are put back with this word by a seat that has them in hand as they are then.
pub record PutsBack {C : Type 0} {N : ℕ} (truths : Truths C) (returning : Returning C) (last new : Word) (view : GateView C N) (slots : List (ℕ × Lists C)) : Type 0 where
  pub carries : slots ≡ (0, lists_returned truths view.at.seat returning last (row_in view.at.held) view.stood) ∷ []
  pub word : new ≡ word_returning returning (some_returned truths returning last (row_in view.at.held) view.stood) (bits_of (lists_returned truths view.at.seat returning last (row_in view.at.held) view.stood).lock) last

-- the act exchanges the word last seen for the new one
abbrev pub IsExchange : {C : Type 0} {N : ℕ} → Truths C → Act C → Word → Word → GateView C N → List (ℕ × Lists C) → Type 0
IsExchange truths (Acquire aim arrival seen) last new view slots = (seen ≡ last) × (new ≡ word_acquired (mode_for aim) arrival seen)
IsExchange truths (TakeQueues taking seen) last new view slots = (seen ≡ last) × (new ≡ word_taken taking seen)
IsExchange truths (ReturnQueues change seen) last new view slots = (seen ≡ last) × PutsBack truths (Changed change) seen new view slots
IsExchange truths (Release releasing seen) last new view slots = (seen ≡ last) × (new ≡ word_released releasing seen)
IsExchange truths (ReleaseReturning releasing seen) last new view slots = (seen ≡ last) × PutsBack truths (Released releasing) seen new view slots
IsExchange truths (WaitReturning wait again seen) last new view slots = (seen ≡ last) × PutsBack truths (Waited wait again) seen new view slots
IsExchange truths act last new view slots = ⊥

-- the seat may exchange the one word for the other, for the act that its call wants next
pub record MayExchange {C : Type 0} {N : ℕ} (truths : Truths C) (last new : Word) (me : Me (Lists C) (List (GateView C N))) : Type 0 where
  pub act : Act C
  pub can : CanStep truths None act me
  pub exchanges : IsExchange truths act last new (the me.0) me.1

-- A call that loads the lock word has found this content, and has made the exchange which it then wanted: one step of the table was both.
pub record PerformedBoth {C : Type 0} {N : ℕ} (truths : Truths C) (begun : Option (Walk C)) (content : ℕ) (me now : Me (Lists C) (List (GateView C N))) : Type 0 where
  pub between : Me (Lists C) (List (GateView C N))
  pub loaded : PerformedWith truths begun (act_by begun (the me.0)) content me between
  pub exchanged : PerformedWith truths None (act_by None (the between.0)) content between now

-- One exchange, for which a content was guessed, by a call that would load the lock word: where it found another it was that load, and else both.
pub record HasGuessed {C : Type 0} {N : ℕ} (truths : Truths C) (begun : Option (Walk C)) (guess content : ℕ) (me now : Me (Lists C) (List (GateView C N))) : Type 0 where
  pub missed : (content ≡ guess → ⊥) → PerformedWith truths begun (act_by begun (the me.0)) content me now
  pub hit : content ≡ guess → PerformedBoth truths begun content me now

-- a call that begins so, with a load of the lock word, wants this act next where it finds this word
pub record WantsNext {C : Type 0} (N : ℕ) (first : Walk C) (word : Word) (act : Act C) : Type 0 where
  pub next : Walk C
  pub goes : place_after (got_of N first (Saw word)) ≡ Some next
  pub wants : want_of next ≡ act

-- the act exchanges the one word for the other, whatever its seat has in hand
abbrev pub IsPlainExchange : {C : Type 0} → Act C → Word → Word → Type 0
IsPlainExchange (Acquire aim arrival seen) last new = (seen ≡ last) × (new ≡ word_acquired (mode_for aim) arrival seen)
IsPlainExchange (Release releasing seen) last new = (seen ≡ last) × (new ≡ word_released releasing seen)
IsPlainExchange act last new = ⊥

-- a call that begins so wants such an exchange next, where it finds the one word
pub record MayGuess {C : Type 0} (N : ℕ) (first : Walk C) (guess new : Word) : Type 0 where
  pub act : Act C
  pub next : WantsNext N first guess act
  pub plain : IsPlainExchange act guess new

-- The seat has begun the call with a load of the lock word, which found this word, and has then made this act.
pub record HasMadeBoth {C : Type 0} {N : ℕ} (truths : Truths C) (first : Walk C) (word : Word) (act : Act C) (me now : Me (Lists C) (List (GateView C N))) : Type 0 where
  pub between : Me (Lists C) (List (GateView C N))
  pub loaded : Performed truths (Some first) LoadWord (Saw word) me between
  pub made : Performed truths None act Made between now

-- A call that began by such a guess has made both; or it has begun with the load alone, which found another word than the guess.
abbrev pub CameByGuess : {C : Type 0} {N : ℕ} → Truths C → Walk C → Word → Act C → Result Unit Word → Me (Lists C) (List (GateView C N)) → Me (Lists C) (List (GateView C N)) → Type 0
CameByGuess truths first guess act (Ok x) me now = HasMadeBoth truths first guess act me now
CameByGuess truths first guess act (Err word) me now = (word ≡ guess → ⊥) × Performed truths (Some first) LoadWord (Saw word) me now

-- what the seat's act finds if its exchange is made
abbrev pub made_by : {C : Type 0} {N : ℕ} → Truths C → Act C → GateView C N → Found
made_by truths (ReturnQueues change last) view = change_found view.at.seat change last view.stood
made_by truths (ReleaseReturning releasing last) view = scanned truths (row_in view.at.held) view.stood.lock
made_by truths (WaitReturning wait again last) view = scanned truths (row_in view.at.held) view.stood.lock
made_by truths act view = Made

-- this wake is owed next
abbrev pub IsOwedNext : Owed → List Owed → Type 0
IsOwedNext wake [] = ⊥
IsOwedNext wake (next ∷ others) = next ≡ wake
