-- The text of a run, by its parts.
use Rattle.std.specs.List.{range_with_len}
use Rattle.std.specs.Prelude.{Bool, List, None, Option, Some, [], codes, count_by, decimal, false, filter, flat_map, if◌then◌else◌, length, map, nat_lt, option_and_then, slice_get, true, ℕ, ◌&&◌, ◌++◌, ◌+◌, ◌==◌, ◌∷◌}
use Rattle.ns_replay.specs.Names.{AfterAny, AfterCv, AfterWait, Already, Answer, Answered, AnyWait, Busy, Call, Canceled, CondWait, CounterFault, Cvs, Entry, Event, Exit, Is, Leave, LeaveAny, Line, Met, Misuse, Mode, Noisy, NotesFull, Number, Options, Over, Plain, RUnlock, Ran, Refused, Reply}
use Rattle.ns_replay.specs.Names.{ScriptCondition, Seats, Section, Shown, Succeeded, TimedOut, Under, Unlock, UnlockQuiet, Waited, Whole, Word, is_in, lists_shown, shown_of, wakes_owed, whole_busy}
use Rattle.ns_model.specs.declared.event.Exit.TheVariants.{CvWait}
use Rattle.ns_model.specs.declared.event.Event.TheVariants.{Signal, Broadcast}
use Rattle.ns_world.specs.declared.reply.Reply.TheVariants.{Expiry}
use Rattle.ns_replay.specs.Condition.{condition_text}
use Rattle.ns_model.specs.declared.event.Mode.TheVariants as mode
use Rattle.ns_model.specs.declared.event.Exit.TheVariants as TheExit

-- ---- finished calls

-- how a wait ended
abbrev pub answer_text : Answer → List ℕ
answer_text Met = codes "0"
answer_text TimedOut = codes "ETIMEDOUT"
answer_text Canceled = codes "ECANCELED"

-- whether a note is notified
abbrev pub truth_text : Bool → List ℕ
truth_text true = codes "true"
truth_text false = codes "false"

-- a moment, or `never` for none
abbrev pub expiry_text : Option ℕ → List ℕ
expiry_text None = codes "never"
expiry_text (Some moment) = decimal moment

-- why the change of a counter was refused
abbrev pub refusal_text : CounterFault → List ℕ
refusal_text Under = codes "under"
refusal_text Over = codes "over"
refusal_text AfterWait = codes "afterwait"

-- what a call answered
abbrev pub reply_text : Reply → List ℕ
reply_text Succeeded = codes "ok"
reply_text Busy = codes "busy"
reply_text Noisy = codes "noisy"
reply_text (Number n) = decimal n
reply_text NotesFull = codes "notesfull"
reply_text (Is truth) = truth_text truth
reply_text (Expiry moment) = expiry_text moment
reply_text (Answered answer) = answer_text answer
reply_text Misuse = codes "misuse"
reply_text (Refused fault) = refusal_text fault
reply_text Ran = codes "ran"
reply_text Already = codes "already"

-- the call was made, and had nothing else to answer
abbrev pub is_ok : Reply → Bool
is_ok Succeeded = true
is_ok reply = false

-- the call gives the lock back
abbrev pub is_unlock : Option (Call ScriptCondition) → Bool
is_unlock None = false
is_unlock (Some Unlock) = true
is_unlock (Some RUnlock) = true
is_unlock (Some UnlockQuiet) = true
is_unlock (Some call) = false

-- the call that the line is the end of releases
abbrev pub is_release : List (List (Call ScriptCondition)) → Line → Bool
is_release threads line = is_unlock (option_and_then (λ calls. slice_get calls line.call) (slice_get threads line.thread))

-- ` tests K` after the `ok` of a release, where that is asked for
abbrev pub tests_text : Bool → List (List (Call ScriptCondition)) → Line → List ℕ
tests_text asked threads line = if asked && is_ok line.reply && is_release threads line then codes " tests " ++ decimal line.tests else []

-- `T C ANSWER`
abbrev pub line_text : Bool → List (List (Call ScriptCondition)) → Line → List ℕ
line_text tests threads line = decimal line.thread ++ codes " " ++ decimal line.call ++ codes " " ++ reply_text line.reply ++ tests_text tests threads line ++ codes "\n"

-- the lines of finished calls, in order
abbrev pub lines_text : Bool → List (List (Call ScriptCondition)) → List Line → List ℕ
lines_text tests threads lines = flat_map (line_text tests threads) lines

-- ---- calls in progress

-- how many calls of the thread are finished
abbrev pub finished_calls : List Line → ℕ → ℕ
finished_calls lines thread = count_by (λ line. line.thread == thread) lines

-- `T C left`, if the thread's call is in progress
abbrev pub left_text : (ℕ → Bool) → List Line → ℕ → List ℕ
left_text is_busy lines thread = if is_busy thread then decimal thread ++ codes " " ++ decimal (finished_calls lines thread) ++ codes " left\n" else []

-- the lines of so many threads whose calls are in progress, by number
abbrev pub lefts_text : (ℕ → Bool) → List Line → ℕ → List ℕ
lefts_text is_busy lines threads = flat_map (left_text is_busy lines) (range_with_len 0 threads)

-- ---- cells

-- a cell of the row, after a space
abbrev pub cell_text : ℕ → List ℕ
cell_text cell = codes " " ++ decimal cell

-- `row`, and the cells
abbrev pub row_text : List ℕ → List ℕ
row_text row = codes "row" ++ flat_map cell_text row ++ codes "\n"

-- ---- events

-- a number that is not the first
abbrev pub after_comma : ℕ → List ℕ
after_comma number = codes "," ++ decimal number

-- numbers with commas
abbrev pub numbers_text : List ℕ → List ℕ
numbers_text [] = []
numbers_text (n ∷ ns) = decimal n ++ flat_map after_comma ns

-- a mode: `w` writes, `r` reads
abbrev pub mode_text : Mode → List ℕ
mode_text mode.Write = codes "w"
mode_text mode.Read = codes "r"

-- how a section began
abbrev pub entry_text : Entry ScriptCondition → List ℕ
entry_text Plain = codes "plain"
entry_text (Waited condition answer) = codes "waited:" ++ condition_text condition ++ codes ":" ++ answer_text answer
entry_text (AfterCv k answer) = codes "aftercv:" ++ decimal k ++ codes ":" ++ answer_text answer
entry_text (AfterAny (Some k)) = codes "afterany:" ++ decimal k
entry_text (AfterAny None) = codes "afterany:-"

-- a seat of a set, after a comma if it is not the first
abbrev pub seat_text : Bool → Bool → ℕ → List ℕ
seat_text after is_in seat = if is_in then (if after then codes "," else []) ++ decimal seat else []

-- numbers with commas, or a dash for none
abbrev pub some_numbers_text : List ℕ → List ℕ
some_numbers_text [] = codes "-"
some_numbers_text (n ∷ ns) = numbers_text (n ∷ ns)

-- the seats of a set below n, ascending
unfoldable pub seats_below : ℕ → Seats → List ℕ
seats_below n seats = filter (is_in seats) (range_with_len 0 n)

-- the seats of a set, ascending, or a dash for none
abbrev pub seats_text : Seats → List ℕ
seats_text seats = some_numbers_text (seats_below 64 seats)

-- the condition variables of a set, as seats with their numbers are written
abbrev pub cvs_text : Cvs → List ℕ
cvs_text cvs = seats_text (record { 0 = cvs.0 })

-- how a section ended
abbrev pub exit_text : Exit ScriptCondition → List ℕ
exit_text TheExit.Plain = codes "plain"
exit_text (CondWait condition) = codes "cond:" ++ condition_text condition
exit_text (CvWait k) = codes "cv:" ++ decimal k
exit_text (AnyWait cvs) = codes "any:" ++ cvs_text cvs

-- a section without its rows
abbrev pub section_text : ℕ → Mode → Entry ScriptCondition → Exit ScriptCondition → List ℕ
section_text who mode entry exit = codes "section " ++ decimal who ++ codes " " ++ mode_text mode ++ codes " " ++ entry_text entry ++ codes " " ++ exit_text exit

-- the rows before and after a section
abbrev pub rows_text : List ℕ → List ℕ → List ℕ
rows_text before after = codes " " ++ numbers_text before ++ codes " " ++ numbers_text after

-- an event, without the end of its line
abbrev pub event_words : Event ScriptCondition 8 → List ℕ
event_words (Section who mode entry before after exit) = section_text who mode entry exit ++ rows_text before after
event_words (Signal who k woken) = codes "signal " ++ decimal who ++ codes " " ++ decimal k ++ codes " " ++ seats_text woken
event_words (Broadcast who k woken) = codes "broadcast " ++ decimal who ++ codes " " ++ decimal k ++ codes " " ++ seats_text woken
event_words (Leave who k) = codes "leave " ++ decimal who ++ codes " " ++ decimal k
event_words (LeaveAny who cvs) = codes "leaveany " ++ decimal who ++ codes " " ++ cvs_text cvs

-- the line of an event
abbrev pub event_text : Event ScriptCondition 8 → List ℕ
event_text event = event_words event ++ codes "\n"

-- the lines of events, in order
abbrev pub events_text : List (Event ScriptCondition 8) → List ℕ
events_text events = flat_map event_text events

-- where that is asked for
abbrev pub history_text : Bool → List (Event ScriptCondition 8) → List ℕ
history_text asked events = if asked then events_text events else []

-- ---- the lock

-- a bit's name, where it is set
abbrev pub bit_text : List ℕ → Bool → List ℕ
bit_text name set = if set then name else []

-- the names of the bits that are set
abbrev pub bits_text : Word → List ℕ
bits_text word =
    bit_text (codes " write") word.write ++ bit_text (codes " spin") word.spin ++ bit_text (codes " wait") word.waiting
    ++ bit_text (codes " desig") word.desig ++ bit_text (codes " cond") word.cond ++ bit_text (codes " wwait") word.writer_waits
    ++ bit_text (codes " allfalse") word.all_false ++ bit_text (codes " long") word.long

-- the lock word: the bits that are set, and how many seats read
abbrev pub word_text : Word → List ℕ
word_text word = codes "word" ++ bits_text word ++ codes " readers=" ++ decimal word.readers ++ codes "\n"

-- a waiter: its seat and mode, and a mark if it has a condition
abbrev pub waiter_text : Shown → List ℕ
waiter_text waiter = codes " " ++ decimal waiter.seat ++ codes ":" ++ mode_text waiter.mode ++ bit_text (codes "?") waiter.conditional

-- the waiters for the lock, front to back
abbrev pub queue_text : List Shown → List ℕ
queue_text waiters = codes "queue" ++ flat_map waiter_text waiters ++ codes "\n"

-- the waiters for a condition variable, front to back, if there are so many
abbrev pub variable_text : ℕ → ℕ → List Shown → List ℕ
variable_text cvs k waiters = if nat_lt k cvs then codes "cv " ++ decimal k ++ flat_map waiter_text waiters ++ codes "\n" else []

-- and for those from one on
abbrev pub variables_text : ℕ → ℕ → List (List Shown) → List ℕ
variables_text cvs k [] = []
variables_text cvs k (waiters ∷ lists) = variable_text cvs k waiters ++ variables_text cvs (k + 1) lists

-- a wake that is owed: by whom, and to whom
abbrev pub wake_text : ℕ × ℕ → List ℕ
wake_text wake = codes "owed " ++ decimal wake.0 ++ codes ">" ++ decimal wake.1 ++ codes "\n"

-- the lines of the wakes that are owed
abbrev pub wakes_text : List (ℕ × ℕ) → List ℕ
wakes_text wakes = flat_map wake_text wakes

-- the lock word, the waiters for the lock and for each condition variable, and the wakes that are owed
abbrev pub lock_text : ℕ → Word → List Shown → List (List Shown) → List (ℕ × ℕ) → List ℕ
lock_text cvs word waiters lists wakes = word_text word ++ queue_text waiters ++ variables_text cvs 0 lists ++ wakes_text wakes

-- where that is asked for
abbrev pub state_text : Bool → ℕ → Word → List Shown → List (List Shown) → List (ℕ × ℕ) → List ℕ
state_text asked cvs word waiters lists wakes = if asked then lock_text cvs word waiters lists wakes else []

-- ---- a run

-- The text of a run with so many condition variables and these calls: the lines that it finished, and what its world is after it.
unfoldable pub text_of : Options → ℕ → List (List (Call ScriptCondition)) → List Line → Whole ScriptCondition 8 → List ℕ
text_of options cvs threads lines world =
    lines_text options.tests threads lines
    ++ lefts_text (whole_busy world) lines (length threads)
    ++ row_text world.row
    ++ history_text options.history world.history
    ++ state_text options.state cvs world.word (map shown_of (lists_shown world).lock) (map (map shown_of) (lists_shown world).cvs) (wakes_owed world.seats)
