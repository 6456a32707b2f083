-- What the words of a call and of a schedule write.
use Rattle.std.specs.Prelude.{Bool, List, None, Option, Some, [], bytes_eq, codes, false, if◌then◌else◌, nat_le, nat_lt, option_and_then, option_map, true, ℕ, ◌&&◌, ◌∷◌}
use Rattle.ns_replay.specs.Names.{Add, Advance, Broadcast, Call, CounterWait, CvWait, Declared, Done, Expiry, Get, IsNotified, Lock, NewNote, NoteWait, Notify, Once, RLock, RUnlock, ScriptCondition, Set, Signal, TryLock, TryRLock, Turn, Unlock, UnlockQuiet, Value, Wait, WaitAny}
use Rattle.ns_replay.specs.Objects.{any_wait_of}
use Rattle.ns_replay.specs.Words.{parts, number_of, below, change_of, moment_of, moment_or_none_of, note_or_none_of}
use Rattle.ns_replay.specs.Waits.{wait_of, variable_wait_of}

-- a call of one word: `lock`, `rlock`, `trylock`, `rtrylock`, `unlock`, `runlock` or `unlockquiet`
abbrev pub plain_call_of : List ℕ → Option (Call ScriptCondition)
plain_call_of name =
    if bytes_eq name (codes "lock") then Some Lock else
    (if bytes_eq name (codes "rlock") then Some RLock else
    (if bytes_eq name (codes "trylock") then Some TryLock else
    (if bytes_eq name (codes "rtrylock") then Some TryRLock else
    (if bytes_eq name (codes "unlock") then Some Unlock else
    (if bytes_eq name (codes "runlock") then Some RUnlock else
    (if bytes_eq name (codes "unlockquiet") then Some UnlockQuiet else None))))))

-- a call of a name and one word, where so many counters, once cells and condition variables are declared: `get I`, `notify M`, `advance T`, `isnotified M`, `expiry M`, `signal K`, `broadcast K`, `value C`, `once O` or `done O`
abbrev pub short_call_of : Declared → List ℕ → List ℕ → Option (Call ScriptCondition)
short_call_of declared name word =
    if bytes_eq name (codes "get") then option_map Get (below 8 (number_of word)) else
    (if bytes_eq name (codes "notify") then option_map Notify (below 64 (number_of word)) else
    (if bytes_eq name (codes "advance") then option_map Advance (moment_of word) else
    (if bytes_eq name (codes "isnotified") then option_map IsNotified (below 64 (number_of word)) else
    (if bytes_eq name (codes "expiry") then option_map Expiry (below 64 (number_of word)) else
    (if bytes_eq name (codes "signal") then option_map Signal (below declared.cvs (number_of word)) else
    (if bytes_eq name (codes "broadcast") then option_map Broadcast (below declared.cvs (number_of word)) else
    (if bytes_eq name (codes "value") then option_map Value (below declared.counters (number_of word)) else
    (if bytes_eq name (codes "once") then option_map Once (below declared.onces (number_of word)) else
    (if bytes_eq name (codes "done") then option_map Done (below declared.onces (number_of word)) else None)))))))))

-- a call of a name and two words: `set I V`, `newnote P T`, `notewait M T` or `cwait C T`
abbrev pub long_call_of : Declared → List ℕ → List ℕ → List ℕ → Option (Call ScriptCondition)
long_call_of declared name first second =
    if bytes_eq name (codes "set") then option_and_then (λ i. option_map (Set i) (number_of second)) (below 8 (number_of first)) else
    (if bytes_eq name (codes "newnote") then option_and_then (λ parent. option_map (NewNote parent) (moment_or_none_of second)) (note_or_none_of first) else
    (if bytes_eq name (codes "notewait") then option_and_then (λ note. option_map (NoteWait note) (moment_or_none_of second)) (below 64 (number_of first)) else
    (if bytes_eq name (codes "cwait") then option_and_then (λ counter. option_map (CounterWait counter) (moment_or_none_of second)) (below declared.counters (number_of first)) else None)))

-- a name and at most two words after it
unfoldable pub brief_call_of : Declared → List (List ℕ) → Option (Call ScriptCondition)
brief_call_of declared (name ∷ []) = plain_call_of name
brief_call_of declared (name ∷ word ∷ []) = short_call_of declared name word
brief_call_of declared (name ∷ first ∷ second ∷ []) = long_call_of declared name first second
brief_call_of declared _ = None

-- a change of a counter, where there are so many: `C D`
unfoldable pub add_of : ℕ → List (List ℕ) → Option (Call ScriptCondition)
add_of counters (counter ∷ word ∷ []) = option_and_then (λ c. option_map (Add c) (change_of (parts 45 word))) (below counters (number_of counter))
add_of counters _ = None

-- a call, where cells are below 8, notes below 64, moments below 2^54, and so many counters, once cells and condition variables are declared
unfoldable pub call_of : Declared → List (List ℕ) → Option (Call ScriptCondition)
call_of declared (name ∷ words) =
    if bytes_eq name (codes "wait") then option_map (λ w. Wait w.0 w.1) (wait_of words) else
    (if bytes_eq name (codes "cvwait") then option_map (λ w. CvWait w.0 w.1) (variable_wait_of declared.cvs words) else
    (if bytes_eq name (codes "waitany") then option_map (λ w. WaitAny w.0 w.1) (any_wait_of declared words) else
    (if bytes_eq name (codes "add") then add_of declared.counters words else brief_call_of declared (name ∷ words))))
call_of declared [] = None

-- `A` or `A!`, by the parts at `!`: the thread, and whether its call is to end
unfoldable pub actor_of : ℕ → List (List ℕ) → Option (ℕ × Bool)
actor_of threads (thread ∷ []) = option_map (λ t. (t, false)) (below threads (number_of thread))
actor_of threads (thread ∷ [] ∷ []) = option_map (λ t. (t, true)) (below threads (number_of thread))
actor_of threads _ = None

-- from 1 to a million
abbrev pub repeats_of : List ℕ → Option ℕ
repeats_of word = option_and_then (λ r. if nat_lt 0 r && nat_le r 1000000 then Some r else None) (number_of word)

-- `A`, `A!`, `A*R` or `A!*R`, by the parts at `*`
unfoldable pub turn_of : ℕ → List (List ℕ) → Option Turn
turn_of threads (actor ∷ []) = option_map (λ a. record { thread = a.0; whole = a.1; times = 1 }) (actor_of threads (parts 33 actor))
turn_of threads (actor ∷ times ∷ []) = option_and_then (λ a. option_map (λ r. record { thread = a.0; whole = a.1; times = r }) (repeats_of times)) (actor_of threads (parts 33 actor))
turn_of threads _ = None
