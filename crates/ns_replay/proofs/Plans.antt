-- What a script that was read is known to be.
use Rattle.ns_replay.specs.Prelude.{Add, Advance, Broadcast, Call, CallInRange, CounterWait, CvWait, Data, Declared, Done, Expiry, Fault, Get, IsMoment, IsNoteNumber, IsNotified, IsRunnable, IsShort, IsVariable, Items, Limits, NewNote, NoteWait, Notify, Once, Plan, ScriptCondition}
use Rattle.ns_replay.specs.Prelude.{ScriptPath, Set, Signal, Turn, Value, Wait, WaitAny, actor_of, add_of, any_variables, any_wait_of, as_array, as_number, as_str, as_u64, at_most, below, brief_call_of, call_at, call_of, calls_at, change_of, condition_of, counter_at, counters_of}
use Rattle.ns_replay.specs.Prelude.{each_from, get, item_of, items_behind, items_in, json_of, limits_of, list_in, list_of, long_call_of, members_of, moment_of, moment_or_none_of, need, no_items, note_limit_of, note_or_none_of, number_of, one_more, onces_of, or_none}
use Rattle.ns_replay.specs.Prelude.{parts, plain_call_of, plan_in, repeats_of, schedule_of, script_of, short_call_of, threads_of, turn_at, turn_of, variable_wait_of, variables_of, version_of, wait_of, with_item, words_of, ◌>>=◌}
use Rattle.std.proofs.Common.{All, Bool, Err, IfOk, IfSome, List, None, Ok, Option, Result, Some, [], arith, bytes_eq, codes, cond, false, length, map, nat_le, nat_lt, option_and_then, option_map, refl, subst, true, ℕ, ◌+◌, ◌<◌, ◌^◌, ◌∷◌, ◌≡◌, ◌≤◌}
use Rattle.ns_replay.proofs.Prelude.{All-cons, All-nil, Vec, length-map, nat_tests}
use Rattle.ns_replay.specs.declared.path.ScriptPath.TheVariants as at

-- ---- what holds of whatever a reading gives

module _ {A B : Type 0} (P : A → Type 0) (Q : B → Type 0) where
  map_fits : (f : A → B) (o : Option A) → IfSome o P → ((x : A) → P x → Q (f x)) → IfSome (option_map f o) Q
  map_fits f None fits next = tt
  map_fits f (Some x) fits next = next x fits

  then_fits : (f : A → Option B) (o : Option A) → IfSome o P → ((x : A) → P x → IfSome (f x) Q) → IfSome (option_and_then f o) Q
  then_fits f None fits next = tt
  then_fits f (Some x) fits next = next x fits

  bind_fits : (f : A → Result B Fault) (r : Result A Fault) → IfOk r P → ((x : A) → P x → IfOk (f x) Q) → IfOk (r >>= f) Q
  bind_fits f (Ok x) fits next = next x fits
  bind_fits f (Err fault) fits next = tt

-- where nothing is known of what is read first
module _ {A B : Type 0} (Q : B → Type 0) where
  any_map : (f : A → B) (o : Option A) → ((x : A) → Q (f x)) → IfSome (option_map f o) Q
  any_map f None next = tt
  any_map f (Some x) next = next x

  any_then : (f : A → Option B) (o : Option A) → ((x : A) → IfSome (f x) Q) → IfSome (option_and_then f o) Q
  any_then f None next = tt
  any_then f (Some x) next = next x

  any_bind : (f : A → Result B Fault) (r : Result A Fault) → ((x : A) → IfOk (f x) Q) → IfOk (r >>= f) Q
  any_bind f (Ok x) next = next x
  any_bind f (Err fault) next = tt

module _ {A : Type 0} (P : A → Type 0) where
  need_fits : (path : ScriptPath) (o : Option A) → IfSome o P → IfOk (need path o) P
  need_fits path None fits = tt
  need_fits path (Some x) fits = fits

  -- one reading or another
  chosen : (b : Bool) (here rest : Option A) → IfSome here P → IfSome rest P → IfSome (cond b here rest) P
  chosen true here rest fits others = fits
  chosen false here rest fits others = others

  -- what has passed a test
  tested : (b : Bool) (x : A) → (b ≡ true → P x) → IfSome (cond b (Some x) None) P
  tested true x fits = fits refl
  tested false x fits = tt

  tested_or : (b : Bool) (x : A) (fault : Fault) → (b ≡ true → P x) → IfOk (cond b (Ok x) (Err fault)) P
  tested_or true x fault fits = fits refl
  tested_or false x fault fits = tt

  -- what was read
  was_read : (r : Result A Fault) (x : A) → IfOk r P → r ≡ Ok x → P x
  was_read (Ok y) x fits is = let same : y ≡ x = cc in subst P same fits
  was_read (Err fault) x fits is = absurd cc

-- each element of a list
each_fits : {A B : Type 0} (P : B → Type 0) (f : ℕ → A → Result B Fault) → ((i : ℕ) (x : A) → IfOk (f i x) P) → (i : ℕ) (xs : List A) → IfOk (each_from f i xs) (λ ys. (length ys ≡ length xs) × All P ys)
each_fits P f fits i [] = (refl, All-nil P)
each_fits P f fits i (x ∷ xs) =
    bind_fits P (λ ys. (length ys ≡ length (x ∷ xs)) × All P ys) _ (f i x) (fits i x)
    (λ y one. bind_fits (λ ys. (length ys ≡ length xs) × All P ys) (λ ys. (length ys ≡ length (x ∷ xs)) × All P ys) _ (each_from f (i + 1) xs) (each_fits P f fits (i + 1) xs) (λ ys more. (rw more.0 refl, All-cons P y ys one more.1)))

-- who knows more of a reading knows less of it, too
weaker : {A : Type 0} (P Q : A → Type 0) (r : Result A Fault) → IfOk r P → ((x : A) → P x → Q x) → IfOk r Q
weaker P Q (Ok x) fits less = less x fits
weaker P Q (Err fault) fits less = tt

any_ok : {A : Type 0} (r : Result A Fault) → IfOk r (λ x. Unit {0})
any_ok (Ok x) = tt
any_ok (Err fault) = tt

at_most_fits : {A : Type 0} (most : ℕ) (path : ScriptPath) (xs : List A) → IfOk (at_most most path xs) (λ ys. length ys ≤ most)
at_most_fits most path xs = tested_or (λ ys. length ys ≤ most) (nat_le (length xs) most) xs _ (λ few. grind (arith, nat_tests))

-- ---- the numbers of calls

below_fits : (bound : ℕ) (o : Option ℕ) → IfSome (below bound o) (λ n. n < bound)
below_fits bound None = tt
below_fits bound (Some n) = tested (λ n. n < bound) (nat_lt n bound) n (λ small. grind (arith, nat_tests))

-- what the word writes, where it isn't a dash
or_none_fits : (P : ℕ → Type 0) (word : List ℕ) (number : Option ℕ) → IfSome number P → IfSome (or_none word number) (λ o. IfSome o P)
or_none_fits P word number fits = chosen (λ o. IfSome o P) (bytes_eq word (codes "-")) _ _ tt (map_fits P (λ o. IfSome o P) (λ n. Some n) number fits (λ n fit. fit))

moment_fits : (word : List ℕ) → IfSome (moment_of word) IsMoment
moment_fits word = below_fits (2 ^ 54) (number_of word)

moment_or_none_fits : (word : List ℕ) → IfSome (moment_or_none_of word) (λ o. IfSome o IsMoment)
moment_or_none_fits word = or_none_fits IsMoment word (moment_of word) (moment_fits word)

note_fits : (word : List ℕ) → IfSome (below 64 (number_of word)) IsNoteNumber
note_fits word = below_fits 64 (number_of word)

note_or_none_fits : (word : List ℕ) → IfSome (note_or_none_of word) (λ o. IfSome o IsNoteNumber)
note_or_none_fits word = or_none_fits IsNoteNumber word (below 64 (number_of word)) (note_fits word)

variable_fits : (cvs : ℕ) → cvs ≤ 4 → (word : List ℕ) → IfSome (below cvs (number_of word)) IsVariable
variable_fits cvs few word = by (below cvs (number_of word)) (below_fits cvs (number_of word)) where
  by : (o : Option ℕ) → IfSome o (λ k. k < cvs) → IfSome o IsVariable
  by None less = tt
  by (Some k) less = omega (arith, few, less)

-- ---- the limits of waits

note_limit_fits : (words : List (List ℕ)) → IfSome (note_limit_of words) (λ o. IfSome o IsNoteNumber)
unfolding note_limit_of
note_limit_fits [] = tt
note_limit_fits (name ∷ []) = tt
note_limit_fits (name ∷ word ∷ []) = chosen (λ o. IfSome o IsNoteNumber) (bytes_eq name (codes "note")) _ _ (map_fits IsNoteNumber (λ o. IfSome o IsNoteNumber) (λ n. Some n) (below 64 (number_of word)) (note_fits word) (λ n fits. fits)) tt
note_limit_fits (name ∷ word ∷ more ∷ words) = tt

-- the note is one of 64, and the deadline is a moment
abbrev LimitsFit : Limits → Type 0
LimitsFit l = IfSome l.note IsNoteNumber × IfSome l.deadline IsMoment

undated_fits : (words : List (List ℕ)) → IfSome (option_map (λ n. record { deadline = None; note = n }) (note_limit_of words)) LimitsFit
undated_fits words = map_fits (λ o. IfSome o IsNoteNumber) LimitsFit (λ n. record { deadline = None; note = n }) (note_limit_of words) (note_limit_fits words) (λ n note. (note, tt))

limits_fit : (words : List (List ℕ)) → IfSome (limits_of words) LimitsFit
unfolding limits_of
limits_fit [] = undated_fits []
limits_fit (name ∷ []) = undated_fits (name ∷ [])
limits_fit (name ∷ word ∷ rest) =
    let dated = then_fits IsMoment LimitsFit (λ t. option_map (λ n. record { deadline = Some t; note = n }) (note_limit_of rest)) (moment_of word) (moment_fits word)
    (λ t moment. map_fits (λ o. IfSome o IsNoteNumber) LimitsFit (λ n. record { deadline = Some t; note = n }) (note_limit_of rest) (note_limit_fits rest) (λ n note. (note, moment))) in
    chosen LimitsFit (bytes_eq name (codes "deadline")) _ _ dated (undated_fits (name ∷ word ∷ rest))

wait_fits : (words : List (List ℕ)) → IfSome (wait_of words) (λ w. LimitsFit w.1)
unfolding wait_of
wait_fits [] = tt
wait_fits (condition ∷ rest) = any_then (λ (w : ScriptCondition × Limits). LimitsFit w.1) _ (condition_of (parts 38 condition)) (λ c. map_fits LimitsFit (λ w. LimitsFit w.1) (λ l. (c, l)) (limits_of rest) (limits_fit rest) (λ l limits. limits))

variable_wait_fits : (cvs : ℕ) → cvs ≤ 4 → (words : List (List ℕ)) → IfSome (variable_wait_of cvs words) (λ w. IsVariable w.0 × LimitsFit w.1)
unfolding variable_wait_of
variable_wait_fits cvs few [] = tt
variable_wait_fits cvs few (word ∷ rest) =
    then_fits IsVariable (λ (w : ℕ × Limits). IsVariable w.0 × LimitsFit w.1) _ (below cvs (number_of word)) (variable_fits cvs few word)
    (λ k first. map_fits LimitsFit (λ w. IsVariable w.0 × LimitsFit w.1) (λ l. (k, l)) (limits_of rest) (limits_fit rest) (λ l limits. (first, limits)))

-- of objects there are at most 16
items_few : (declared : Declared) (words : List (List ℕ)) (items : Items) → items.count ≤ 16 → IfSome (items_behind declared items words) (λ all. all.count ≤ 16)
items_few declared [] items few = few
items_few declared (word ∷ words) items few =
    any_then (λ (all : Items). all.count ≤ 16) _ (item_of declared word)
    (λ item. then_fits (λ (more : Items). more.count ≤ 16) (λ (all : Items). all.count ≤ 16) _ (one_more items item)
    (tested (λ (more : Items). more.count ≤ 16) (nat_lt items.count 16) (with_item items item) (λ low. let room : items.count < 16 = grind (arith, nat_tests) in omega (arith, room)))
    (λ more. items_few declared words more))

any_wait_fits : (declared : Declared) (words : List (List ℕ)) → IfSome (any_wait_of declared words) (λ w. (w.0.count ≤ 16) × IfSome w.1 IsMoment)
unfolding any_wait_of
any_wait_fits declared [] = tt
any_wait_fits declared (word ∷ words) =
    then_fits (λ (items : Items). items.count ≤ 16) (λ (w : Items × Option ℕ). (w.0.count ≤ 16) × IfSome w.1 IsMoment) _ (items_in declared words) (items_few declared words no_items (omega arith))
    (λ items few. map_fits (λ deadline. IfSome deadline IsMoment) (λ w. (w.0.count ≤ 16) × IfSome w.1 IsMoment) (λ deadline. (items, deadline)) (moment_or_none_of word) (moment_or_none_fits word) (λ deadline moment. (few, moment)))

-- ---- the calls

abbrev InRange : Call ScriptCondition → Type 0
InRange call = CallInRange 8 call

-- one name after another
named : (b : Bool) (here rest : Option (Call ScriptCondition)) → IfSome here InRange → IfSome rest InRange → IfSome (cond b here rest) InRange
named = chosen InRange

-- a call of two parts
of_two : {A B : Type 0} (P : A → Type 0) (Q : B → Type 0) (f : A → B → Call ScriptCondition) (o : Option A) (p : Option B) → IfSome o P → IfSome p Q → ((x : A) (y : B) → P x → Q y → InRange (f x y)) → IfSome (option_and_then (λ x. option_map (f x) p) o) InRange
of_two P Q f o p first second fits = then_fits P InRange (λ x. option_map (f x) p) o first (λ x one. map_fits Q InRange (f x) p second (λ y other. fits x y one other))

plain_fits : (name : List ℕ) → IfSome (plain_call_of name) InRange
plain_fits name =
    named (bytes_eq name (codes "lock")) _ _ tt
    (named (bytes_eq name (codes "rlock")) _ _ tt
    (named (bytes_eq name (codes "trylock")) _ _ tt
    (named (bytes_eq name (codes "rtrylock")) _ _ tt
    (named (bytes_eq name (codes "unlock")) _ _ tt
    (named (bytes_eq name (codes "runlock")) _ _ tt
    (named (bytes_eq name (codes "unlockquiet")) _ _ tt tt))))))

short_fits : (declared : Declared) → declared.cvs ≤ 4 → (name word : List ℕ) → IfSome (short_call_of declared name word) InRange
short_fits declared few name word =
    named (bytes_eq name (codes "get")) _ _ (map_fits (λ n. n < 8) InRange Get _ (below_fits 8 (number_of word)) (λ n fits. fits))
    (named (bytes_eq name (codes "notify")) _ _ (map_fits IsNoteNumber InRange Notify _ (note_fits word) (λ n fits. fits))
    (named (bytes_eq name (codes "advance")) _ _ (map_fits IsMoment InRange Advance _ (moment_fits word) (λ n fits. fits))
    (named (bytes_eq name (codes "isnotified")) _ _ (map_fits IsNoteNumber InRange IsNotified _ (note_fits word) (λ n fits. fits))
    (named (bytes_eq name (codes "expiry")) _ _ (map_fits IsNoteNumber InRange Expiry _ (note_fits word) (λ n fits. fits))
    (named (bytes_eq name (codes "signal")) _ _ (map_fits IsVariable InRange Signal _ (variable_fits declared.cvs few word) (λ n fits. fits))
    (named (bytes_eq name (codes "broadcast")) _ _ (map_fits IsVariable InRange Broadcast _ (variable_fits declared.cvs few word) (λ n fits. fits))
    (named (bytes_eq name (codes "value")) _ _ (any_map InRange Value (below declared.counters (number_of word)) (λ n. tt))
    (named (bytes_eq name (codes "once")) _ _ (any_map InRange Once (below declared.onces (number_of word)) (λ n. tt))
    (named (bytes_eq name (codes "done")) _ _ (any_map InRange Done (below declared.onces (number_of word)) (λ n. tt)) tt)))))))))

long_fits : (declared : Declared) (name first second : List ℕ) → IfSome (long_call_of declared name first second) InRange
long_fits declared name first second =
    named (bytes_eq name (codes "set")) _ _ (then_fits (λ n. n < 8) InRange _ (below 8 (number_of first)) (below_fits 8 (number_of first)) (λ i low. any_map InRange (Set i) (number_of second) (λ v. low)))
    (named (bytes_eq name (codes "newnote")) _ _ (of_two (λ o. IfSome o IsNoteNumber) (λ o. IfSome o IsMoment) NewNote _ _ (note_or_none_fits first) (moment_or_none_fits second) (λ o p parent deadline. (parent, deadline)))
    (named (bytes_eq name (codes "notewait")) _ _ (of_two IsNoteNumber (λ o. IfSome o IsMoment) NoteWait _ _ (note_fits first) (moment_or_none_fits second) (λ n p note deadline. (note, deadline)))
    (named (bytes_eq name (codes "cwait")) _ _ (of_two (λ c. c < declared.counters) (λ o. IfSome o IsMoment) CounterWait _ _ (below_fits declared.counters (number_of first)) (moment_or_none_fits second) (λ c p counter deadline. deadline)) tt)))

brief_fits : (declared : Declared) → declared.cvs ≤ 4 → (words : List (List ℕ)) → IfSome (brief_call_of declared words) InRange
unfolding brief_call_of
brief_fits declared few [] = tt
brief_fits declared few (name ∷ []) = plain_fits name
brief_fits declared few (name ∷ word ∷ []) = short_fits declared few name word
brief_fits declared few (name ∷ first ∷ second ∷ []) = long_fits declared name first second
brief_fits declared few (name ∷ first ∷ second ∷ third ∷ words) = tt

add_fits : (counters : ℕ) (words : List (List ℕ)) → IfSome (add_of counters words) InRange
unfolding add_of
add_fits counters [] = tt
add_fits counters (counter ∷ []) = tt
add_fits counters (counter ∷ word ∷ []) = any_then InRange _ (below counters (number_of counter)) (λ c. any_map InRange (Add c) (change_of (parts 45 word)) (λ d. tt))
add_fits counters (counter ∷ word ∷ more ∷ words) = tt

call_fits : (declared : Declared) → declared.cvs ≤ 4 → (words : List (List ℕ)) → IfSome (call_of declared words) InRange
unfolding call_of
call_fits declared few [] = tt
call_fits declared few (name ∷ words) =
    named (bytes_eq name (codes "wait")) _ _ (map_fits (λ w. LimitsFit w.1) InRange (λ w. Wait w.0 w.1) (wait_of words) (wait_fits words) (λ w limits. limits))
    (named (bytes_eq name (codes "cvwait")) _ _ (map_fits (λ w. IsVariable w.0 × LimitsFit w.1) InRange (λ w. CvWait w.0 w.1) (variable_wait_of declared.cvs words) (variable_wait_fits declared.cvs few words) (λ w fits. (fits.0, fits.1.0, fits.1.1)))
    (named (bytes_eq name (codes "waitany")) _ _ (map_fits (λ w. (w.0.count ≤ 16) × IfSome w.1 IsMoment) InRange (λ w. WaitAny w.0 w.1) (any_wait_of declared words) (any_wait_fits declared words) (λ w fits. fits))
    (named (bytes_eq name (codes "add")) _ _ (add_fits declared.counters words) (brief_fits declared few (name ∷ words)))))

call_at_fits : (declared : Declared) → declared.cvs ≤ 4 → (thread number : ℕ) (d : Data) → IfOk (call_at declared thread number d) InRange
unfolding call_at
call_at_fits declared few thread number d = any_bind InRange _ (need (at.Call thread number) (as_str d)) (λ text. need_fits InRange _ _ (call_fits declared few (parts 32 text)))

-- ---- the threads

-- a list of at most so many, each read so
list_fits : {B : Type 0} (P : B → Type 0) (most : ℕ) (path : ScriptPath) (d : Option Data) (f : ℕ → Data → Result B Fault) → ((i : ℕ) (x : Data) → IfOk (f i x) P) → IfOk (list_in most path d >>= each_from f 0) (λ ys. (length ys ≤ most) × All P ys)
unfolding list_in
list_fits {B} P most path d f fits =
    let few = any_bind (λ (xs : List Data). length xs ≤ most) (at_most most path) (need path (option_map list_of (option_and_then as_array d))) (at_most_fits most path) in
    bind_fits (λ (xs : List Data). length xs ≤ most) (λ (ys : List B). (length ys ≤ most) × All P ys) (each_from f 0) (list_in most path d) few
    (λ xs less. weaker (λ ys. (length ys ≡ length xs) × All P ys) (λ ys. (length ys ≤ most) × All P ys) (each_from f 0 xs) (each_fits P f fits 0 xs) (λ ys each. (rw each.0 less, each.1)))

calls_fit : (declared : Declared) → declared.cvs ≤ 4 → (thread : ℕ) (d : Data) → IfOk (calls_at declared thread d) IsShort
unfolding calls_at
calls_fit declared few thread d =
    weaker (λ calls. (length calls ≤ 256) × All InRange calls) IsShort _ (list_fits InRange 256 (at.Thread thread) (Some d) (call_at declared thread) (call_at_fits declared few thread)) (λ calls each. record { few = each.0; in_range = each.1 })

-- there are at most 64, and each is as its calls are known to be
threads_fit : (P : List (Call ScriptCondition) → Type 0) (declared : Declared) → ((thread : ℕ) (d : Data) → IfOk (calls_at declared thread d) P) → (d : Data) → IfOk (threads_of declared d) (λ threads. (length threads ≤ 64) × All P threads)
unfolding threads_of
threads_fit P declared fits d = list_fits P 64 at.Threads (get (codes "threads") d) (calls_at declared) fits

pub few_lists : (declared : Declared) (d : Data) (threads : List (Vec (Call ScriptCondition))) → threads_of declared d ≡ Ok (map (λ w. w.items) threads) → length threads ≤ 64
few_lists declared d threads e =
    let few = was_read _ (threads_of declared d) _ (threads_fit (λ calls. Unit {0}) declared (λ thread d. any_ok (calls_at declared thread d)) d) e in
    let same : length (map (λ (w : Vec (Call ScriptCondition)). w.items) threads) ≡ length threads = search (arith, length-map) in
    rw (← same) few.0

-- ---- the schedule

actor_below : (threads : ℕ) (words : List (List ℕ)) → IfSome (actor_of threads words) (λ a. a.0 < threads)
unfolding actor_of
actor_below threads [] = tt
actor_below threads (thread ∷ []) = map_fits (λ t. t < threads) (λ (a : ℕ × Bool). a.0 < threads) _ _ (below_fits threads (number_of thread)) (λ t low. low)
actor_below threads (thread ∷ [] ∷ []) = map_fits (λ t. t < threads) (λ (a : ℕ × Bool). a.0 < threads) _ _ (below_fits threads (number_of thread)) (λ t low. low)
actor_below threads (thread ∷ (c ∷ cs) ∷ []) = tt
actor_below threads (thread ∷ [] ∷ word ∷ words) = tt
actor_below threads (thread ∷ (c ∷ cs) ∷ word ∷ words) = tt

abbrev IsTurnOf : ℕ → Turn → Type 0
IsTurnOf threads turn = turn.thread < threads

turn_below : (threads : ℕ) (words : List (List ℕ)) → IfSome (turn_of threads words) (IsTurnOf threads)
unfolding turn_of
turn_below threads [] = tt
turn_below threads (actor ∷ []) = map_fits (λ (a : ℕ × Bool). a.0 < threads) (IsTurnOf threads) _ _ (actor_below threads (parts 33 actor)) (λ a low. low)
turn_below threads (actor ∷ times ∷ []) = then_fits (λ (a : ℕ × Bool). a.0 < threads) (IsTurnOf threads) _ _ (actor_below threads (parts 33 actor)) (λ a low. any_map (IsTurnOf threads) _ (repeats_of times) (λ r. low))
turn_below threads (actor ∷ times ∷ word ∷ words) = tt

turn_at_below : (threads number : ℕ) (word : List ℕ) → IfOk (turn_at threads number word) (IsTurnOf threads)
unfolding turn_at
turn_at_below threads number word = need_fits (IsTurnOf threads) _ _ (turn_below threads (parts 42 word))

schedule_below : (threads : ℕ) (d : Data) → IfOk (schedule_of threads d) (All (IsTurnOf threads))
unfolding schedule_of
schedule_below threads d =
    any_bind (All (IsTurnOf threads)) _ (need at.Schedule (option_and_then as_str (get (codes "schedule") d)))
    (λ text. any_bind (All (IsTurnOf threads)) _ (at_most 4096 at.Schedule (words_of text))
    (λ words. weaker (λ turns. (length turns ≡ length words) × All (IsTurnOf threads) turns) (All (IsTurnOf threads)) _ (each_fits (IsTurnOf threads) (turn_at threads) (turn_at_below threads) 0 words) (λ turns each. each.1)))

-- ---- the script

counters_fit : (d : Option Data) → IfOk (counters_of d) (λ counters. length counters ≤ 16)
unfolding counters_of
counters_fit None = omega arith
counters_fit (Some d) = weaker (λ counters. (length counters ≤ 16) × All (λ n. Unit {0}) counters) (λ counters. length counters ≤ 16) _ (list_fits (λ n. Unit {0}) 16 at.Counters (Some d) counter_at (λ i x. any_ok (counter_at i x))) (λ counters few. few.0)

pub counters_few : (d : Option Data) (counters : List ℕ) → counters_of d ≡ Ok counters → length counters ≤ 16
counters_few d counters e = was_read (λ counters. length counters ≤ 16) (counters_of d) counters (counters_fit d) e

onces_few : (d : Option Data) → IfOk (onces_of d) (λ onces. onces ≤ 16)
unfolding onces_of
onces_few None = omega arith
onces_few (Some d) = any_bind (λ onces. onces ≤ 16) _ (need at.Onces (option_and_then as_u64 (as_number d))) (λ n. tested_or (λ onces. onces ≤ 16) (nat_le n 16) n _ (λ small. grind (arith, nat_tests)))

variables_few : (d : Option Data) → IfOk (variables_of d) (λ cvs. cvs ≤ 4)
unfolding variables_of
variables_few None = omega arith
variables_few (Some d) = any_bind (λ cvs. cvs ≤ 4) _ (need at.Variables (option_and_then as_u64 (as_number d))) (λ n. tested_or (λ cvs. cvs ≤ 4) (nat_le n 4) n _ (λ small. grind (arith, nat_tests)))

plan_runs : (d : Data) → IfOk (plan_in d) IsRunnable
unfolding plan_in
plan_runs d =
    any_bind IsRunnable _ (members_of d)
    (λ members. any_bind IsRunnable _ (version_of d)
    (λ version. bind_fits (λ counters. length counters ≤ 16) IsRunnable _ (counters_of (get (codes "counters") d)) (counters_fit (get (codes "counters") d))
    (λ counters starts. bind_fits (λ onces. onces ≤ 16) IsRunnable _ (onces_of (get (codes "onces") d)) (onces_few (get (codes "onces") d))
    (λ onces cells. bind_fits (λ cvs. cvs ≤ 4) IsRunnable _ (variables_of (get (codes "cvs") d)) (variables_few (get (codes "cvs") d))
    (λ cvs few. let declared : Declared = record { counters = length counters; onces = onces; cvs = cvs; any_cvs = any_variables version cvs } in
    bind_fits (λ threads. (length threads ≤ 64) × All IsShort threads) IsRunnable _ (threads_of declared d) (threads_fit IsShort declared (calls_fit declared few) d)
    (λ threads calls. bind_fits (All (IsTurnOf (length threads))) IsRunnable _ (schedule_of (length threads) d) (schedule_below (length threads) d)
    (λ schedule turns. record { counters = starts; onces = cells; variables = few; few = calls.0; short = calls.1; in_range = turns })))))))

-- A script that was read can be run.
pub script_runs : (bytes : List ℕ) (plan : Plan) → script_of bytes ≡ Ok plan → IsRunnable plan
unfolding script_of
script_runs bytes plan e = was_read IsRunnable (script_of bytes) plan (any_bind IsRunnable plan_in (json_of bytes) plan_runs) e
