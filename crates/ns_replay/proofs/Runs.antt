-- Runs of scripts that were read: what they need, and why they fail.
use Rattle.std.proofs.Common.{All, Bool, List, None, Option, Some, [], ap, arith, cond, false, inl, inr, length, map, replicate, subst, sym, true, ℕ, ◌<◌, ◌==◌, ◌∙◌, ◌∷◌, ◌≡◌, ◌≤◌, ◌⊎◌}
use Rattle.ns_replay.proofs.Prelude.{All-append, All-from_recursion, All-nil, All-replicate, AllByRecursion, Call, IsRunFault, IsRunnable, IsShort, Line, ListFits, Plan, RunFault, Runs, RunsTo, Script, ScriptCondition, StopsFor, Turn, Turned, Vec, Whole, WorldFault, fault_of_world, fresh_whole}
use Rattle.ns_replay.proofs.Prelude.{is_end, length-map, length_seats, none_busy, plan_of, recursion_from_All, rest_of, script_truths, start, turns_stay, whole_busy, world_for}
use Rattle.ns_world.proofs.Schedules.{run_stopped}
use Rattle.ns_world.specs.Runs.{Item, Progress, RunHalts, RunsSeen, Sees, items_of, lists_of}
use Rattle.ns_world.specs.Whole.{whole_of}
use Rattle.ns_world.specs.World.{Kept}
use Rattle.ns_replay.specs.Replaying.{IsToldTo}
use Rattle.ns_world.specs.declared.fault.Fault.TheVariants as world

-- ---- the items that are left are the schedule's

rest_by : (a b : Bool) (x y : Option (List Item)) (left : List Item) → cond a (cond b x y) None ≡ Some left → (x ≡ Some left) ⊎ (y ≡ Some left)
rest_by true true x y left e = inl e
rest_by true false x y left e = inr e
rest_by false b x y left e = absurd cc

rest_each : (P : Item → Type 0) (items : List Item) (turns : List Turned) (left : List Item) → rest_of items turns ≡ Some left → AllByRecursion P items → AllByRecursion P left
rest_each P items [] left e h = let same : items ≡ left = cc in subst (AllByRecursion P) same h
rest_each P [] (turned ∷ turns) left e h = absurd cc
rest_each P (item ∷ items) (turned ∷ turns) left e h =
    elim (rest_by (turned.seat == item.seat) (is_end item.whole turned.step) (rest_of items turns) (rest_of (item ∷ items) turns) left e) [
      | inl x ↦ rest_each P items turns left x h.1
      | inr y ↦ rest_each P (item ∷ items) turns left y h
    ]

items_in : (seats : ℕ) (turns : List Turn) → AllByRecursion (λ turn. turn.thread < seats) turns → All (λ item. item.seat < seats) (items_of turns)
items_in seats [] h = All-nil _
items_in seats (turn ∷ turns) h =
    All-append (λ item. item.seat < seats) (replicate turn.times (record { seat = turn.thread; whole = turn.whole })) (items_of turns) (All-replicate (λ item. item.seat < seats) turn.times _ h.0) (items_in seats turns h.1)

-- ---- why a run fails

no_seat : {C : Type 0} {N : ℕ} (limit : ℕ) (end q : Progress C N) (made seats : ℕ) (turns : List Turned) (left : List Item) → length end.world.seats ≡ seats → AllByRecursion (λ item. item.seat < seats) left → StopsFor limit end made turns left q world.NoSuchSeat → ⊥
no_seat limit end q made seats turns [] same each h = h
no_seat limit end q made seats turns (item ∷ left) same each h = absurd (omega (arith, same, each.0, h.1))

no_room : {C : Type 0} {N : ℕ} (limit : ℕ) (end q : Progress C N) (made : ℕ) (turns : List Turned) (left : List Item) → StopsFor limit end made turns left q world.TooManySeats → ⊥
no_room limit end q made turns [] h = h
no_room limit end q made turns (item ∷ left) h = h

seat_there : (limit : ℕ) (plan : Plan) (now : Whole ScriptCondition 8) → IsRunnable plan → RunFault plan.threads plan.schedule limit (world_for plan) now world.NoSuchSeat → ⊥
seat_there limit plan now runnable fault =
    let stops = fault.stops in
    let first : length (world_for plan).seats ≡ length plan.threads = length_seats ScriptCondition 8 0 (length plan.threads) in
    let kept = turns_stay plan.threads (start (world_for plan)) stops.advances.turns stops.end stops.advances.made in
    let items = items_in (length plan.threads) plan.schedule (recursion_from_All _ _ runnable.in_range) in
    no_seat limit stops.end fault.leaves fault.after (length plan.threads) stops.advances.turns stops.left (kept ∙ first) (rest_each _ (items_of plan.schedule) stops.advances.turns stops.left stops.advances.rest (recursion_from_All _ _ items)) stops.why

-- A run of a script that was read fails by want of memory, or by the limit.
pub run_fails : (refuses : Bool) (limit : ℕ) (plan : Plan) (now : Whole ScriptCondition 8) (fault : WorldFault) → IsRunnable plan → RunHalts refuses plan.threads plan.schedule limit (world_for plan) now fault → IsRunFault limit plan (fault_of_world fault)
run_fails refuses limit plan now world.OutOfMemory runnable why = tt
run_fails refuses limit plan now world.StepLimit runnable why = (now, run_stopped refuses plan.threads plan.schedule limit (world_for plan) now world.StepLimit (λ e. cc) why)
run_fails refuses limit plan now world.NoSuchSeat runnable why = absurd (seat_there limit plan now runnable (run_stopped refuses plan.threads plan.schedule limit (world_for plan) now world.NoSuchSeat (λ e. cc) why))
run_fails refuses limit plan now world.TooManySeats runnable why =
    let stopped = run_stopped refuses plan.threads plan.schedule limit (world_for plan) now world.TooManySeats (λ e. cc) why in
    let stops = stopped.stops in
    absurd (no_room limit stops.end stopped.leaves stopped.after stops.advances.turns stops.left stops.why)

-- the same, as a run over the lists of a script gives it
pub script_fails : (refuses : Bool) (limit : ℕ) (script : Script) (old now : Whole ScriptCondition 8) (fault : WorldFault) → IsRunnable (plan_of script) → old ≡ world_for (plan_of script) →
    RunHalts refuses (lists_of script.threads.items) script.schedule.items limit old now fault → IsRunFault limit (plan_of script) (fault_of_world fault)
script_fails refuses limit script old now fault runnable first stops = run_fails refuses limit (plan_of script) now fault runnable (rw first at stops)

-- An observer of such a run is told of the script's.
pub script_told : {O : Type 0} (sees : Sees ScriptCondition 8 O) (limit : ℕ) (script : Script) (old now : Kept ScriptCondition 8) (before after : O) → whole_of script_truths old ≡ world_for (plan_of script) →
    RunsSeen script_truths sees (lists_of script.threads.items) script.schedule.items limit old before now after → IsToldTo sees limit (plan_of script) before now after
script_told sees limit script old now before after first told = record { old = old; is = first; runs = told }

-- A run of a script that was read, as a run over its lists gives it.
pub script_runs : (limit : ℕ) (script : Script) (old now : Whole ScriptCondition 8) (lines : List Line) → old ≡ world_for (plan_of script) →
    Runs (map (λ calls. calls.items) script.threads.items) script.schedule.items limit old now lines → RunsTo limit (plan_of script) now lines
script_runs limit script old now lines first runs = rw first at runs

-- ---- what a run needs

lists_by : (lists : List (Vec (Call ScriptCondition))) → AllByRecursion IsShort (map (λ calls. calls.items) lists) → AllByRecursion (λ calls. ListFits 8 calls.items) lists
lists_by [] h = tt
lists_by (calls ∷ lists) h = ((h.0.few, h.0.in_range), lists_by lists h.1)

pub few_threads : (script : Script) → IsRunnable (plan_of script) → length script.threads.items ≤ 64
few_threads script runnable =
    let same : length (map (λ (calls : Vec (Call ScriptCondition)). calls.items) script.threads.items) ≡ length script.threads.items = length-map script.threads.items (λ calls. calls.items) in
    rw (← same) runnable.few

pub world_is : (script : Script) (n : ℕ) (now : Whole ScriptCondition 8) → n ≡ length script.threads.items → now ≡ fresh_whole script_truths n script.counters.items script.onces → now ≡ world_for (plan_of script)
world_is script n now count first =
    let same : length (map (λ (calls : Vec (Call ScriptCondition)). calls.items) script.threads.items) ≡ length script.threads.items = length-map script.threads.items (λ calls. calls.items) in
    first ∙ ap (λ (m : ℕ). fresh_whole script_truths m script.counters.items script.onces) (count ∙ sym same)

pub idle_world : (n seat : ℕ) (counters : List ℕ) (onces : ℕ) (now : Whole ScriptCondition 8) → now ≡ fresh_whole script_truths n counters onces → whole_busy now seat ≡ false
idle_world n seat counters onces now first = rw first (none_busy ScriptCondition 8 0 n seat)

pub lists_fit : (lists : List (Vec (Call ScriptCondition))) → All IsShort (map (λ calls. calls.items) lists) → All (λ calls. ListFits 8 calls.items) lists
lists_fit lists h = All-from_recursion _ lists (lists_by lists (recursion_from_All _ _ h))
