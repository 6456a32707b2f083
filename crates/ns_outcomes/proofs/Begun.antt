-- The script's own schedule, and why a run that draws turns behind it stops.
use Rattle.std.proofs.Common.{Bool, List, Option, [], ap, arith, cond, inl, inr, is_some, length, map, refl, replicate, subst, sym, ℕ, ◌++◌, ◌+◌, ◌||◌, ◌∙◌, ◌∷◌, ◌≡◌}
use Rattle.ns_outcomes.proofs.Prelude.{Advances, BadScript, Call, Fault, Going, HasBegun, IsDrawFault, IsDrawingFault, IsDrawn, IsRunFault, IsSeedRun, Line, Lists, NotJson, OutOfMemory, Over, Plan, Progress, Read, Runs, Script, ScriptCondition, Stage, Standing, StepLimit, Stops, TooMany, Turn}
use Rattle.ns_outcomes.proofs.Prelude.{Whole, WorldFault, Write, advance_both, drawing_fault, first_standing, first_standings, flat_map-append, generator, items_of, length-map, length-range_with_len, map-range_with_len_more, next_call, outcome_text, plan_of, progress, range_with_len, start}
use Rattle.ns_outcomes.proofs.Prelude.{whole_busy, word_items, world_for}
use Rattle.ns_world.specs.declared.fault.Fault.TheVariants as world
use Rattle.ns_outcomes.proofs.Draws.{drew_advances}
use Rattle.ns_outcomes.proofs.Runs.{threads_long}

-- the script's own turns, from the start
pub begun_own : (limit : ℕ) (script : Script) (old : Whole ScriptCondition 8) (over : List ℕ) (lines : List Line) (turns mid : ℕ) (q : Progress ScriptCondition 8) → old ≡ world_for (plan_of script) → over ≡ replicate 64 0 → lines ≡ [] → turns ≡ 0 →
    Advances (map (λ calls. calls.items) script.threads.items) limit (progress old over lines) turns (items_of script.schedule.items) [] q mid →
    Advances (plan_of script).threads limit (start (world_for (plan_of script))) 0 (items_of (plan_of script).schedule) [] q mid
begun_own limit script old over lines turns mid q e₁ e₂ e₃ e₄ a = rw (e₁, e₂, e₃, e₄) at a

-- a stop in the script's own schedule
pub own_stops : (limit : ℕ) (script : Script) (old : Whole ScriptCondition 8) (over : List ℕ) (lines : List Line) (turns : ℕ) (now : Progress ScriptCondition 8) (after : ℕ) (fault : WorldFault) → old ≡ world_for (plan_of script) → over ≡ replicate 64 0 → lines ≡ [] → turns ≡ 0 →
    Stops (map (λ calls. calls.items) script.threads.items) limit (progress old over lines) turns (items_of script.schedule.items) now after fault → IsRunFault limit (plan_of script) (drawing_fault fault)
own_stops limit script old over lines turns now after world.StepLimit e₁ e₂ e₃ e₄ s = (now.world, record { leaves = now; after = after; stops = rw (e₁, e₂, e₃, e₄) at s; here = refl })
own_stops limit script old over lines turns now after world.OutOfMemory e₁ e₂ e₃ e₄ s = tt
own_stops limit script old over lines turns now after world.NoSuchSeat e₁ e₂ e₃ e₄ s = tt
own_stops limit script old over lines turns now after world.TooManySeats e₁ e₂ e₃ e₄ s = tt

-- so a seed has no run
pub own_fault : (limit : ℕ) (plan : Plan) (seed : ℕ) (fault : Fault) → IsRunFault limit plan fault → IsDrawFault limit plan seed fault
own_fault limit plan seed OutOfMemory h = tt
own_fault limit plan seed StepLimit h = inl h
own_fault limit plan seed NotJson h = absurd h
own_fault limit plan seed (BadScript path) h = absurd h
own_fault limit plan seed (TooMany path) h = absurd h
own_fault limit plan seed Read h = absurd h
own_fault limit plan seed Write h = absurd h

-- nor where drawing stops behind it
pub begun_stops : (limit : ℕ) (plan : Plan) (seed : ℕ) (p : Stage) (before : ℕ) (fault : Fault) → HasBegun limit plan p before → IsDrawingFault plan.threads limit (generator seed) p before fault → IsDrawFault limit plan seed fault
begun_stops limit plan seed p before OutOfMemory b h = tt
begun_stops limit plan seed p before StepLimit b h = inr (record { first = p; before = before; begun = b; cut = h })
begun_stops limit plan seed p before NotJson b h = absurd h
begun_stops limit plan seed p before (BadScript path) b h = absurd h
begun_stops limit plan seed p before (TooMany path) b h = absurd h
begun_stops limit plan seed p before Read b h = absurd h
begun_stops limit plan seed p before Write b h = absurd h

-- the run of a seed is a run under the script's own words and the drawn ones
pub drawn_runs : (limit : ℕ) (plan : Plan) (seed : ℕ) (words : List Turn) (q : Stage) (after : ℕ) → IsDrawn limit plan seed words q after → Runs plan.threads (plan.schedule ++ words) limit (world_for plan) q.progress.world q.progress.lines
drawn_runs limit plan seed words q after d = record {
  end = q.progress;
  after = after;
  advances = subst (λ items. Advances plan.threads limit (start (world_for plan)) 0 items [] q.progress after) (sym (flat_map-append word_items plan.schedule words))
      (advance_both d.begun.own
      (drew_advances plan.threads limit _ d.drawn.ends d.first q d.before after words d.drawn.drew));
  here = refl;
  tells = refl;
}

-- ---- where threads stand first

-- one thread, by whether it is busy and has a call left
pub first_is : (lists : Lists) (p : Progress ScriptCondition 8) (thread : ℕ) (is_busy has_next : Bool) (standing : Standing) (next : Option (Call ScriptCondition)) → standing ≡ cond (is_busy || has_next) Going Over → is_busy ≡ whole_busy p.world thread →
    has_next ≡ is_some next → next ≡ next_call lists p thread → standing ≡ first_standing lists p thread
first_is lists p thread is_busy has_next standing next is e₁ e₂ e₃ = is ∙ (λ i. cond (e₁ i || e₂ i) Going Over) ∙ (λ i. cond (whole_busy p.world thread || is_some (e₃ i)) Going Over)

-- one thread more
pub one_standing : (lists : Lists) (p : Progress ScriptCondition 8) (thread : ℕ) (before after : List Standing) (standing : Standing) → before ≡ map (first_standing lists p) (range_with_len 0 thread) → standing ≡ first_standing lists p thread →
    after ≡ before ++ standing ∷ [] → after ≡ map (first_standing lists p) (range_with_len 0 (thread + 1))
one_standing lists p thread before after standing had is more =
    more ∙ (λ i. had i ++ is i ∷ []) ∙ sym (map-range_with_len_more (first_standing lists p) 0 thread thread (omega arith))

-- as many standings as threads
pub standings_many : (lists : Lists) (p : Progress ScriptCondition 8) (standings : List Standing) → standings ≡ first_standings lists p → length standings ≡ length lists
standings_many lists p standings is =
    let same = ap (λ (s : List Standing). length s) is in
    let mapped = length-map (range_with_len 0 (length lists)) (first_standing lists p) in
    same ∙ mapped ∙ length-range_with_len 0 (length lists)

-- ---- the outcome

-- the run of a seed, by what was drawn and its text
pub seed_run : (limit : ℕ) (script : Script) (seed : ℕ) (words : List Turn) (q : Stage) (after : ℕ) (now : Whole ScriptCondition 8) (lines : List Line) (text : List ℕ) (n : ℕ) → IsDrawn limit (plan_of script) seed words q after →
    now ≡ q.progress.world → lines ≡ q.progress.lines → n ≡ length script.threads.items → text ≡ outcome_text n now lines → IsSeedRun limit (plan_of script) seed words text after
seed_run limit script seed words q after now lines text n drawn e₁ e₂ count is = record {
  end = q;
  drawn = drawn;
  runs = drawn_runs limit (plan_of script) seed words q after drawn;
  is = is ∙ (λ i. outcome_text (threads_long script n count i) (e₁ i) (e₂ i));
}
