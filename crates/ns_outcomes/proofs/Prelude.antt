-- The names that proofs cite, of specs and of what stands below, passed on from one place. Declares nothing.
pub use Rattle.ns_outcomes.specs.Answers.{Answers, ComesTo, EndsOtherwise, HasSeedRun, HasText, IsLike, IsReport, IsScheduled, IsUndrawn, IsUnscheduled}
pub use Rattle.ns_outcomes.specs.Drawn.{AreFewest, Draws, Drew, GoesBefore, HasBegun, IsCutShort, IsDrawingFault, IsDrawn, IsDrawnWord, Lists, Stage, TurnStands, drawing_fault, first_standing, first_standings, generator, stage_of, turn_item}
pub use Rattle.ns_outcomes.specs.Outcomes.{IsDrawFault, IsOutcomeOf, IsSeedRun, call_of_text, thread_text}
pub use Rattle.ns_outcomes.specs.Standings.{IsPick, going, stirred}
pub use Rattle.ns_outcomes.specs.Tallies.{AreRuns, CountsOnceMore, HasCounted, IsBefore, IsCountFault, IsFound, IsTally, block_text, blocks_text, counted, counted_at, found_of, once_more, seed_at, texts_of, times}
pub use Rattle.ns_outcomes.specs.Texts.{AreMembers, IsMember, IsScriptText, names_before, next_text}
pub use Rattle.ns_outcomes.specs.declared.outcome.SeedRun.{SeedRun}
pub use Rattle.ns_outcomes.specs.declared.seeds.Seeds.{Seeds}
pub use Rattle.ns_outcomes.specs.declared.standing.Standing.{Standing}
pub use Rattle.ns_outcomes.specs.declared.standing.Standing.TheVariants.{Going, Over}
pub use Rattle.ns_outcomes.specs.declared.tallying.Count.{Count}
pub use Rattle.ns_outcomes.specs.declared.tallying.Counts.{Counts}
pub use Rattle.ns_outcomes.specs.declared.tallying.Found.{Found}
pub use Rattle.ns_replay.proofs.Outcomes.{unread}
pub use Rattle.ns_replay.proofs.Runs.{idle_world, lists_fit, world_is}
pub use Rattle.ns_replay.proofs.Texts.{flat_map-range, flat_map-same, grows}
pub use Rattle.ns_replay.specs.Prelude.{Answers as ReplayAnswers, Call, Data, Gave, HasRun, IsEnough, IsRefused, IsRunFault, Line, Plan, Runs, StopsFor, Turn, Turned, WasRead, Whole, WorldFault, WritesFront, cell_text, get, is_end, is_in, plan_of, rest_of, row_text, script_truths, start, view}
pub use Rattle.ns_replay.specs.Prelude.{whole_busy, whole_of, world_for}
pub use Rattle.ns_replay.specs.declared.condition.ScriptCondition.{ScriptCondition}
pub use Rattle.ns_replay.specs.declared.fault.Fault.{Fault}
pub use Rattle.ns_replay.specs.declared.fault.Fault.TheVariants.{BadScript, NotJson, OutOfMemory, Read, StepLimit, TooMany, Write}
pub use Rattle.ns_replay.specs.declared.script.Script.{Script}
pub use Rattle.ns_world.proofs.Counted.{start_counted}
pub use Rattle.ns_world.proofs.Prelude.{Advances, IsCounted, Item, Progress, Stops, TurnsOf, Word, progress, word_items}
pub use Rattle.ns_world.proofs.Schedules.{advance_both}
pub use Rattle.ns_world.specs.Runs.{items_of, next_call}
pub use Rattle.ns_world.specs.declared.step.Step.{Step}
pub use Rattle.ns_world.specs.declared.step.Step.TheVariants.{Finished, Idle, Nothing, Went}
pub use Rattle.rand_pcg.specs.Lcg.{Lcg}
pub use Rattle.rand_pcg.specs.Pcg.{pcg32}
pub use Rattle.std.proofs.Common.{arith, false, flat_map, inl, inr, length, map, refl, rules, string_bytes, sym}
pub use Rattle.std.proofs.Math.Seq.{take-suc}
pub use Rattle.std.proofs.lemmas.Bool.{cases_lt, cases_order}
pub use Rattle.std.proofs.lemmas.Iterator.Adapters.{position_from-zero}
pub use Rattle.std.proofs.lemmas.List.{get_or_append_left, get_or_default, get_or_push, length-map, length_push, map-append, nil_from_length}
pub use Rattle.std.proofs.lemmas.List.Concat.{flat_map-append}
pub use Rattle.std.proofs.lemmas.List.Edits.{map_over_more}
pub use Rattle.std.proofs.lemmas.List.Elements.{All-map, All-weaker}
pub use Rattle.std.proofs.lemmas.List.FromFn.{length-range_with_len, map-range_with_len_more}
pub use Rattle.std.proofs.lemmas.List.Sorted.{All-permutation, Contains-permutation, IsPermutation-map, answers_always, ranks_by, sorted_far}
pub use Rattle.std.proofs.lemmas.List.Sums.{count_by-le-length, get_or-le-sum_by, sum_by-cons, sum_by_push}
pub use Rattle.std.proofs.lemmas.Map.Entries.{place_from_lookup}
pub use Rattle.std.proofs.lemmas.Map.Keys.{IsDistinct-IsPermutation, IsDistinct-cons, IsDistinct-from_apart, IsDistinct-from_sorted, IsDistinct-head, IsDistinct-tail}
pub use Rattle.std.proofs.lemmas.Map.Made.{AllPairs-from_IsDistinct}
pub use Rattle.std.proofs.lemmas.Map.Text.{btree_map_updates_text, is_eq-slice_cmp}
pub use Rattle.std.proofs.lemmas.Map.Views.{All-found}
pub use Rattle.std.proofs.lemmas.Option.{get_or_from_slice_get, same_Some, slice_get-map, slice_get_within}
pub use Rattle.std.proofs.lemmas.Result.{err_from_is_err_and}
pub use Rattle.std.specs.BTreeMap.{IsOrdered, get_by_text, is_at}
pub use Rattle.std.specs.Cmp.{back_total, nat_cmp_total, on_total, then_total}
pub use Rattle.std.specs.Cmp.Lexicographic.{bytes_decides, nat_list_eq_equiv, same_text, slice_cmp}
pub use Rattle.std.specs.Global.{Vec}
pub use Rattle.std.specs.Io.KnownBytes.{Appends, IsAtEnd}
pub use Rattle.std.specs.List.{AllByRecursion, IsDistinct, position_from, range_with_len}
pub use Rattle.std.specs.Map.{keys_of, lookup}
pub use Rattle.std.specs.Option.{option_or}
pub use Rattle.std.specs.Ordering.{eq_by_cmp, is_lt, nat_cmp, ordering_then}
pub use Rattle.std.specs.Prelude.{⊤}
pub use Rattle.std.specs.String.{string_cmp_total}
pub use Rattle.std.specs.declared.alloc.AllocError.{AllocError}
pub use Rattle.std.specs.declared.alloc.Global.{Global}
pub use lib.Pointwise.{pointwise}
pub use mathlib.Core.Bool.{beq}
unfoldable pub use Rattle.ns_outcomes.specs.Outcomes.{outcome_text}
unfoldable pub use Rattle.ns_replay.specs.Replaying.{plan_from}
