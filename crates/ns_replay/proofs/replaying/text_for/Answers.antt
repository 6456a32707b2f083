use Rattle.ns_replay.proofs.Prelude.{plan_of, script_truths, whole_of}
use Rattle.ns_replay.proofs.Runs.{few_threads}
use Rattle.ns_replay.proofs.replaying.text_for.Goals as goal

pub run_text-requires : goal.run_text-requires
run_text-requires c = few_threads c.in_ok-script.script c.in_ok-script.ensures.ok.runnable

pub returns-clause-ok : goal.returns-clause-ok
returns-clause-ok c = record {
  plan = plan_of c.in_ok-script.script;
  world = whole_of script_truths c.in_ok-script.run'.world;
  lines = c.in_ok-script.run'.lines.items;
  has_run = c.in_ok-script.ensures.ok;
  is = c.in_ok-run_text.ensures;
}
