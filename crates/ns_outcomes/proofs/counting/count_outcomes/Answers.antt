use Rattle.std.proofs.Common.{ap, arith, length, string_bytes, subst, ℕ, ◌+◌, ◌<◌, ◌^◌, ◌≡◌}
use Rattle.ns_outcomes.proofs.Prelude.{AreRuns, err_from_is_err_and, plan_of, seed_at}
use Rattle.ns_outcomes.proofs.Tallies.{has_room, long_run, no_runs, one_more}
use Rattle.ns_outcomes.proofs.counting.count_outcomes.Goals as goal

pub loop-number-init : goal.loop-number-init
loop-number-init g c = no_runs c.args.seeds.limit c.args.seeds.from (plan_of c.args.script.now) c.new-counts.result (c.new-counts.ensures c.args.seeds.from)

pub loop-number-preserved : goal.loop-number-preserved
loop-number-preserved g c =
    let seeds = c.args.seeds in
    let run = c.in_ok-run.run' in
    one_more seeds.limit seeds.from c.loop-number.number (seed_at seeds.from c.from.result) (plan_of c.args.script.now) (string_bytes run.text) run.turns c.loop-number.counts c.count.new.self c.loop-number.turns _
    (ap (seed_at seeds.from) c.from.ensures) c.loop-number.invariant (run.words.items, c.in_ok-run.ensures.ok) c.in_ok-count.ensures (ap (λ (n : ℕ). c.loop-number.turns + n) c.from-turns.ensures) (omega arith)

pub count-requires : goal.count-requires
count-requires g c =
    let have = c.loop-number.invariant in
    let many = have.made.many in
    let few : length have.runs + 1 < 2 ^ 32 = omega (arith, many) in
    has_room c.args.seeds.from have.runs c.loop-number.counts (string_bytes c.in_ok-run.run'.text) have.has few

pub returns-in_err-run-clause-err : goal.returns-in_err-run-clause-err
returns-in_err-run-clause-err g c =
    let p = err_from_is_err_and c.from_residual.result c.from_residual.ensures.1 in
    let seeds = c.args.seeds in
    let lt : c.loop-number.number < seeds.count = omega (arith, c.loop-number-test.true) in
    rw (p.1, p.2) (long_run seeds (plan_of c.args.script.now) c.loop-number.counts c.loop-number.turns c.loop-number.number _ c.in_err-run.field-0.0 lt c.loop-number.invariant (rw c.from.ensures at c.in_err-run.ensures.err) (rw c.from.ensures at c.begins.ensures))

pub returns-clause-ok : goal.returns-clause-ok
returns-clause-ok g c =
    let have = c.loop-number.invariant in
    let seeds = c.args.seeds in
    let all : c.loop-number.number ≡ seeds.count = omega arith in
    record {
      runs = have.runs;
      turns = have.turns;
      made = subst (λ (n : ℕ). AreRuns seeds.limit seeds.from n (plan_of c.args.script.now) have.runs have.turns) all have.made;
      tally = c.in_ok-found.ensures seeds.from have.runs have.has;
      total = have.total;
    }
