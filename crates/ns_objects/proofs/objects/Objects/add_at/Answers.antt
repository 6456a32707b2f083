use Rattle.std.proofs.Common.{of_z, refl, to_z, w64, ℤ, ◌∙◌}
use Rattle.ns_objects.proofs.Changes.{goes_on, judged_anew, found_coded, judged_so}
use Rattle.ns_objects.proofs.objects.Objects.add_at.Goals as goal

pub loop-preserved : goal.loop-preserved
loop-preserved g c = let inv = c.loop.invariant in let e = c.change-found.ensures in let me = c.args.seat.now.me in let now = c.loop.seat.me in let next = c.change-found.new.seat.me in
    let told : ℤ = to_z w64 (of_z w64 c.args.delta) in
    let fits = judged_so c.decode_counter.result c.loop.word told told c.judge.result c.decode_counter.ensures refl c.judge.ensures ∙ c.in_ok-value.was in
    let goes = goes_on c.args.counter told me now c.loop.word c.in_ok-value.value fits inv.4 in (
      tt,
      tt,
      e.seat ∙ inv.2,
      found_coded c.args.counter told me now next c.loop.word c.change-found.result c.in_ok-value.value goes inv.3 e.acted,
      judged_anew c.args.counter told me now next c.loop.word c.change-found.result c.in_ok-value.value goes inv.3 e.acted c.if-found-word.false,
    )
