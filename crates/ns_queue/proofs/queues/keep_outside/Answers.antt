use Rattle.std.proofs.Common.{arith, get_or, length, refl, rules, sym, ℕ, ◌<◌, ◌∙◌, ◌≡◌, ◌≤◌}
use Rattle.ns_queue.proofs.Prelude.{FiltersInPlace-all, FiltersInPlace-more_here, FiltersInPlace-more_no, FiltersInPlace-more_set, get_or_default, scaled_Fits, still_in}
use Rattle.ns_queue.proofs.Outside.{place_low}
use Rattle.ns_queue.proofs.queues.keep_outside.Goals.{then-not-contains, else-not-contains, then-kept-i, else-kept-i}
use Rattle.ns_queue.proofs.queues.keep_outside.Goals as goal

kept_inside : (kept i n m : ℕ) → kept ≤ i → i < n → m ≡ n → kept < m
kept_inside kept i n m behind low same = omega arith

pub bounds-waiters-i : goal.bounds-waiters-i
bounds-waiters-i g c = still_in _ _ _ c.loop-i-test.true c.loop-i.auto.waiters

pub bounds-waiters-i-in-loop-i : goal.bounds-waiters-i-in-loop-i
bounds-waiters-i-in-loop-i g c = still_in _ _ _ c.loop-i-test.true c.loop-i.auto.waiters

pub bounds-waiters-i-then-kept-i : goal.bounds-waiters-i-then-kept-i
bounds-waiters-i-then-kept-i g c = still_in _ _ _ c.loop-i-test.true c.loop-i.auto.waiters

pub bounds-waiters-kept : goal.bounds-waiters-kept
bounds-waiters-kept g c = kept_inside _ _ _ _ c.loop-i.invariant.behind c.loop-i-test.true c.loop-i.auto.waiters

-- where a place lies, in bytes: `search` finds how many bytes the whole slice takes
pub offset_bounds-waiters-i : goal.offset_bounds-waiters-i
offset_bounds-waiters-i g c = scaled_Fits _ (length c.args.waiters.now) _ c.loop-i-test.true (search rules)

pub offset_bounds-waiters-i-then-kept-i : goal.offset_bounds-waiters-i-then-kept-i
offset_bounds-waiters-i-then-kept-i g c = scaled_Fits _ (length c.args.waiters.now) _ c.loop-i-test.true (search rules)

pub offset_bounds-waiters-kept : goal.offset_bounds-waiters-kept
offset_bounds-waiters-kept g c = scaled_Fits _ (length c.args.waiters.now) _ (kept_inside _ _ _ _ c.loop-i.invariant.behind c.loop-i-test.true refl) (search rules)

pub loop-i-preserved : goal.loop-i-preserved
loop-i-preserved g c =
    let inside : c.loop-i.i < length c.loop-i.waiters = omega (arith, c.loop-i-test.true, c.loop-i.auto.waiters) in
    let here = get_or_default c.loop-i.waiters c.loop-i.i c.index-waiters-i.result (get_or c.loop-i.waiters c.loop-i.i c.index-waiters-i.result) inside in
    elim c.if-not-contains.branch [
      | then-not-contains w ↦
          let out = sym c.contains.ensures ∙ w.if-not-contains.true in
          elim w.if-kept-i.branch [
            | then-kept-i u ↦ rw (w.waiters-is, w.kept-is, u.waiters-is) (FiltersInPlace-more_set c.loop-i.invariant inside
                (rw (u.index-waiters-i-then-kept-i.is ∙ get_or_default c.loop-i.waiters c.loop-i.i u.index-waiters-i-then-kept-i.result c.index-waiters-i.result inside, out) refl)
                u.index-waiters-i-then-kept-i.is)
            | else-kept-i u ↦ rw (w.waiters-is, w.kept-is, u.waiters-is) (FiltersInPlace-more_here c.loop-i.invariant inside (rw out refl) here u.if-kept-i.false)
          ]
      | else-not-contains w ↦ rw (w.waiters-is, w.kept-is) (FiltersInPlace-more_no c.loop-i.invariant inside (rw (sym c.contains.ensures ∙ w.if-not-contains.false) refl) here)
    ]

pub returns : goal.returns
returns g c = FiltersInPlace-all c.loop-i.invariant c.loop-i-test.false

pub contains-requires : goal.contains-requires
contains-requires g c =
    let inside : c.loop-i.i < length c.loop-i.waiters = omega (arith, c.loop-i-test.true, c.loop-i.auto.waiters) in
    let w = get_or c.loop-i.waiters c.loop-i.i c.index-waiters-i.result in
    place_low c.args.waiters.now c.loop-i.waiters c.loop-i.i w c.requires c.loop-i.invariant.rest inside (get_or_default c.loop-i.waiters c.loop-i.i w c.index-waiters-i.result inside)
