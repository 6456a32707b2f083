use Rattle.std.proofs.Common.{List, Some, ap, append_assoc, arith, drop, length, suc, sym, take, take-append-drop, zero, ℕ, ◌++◌, ◌-◌, ◌<◌, ◌∙◌, ◌≡◌}
use Rattle.ns_replay.proofs.Prelude.{Appends-trans, Counts, stuck_by, take_rest}
use Rattle.ns_replay.proofs.transfer.write_all.Goals as goal

-- a write that took some byte is counted as none
not_stuck : (first old new n : ℕ) → 0 < n → Counts first old 0 → Counts old new (stuck_by (Some n)) → Counts first new 0
not_stuck first old new zero some none one = absurd (omega arith)
not_stuck first old new (suc n) some none one = omega arith

moves_front : (all done rest : List ℕ) (n : ℕ) → all ≡ done ++ rest → all ≡ (done ++ take n rest) ++ take (length rest - n) (drop n rest)
moves_front all done rest n e =
    e ∙ ap (λ l. done ++ l) (sym (take-append-drop n rest)) ∙ sym (append_assoc done (take n rest) (drop n rest)) ∙ ap (λ l. (done ++ take n rest) ++ l) (sym (take_rest rest n))

pub loop-rest-preserved : goal.loop-rest-preserved
loop-rest-preserved g c =
    let (done, split, appended, fine, none) = c.loop-rest.invariant in
    let rest = c.loop-rest.rest.now in
    let n = c.in-Some.n in
    (done ++ take n rest, moves_front _ done rest n split, Appends-trans _ _ _ _ _ appended c.in-Some.ensures.bytes.1, c.in-Some.ensures.failure, not_stuck _ _ _ n (omega arith) none c.in-Some.ensures.count)
