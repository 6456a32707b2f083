use Rattle.std.proofs.Common.{Bool, List, [], ap, arith, false, if◌then◌else◌, true, ℕ, ◌++◌, ◌<◌, ◌≡◌, ◌≤◌}
use Rattle.ns_word.proofs.Prelude.{Cv, HaveSeats, IsOrderly, Lists, Lock, Owed, Waiter, below_in, cvs_without, gone_those, list_small, moved_to, number, once_in, queues_fit, taken_set, times, times_in, times_signaled, waiters_of, wakes_of, with_waiters, ◌∙◌}
use Rattle.ns_word.proofs.hand.wake_waiters.Goals.{in-Signaling, in-Broadcasting}
use Rattle.ns_word.proofs.hand.wake_waiters.Goals as goal

-- those taken from a variable's list may go to the back of the lock list
may_move : {C : Type 0} (lists new : Lists C) (k : ℕ) (ws taken : List (Waiter C)) → IsOrderly lists → k < 4 → ((seat : ℕ) → times_in seat taken ≤ times_in seat (waiters_of lists (Cv k))) → new ≡ cvs_without (taken_set taken) lists → ws ≡ taken →
    HaveSeats ws × (((seat : ℕ) → times_in seat ws ≤ 1) × ((seat : ℕ) → 1 ≤ times_in seat ws → times seat new ≡ 0))
may_move lists new k ws taken orderly low part is same = rw (is, same) (
  (λ seat high. omega (arith, part seat, below_in lists (Cv k) orderly low seat high)),
  ((λ seat. omega (arith, part seat, once_in lists (Cv k) orderly low seat)), (λ seat here. gone_those lists k taken orderly low part seat here)),
)

pub append-requires : goal.append-requires
append-requires g c = elim c.match-waking.branch [
  | in-Signaling w ↦ (
    queues_fit g.row.C (number g.row.N) g.met.C.Condition.has_room g.C.Condition,
    may_move c.args.queues.now c.match-waking.queues c.args.k c.as_slice.result.now _ w.take_signal-taken.ensures.orderly c.requires (λ seat. omega (arith, times_signaled (waiters_of c.args.queues.now (Cv c.args.k)) seat))
        (w.queues-is ∙ w.take_signal-taken.ensures.left) (c.as_slice.ensures.value ∙ ap (λ v. v.items) w.taken-is ∙ w.take_signal-taken.ensures.taken),
  )
  | in-Broadcasting w ↦ (
    queues_fit g.row.C (number g.row.N) g.met.C.Condition.has_room g.C.Condition,
    may_move c.args.queues.now c.match-waking.queues c.args.k c.as_slice.result.now _ w.take_all-taken.ensures.orderly c.requires (λ seat. omega arith)
        (w.queues-is ∙ w.take_all-taken.ensures.left) (c.as_slice.ensures.value ∙ ap (λ v. v.items) w.taken-is ∙ w.take_all-taken.ensures.taken),
  )
]

-- they are moved, or owed a wake
were_moved : {C : Type 0} (held : Bool) (lists mid new : Lists C) (ws taken : List (Waiter C)) → held ≡ true → ws ≡ taken → mid ≡ lists → new ≡ with_waiters mid Lock (mid.lock ++ ws) → new ≡ moved_to held taken lists
were_moved held lists mid new ws taken is same there becomes = rw (is, ← same, ← there) becomes

were_left : {C : Type 0} (held : Bool) (lists mid : Lists C) (taken : List (Waiter C)) → held ≡ false → mid ≡ lists → mid ≡ moved_to held taken lists
were_left held lists mid taken is there = rw is there

are_owed : {C : Type 0} (held : Bool) (k : ℕ) (owed : List Owed) (ws taken : List (Waiter C)) → held ≡ false → owed ≡ wakes_of k ws → ws ≡ taken → owed ≡ (if held then [] else wakes_of k taken)
are_owed held k owed ws taken is seats same = rw is (seats ∙ ap (wakes_of k) same)

pub returns-then-held-clause-lists : goal.returns-then-held-clause-lists
returns-then-held-clause-lists g c = elim c.match-waking.branch [
  | in-Signaling w ↦ rw w.in-Signaling.is (were_moved c.args.held _ c.match-waking.queues c.append.new.self c.as_slice.result.now _ c.if-held.true
      (c.as_slice.ensures.value ∙ ap (λ v. v.items) w.taken-is ∙ w.take_signal-taken.ensures.taken) (w.queues-is ∙ w.take_signal-taken.ensures.left) c.append.ensures)
  | in-Broadcasting w ↦ rw w.in-Broadcasting.is (were_moved c.args.held _ c.match-waking.queues c.append.new.self c.as_slice.result.now _ c.if-held.true
      (c.as_slice.ensures.value ∙ ap (λ v. v.items) w.taken-is ∙ w.take_all-taken.ensures.taken) (w.queues-is ∙ w.take_all-taken.ensures.left) c.append.ensures)
]

pub returns-else-held-clause-owed : goal.returns-else-held-clause-owed
returns-else-held-clause-owed g c = elim c.match-waking.branch [
  | in-Signaling w ↦ rw w.in-Signaling.is (are_owed c.args.held c.args.k _ c.as_slice-else-held.result.now _ c.if-held.false c.wakes.ensures (c.as_slice-else-held.ensures.value ∙ ap (λ v. v.items) w.taken-is ∙ w.take_signal-taken.ensures.taken))
  | in-Broadcasting w ↦ rw w.in-Broadcasting.is (are_owed c.args.held c.args.k _ c.as_slice-else-held.result.now _ c.if-held.false c.wakes.ensures (c.as_slice-else-held.ensures.value ∙ ap (λ v. v.items) w.taken-is ∙ w.take_all-taken.ensures.taken))
]

pub returns-else-held-clause-lists : goal.returns-else-held-clause-lists
returns-else-held-clause-lists g c = elim c.match-waking.branch [
  | in-Signaling w ↦ rw w.in-Signaling.is (were_left c.args.held _ c.match-waking.queues _ c.if-held.false (w.queues-is ∙ w.take_signal-taken.ensures.left))
  | in-Broadcasting w ↦ rw w.in-Broadcasting.is (were_left c.args.held _ c.match-waking.queues _ c.if-held.false (w.queues-is ∙ w.take_all-taken.ensures.left))
]

pub take_signal-taken-requires : goal.take_signal-taken-requires
take_signal-taken-requires g c = (queues_fit g.row.C (number g.row.N) g.met.C.Condition.has_room g.C.Condition, (list_small _ g.met.C.Queueable.list_fits, c.requires))

pub take_all-taken-requires : goal.take_all-taken-requires
take_all-taken-requires g c = (queues_fit g.row.C (number g.row.N) g.met.C.Condition.has_room g.C.Condition, (list_small _ g.met.C.Queueable.list_fits, c.requires))
