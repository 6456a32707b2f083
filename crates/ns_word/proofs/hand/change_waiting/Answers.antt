use Rattle.std.proofs.Common.{Bool, List, [], refl, ℕ, ◌≡◌}
use Rattle.ns_word.proofs.Prelude.{Cause, InLeaving, InQueuing, Leave, LeavePlace, Lists, QueuePlace, Truths, Wait, WaitPlace, number, queues_fit, row_small, wait_hand}
use Rattle.ns_word.proofs.hand.change_waiting.Goals as goal

pub change_queuing-requires : goal.change_queuing-requires
change_queuing-requires g c = (queues_fit g.row.C (number g.row.N) g.met.C.Condition.has_room g.C.Condition, (row_small g.met.C.Condition.has_cells.1, (c.requires.list, (c.requires.below, rw c.in-InQueuing.is at c.requires.free))))

-- who leaves needs no row
at_any_row : {C : Type 0} (truths : Truths C) (seat : ℕ) (wait : Wait C) (cause : Cause) (place : LeavePlace) (row : List ℕ) (lists left : Lists C) →
    left ≡ wait_hand truths seat wait (InLeaving cause place) [] lists → left ≡ wait_hand truths seat wait (InLeaving cause place) row lists
at_any_row truths seat wait cause (Leave last) row lists left e = e
at_any_row truths seat wait cause other row lists left e = e

pub returns-in-InLeaving : goal.returns-in-InLeaving
returns-in-InLeaving g c = let here = c.in-InLeaving in
    rw here.is (at_any_row g.C.Condition.means c.args.seat c.args.wait here.cause here.place c.args.row.now c.args.queues.now _ c.change_leaving.ensures)

pub change_leaving-requires : goal.change_leaving-requires
change_leaving-requires g c = queues_fit g.row.C (number g.row.N) g.met.C.Condition.has_room g.C.Condition

-- who does neither leaves the lists as they are
stays : {C : Type 0} (truths : Truths C) (seat : ℕ) (wait : Wait C) (place : WaitPlace) (row : List ℕ) (lists : Lists C) →
    ((again : Bool) (place' : QueuePlace) → place ≡ InQueuing again place' → ⊥) → ((cause : Cause) (place' : LeavePlace) → place ≡ InLeaving cause place' → ⊥) → lists ≡ wait_hand truths seat wait place row lists
stays truths seat wait (InQueuing again place) row lists queues leaves = absurd (queues again place refl)
stays truths seat wait (InLeaving cause place) row lists queues leaves = absurd (leaves cause place refl)
stays truths seat wait place row lists queues leaves = refl

pub returns-in_default : goal.returns-in_default
returns-in_default g c = stays g.C.Condition.means c.args.seat c.args.wait c.args.place c.args.row.now c.args.queues.now c.in_default.not-InQueuing c.in_default.not-InLeaving
