use Rattle.std.proofs.Common.{List, ap, append-nil, false, nat_lt, rules, sum_by, sym, ℕ, ◌++◌, ◌∙◌, ◌≡◌}
use Rattle.ns_world.proofs.Prelude.{AtVariables, Event, Home, Lists, Variables, leave_of, stands_at, times_in}
use Rattle.ns_world.proofs.Exchanged.{not_leaving}
use Rattle.ns_world.proofs.exchanges.commit_leave.Goals as goal

-- who stands in no list of a variable leaves none
leaves_none : {C : Type 0} {N : ℕ} (seat : ℕ) (home : Home) (v : Variables) (lists : Lists C) (items : List (Event C N)) → home ≡ AtVariables v → nat_lt 0 (sum_by (times_in seat) lists.cvs) ≡ false → items ≡ items ++ leave_of {C = C} {N = N} seat home (stands_at seat home lists)
leaves_none seat home v lists items is none = rw (is, none) (sym (ap (λ more. items ++ more) (not_leaving seat (AtVariables v)) ∙ append-nil items))

-- found by what the call of the condition answers, whichever call that is
pub returns-else-stands : goal.returns-else-stands
returns-else-stands g c = leaves_none {C = g.row.C.Denot} {N = g.row.N} c.args.seat c.args.home c.in-AtVariables.variables c.args.queues.now c.args.history.now.items c.in-AtVariables.is (grind rules)

pub leaving-requires : goal.leaving-requires
leaving-requires g c = g.met.C.Seated.event_fits
