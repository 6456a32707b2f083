use Rattle.ns_model.proofs.Entries.{after_cv_at_end, plain_at_rest, waited_at_wait}
use Rattle.ns_model.proofs.sections.entry_fits.Goals as goal

pub returns-in_default : goal.returns-in_default
returns-in_default g c = rw c.in_default.is-0 (λ no. absurd cc, λ fits. absurd (plain_at_rest g.C.Condition.means.holds c.args.before.now c.args.mode c.args.phase c.in_default.not-Idle-1 fits))

pub returns-in_default-2 : goal.returns-in_default-2
returns-in_default-2 g c = rw c.in_default.is-0 (λ no. absurd cc, λ fits. absurd (waited_at_wait g.C.Condition.means.holds c.args.before.now c.args.mode c.in_default.field-0-0 c.in_default.field-1-0 c.args.phase c.in_default.not-Cond-1 fits))

pub returns-in_default-3 : goal.returns-in_default-3
returns-in_default-3 g c = rw c.in_default.is-0 (λ no. absurd cc, λ fits. absurd (after_cv_at_end g.C.Condition.means.holds c.args.before.now c.args.mode c.in_default.field-0-0 c.in_default.field-1-0 c.args.phase c.in_default.not-Woken-1 c.in_default.not-Left-1 fits))
