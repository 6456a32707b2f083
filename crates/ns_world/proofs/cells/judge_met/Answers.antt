use Rattle.ns_world.proofs.Prelude.{[], append-nil, refl, sym}
use Rattle.ns_world.proofs.cells.judge_met.Goals as goal

pub returns : goal.returns
returns g c = λ lock. record { commits = []; effect = (c.in-Some.section, c.in-Some.is, c.test.ensures, refl, refl); grows = sym (append-nil lock.history.items); stays = refl }
