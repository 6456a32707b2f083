use Rattle.std.proofs.Common.{ap, not, refl, ◌∙◌, ◌≡◌}
use Rattle.ns_world.proofs.Prelude.{Scanned, has_some, some_there}
use Rattle.ns_world.proofs.lock.Lock.release_scanned.Goals as goal

pub returns-clause-found : goal.returns-clause-found
returns-clause-found g c = ap (λ owes. Scanned owes c.args.scan.tests) (ap not c.is_empty-owes.ensures ∙ some_there c.args.scan.woken.items)

pub returns-clause-lock : goal.returns-clause-lock
returns-clause-lock g c = let owes : not c.is_empty-owes.result ≡ has_some c.args.scan.woken.items = ap not c.is_empty-owes.ensures ∙ some_there c.args.scan.woken.items in rw (c.released_returning-self.ensures, c.bits.ensures, owes) refl
