use Rattle.ns_world.proofs.Direct.{of_read, of_release, of_try, of_wait}
use Rattle.ns_world.proofs.law.replies_tell_of_the_section.Goals as goal

pub returns-clause-tried : goal.returns-clause-tried
returns-clause-tried g c = λ before after earlier later seat mode reply. of_try before after earlier later seat reply mode

pub returns-clause-released : goal.returns-clause-released
returns-clause-released g c = λ before after earlier later seat kind reply. of_release before after earlier later seat reply kind

pub returns-clause-read : goal.returns-clause-read
returns-clause-read g c = λ before after earlier later seat i reply. of_read before after earlier later seat reply i

pub returns-clause-waited : goal.returns-clause-waited
returns-clause-waited g c = λ before after earlier later seat wait reply. of_wait before after earlier later seat reply wait
