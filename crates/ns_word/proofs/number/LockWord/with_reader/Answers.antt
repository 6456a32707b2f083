use Rattle.ns_word.proofs.Prelude.{arith}
use Rattle.ns_word.proofs.Puts.{more}
use Rattle.ns_word.proofs.number.LockWord.with_reader.Goals as goal

pub overflow_add-number : goal.overflow_add-number
overflow_add-number c = omega (arith, (more c.args.self c.self.inside.number c.self.view_is c.requires).0)

pub returns : goal.returns
returns c = (more c.args.self c.self.inside.number c.self.view_is c.requires).1
