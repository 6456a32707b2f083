use Rattle.ns_word.proofs.Prelude.{ap, arith, word_of, ◌∙◌}
use Rattle.ns_word.proofs.Puts.{less, none}
use Rattle.ns_word.proofs.number.LockWord.without_reader.Goals.{then-readers-gt0, else-readers-gt0}
use Rattle.ns_word.proofs.number.LockWord.without_reader.Goals as goal

pub overflow_sub-number : goal.overflow_sub-number
overflow_sub-number c = (less c.args.self c.self.inside.number c.self.view_is (omega (arith, c.readers.ensures, c.if-readers-gt0.true))).0

pub returns : goal.returns
returns c = elim c.if-readers-gt0.branch [
  | then-readers-gt0 u ↦ ap word_of u.number-is ∙ (less c.args.self c.self.inside.number c.self.view_is (omega (arith, c.readers.ensures, u.if-readers-gt0.true))).1
  | else-readers-gt0 u ↦ ap word_of u.number-is ∙ none c.args.self c.self.inside.number c.self.view_is (omega (arith, c.readers.ensures, u.if-readers-gt0.false))
]
