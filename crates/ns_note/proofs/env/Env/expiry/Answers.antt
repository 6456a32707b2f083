use Rattle.std.proofs.Common.{None, Option, ap, subst, sym, ℕ, ◌∙◌}
use Rattle.ns_note.proofs.Prelude.{IsExpiryAt, NoteWord, earlier, env_after, expiry_begins, expiry_goes_on, expiry_starts, legal_begins, line_falls, made_below, nearer}
use Rattle.ns_note.proofs.Rests.{grows_through}
use Rattle.ns_note.proofs.env.Env.expiry.Goals as goal

pub loop-next-init : goal.loop-next-init
loop-next-init c = let seen = c.args.seat.now.seen in let note = c.args.note.index in let e = c.word-word.ensures in (
  e.grows,
  e.mine,
  subst (λ (z : NoteWord). IsExpiryAt seen note z.deadline z.parent) (sym e.word) (expiry_goes_on seen c.word-word.new.seat.seen note note None e.grows.true_to.legal e.grows.begins (expiry_starts seen note c.requires.made)),
)

pub word-word-requires-in-Some-clause-number : goal.word-word-requires-in-Some-clause-number
word-word-requires-in-Some-clause-number c = let seen = c.args.seat.now.seen in let g = c.word-word.ensures.grows in let at = subst (IsExpiryAt seen c.args.note.index c.loop-next.earliest) c.in-Some.is c.loop-next.invariant.2 in
    made_below seen c.in-Some.number (legal_begins _ seen g.true_to.legal g.begins) at.0

pub loop-next-smaller : goal.loop-next-smaller
loop-next-smaller c = let now = c.word-word-in-Some.new.seat in let e = c.word-word-in-Some.ensures in
    nearer c.loop-next.next c.word-word-in-Some.result.parent c.in-Some.number ((env_after now.seen).notes c.in-Some.number).parent c.in-Some.is (ap (λ (z : NoteWord). z.parent) e.word) (line_falls now.seen c.in-Some.number e.grows.true_to.legal)

pub loop-next-preserved : goal.loop-next-preserved
loop-next-preserved c = let seen = c.args.seat.now.seen in let note = c.args.note.index in let now = c.word-word-in-Some.new.seat in let e = c.word-word-in-Some.ensures in
    let at = subst (IsExpiryAt seen note c.loop-next.earliest) c.in-Some.is c.loop-next.invariant.2 in let g = grows_through _ _ now c.loop-next.invariant.0 e.grows in (
      g,
      e.mine ∙ c.loop-next.invariant.1,
      subst (λ (k : Option ℕ). IsExpiryAt seen note k c.word-word-in-Some.result.parent) (sym c.earlier-earliest.ensures)
          (subst (λ (z : NoteWord). IsExpiryAt seen note (earlier c.loop-next.earliest z.deadline) z.parent) (sym e.word) (expiry_goes_on seen now.seen note c.in-Some.number c.loop-next.earliest g.true_to.legal g.begins at)),
    )

pub returns-clause-expiry : goal.returns-clause-expiry
returns-clause-expiry c = let seen = c.args.seat.now.seen in let note = c.args.note.index in let g = c.loop-next.invariant.0 in let at = subst (IsExpiryAt seen note c.loop-next.earliest) c.in_default.is c.loop-next.invariant.2 in
    sym at ∙ sym (expiry_begins c.loop-next.seat.seen seen note g.true_to.legal g.begins c.requires.made)
