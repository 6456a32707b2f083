use Rattle.std.proofs.Common.{IfSome, Option, [], ap, arith, option_map, rules, subst, sym, ℕ, ◌++◌, ◌+◌, ◌-◌, ◌<◌, ◌^◌, ◌∙◌, ◌∷◌, ◌≡◌}
use Rattle.ns_note.proofs.Prelude.{Adds, EnvKnown, EnvView, FoundWord, IsMade, New, Note, ParentFits, Take, Taken, WordFits, env_after, made_note, note_of, note_stored, state_of, the, word_of}
use Rattle.ns_note.proofs.Codec.{note_of-word_of}
use Rattle.ns_note.proofs.Rests.{rests, grew, adds_by, adds_note, note_made, numbers_fit, parent_above}
use Rattle.ns_note.proofs.Allowed.{makes, back}
use Rattle.ns_note.proofs.env.Env.note_new.Goals as goal

pub invariant_of-seat : goal.invariant_of-seat
invariant_of-seat c = let e = c.in_err-index.ensures in rests _ _ _ c.seat.inside.seat.me _ c.seat.invariant.0.empty c.seat.invariant.1 e.seat.1 e.seat.2 e.full.1 e.full.0

pub returns-in_err-index-clause-grows : goal.returns-in_err-index-clause-grows
returns-in_err-index-clause-grows c = let e = c.in_err-index.ensures in grew _ _ _ _ _ _ c.seat.view_is e.seat.0 e.full.0

-- a note whose parent has a number, and whose deadline has room, has room in its word
note_fits : (parent : Option Note) (deadline above : Option ℕ) → above ≡ option_map (λ n. n.index) parent → IfSome deadline (λ d. d < 2 ^ 54) → WordFits (state_of (made_note above deadline))
note_fits parent deadline above is below = (subst (λ (o : Option ℕ). IfSome o (λ p. p < 64)) (sym is) (numbers_fit parent), below)

pub store-requires : goal.store-requires
store-requires c = let e = c.in_ok-index.ensures in let is = c.index_of.ensures in let low = e.taken.0 in let same = c.from.ensures in
    let given = subst (λ (k : EnvKnown). IfSome c.args.parent (λ p. IsMade k.seen p.index)) (sym c.seat.view_is) c.requires.parent in
    let above = subst (λ (z : Option ℕ × ℕ). ParentFits (env_after (the c.take_number.new.seat.me.0).seen) z.1 z.0) (λ i. (sym is i, sym c.from.ensures i)) (parent_above c.args.parent c.in_ok-index.index _ _ e.taken c.seat.invariant.0.true_to.legal given) in
    let taken = e.taken.2 ∙ ap Taken (sym c.from.ensures) in let fits = note_fits c.args.parent c.args.deadline c.index_of.result is c.requires.deadline in
    (search rules, search rules, makes _ _ _ _ c.take_number.new.seat.me c.from.result c.encode_note-word.result c.index_of.result c.args.deadline e.seat.1 (omega (arith, low, same)) taken c.encode_note-word.ensures fits above)

-- the two events of a call that made a note
both_added : (parent : Option Note) (deadline : Option ℕ) (above : Option ℕ) (number index word old : ℕ) (v u w : EnvView) → above ≡ option_map (λ n. n.index) parent → IfSome deadline (λ d. d < 2 ^ 54) → word ≡ word_of (state_of (made_note above deadline)) → number ≡ index
    → Adds (Take v.seat index ∷ []) v u → FoundWord (note_stored ((number + 2) - 2) word) old u w → Adds (Take v.seat index ∷ New v.seat index (option_map (λ n. n.index) parent) deadline ∷ []) v w
both_added parent deadline above number index word old v u w is below coded same a found =
    subst (λ (o : Option ℕ). Adds (Take v.seat index ∷ New v.seat index o deadline ∷ []) v w) is
    (adds_note index ((number + 2) - 2) word (state_of (made_note above deadline)) v u w a (adds_by (note_stored ((number + 2) - 2) word) old u w found) (back number ∙ same) (ap note_of coded ∙ note_of-word_of (state_of (made_note above deadline)) (note_fits parent deadline above is below)))

pub invariant_of-seat-2 : goal.invariant_of-seat-2
invariant_of-seat-2 c = let e = c.in_ok-index.ensures in let t = c.store.ensures.2.1 in
    rests _ _ _ c.seat.inside.seat.me _ c.seat.invariant.0.empty c.seat.invariant.1 t.0 (t.1 ∙ e.seat.2) t.2.acted.making
    (both_added c.args.parent c.args.deadline c.index_of.result c.from.result c.in_ok-index.index c.encode_note-word.result _ _ _ _ c.index_of.ensures c.requires.deadline c.encode_note-word.ensures c.from.ensures e.taken.1 t.2)

pub returns-clause-grows : goal.returns-clause-grows
returns-clause-grows c = let e = c.in_ok-index.ensures in let t = c.store.ensures.2.1 in
    grew _ _ _ _ _ _ c.seat.view_is (c.store.ensures.0 ∙ e.seat.0) (both_added c.args.parent c.args.deadline c.index_of.result c.from.result c.in_ok-index.index c.encode_note-word.result _ _ _ _ c.index_of.ensures c.requires.deadline c.encode_note-word.ensures c.from.ensures e.taken.1 t.2)

pub returns-clause-made : goal.returns-clause-made
returns-clause-made c = let e = c.in_ok-index.ensures in let t = c.store.ensures.2.1 in
    subst (λ (k : EnvKnown). (the c.store.new.seat.me.0).mine ≡ k.mine ++ Take k.seat c.in_ok-index.index ∷ New k.seat c.in_ok-index.index (option_map (λ n. n.index) c.args.parent) c.args.deadline ∷ []) c.seat.view_is
    (both_added c.args.parent c.args.deadline c.index_of.result c.from.result c.in_ok-index.index c.encode_note-word.result _ _ _ _ c.index_of.ensures c.requires.deadline c.encode_note-word.ensures c.from.ensures e.taken.1 t.2).mine

pub returns-clause-is_made : goal.returns-clause-is_made
returns-clause-is_made c = let t = c.store.ensures.2.1 in
    subst (IsMade (the c.store.new.seat.me.0).seen) (back c.from.result ∙ c.from.ensures) (note_made ((c.from.result + 2) - 2) _ (note_of c.encode_note-word.result).parent (note_of c.encode_note-word.result).deadline _ _ t.2)
