use Rattle.std.proofs.Common.{List, ap, rules, subst, sym, ℕ, ◌∙◌}
use Rattle.ns_note.proofs.Prelude.{AreOfOneHistory, EnvKnown, EnvView, Grows, HaveLearned, Me, TableId, cuts, fresh_seat, glues, known_of, meets, pair_of, the}
use Rattle.ns_note.proofs.Rests.{grew, nowhere}
use Rattle.ns_note.proofs.Seats.{by_sums, learns}
use Rattle.ns_note.proofs.env.Env.meet.Goals as goal

abbrev views : {S : Type 0} → Me S (List EnvView) → List EnvView
views m = m.0

abbrev held : {S : Type 0} → Me S (List EnvView) → List (ℕ × S)
held m = m.1

pub join_seat-requires : goal.join_seat-requires
join_seat-requires c = (search rules, search rules, c.second.invariant.0.empty, search rules, glues (by_sums _ _) _ _ _ _)

pub load-requires : goal.load-requires
load-requires c = (search rules, search rules, learns _ _ _ _ c.join_seat.new.seat.me (pair_of _ _ _ c.first.invariant.0.one c.second.invariant.0.one (ap views c.join_seat.ensures.2)))

pub split_seat-first-requires : goal.split_seat-first-requires
split_seat-first-requires c = (search rules, search rules, cuts (by_sums _ _) _ _)

pub seated-requires : goal.seated-requires
seated-requires c = let l = c.load.ensures.2 in let s = c.split_seat-first.ensures in
    let m = meets (fresh_seat 0 0) HaveLearned c.first.inside.seat.me.0 c.second.inside.seat.me.0 _ _ _ _ c.first.invariant.0.one c.second.invariant.0.one (ap views c.join_seat.ensures.2) l.pair l.met (ap views s.4) (ap views s.2) in
    (record { one = m.0; empty = ap held s.4; idle = m.2.first_making ∙ c.first.invariant.0.idle; true_to = (m.2.first.grows c.split_seat-first.result.table_id).true_to }, (c.first.invariant.1.0 ∙ sym (m.2.first.grows nowhere).seat, c.first.invariant.1.1))

pub seated-requires-2 : goal.seated-requires-2
seated-requires-2 c = let l = c.load.ensures.2 in let s = c.split_seat-first.ensures in
    let m = meets (fresh_seat 0 0) HaveLearned c.first.inside.seat.me.0 c.second.inside.seat.me.0 _ _ _ _ c.first.invariant.0.one c.second.invariant.0.one (ap views c.join_seat.ensures.2) l.pair l.met (ap views s.4) (ap views s.2) in
    let empty = ap held s.2 ∙ (l.carried ∙ (ap held c.join_seat.ensures.2 ∙ c.first.invariant.0.empty)) in
    (record { one = m.1; empty = empty; idle = m.2.second_making ∙ c.second.invariant.0.idle; true_to = (m.2.second.grows c.split_seat-first.new.seat.table_id).true_to }, (c.second.invariant.1.0 ∙ sym (m.2.second.grows nowhere).seat, c.second.invariant.1.1))

pub returns-clause-grows : goal.returns-clause-grows
returns-clause-grows c = let l = c.load.ensures.2 in let s = c.split_seat-first.ensures in
    let m = meets (fresh_seat 0 0) HaveLearned c.first.inside.seat.me.0 c.second.inside.seat.me.0 _ _ _ _ c.first.invariant.0.one c.second.invariant.0.one (ap views c.join_seat.ensures.2) l.pair l.met (ap views s.4) (ap views s.2) in
    let of_first = ap (λ (k : EnvKnown). k.env) c.first.view_is ∙ c.requires.0 in let of_second = ap (λ (k : EnvKnown). k.env) c.second.view_is ∙ c.requires.1 in
    let kept = c.load.ensures.0 ∙ c.join_seat.ensures.0 in (
      subst (Grows c.args.first) (sym c.seated.ensures) (grew c.args.first _ _ _ _ _ c.first.view_is (s.3 ∙ kept) m.2.first),
      subst (Grows c.args.second) (sym c.seated-2.ensures) (grew c.args.second _ _ _ _ _ c.second.view_is (s.0 ∙ (kept ∙ (of_first ∙ sym of_second))) m.2.second),
    )

pub returns-clause-before : goal.returns-clause-before
returns-clause-before c = let l = c.load.ensures.2 in let s = c.split_seat-first.ensures in
    let m = meets (fresh_seat 0 0) HaveLearned c.first.inside.seat.me.0 c.second.inside.seat.me.0 _ _ _ _ c.first.invariant.0.one c.second.invariant.0.one (ap views c.join_seat.ensures.2) l.pair l.met (ap views s.4) (ap views s.2) in
    let of_first = ap (λ (k : EnvKnown). k.env) c.first.view_is ∙ c.requires.0 in let of_second = ap (λ (k : EnvKnown). k.env) c.second.view_is ∙ c.requires.1 in
    subst (λ (z : EnvKnown × EnvKnown). AreOfOneHistory z.0 z.1) (λ i. (c.first.view_is i, (ap (λ (t : TableId). known_of t (the c.second.inside.seat.me.0)) (of_first ∙ sym of_second) ∙ c.second.view_is) i)) (m.2.before c.first.inside.seat.table_id)
