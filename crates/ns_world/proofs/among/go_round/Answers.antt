use Rattle.std.proofs.Common.{Some, refl, subst, sym, ℕ, ◌≡◌}
use Rattle.ns_world.proofs.Prelude.{AnyWait, LooksByRound, Next, ObjectReply, ObjectWalk, On, RoundLeads, Seat, Sees, Step, Walk, Went, cause_of, shown_by}
use Rattle.ns_world.proofs.among.go_round.Goals as goal

-- where it doesn't go on, its wait has seen what it shows
over : {C : Type 0} {N : ℕ} (next : Next ObjectWalk ObjectReply) (seat seat' : Seat C N) (walk : Walk C) (wait : AnyWait) (step : Step) → ((place : ObjectWalk) → next ≡ On place → ⊥) →
    Sees seat walk (Some (record { round = wait.round; shown = shown_by next })) (cause_of (shown_by next)) seat' step → RoundLeads next seat walk wait seat' step
over (On place) seat seat' walk wait step not sees = absurd (not place refl)
over next seat seat' walk wait step not sees = sees

pub returns-in-On : goal.returns-in-On
returns-in-On g c = subst (λ next. RoundLeads next c.args.seat.now c.args.walk c.args.wait (record c.args.seat.now { doing = LooksByRound c.args.walk c.args.wait c.in-On.place }) Went) (sym c.in-On.is) (refl, refl)

pub returns : goal.returns
returns g c = over c.args.next c.args.seat.now c.see.new.seat c.args.walk c.args.wait c.see.result c.in_default.not-On (rw (← c.shown_by-shown.ensures, ← c.cause_of.ensures) c.see.ensures)
