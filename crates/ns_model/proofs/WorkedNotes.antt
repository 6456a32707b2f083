-- The definitions at worked histories of clock and notes.
use Rattle.std.proofs.Common.{List, None, Some, [], arith, false, refl, true, ◌++◌, ◌∷◌, ◌≡◌}
use Rattle.ns_model.proofs.Prelude.{Advance, EnvEvent, IsLegalEnv, New, Notify, Take, clock_of, expiry_of, is_made, is_notified, takes_in}

-- a note, its child and its grandchild
abbrev three : List EnvEvent
three = Take 0 0 ∷ New 0 0 None None ∷ Take 0 1 ∷ New 0 1 (Some 0) None ∷ Take 0 2 ∷ New 0 2 (Some 1) None ∷ []

three_legal : IsLegalEnv (three ++ Notify 1 0 ∷ [])
three_legal = ((refl, omega arith), ((refl, refl, tt), ((refl, omega arith), ((refl, refl, (omega arith, refl)), ((refl, omega arith), ((refl, refl, (omega arith, refl)), (refl, tt)))))))

three_before : is_notified three 2 ≡ false
unfolding is_notified
three_before = refl

three_after : is_notified (three ++ Notify 1 0 ∷ []) 2 ≡ true
unfolding is_notified
three_after = refl

-- a deadline of 3 above one of 5
abbrev timed : List EnvEvent
timed = Take 0 0 ∷ New 0 0 None (Some 3) ∷ Take 0 1 ∷ New 0 1 (Some 0) (Some 5) ∷ []

timed_expiry : expiry_of timed 1 ≡ Some 3
unfolding expiry_of
timed_expiry = refl

timed_early : is_notified (timed ++ Advance 1 2 ∷ []) 1 ≡ false
unfolding is_notified
timed_early = refl

timed_due : is_notified (timed ++ Advance 1 3 ∷ []) 1 ≡ true
unfolding is_notified
timed_due = refl

-- no parent and no deadline: the clock alone notifies nothing, and doesn't go back
abbrev lone : List EnvEvent
lone = Take 0 0 ∷ New 0 0 None None ∷ Advance 1 5 ∷ Advance 0 4 ∷ []

lone_clock : clock_of lone ≡ 5
lone_clock = refl

lone_waits : is_notified lone 0 ≡ false
unfolding is_notified
lone_waits = refl

lone_never : expiry_of lone 0 ≡ None
unfolding expiry_of
lone_never = refl

lone_notified : is_notified (lone ++ Notify 1 0 ∷ []) 0 ≡ true
unfolding is_notified
lone_notified = refl

-- taken, not yet made
taken_unmade : is_made (Take 0 0 ∷ []) 0 ≡ false
taken_unmade = refl

taken_counted : takes_in (Take 0 0 ∷ []) ≡ 1
taken_counted = refl
