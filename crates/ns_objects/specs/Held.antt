-- What a wait for condition variables among notes and counters answers, which is called with a section in hand.
use Rattle.std.specs.Prelude.{◌≡◌, ◌⊎◌, ℕ, ◌<◌, List, ◌∷◌, ◌++◌, Option, None, Some, map, slice_get}
use Rattle.ns_objects.specs.Names.{AnyItem, AnyWait, AreAmong, Cv, Cvs, Grows, HasComeBackFromAny, InHand, IsByOneOf, IsLater, Known, Mode, Past, SaysWoken, Setup, Truths, WaitKnown, any_waiting, leave_any_told, row_after, section_of}
use Rattle.ns_objects.specs.Any.{BothKnown, item_of, RoundAnswers, RoundsAnswer, past_of}

-- The place that is answered: where a variable has woken the wait, one at which this variable stands, and before which it stands nowhere; else what rounds answer, of looks at the notes and counters alone.
abbrev pub PlaceBy : Setup → List AnyItem → Option ℕ → Past → Past → Option ℕ → ℕ → Type 0
PlaceBy setup items deadline from to (Some k) place = (slice_get items place ≡ Some (Cv k)) × ((i : ℕ) → i < place → slice_get items i ≡ Some (Cv k) → ⊥)
PlaceBy setup items deadline from to None place = RoundsAnswer (λ item. item) setup items deadline from to place

-- The section that was in hand was committed, with the wait for these variables as its exit, and behind it, unless one of them has woken it, that it left them; nothing else. A section in the same mode is in hand, which has just begun, and says which of them has.
pub record HasWaitedForAny {C : Type 0} {N : ℕ} (truths : Truths C) (mode : Mode) (cvs : Cvs) (by : Option ℕ) (old new : Known C N) : Type 0 where
  pub grows : Grows truths (any_waiting N mode cvs) old new
  pub mine : InHand old.held (λ was. new.mine ≡ old.mine ++ section_of truths.holds old.seat was (AnyWait cvs) ∷ leave_any_told old.seat cvs by)
  pub among : IsByOneOf cvs by
  pub back : InHand new.held (SaysWoken truths (row_after new.seen) mode by)

-- A wait in progress has come back, and answers so.
abbrev pub WaitAnswers : {C : Type 0} {N : ℕ} → Truths C → Mode → List AnyItem → Option ℕ → WaitKnown C N × BothKnown → Known C N × BothKnown → ℕ → Type 0
WaitAnswers truths mode items deadline old new place = (by : Option ℕ) × HasComeBackFromAny truths mode by old.0 new.0 × PlaceBy old.1.0.setup items deadline (past_of old.1) (past_of new.1) by place

-- The section was left: up to a point one round had shown nothing; the wait was for just the variables among the items, as a set of numbers below 4, and another section has come back; and from that point on the place is answered.
pub record HasLeftToWait {C : Type 0} {N : ℕ} (truths : Truths C) (mode : Mode) (items : List AnyItem) (deadline : Option ℕ) (old new : Known C N × BothKnown) (place : ℕ) : Type 0 where
  pub mid : Past
  pub nothing : RoundAnswers (λ item. item) old.1.0.setup items deadline (past_of old.1) mid None
  pub until : IsLater mid (past_of new.1)
  pub cvs : Cvs
  pub low : cvs.0 < 16
  pub among : AreAmong cvs (map item_of items)
  pub by : Option ℕ
  pub waited : HasWaitedForAny truths mode cvs by old.0 new.0
  pub place_by : PlaceBy old.1.0.setup items deadline mid (past_of new.1) by place

-- Nothing was released: the section is as it was, and the answer is what one round has shown. Or the section was left.
abbrev pub HeldAnswers : {C : Type 0} {N : ℕ} → Truths C → Mode → List AnyItem → Option ℕ → Known C N × BothKnown → Known C N × BothKnown → ℕ → Type 0
HeldAnswers truths mode items deadline old new place =
    ((new.0 ≡ old.0) × RoundAnswers (λ item. item) old.1.0.setup items deadline (past_of old.1) (past_of new.1) (Some place))
    ⊎ HasLeftToWait truths mode items deadline old new place
