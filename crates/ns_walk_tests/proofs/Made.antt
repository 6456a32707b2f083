-- An act that puts no queues back is prepared, and the first act of a call may be made.
use Rattle.std.proofs.Common.{List, None, Option, Some, [], ap, false, refl, subst, sym, true, ◌∙◌, ◌≡◌}
use Rattle.ns_gate.proofs.Prelude.{Act, GateView, Owed, Paid, PayWake, ReleaseReturning, ReturnQueues, SeatOf, Truths, WaitReturning, Walk, the, want_of}
use Rattle.ns_gate.specs.Performing.{IsNumbered, Needs}
use Rattle.ns_gate.specs.Prelude.{CanStep, Word}
use Rattle.ns_gate.specs.declared.queues.Returning.{Returning}
use Rattle.ns_gate.specs.declared.queues.Turned.{Turned}
use Rattle.ns_gate.specs.declared.perform.Beside.{Beside}
use Rattle.ns_walk_tests.proofs.Acts.{begins_fit, needs_by}
use Rattle.ns_walk_tests.specs.Acts.{beside_of, may_begin, may_make}
use Rattle.ns_walk_tests.specs.Driving.{IsDriven, IsMade, IsPrepared, at_most_one, behind_first, owed_behind, owed_by}
use Rattle.ns_walk_tests.specs.declared.known.Hand.{Hand}
use Rattle.ns_walk_tests.specs.declared.known.Known.{Known}

-- the hand has made nothing of the queues
abbrev pub unturned : Turned
unturned = record { some = false; bits = record { waiting = false; conditional = false; writer_waits = false; long = false } }

module _ {C : Type 0} (truths : Truths C) where
  -- what the hand has made of the queues, where it is known of the seat as it was before
  pub made_of : (returning : Returning C) (last : Word) (made : Hand) (old now : SeatOf C 1) → now.0 ≡ old.0 → IsMade truths returning last made (old.0, now.1) → IsMade truths returning last made now
  made_of returning last made old now same is = subst (λ (vs : List (GateView C 1)). IsMade truths returning last made (vs, now.1)) (sym same) is

  -- ---- an act that puts no queues back

  owes_plain : (act : Act C) (known : Known) (view : GateView C 1) → may_make false act known ≡ true → view.at.owed ≡ at_most_one known.owed → owed_by truths act view ≡ at_most_one (owed_behind act known.owed)
  owes_plain (ReturnQueues change last) known view may is = absurd (cc)
  owes_plain (ReleaseReturning releasing last) known view may is = absurd (cc)
  owes_plain (WaitReturning wait again last) known view may is = absurd (cc)
  owes_plain PayWake known view may is = ap behind_first is ∙ none known.owed where
    none : (owed : Option Owed) → behind_first (at_most_one owed) ≡ []
    none None = refl
    none (Some wake) = refl
  owes_plain act known view may is = is

  pub plain_prepared : (walk : Walk C) (act : Act C) (known : Known) (turned : Turned) (beside : Beside 1) (owed : Option Owed) (me : SeatOf C 1) → may_make false act known ≡ true → IsDriven truths (Some walk) known me → beside ≡ beside_of known turned (Paid false) → owed ≡ owed_behind act known.owed
      → IsPrepared truths act beside owed me me
  plain_prepared walk act known turned beside owed me may driven is behind = record {
    same = refl;
    number = subst (λ (b : Beside 1). IsNumbered b (the me.0)) (sym is) driven.number;
    needs = subst (λ (b : Beside 1). Needs truths None act b me) (sym is) (needs_by truths None act known turned (Some walk) me may driven);
    owes = owes_plain act known (the me.0) may driven.owes ∙ ap at_most_one (sym behind);
    kept = λ plain. refl;
  }

  -- ---- the first act of a call

  pub first_can : (first : Walk C) (act : Act C) (known : Known) (me : SeatOf C 1) → act ≡ want_of first → may_begin first known.section ≡ true → IsDriven truths None known me → CanStep truths (Some first) act me
  first_can first act known me is may driven = let fits = begins_fit truths first known.section (the me.0).at.held may driven.knows driven.stands.settled in
      record { one = driven.stands.one; may = (driven.stands.over, fits.0, fits.1); walk = first; walks = refl; wants = sym is }
