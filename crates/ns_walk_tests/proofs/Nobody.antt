-- A call that wakes, where nobody waits for its variable.
use Rattle.std.proofs.Common.{Bool, List, None, Some, [], ap, false, if◌then◌else◌, not, refl, sym, true, ℕ, ◌&&◌, ◌∙◌, ◌∷◌, ◌≡◌}
use Rattle.ns_gate.proofs.Prelude.{Lists, SeatOf, Truths, Waiter, WakeWaiters, Waking, Woke, Word, bits_of, has_some, is_held, the, wakes_of, woken_nobody}
use Rattle.ns_gate.proofs.Wakes.{found_nobody, moves_nobody, takes_nobody}
use Rattle.ns_gate.specs.Prelude.{HasUnchangedQueues}
use Rattle.ns_gate.specs.declared.queues.Returning.TheVariants.{Changed}
use Rattle.ns_gate.specs.declared.queues.Turned.{Turned}
use Rattle.ns_walk_tests.specs.Driving.{IsMade}

none_of : (b : Bool) → (b && false) ≡ false
none_of true = refl
none_of false = refl

same_both : {A : Type 0} (b : Bool) (x : A) → (if b then x else x) ≡ x
same_both true x = refl
same_both false x = refl

module _ {C : Type 0} (truths : Truths C) where
  -- it has made nothing of the queues
  pub nobody_made : (waking : Waking) (k : ℕ) (last : Word) (turned : Turned) (me : SeatOf C 1) → HasUnchangedQueues me → woken_nobody k (the me.0).stood ≡ Some turned
      → IsMade truths (Changed (WakeWaiters waking k)) last (record { turned = turned; finds = Woke false; owed = None }) me
  nobody_made waking k last turned me has is =
      let stood = (the me.0).stood in let held = is_held last in
      let n = found_nobody k stood turned is in
      let taken = (takes_nobody waking k stood n.0).0 in
      let lists = moves_nobody waking k held stood n.0 in
      record {
        turned = record {
          carries = has ∙ ap (λ (l : Lists C). (0, l) ∷ []) (sym lists);
          some = n.1 ∙ sym (ap (λ (ws : List (Waiter C)). held && has_some ws) taken ∙ none_of held);
          bits = n.2 ∙ sym (ap (λ (l : Lists C). bits_of l.lock) lists);
        };
        finds = ap Woke (sym (ap (λ (ws : List (Waiter C)). not held && has_some ws) taken ∙ none_of (not held)));
        owes = ap (λ (ws : List (Waiter C)). if held then [] else wakes_of k ws) taken ∙ same_both held [];
      }
