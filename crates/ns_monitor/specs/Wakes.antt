-- What a call that wakes has in hand, and what it owes once the queues are back.
use Rattle.std.specs.Prelude.{Bool, List, ℕ, ◌&&◌, ◌<◌, ◌≡◌}
use Rattle.ns_monitor.specs.Names.{Carries, HasReached, InSignal, IsAtPlace, IsOrderly, IsPackable, Lists, SeatOf, Truths, Turned, Waiter, WakeAndReturn, Waking, Word, bits_of, has_some, is_held, lists_woken, owed_woken, pay_woken, taken_from, the}
use Rattle.ns_word.specs.declared.request.Request.TheVariants as TheRequest

-- the seat has in hand what is put back where the lock is held so; this tells of it
pub record HasWokenInHand {C : Type 0} {N : ℕ} (waking : Waking) (k : ℕ) (held : Bool) (turned : Turned) (me : SeatOf C N) : Type 0 where
  pub carries : Carries (lists_woken waking k held (the me.0).stood) me
  pub some : turned.some ≡ (held && has_some (taken_from waking k (the me.0).stood))
  pub bits : turned.bits ≡ bits_of (lists_woken waking k held (the me.0).stood).lock

-- A call that wakes, of a variable that there is, has the queues in hand, and is about to put them back by this word, which has a number: it has taken these waiters, and this tells of what it has made of the lists, which stood orderly.
pub record HasTakenToWake {C : Type 0} {N : ℕ} (truths : Truths C) (waking : Waking) (k : ℕ) (word : Word) (waiters : List (Waiter C)) (turned : Turned) (me : SeatOf C N) : Type 0 where
  pub variable : k < 4
  pub packs : IsPackable word
  pub at : IsAtPlace truths (InSignal waking k (WakeAndReturn word)) me
  pub orderly : IsOrderly (the me.0).stood
  pub taken : waiters ≡ taken_from waking k (the me.0).stood
  pub hand : HasWokenInHand waking k (is_held word) turned me

-- The queues are back by a word that was held so, as the lists stood before: the call owes wakes to those whom it took and didn't move, and goes on to pay them, if there are any, or is over.
pub record HasReturnedWoken {C : Type 0} {N : ℕ} (truths : Truths C) (waking : Waking) (k : ℕ) (held : Bool) (stood : Lists C) (now : SeatOf C N) : Type 0 where
  pub owed : (the now.0).at.owed ≡ owed_woken waking k held stood
  pub leads : HasReached truths (TheRequest.Wake waking k) (pay_woken waking k (has_some (owed_woken waking k held stood))) now
