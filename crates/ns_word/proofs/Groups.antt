-- The law in groups, as its proof goes by them.
use Rattle.std.proofs.Common.{Bool, List, false, ℕ, ◌≡◌}
use Rattle.ns_word.proofs.Prelude.{AllFalseTrue, AreApart, DesigOnItsWay, Event, IdleWaitersFalse, IsLawful, LockState, OneHistory, OneWriter, ReadersCounted, SeatView, SpinHeldOnce, TakenTold, Truths, VariablesTell, Waiter, WaitersOwn, WaitersPlaced, Word, WordsSeen, bits_in, bits_of, has_some}
use Rattle.ns_word.proofs.Prelude.{queuers, standing_after}

-- the sections
pub record Safe {C : Type 0} {N : ℕ} (truths : Truths C) (seats : ℕ) (history : List (Event C N)) (word : Word) (row : List ℕ) (views : List (SeatView C N)) : Type 0 where
  pub one_writer : OneWriter word views
  pub count : ReadersCounted word views
  pub one_history : OneHistory truths seats history word row views
  pub apart : AreApart views

-- where the queues are
pub record Homed {C : Type 0} {N : ℕ} (word : Word) (lock : List (Waiter C)) (views : List (SeatView C N)) : Type 0 where
  pub spin : SpinHeldOnce word views
  pub bits : word.spin ≡ false → bits_in word ≡ bits_of lock

-- that nobody is forgotten; `now` is the row after the history
pub record Known {C : Type 0} {N : ℕ} (holds : C → List ℕ → Bool) (word : Word) (now : List ℕ) (lock : List (Waiter C)) (flags : ℕ → ℕ) (views : List (SeatView C N)) : Type 0 where
  pub on_way : DesigOnItsWay word flags views
  pub idle : AllFalseTrue holds now word lock views
  pub free : IdleWaitersFalse holds now word lock views
  pub empty : word.waiting ≡ false → (has_some lock ≡ false) × (queuers views ≡ 0)

pub record Groups {C : Type 0} {N : ℕ} (truths : Truths C) (seats : ℕ) (history : List (Event C N)) (s : LockState C N) : Type 0 where
  pub safe : Safe truths seats history s.word s.row s.views
  pub homed : Homed s.word s.lists.lock s.views
  pub placed : WaitersPlaced s.lists s.flags s.views
  pub own : WaitersOwn s.lists.lock s.views
  pub told : VariablesTell (standing_after history).phases s.lists s.views
  pub taken : TakenTold (standing_after history).phases s.flags s.lists.lock s.views
  pub known : Known truths.holds s.word (standing_after history).row s.lists.lock s.flags s.views

module _ {C : Type 0} {N : ℕ} (truths : Truths C) (seats : ℕ) (history : List (Event C N)) (s : LockState C N) where
  pub groups_of : IsLawful truths seats history s → Groups truths seats history s
  groups_of p = record {
    safe = record { one_writer = p.one_writer; count = p.readers_counted; one_history = p.one_history; apart = p.apart };
    homed = record { spin = p.spin_held_once; bits = p.bits_tell.at_home };
    placed = p.waiters_placed;
    own = p.waiters_own;
    told = p.variables_tell;
    taken = p.taken_told;
    known = record { on_way = p.desig_on_its_way; idle = p.all_false_true; free = p.idle_waiters_false; empty = p.bits_tell.nobody };
  }

  pub lawful_by : Groups truths seats history s → WordsSeen s.views → IsLawful truths seats history s
  lawful_by p seen = record {
    one_writer = p.safe.one_writer;
    readers_counted = p.safe.count;
    one_history = p.safe.one_history;
    spin_held_once = p.homed.spin;
    bits_tell = record { at_home = p.homed.bits; nobody = p.known.empty };
    waiters_placed = p.placed;
    waiters_own = p.own;
    variables_tell = p.told;
    taken_told = p.taken;
    desig_on_its_way = p.known.on_way;
    idle_waiters_false = p.known.free;
    all_false_true = p.known.idle;
    apart = p.safe.apart;
    words_seen = seen;
  }
