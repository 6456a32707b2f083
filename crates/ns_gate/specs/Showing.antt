-- What is shown of the lists.
use Rattle.std.specs.Prelude.{map, ◌≡◌}
use Rattle.ns_gate.specs.Names.{Lists, ShownLists, shown_of}

-- Of the lock list and of each variable's, by their numbers, all waiters are shown, front first, and nobody else.
pub record ShowsLists {C : Type 0} (lists : Lists C) (shown : ShownLists) : Type 0 where
  pub lock : shown.lock.items ≡ map shown_of lists.lock
  pub variables : map (λ list. list.items) shown.cvs ≡ map (map shown_of) lists.cvs
