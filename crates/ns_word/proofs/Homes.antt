-- What the steps leave of the queues' place and of the bits that tell of them.
use Rattle.std.proofs.Common.{List, ap, arith, false, sym, true, ℕ, ◌+◌, ◌≡◌, ◌≤◌}
use Rattle.ns_word.proofs.Prelude.{Waiter, Word, bits_in, bits_of, has_queues, one_if, one_most, takers, total_amid, ◌∙◌}
use Rattle.ns_word.proofs.Bases.{Homed, Move, news, olds, view_of}

module _ {C : Type 0} {N : ℕ} (m : Move C N) where
  open m use {front, who, walk, held, owed, walk', held', owed', back}

  was : takers (olds m) ≡ takers front + (one_if (has_queues walk) + takers back)
  was = total_amid (λ view. one_if (has_queues view.walk)) front (view_of who walk held owed) back

  is : takers (news m) ≡ takers front + (one_if (has_queues walk') + takers back)
  is = total_amid (λ view. one_if (has_queues view.walk)) front (view_of who walk' held' owed') back

  -- the queues stay where they are
  pub at_home : (word word' : Word) (lock : List (Waiter C)) → word'.spin ≡ word.spin → bits_in word' ≡ bits_in word →
      has_queues walk' ≡ has_queues walk → Homed word lock (olds m) → Homed word' lock (news m)
  at_home word word' lock s bits same p = record {
    spin = is ∙ rw same (sym was ∙ p.spin ∙ ap one_if (sym s));
    bits = λ e. bits ∙ p.bits (sym s ∙ e);
  }

  -- one takes them
  pub away : (word word' : Word) (lock : List (Waiter C)) → word.spin ≡ false → word'.spin ≡ true → has_queues walk ≡ false → has_queues walk' ≡ true → Homed word lock (olds m) → Homed word' lock (news m)
  away word word' lock none set a a' p = record {
    spin = let before : takers (olds m) ≡ 0 = p.spin ∙ ap one_if none in
        let one : one_if word'.spin ≡ 1 = ap one_if set in
        let here : one_if (has_queues walk) ≡ 0 = ap one_if a in
        let here' : one_if (has_queues walk') ≡ 1 = ap one_if a' in
        omega (arith, before, one, here, here', was, is);
    bits = λ e. absurd (cc);
  }

  -- one puts them back
  pub back_home : (word word' : Word) (lock lock' : List (Waiter C)) → word'.spin ≡ false → bits_in word' ≡ bits_of lock' → has_queues walk ≡ true → has_queues walk' ≡ false → Homed word lock (olds m) → Homed word' lock' (news m)
  back_home word word' lock lock' clear tells a a' p = record {
    spin = let before : takers (olds m) ≡ one_if word.spin = p.spin in
        let most : one_if word.spin ≤ 1 = one_most word.spin in
        let none : one_if word'.spin ≡ 0 = ap one_if clear in
        let here : one_if (has_queues walk) ≡ 1 = ap one_if a in
        let here' : one_if (has_queues walk') ≡ 0 = ap one_if a' in
        omega (arith, before, none, here, here', was, is, most);
    bits = λ e. tells;
  }
