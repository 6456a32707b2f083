-- The laws of the wishes.
use Rattle.std.proofs.Common.{◌≡◌, ℕ, true, List, length, refl, arith}
use Rattle.std.specs.Prelude.{◌==◌}
use Rattle.std.proofs.lemmas.Bool.Decides.{nat_tests}
use Rattle.ns_fixtures.specs.declared.wish.Wish.{Wish}
use Rattle.ns_fixtures.specs.declared.wish.Wish.TheVariants.{Room, Item}
use Rattle.ns_fixtures.specs.Wishes.{is_met, is_same, is_quiet, items_in}

-- Equivalent wishes are true of the same rows.
pub same_wishes : (one other : Wish) (row : List ℕ) → length row ≡ 7 → is_same one other ≡ true → is_met one row ≡ is_met other row
same_wishes Room Room row seven e = refl
same_wishes Item Item row seven e = refl
same_wishes Room Item row seven e = absurd cc
same_wishes Item Room row seven e = absurd cc

equal : (m n : ℕ) → (m == n) ≡ true → m ≡ n
equal m n e = grind (arith, nat_tests)

-- What holds after a change that leaves as many items held before it.
pub quiet_wishes : (wish : Wish) (before after : List ℕ) → length before ≡ 7 → length after ≡ 7 → is_quiet before after ≡ true → is_met wish after ≡ true → is_met wish before ≡ true
quiet_wishes Room before after seven long e h = rw (equal (items_in before) (items_in after) e) h
quiet_wishes Item before after seven long e h = rw (equal (items_in before) (items_in after) e) h
