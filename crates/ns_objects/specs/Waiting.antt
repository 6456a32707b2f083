-- What a caller that waits for a counter knows.
use Rattle.std.specs.Prelude.{◌≡◌, ℕ, [], ◌∷◌, ◌++◌}
use Rattle.ns_objects.specs.Names.{Begun, OnCounter}
use Rattle.ns_objects.specs.Known.{ObjectsKnown, Grows, standing_of}

-- the wait has begun, and this is the value in what the caller has seen since
pub record WaitHasBegun (counter value : ℕ) (old new : ObjectsKnown) : Type 0 where
  pub grows : Grows old new
  pub begun : new.mine ≡ old.mine ++ OnCounter counter (Begun old.seat) ∷ []
  pub value_is : value ≡ ((standing_of new).counters counter).value
