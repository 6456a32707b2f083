-- What a call answers that would have a function run once.
use Rattle.std.specs.Prelude.{◌≡◌, ℕ, true, [], ◌∷◌, ◌++◌}
use Rattle.ns_objects.specs.Names.{Already, Began, HasRun, OnOnce, Once, is_done}
use Rattle.ns_objects.specs.declared.running.Once.TheVariants.{Ran}
use Rattle.ns_objects.specs.Known.{ObjectsKnown, Grows, standing_of}

-- The function may be called only by a caller that has begun to run it: some history goes on from what it had seen, in which that is the next of its own events.
abbrev pub MayRunOnceBegun : Type 0 → ℕ → ObjectsKnown → Type 0
MayRunOnceBegun MayRun once old = (now : ObjectsKnown) → Grows old now → now.mine ≡ old.mine ++ OnOnce once (Began old.seat) ∷ [] → MayRun

-- Either the function ran in this call, which has begun to run it and has run it, and gave this; or the call has seen that it had run, and has done nothing.
abbrev pub OnceAnswers : {T : Type 0} → (T → Type 0) → ℕ → ObjectsKnown → ObjectsKnown → Once T → Type 0
OnceAnswers Gave once old new (Ran given) = Gave given × (new.mine ≡ old.mine ++ OnOnce once (Began old.seat) ∷ OnOnce once (HasRun old.seat) ∷ [])
OnceAnswers Gave once old new Already = (new.mine ≡ old.mine) × (is_done ((standing_of new).onces once) ≡ true)
