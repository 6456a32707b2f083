-- Where a walk goes, whatever its places and its answers are.
use Rattle.std.specs.Prelude.{None, Option, Some}
use Rattle.ns_env.specs.Names.{Done, Idle, Next, On}

-- the place after, if the walk goes on
abbrev pub place_after : {W R : Type 0} → Next W R → Option W
place_after (On walk) = Some walk
place_after (Idle walk) = Some walk
place_after (Done reply) = None

-- The walk goes on at a place of which this is so, whether the step led on or found nothing to go on with; or it is over, with an answer of which that is so.
abbrev pub NextIs : {W R : Type 0} → (W → Type 0) → (R → Type 0) → Next W R → Type 0
NextIs IsSo Means (On walk) = IsSo walk
NextIs IsSo Means (Idle walk) = IsSo walk
NextIs IsSo Means (Done reply) = Means reply
