-- What a call of a world answers, and what its step was, by what its walk does.
use Rattle.std.specs.Prelude.{None, Some}
use Rattle.ns_world.specs.Names.{Already, Answered, EnvReply, Idle, Is, Next, Noisy, NotesFull, Number, ObjectReply, On, Ran, Refused, Reply, Step, Succeeded, WalkReply, Went}
use Rattle.ns_world.specs.declared.reply.Reply.TheVariants.{Busy, Expiry}
use Rattle.ns_env.specs.declared.reply.EnvReply.TheVariants as TheEnv
use Rattle.ns_counters.specs.declared.reply.ObjectReply.TheVariants as TheObject
use Rattle.ns_word.specs.declared.walk.Reply.TheVariants as TheWalk
use Rattle.ns_env.specs.declared.next.Next.TheVariants as TheNext

-- What a walk on the lock answers, as the answer of its call. A wait for any of a set of variables is a part of a call, to which it answers the number of the variable that has woken it, or that it is done where none has.
abbrev pub told : WalkReply → Reply
told TheWalk.Succeeded = Succeeded
told TheWalk.Busy = Busy
told TheWalk.Noisy = Noisy
told (TheWalk.Number number) = Number number
told (TheWalk.Is so) = Is so
told (TheWalk.Answered answer) = Answered answer
told (TheWalk.WokenBy (Some k)) = Number k
told (TheWalk.WokenBy None) = Succeeded

-- what one on the clock and the notes answers, likewise
abbrev pub env_told : EnvReply → Reply
env_told TheEnv.Succeeded = Succeeded
env_told (TheEnv.Number note) = Number note
env_told TheEnv.NotesFull = NotesFull
env_told (TheEnv.Is answer) = Is answer
env_told (TheEnv.Expiry moment) = Expiry moment

-- and what one on counters and once cells answers
abbrev pub object_told : ObjectReply → Reply
object_told (TheObject.Number number) = Number number
object_told (TheObject.Refused fault) = Refused fault
object_told (TheObject.Is answer) = Is answer
object_told TheObject.Ran = Ran
object_told TheObject.Already = Already

-- what a step was, by where its walk goes; where that is over, by what it ends with
abbrev pub step_after : {W R : Type 0} → (R → Step) → Next W R → Step
step_after ends (On walk) = Went
step_after ends (TheNext.Idle walk) = Idle
step_after ends (TheNext.Done reply) = ends reply
