use Rattle.ns_counters.proofs.Courses.{operates_on}
use Rattle.ns_counters.proofs.law.steps_on_objects_take_their_call_on.Goals as goal

pub returns : goal.returns
returns c = λ earlier now seat events more notes old new walk found asks led later added walks so step.
    operates_on old.setup earlier seat now old.words led.lawful notes asks later.notes later.objects events added more walk found step.words (led.each seat walk walks) so step.effect
