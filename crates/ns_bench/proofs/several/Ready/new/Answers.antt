use Rattle.std.proofs.Common.{rules}
use Rattle.ns_note.proofs.Rests.{made_grows}
use Rattle.ns_bench.proofs.several.Ready.new.Goals as goal

pub invariant_of-result : goal.invariant_of-result
invariant_of-result c = let two = c.note_new-2.ensures.grows in let three = c.note_new-3.ensures.grows in let told = c.notify.ensures.grows in
    record { made = (made_grows _ _ _ told (made_grows _ _ _ three (made_grows _ _ _ two (search rules))), made_grows _ _ _ told (made_grows _ _ _ three (search rules)), made_grows _ _ _ told (search rules)) }
