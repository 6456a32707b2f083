use Rattle.ns_replay.proofs.Prelude.{arith, length-map, map, view}
use Rattle.ns_replay.proofs.Json.{list_few, list_many}
use Rattle.ns_replay.proofs.script.list.Goals as goal

pub returns-then-len-most : goal.returns-then-len-most
returns-then-len-most c = rw c.in-Some.is (list_many c.args.most c.args.path (view c.in-Some.value.now) (map view c.in-Some-as_array.list.now.items) c.in-Some-as_array.ensures (rw length-map (omega arith)))

pub returns : goal.returns
returns c = rw (c.as_slice.ensures.value, c.in-Some.is) (list_few c.args.most c.args.path (view c.in-Some.value.now) (map view c.in-Some-as_array.list.now.items) c.in-Some-as_array.ensures (rw length-map (omega arith)))
