use Rattle.std.proofs.Common.{drop, map, take, ◌++◌, ◌≡◌}
use Rattle.ns_queue.proofs.Prelude.{outside}
use Rattle.ns_queue.proofs.queues.drop_from_all.Given as goal

-- the lists so far are without the set
abbrev pub invariant-loop-list : goal.invariant-loop-list
invariant-loop-list g l = map (λ v. v.items) l.lists ≡ map (outside l.set) (take l.list-index (map (λ v. v.items) l.initial.lists)) ++ drop l.list-index (map (λ v. v.items) l.initial.lists)
