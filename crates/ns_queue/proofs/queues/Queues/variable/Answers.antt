use Rattle.ns_queue.proofs.Bases.{below_in, list_at, list_there, shape}
use Rattle.std.proofs.Common.{sym, ◌∙◌}
use Rattle.ns_queue.proofs.Prelude.{Cv, offset_fits}
use Rattle.ns_queue.proofs.queues.Queues.variable.Goals as goal

pub offset_bounds-self-inside-k : goal.offset_bounds-self-inside-k
offset_bounds-self-inside-k g c = offset_fits c.args.k _ c.requires g.met.C.Queueable.list_fits

pub listed : goal.listed
listed g c = list_there c.self.inside.lock c.self.inside.cvs c.args.k c.self.invariant c.requires

pub bounds-self-inside-k : goal.bounds-self-inside-k
bounds-self-inside-k g c = c.requires

pub returns : goal.returns
returns g c =
    let is = list_at c.self.inside.lock c.self.inside.cvs c.args.k c.index-self-k.result c.self.invariant c.requires in
    record {
      list = c.as_slice.ensures.value ∙ rw (← c.self.view_is) (sym is);
      below = rw (c.as_slice.ensures.value, ← is) (below_in (shape c.self.inside.lock c.self.inside.cvs) (Cv c.args.k) c.self.invariant c.requires);
      few = c.as_slice.ensures.fits;
      orderly = rw (← c.self.view_is) c.self.invariant;
    }
