use Rattle.std.proofs.Common.{ap, arith, cond, refl, subst, sym, ◌∙◌}
use Rattle.ns_monitor.proofs.Prelude.{IsAtPlace, in_room, loading, loading_at, row_in, the}
use Rattle.ns_monitor.proofs.Bounds.{gone_itself}
use Rattle.ns_monitor.proofs.Releases.{scans_row}
use Rattle.ns_monitor.proofs.Tests.{is_scanned}
use Rattle.ns_monitor.proofs.cells.load_to_scan.Goals as goal

pub returns-then-not-needed : goal.returns-then-not-needed
returns-then-not-needed g c = record {
  since = gone_itself c.args.seat.now;
  so = record {
    ready = let t = g.C.Condition.means in let none = c.if-not-needed.true in
        record { at = subst (λ b. IsAtPlace t (cond b (loading_at g.row.N c.args.walk 0) (loading g.row.N c.args.walk).last) c.args.seat.now.me) none c.requires.at; taken = c.requires.taken; scans = c.requires.ready none };
    stood = refl;
  };
}

pub load_cells-requires : goal.load_cells-requires
load_cells-requires g c = let t = g.C.Condition.means in
    let by = subst (λ b. IsAtPlace t (cond b (loading_at g.row.N c.args.walk 0) (loading g.row.N c.args.walk).last) c.args.seat.now.me) c.if-not-needed.false c.requires.at in
    in_room (omega (arith, g.met.C.Condition.has_cells), ((omega arith, sym c.requires.scans), by))

pub returns : goal.returns
returns g c = record {
  since = let t = g.C.Condition.means in let loaded = c.load_cells.ensures in
      (is_scanned t _ _ _ _ _ g.met.C.Condition.has_cells.0 c.requires.scans (subst (λ b. IsAtPlace t (cond b (loading_at g.row.N c.args.walk 0) (loading g.row.N c.args.walk).last) c.args.seat.now.me) c.if-not-needed.false c.requires.at) loaded).1;
  so = record {
    ready = let t = g.C.Condition.means in let loaded = c.load_cells.ensures in let me = c.load_cells.new.seat.me in
        let is = is_scanned t _ _ _ _ _ g.met.C.Condition.has_cells.0 c.requires.scans (subst (λ b. IsAtPlace t (cond b (loading_at g.row.N c.args.walk 0) (loading g.row.N c.args.walk).last) c.args.seat.now.me) c.if-not-needed.false c.requires.at) loaded in
        record { at = is.0; taken = (loaded.taken c.requires.taken).0; scans = scans_row t c.load_cells.new.row (row_in (the me.0).at.held) (the me.0).stood.lock (is.2 ∙ ap row_in (sym loaded.held)) };
    stood = (c.load_cells.ensures.taken c.requires.taken).1;
  };
}
