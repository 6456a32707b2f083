use Rattle.std.proofs.Common.{IfSome, None, Option, Some, false, refl, rules, sym, true, ◌∙◌, ◌≡◌}
use Rattle.ns_monitor.proofs.Prelude.{Cause, InQueuing, InWait, Limits, Look, LookIn, Looked, can_go, does, in_room, is_limited}
use Rattle.ns_monitor.proofs.Bounds.{gone_by, gone_itself}
use Rattle.ns_monitor.proofs.Standing.{commits_none}
use Rattle.ns_monitor.proofs.Returns.{by_limits, look_fresh, looks_in}
use Rattle.ns_monitor.proofs.rounds.look_before.Goals as goal

pub returns-then-not-is_some : goal.returns-then-not-is_some
returns-then-not-is_some g c = record {
  looked = g.W.Watch.same c.args.watch.now;
  shown = search rules;
  ends = tt;
  mine = refl;
  leads = record { since = gone_itself c.args.seat.now; so = (by_limits g.C.Condition.means c.args.wait c.args.again false c.args.seat.now.me (sym c.is_some.ensures ∙ c.if-not-is_some.true) c.requires.at, refl) };
  fresh = λ is. is;
}

pub look-requires : goal.look-requires
look-requires g c = let t = g.C.Condition.means in let me = c.args.seat.now.me in let wait = c.args.wait in
    let can = can_go t (InWait wait (InQueuing c.args.again LookIn)) (Look wait.limits c.args.again) me refl (by_limits t wait c.args.again true me (sym c.is_some.ensures ∙ c.if-not-is_some.false) c.requires.at) in
    in_room (g.W.Watch.names c.args.watch.now c.look-shown.new.self wait.limits c.look-shown.result c.requires.watches c.look-shown.ensures.shown, can)

-- what a look has shown, it has shown for a limit
is_limited_if : (limits : Limits) (shown : Option Cause) → is_limited limits ≡ true → IfSome shown (λ cause. is_limited limits ≡ true)
is_limited_if limits None is = tt
is_limited_if limits (Some cause) is = is

pub returns : goal.returns
returns g c = record {
  looked = c.look-shown.ensures.since;
  shown = search rules;
  ends = is_limited_if c.args.wait.limits c.look-shown.result (sym c.is_some.ensures ∙ c.if-not-is_some.false);
  mine = commits_none g.C.Condition.means None (Look c.args.wait.limits c.args.again) (Looked c.look-shown.result) c.args.seat.now.me c.look.new.self.me c.look.ensures.by
      (does g.C.Condition.means None (Look c.args.wait.limits c.args.again) (Looked c.look-shown.result) c.args.seat.now.me c.look.new.self.me c.look.ensures.by).2;
  leads = record { since = gone_by c.look.ensures; so = let t = g.C.Condition.means in let me = c.args.seat.now.me in looks_in t c.args.wait c.args.again c.look-shown.result me c.look.new.self.me (by_limits t c.args.wait c.args.again true me (sym c.is_some.ensures ∙ c.if-not-is_some.false) c.requires.at) c.look.ensures.by };
  fresh = look_fresh g.C.Condition.means c.args.wait c.args.again c.look-shown.result c.args.seat.now.me c.look.new.self.me c.look.ensures.by;
}
