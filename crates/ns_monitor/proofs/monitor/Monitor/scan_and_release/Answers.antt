use Rattle.std.proofs.Common.{None, Ok, Some, [], ap, arith, refl, rules, subst, sym, true, ◌∙◌, ◌∷◌, ◌≡◌}
use Rattle.ns_monitor.proofs.Prelude.{FindsReaders, HasAnswered, HasReached, InRelease, IsAtPlace, IsNumberOf, Release, ScanAndRelease, Succeeded, ToRelease, has_some, in_room, pay_releasing, row_in, scan_place, the}
use Rattle.ns_monitor.specs.Names.{Pay}
use Rattle.ns_monitor.proofs.Bounds.{gone_working}
use Rattle.ns_monitor.proofs.Releases.{finds_readers, pays_for, pays_writer, puts_writer, scans_plain}
use Rattle.ns_monitor.proofs.Tests.{moves_in}
use Rattle.ns_monitor.proofs.monitor.Monitor.scan_and_release.Given.{Over}
use Rattle.ns_monitor.proofs.monitor.Monitor.scan_and_release.Goals.{After-put_back-in-Some}
use Rattle.ns_monitor.proofs.monitor.Monitor.scan_and_release.Goals as goal

pub load_to_scan-requires : goal.load_to_scan-requires
load_to_scan-requires g c = let t = g.C.Condition.means in let word = c.args.word in let me = c.args.seat.now.me in let took = c.requires.taken in
    let by = subst (λ w. IsAtPlace t w me) (moves_in (λ place. InRelease c.args.releasing place) word.cond (scan_place g.row.N word 0) (ScanAndRelease word)) took.at in
    rw (c.parts-parts.ensures, c.new-bound.ensures) (in_room (omega (arith, g.met.C.Condition.has_cells), (refl, (by, (took.taken, λ none. scans_plain t _ (row_in (the me.0).at.held) (the me.0).stood.lock (sym took.tells ∙ none))))))

pub put_back-requires : goal.put_back-requires
put_back-requires g c = let e = c.scan_writer_in_hand.ensures in let none = c.in-Ok in
    in_room (c.requires.taken.packs, puts_writer g.C.Condition.means c.args.releasing c.args.word c.load_to_scan.new.row None none.left c.load_to_scan.new.seat.me c.scan_writer_in_hand.new.self.me (rw c.parts-parts.ensures at c.load_to_scan.ensures.so.ready) e.worked.by none.ensures.lists (sym e.told ∙ none.is ∙ ap (λ w. Ok (w, none.left)) c.in-None.is))

pub returns-in-None-clause-released : goal.returns-in-None-clause-released
returns-in-None-clause-released g c = let e = c.scan_writer_in_hand.ensures in let none = c.in-Ok in let t = g.C.Condition.means in
    let pays = pays_writer t c.args.releasing c.args.word c.load_to_scan.new.row None none.left c.load_to_scan.new.seat.me c.scan_writer_in_hand.new.self.me c.put_back.new.seat.me (rw c.parts-parts.ensures at c.load_to_scan.ensures.so.ready) e.worked.by (sym e.told ∙ none.is ∙ ap (λ w. Ok (w, none.left)) c.in-None.is) c.put_back.ensures.so in
    let over : HasAnswered t (Release c.args.releasing) Succeeded c.put_back.new.seat.me = pays.1 in search rules

-- the wake of the writer is all that is owed once the queues are back, and the call stands where it pays it
pays : (g : Over) (c : After-put_back-in-Some g) → let wake = c.in-Some.wake in let now = c.put_back-in-Some.new.seat.me in
    ((the now.0).at.owed ≡ wake ∷ []) × HasReached g.C.Condition.means (Release c.args.releasing) (pay_releasing c.args.releasing true) now
pays g c = let e = c.scan_writer_in_hand.ensures in let some = c.in-Ok in
    pays_writer g.C.Condition.means c.args.releasing c.args.word c.load_to_scan.new.row (Some c.in-Some.wake) some.left c.load_to_scan.new.seat.me c.scan_writer_in_hand.new.self.me c.put_back-in-Some.new.seat.me (rw c.parts-parts.ensures at c.load_to_scan.ensures.so.ready) e.worked.by (sym e.told ∙ some.is ∙ ap (λ w. Ok (w, some.left)) c.in-Some.is) c.put_back-in-Some.ensures.so

pub put_back-requires-in-Some : goal.put_back-requires-in-Some
put_back-requires-in-Some g c = let e = c.scan_writer_in_hand.ensures in let some = c.in-Ok in
    in_room (c.requires.taken.packs, puts_writer g.C.Condition.means c.args.releasing c.args.word c.load_to_scan.new.row (Some c.in-Some.wake) some.left c.load_to_scan.new.seat.me c.scan_writer_in_hand.new.self.me (rw c.parts-parts.ensures at c.load_to_scan.ensures.so.ready) e.worked.by some.ensures.lists (sym e.told ∙ some.is ∙ ap (λ w. Ok (w, some.left)) c.in-Some.is))

pub pay_one-requires : goal.pay_one-requires
pay_one-requires g c = let put = pays g (goal.at.pay_one-requires g c).After-put_back-in-Some in let releasing = c.args.releasing in let now = c.put_back-in-Some.new.seat.me in
    in_room (record { walk = InRelease releasing Pay; pays = pays_for g.row.N (ToRelease releasing); at = subst (λ ns. HasReached g.C.Condition.means (Release releasing) (pay_releasing releasing (has_some ns)) now) (sym put.0) put.1 }, put.0)

pub returns-in-Some-clause-released : goal.returns-in-Some-clause-released
returns-in-Some-clause-released g c = let put = pays g (goal.at.returns-in-Some-clause-released g c).After-put_back-in-Some in let releasing = c.args.releasing in let t = g.C.Condition.means in
    let at = subst (λ ns. HasReached t (Release releasing) (pay_releasing releasing (has_some ns)) c.put_back-in-Some.new.seat.me) (sym put.0) put.1 in
    let over : HasAnswered t (Release releasing) Succeeded c.pay_one.new.seat.me = c.pay_one.ensures.so.paid (InRelease releasing Pay) (pays_for g.row.N (ToRelease releasing)) at in search rules

pub wake_readers-requires : goal.wake_readers-requires
wake_readers-requires g c = let e = c.scan_writer_in_hand.ensures in let end = c.end-in-Err.ensures in
    let gone = rw c.new-bound.ensures at (gone_working None _ _ _ c.load_to_scan.ensures.since e.worked) in
    let finds = finds_readers g.C.Condition.means (ToRelease c.args.releasing) c.args.word c.load_to_scan.new.row c.in-Err.sought c.load_to_scan.new.seat.me c.scan_writer_in_hand.new.self.me c.requires.taken.packs tt (rw c.parts-parts.ensures at c.load_to_scan.ensures.so.ready) e.worked.by c.in-Err.ensures.still (sym e.told ∙ c.in-Err.is) in
    (omega arith, (omega arith, (omega arith, (search rules, (search rules, (subst (IsNumberOf c.args.number) (sym end.me) (c.requires.number.0 ∙ sym gone.by.seat, c.requires.number.1), subst (FindsReaders g.C.Condition.means (ToRelease c.args.releasing) c.args.word c.load_to_scan.new.row c.in-Err.sought) (sym end.me) finds))))))
