-- A step takes its call on, as its caller follows it.
use Rattle.std.proofs.Common.{List, None, Option, Some, [], ap, append-nil, append_assoc, arith, false, length, refl, subst, sym, true, ℕ, ◌++◌, ◌∙◌, ◌∷◌, ◌≡◌, ◌≤◌}
use Rattle.ns_gate.proofs.Prelude.{Act, ActFits, CallGoes, CanStep, Course, Done, Event, Found, GateView, HasReached, HasSince, HasStepped, Held, Idle, InAcquire, InCells, InRelease, InShow, InSignal, InTry, InWait, IsAtPlace, IsAtRest, IsOne, IsTold, IsTrueToHistory, IsWide, Next, On, Owed}
use Rattle.ns_gate.proofs.Prelude.{OwesBelow, OwesOne, Pay, PayInWait, PayTheWoken, PayWake, Performed, PlaceFits, Reply, SeatOf, SeatView, SectionFits, Standing, Told, Truths, Walk, asked_of, begins_itself, begins_through, carried_by, course_by, got_of, has_queues, has_some, part_of, pays}
use Rattle.ns_gate.proofs.Prelude.{place_after, row_after, standing_after, the, walk_by, want_of}
use Rattle.ns_gate.proofs.Findings.{fits_now, walk_is}

none_of : {A : Type 0} (xs : List A) → has_some xs ≡ false → xs ≡ []
none_of [] e = refl
none_of (x ∷ xs) e = absurd (cc)

wide_by : {C : Type 0} {N : ℕ} (now : Standing C) (row : List ℕ) (seat : ℕ) (walk : Option (Walk C)) (held : Option (Held C N)) → SectionFits now row seat walk held → length row ≡ N → length now.row ≡ N → IsWide held
wide_by now row seat walk None fits a b = tt
wide_by now row seat walk (Some held) fits a b = (ap length fits.starts ∙ b, ap length fits.cells ∙ a)

-- who is about to pay a wake wants to pay it
pays_wants : {C : Type 0} (walk : Walk C) → pays (Some walk) ≡ true → want_of walk ≡ PayWake
pays_wants (InRelease releasing Pay) e = refl
pays_wants (InWait wait PayInWait) e = refl
pays_wants (InSignal waking k PayTheWoken) e = refl
pays_wants (InRelease releasing _) e = absurd (cc)
pays_wants (InWait wait _) e = absurd (cc)
pays_wants (InSignal waking k _) e = absurd (cc)
pays_wants (InTry mode place) e = absurd (cc)
pays_wants (InAcquire aim place) e = absurd (cc)
pays_wants (InCells place) e = absurd (cc)
pays_wants (InShow place) e = absurd (cc)

below_by : (seat_count : ℕ) (owed : List Owed) → seat_count ≤ 64 → (has_some owed ≡ true → OwesOne seat_count owed) → OwesBelow owed
below_by seat_count [] few one = tt
below_by seat_count (wake ∷ others) few one = let below = one refl in omega (arith, few, below)

module _ {C : Type 0} {N : ℕ} (truths : Truths C) where
  -- who is owed the next wake is one of the seats
  owes_below : (b : Option (Walk C)) (found : Found) (v w : GateView C N) → HasStepped truths b found v w → OwesBelow w.at.owed
  owes_below b found v w d = below_by v.seat_count w.at.owed d.few (λ some. at_walk w.at.walk refl (sym d.fits.owes.0 ∙ some)) where
    at_walk : (o : Option (Walk C)) → w.at.walk ≡ o → pays w.at.walk ≡ true → OwesOne v.seat_count w.at.owed
    at_walk None is e = absurd (let n : pays w.at.walk ≡ false = ap pays is in cc)
    at_walk (Some walk) is e =
        let wants = pays_wants walk (ap pays (sym is) ∙ e) in
        subst (λ act. ActFits truths v.seat_count w.at.seat act (part_of d.new w.at.held w.at.owed)) wants (fits_now truths b found v w walk d is)

  true_after : (found : Found) (b : Option (Walk C)) (v w : GateView C N) → HasStepped truths b found v w → IsTrueToHistory truths w.seat_count w.at.seat w.told.seen w.told.mine
  true_after found b v w d =
      let told = subst (λ n. IsTold truths.holds n (d.history ++ d.commits) w.at.seat w.at.walk w.told) (sym d.seat_count) d.told_now in
      record { legal = told.legal; by_seats = told.by_seats; own = sym told.own_seen }

  -- A step begins the call, or goes on in it.
  pub since : (b : Option (Walk C)) (act : Act C) (found : Found) (me now : SeatOf C N) → Performed truths b act found me now → HasSince b (the me.0) (the now.0)
  since b act found me now p = let d = p.did in record {
    seat_count = d.seat_count;
    seat = ap (λ (x : SeatView C N). x.seat) d.becomes;
    begins = d.grows;
    commits = d.commits;
    mine = ap (λ (t : Told C N). t.mine) d.tells;
    committed = ap (λ (c : Course C N). c.committed) d.course;
    began = ap (λ (c : Course C N). c.began) d.course;
    calls = ap (λ (t : Told C N). t.begun) d.tells;
  }

  -- where the step leads
  leads : (b : Option (Walk C)) (walk : Walk C) (found : Found) (next : Next (Walk C) Reply) (u : GateView C N) (now : SeatOf C N) → IsOne now.0 → (has_queues (place_after next) ≡ false → now.1 ≡ []) → walk_by b u.at.walk ≡ Some walk → got_of N walk found ≡ next
      → (d : HasStepped truths b found u (the now.0)) → HasReached truths (asked_of walk) next now
  leads b walk found next u now one empty walks is d = goes next is empty (subst (λ w. CallGoes truths u.at.seat (row_after (d.history ++ d.commits)) (asked_of w) (the now.0).course (got_of N w found) (the now.0).at.held) same d.goes) where
    same : d.made.step.walk ≡ walk
    same = walk_is truths b found walk u (the now.0) d walks

    w : GateView C N
    w = the now.0

    walks_now : w.at.walk ≡ place_after (got_of N walk found)
    walks_now = ap (λ (x : SeatView C N). x.walk) d.becomes ∙ ap (λ x. place_after (got_of N x found)) same

    -- the seat that the course speaks of, and the row
    as_now : (next : Next (Walk C) Reply) → CallGoes truths u.at.seat (row_after (d.history ++ d.commits)) (asked_of walk) w.course next w.at.held → CallGoes truths w.at.seat (row_after w.told.seen) (asked_of walk) w.course next w.at.held
    as_now next g = subst (λ (z : ℕ × List (Event C N)). CallGoes truths z.0 (row_after z.1) (asked_of walk) w.course next w.at.held) (λ i. (sym (ap (λ (x : SeatView C N). x.seat) d.becomes) i, sym (ap (λ (t : Told C N). t.seen) d.tells) i)) g

    is_wide : IsWide w.at.held
    is_wide = wide_by (standing_after (d.history ++ d.commits)) d.new.row w.at.seat w.at.walk w.at.held d.fits.section d.lawful_now.one_history.cells d.lawful_now.one_history.cells_after

    at_rest : now.1 ≡ [] → w.at.walk ≡ None → IsAtRest truths now
    at_rest none over = record {
      one = one;
      empty = none;
      over = over;
      owes = none_of w.at.owed (d.fits.owes.0 ∙ ap pays over);
      settled = subst (λ x. PlaceFits truths x w.at.held) over d.fits.place;
      wide = is_wide;
      true_to = true_after found b u w d;
    }

    goes : (next : Next (Walk C) Reply) → got_of N walk found ≡ next → (has_queues (place_after next) ≡ false → now.1 ≡ []) → CallGoes truths u.at.seat (row_after (d.history ++ d.commits)) (asked_of walk) w.course (got_of N walk found) w.at.held → HasReached truths (asked_of walk) next now
    goes next is empty g = by_next next empty (walks_now ∙ ap place_after is) (as_now next (subst (λ x. CallGoes truths u.at.seat (row_after (d.history ++ d.commits)) (asked_of walk) w.course x w.at.held) is g)) where
      by_next : (next : Next (Walk C) Reply) → (has_queues (place_after next) ≡ false → now.1 ≡ []) → w.at.walk ≡ place_after next → CallGoes truths w.at.seat (row_after w.told.seen) (asked_of walk) w.course next w.at.held → HasReached truths (asked_of walk) next now
      by_next (On at) empty e g = record { one = one; empty = empty; walks = e; so_far = g.so_far; owes = owes_below b found u w d; fits = subst (λ x. PlaceFits truths x w.at.held) e d.fits.place; wide = is_wide }
      by_next (Idle at) empty e g = record { one = one; empty = empty; walks = e; so_far = g.so_far; owes = owes_below b found u w d; fits = subst (λ x. PlaceFits truths x w.at.held) e d.fits.place; wide = is_wide }
      by_next (Done reply) empty e g = record { rest = at_rest (empty refl) e; means = g }

  -- A call may go on from its place.
  pub can_go : (walk : Walk C) (act : Act C) (me : SeatOf C N) → want_of walk ≡ act → IsAtPlace truths walk me → CanStep truths None act me
  can_go walk act me wants at = record { one = at.one; may = tt; walk = walk; walks = at.walks; wants = wants }

  -- The first step of a call leads it on.
  pub begins : (first : Walk C) (act : Act C) (found : Found) (next : Next (Walk C) Reply) (me now : SeatOf C N) → got_of N first found ≡ next → (has_queues (place_after next) ≡ false → now.1 ≡ []) → Performed truths (Some first) act found me now → HasReached truths (asked_of first) next now
  begins first act found next me now is empty p = leads (Some first) first found next (the me.0) now p.one empty refl is p.did

  -- Each further step does.
  pub goes_on : (walk : Walk C) (act : Act C) (found : Found) (next : Next (Walk C) Reply) (me now : SeatOf C N) → IsAtPlace truths walk me → got_of N walk found ≡ next → (has_queues (place_after next) ≡ false → now.1 ≡ []) → Performed truths None act found me now → HasReached truths (asked_of walk) next now
  goes_on walk act found next me now at is empty p = leads None walk found next (the me.0) now p.one empty at.walks is p.did

  -- one that takes and puts back nothing does without the queues
  pub goes : (walk : Walk C) (act : Act C) (found : Found) (next : Next (Walk C) Reply) (me now : SeatOf C N) → IsAtPlace truths walk me → has_queues (Some walk) ≡ false → got_of N walk found ≡ next →
      carried_by act found (the now.0).stood me.1 ≡ me.1 → Performed truths None act found me now → HasReached truths (asked_of walk) next now
  goes walk act found next me now at free is keeps p = goes_on walk act found next me now at is (λ _. p.carried ∙ (keeps ∙ at.empty free)) p

module _ {C : Type 0} {N : ℕ} where
  -- ---- the steps of one call, part by part

  pub since_itself : (v : GateView C N) → HasSince None v v
  since_itself v = record { seat_count = refl; seat = refl; begins = begins_itself v.told.seen; commits = []; mine = sym (append-nil v.told.mine); committed = sym (append-nil v.course.committed); began = refl; calls = sym (append-nil v.told.begun) }

  -- the steps of one call, and further steps of it
  pub since_then : (b : Option (Walk C)) (v u w : GateView C N) → HasSince b v u → HasSince None u w → HasSince b v w
  since_then b v u w s t = record {
    seat_count = t.seat_count ∙ s.seat_count;
    seat = t.seat ∙ s.seat;
    begins = begins_through w.told.seen u.told.seen v.told.seen t.begins s.begins;
    commits = s.commits ++ t.commits;
    mine = t.mine ∙ (ap (λ es. es ++ t.commits) s.mine ∙ append_assoc v.told.mine s.commits t.commits);
    committed = t.committed ∙ (ap (λ es. es ++ t.commits) s.committed ∙ append_assoc (course_by b v).committed s.commits t.commits);
    began = t.began ∙ s.began;
    calls = t.calls ∙ (append-nil u.told.begun ∙ s.calls);
  }

  -- a call stands where it is whatever its seat makes of the queues in hand
  pub works : (truths : Truths C) (walk : Walk C) (me now : SeatOf C N) → IsAtPlace truths walk me → has_queues (Some walk) ≡ true → now.0 ≡ me.0 → IsAtPlace truths walk now
  works truths walk me now at has same = subst (λ (vs : List (GateView C N)). IsAtPlace truths walk (vs, now.1)) (sym same) (record { one = at.one; empty = λ e. absurd (let f : true ≡ false = sym has ∙ e in cc); walks = at.walks; so_far = at.so_far; owes = at.owes; fits = at.fits; wide = at.wide })
