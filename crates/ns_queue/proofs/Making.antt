-- What a change of a list makes of the links of its runs.
use Rattle.std.proofs.Common.{Bool, List, None, cond, Option, Some, [], ap, arith, false, get_or, get_or-set_other, get_or-set_same, inl, inr, length, length-set, refl, replicate, set, subst, sym, true, true≢false, ℕ, ◌++◌, ◌<◌, ◌∙◌, ◌∷◌, ◌≡◌, ◌≢◌}
use Rattle.ns_queue.proofs.Prelude.{IsRow, IsRuns, MadeUpTo, RunLinks, RunsOn, StandRuns, Waiter, ahead, behind, cases_Bool, first_seat, from, get_or-replicate, head_of, joins, last_run, last_seat, length-replicate, place_of, seated, times_in, without_in}
use Rattle.ns_queue.proofs.Bases.{ahead_out, cut_at, found, from_none, last_low, row_at, row_front, row_low, row_own, row_parts, row_rest, row_without, seated_none, split, standing, stands_not, stepped, without_is}
use Rattle.ns_queue.proofs.Links.{head_yes, head_no, last_run-append, last_seat-append, links_other, on_other, open_end, links_join, on_join, on_part, on_rest, on_at, head_link, run_first, run_inner, run_low, stand_of, stand_other, written}

other_end : (links : List ℕ) (c v : ℕ) → c < 64 → get_or links 64 0 ≡ 64 → get_or (set links c v) 64 0 ≡ 64
other_end links c v low is = get_or-set_other links c 64 v 0 (λ e. omega (arith, e, low)) ∙ is

write_at : (links : List ℕ) (c k v : ℕ) → c ≡ k → c < length links → get_or (set links c v) k 0 ≡ v
write_at links c k v e within = ap (λ n. get_or (set links c v) n 0) (sym e) ∙ get_or-set_same links c v 0 within

module _ {C : Type 0} (same : C → C → Bool) where
  -- the links in front of a place, with the last run's first linked
  record Closed (heads lasts : List ℕ) (head v : ℕ) (xs : List (Waiter C)) : Type 0 where
    front : RunLinks same heads (set lasts head v) None 64 xs
    end : get_or (set lasts head v) (place_of (last_run same None xs)) 0 ≡ v
    all : length (set lasts head v) ≡ 65

  closed : (heads lasts : List ℕ) (head v : ℕ) (xs : List (Waiter C)) → IsRow xs → head ≡ place_of (last_run same None xs) → length lasts ≡ 65 → RunLinks same heads lasts None 64 xs → Closed heads lasts head v xs
  closed heads lasts head v xs row is all h =
      let P : ℕ → Type 0 = λ k. RunLinks same heads (set lasts k v) None 64 xs in
      let low : head < 65 = rw is (run_low same xs row) in
      record {
        front = subst P (sym is) (open_end same heads lasts None 64 xs v (row.below 64 (omega arith)) row h);
        end = write_at lasts head (place_of (last_run same None xs)) v is (omega (arith, low, all));
        all = length-set lasts head v ∙ all;
      }

  -- ---- one waiter further

  made_on : (heads lasts lasts' : List ℕ) (head head' before at n : ℕ) (ws : List (Waiter C)) (w : Waiter C) → IsRow ws → seated at ws ≡ Some w → n ≡ first_seat 64 (behind at ws) → head' ≡ place_of (head_of same w (last_run same None (ahead at ws))) →
      RunLinks same heads lasts' None 64 (ahead at ws) → (joins same w (last_run same None (ahead at ws)) ≡ false → get_or lasts' (place_of (last_run same None (ahead at ws))) 0 ≡ last_seat 64 (ahead at ws)) →
      (StandRuns same heads lasts (from n ws) → StandRuns same heads lasts' (from n ws)) → length lasts' ≡ 65 → MadeUpTo same heads lasts head before at ws → MadeUpTo same (set heads at head') lasts' head' at n ws
  made_on heads lasts lasts' head head' before at n ws w row is next head_is front begins kept all m =
      let s = stepped at ws w n row is next in
      let xs = ahead at ws in
      let run = last_run same None xs in
      let one : RunLinks same (set heads at head') lasts' run (last_seat 64 xs) (w ∷ []) = (begins, write_at heads at w.seat head' (sym s.here) (omega (arith, s.low, m.heads_all)) ∙ head_is, tt) in
      let P : List (Waiter C) → Type 0 = λ vs. StandRuns same heads lasts vs in
      let rest : StandRuns same heads lasts (w ∷ from n ws) = subst P s.from_is m.rest in
      record {
        links = rw s.ahead_is (links_join same (set heads at head') lasts' None 64 xs (w ∷ []) (links_other same heads (set heads at head') lasts' lasts' at (written heads at head') (λ k ne. refl) None 64 xs (λ e. omega (arith, e, s.low)) (ahead_out at ws) front) one);
        head_is = head_is ∙ ap place_of (sym (ap (last_run same None) s.ahead_is ∙ last_run-append same None xs (w ∷ [])));
        before_is = sym (ap (last_seat 64) s.ahead_is ∙ last_seat-append 64 xs (w ∷ []) ∙ s.here);
        rest = stand_other same heads (set heads at head') lasts' lasts' at (written heads at head') (λ k ne. refl) (from n ws) s.out (kept rest.1);
        end = other_end heads at head' s.low m.end;
        heads_all = length-set heads at head' ∙ m.heads_all;
        lasts_all = all;
      }

  pub made_joins : (heads lasts : List ℕ) (head before at n : ℕ) (ws : List (Waiter C)) (w : Waiter C) → IsRow ws → seated at ws ≡ Some w → n ≡ first_seat 64 (behind at ws) → joins same w (last_run same None (ahead at ws)) ≡ true →
      MadeUpTo same heads lasts head before at ws → MadeUpTo same (set heads at head) lasts head at n ws
  made_joins heads lasts head before at n ws w row is next goes m =
      made_on heads lasts lasts head head before at n ws w row is next (m.head_is ∙ ap place_of (sym (head_yes same w (last_run same None (ahead at ws)) goes))) m.links (λ e. absurd (true≢false (sym goes ∙ e))) (λ rest. rest) m.lasts_all m

  pub made_begun : (heads lasts lasts' : List ℕ) (head head' before at n : ℕ) (ws : List (Waiter C)) (w : Waiter C) → IsRow ws → seated at ws ≡ Some w → n ≡ first_seat 64 (behind at ws) → joins same w (last_run same None (ahead at ws)) ≡ false →
      head' ≡ at → lasts' ≡ set lasts head before → MadeUpTo same heads lasts head before at ws → MadeUpTo same (set heads at head') lasts' head' at n ws
  made_begun heads lasts lasts' head head' before at n ws w row is next begins e l m =
      let f = found at ws w is in
      let xs = ahead at ws in
      let row' = row_at ws _ f.is row in
      let c = closed heads lasts head before xs (row_parts xs (w ∷ behind at ws) row').0 m.head_is m.lasts_all m.links in
      let out = stands_not head w (behind at ws) (rw m.head_is (run_first same xs (w ∷ behind at ws) row').1) in
      rw l (made_on heads lasts (set lasts head before) head head' before at n ws w row is next (e ∙ sym f.here ∙ ap place_of (sym (head_no same w (last_run same None xs) begins))) c.front (λ _. c.end ∙ m.before_is)
      (stand_other same heads heads lasts (set lasts head before) head (λ k ne. refl) (written lasts head before) (from n ws) (rw (← (stepped at ws w n row is next).behind_is) out.1)) c.all m)

  -- where a run begins that began there before
  pub made_stops : (heads lasts : List ℕ) (head before at : ℕ) (ws : List (Waiter C)) (w : Waiter C) → IsRow ws → seated at ws ≡ Some w → joins same w (last_run same None (ahead at ws)) ≡ false → get_or heads at 0 ≡ at →
      MadeUpTo same heads lasts head before at ws → IsRuns same heads (set lasts head before) ws
  made_stops heads lasts head before at ws w row is begins began m =
      let f = found at ws w is in
      let xs = ahead at ws in
      let ys = behind at ws in
      let run = last_run same None xs in
      let row' = row_at ws _ f.is row in
      let c = closed heads lasts head before xs (row_parts xs (w ∷ ys) row').0 m.head_is m.lasts_all m.links in
      let out = stands_not head w ys (rw m.head_is (run_first same xs (w ∷ ys) row').1) in
      let own : get_or heads w.seat 0 ≡ w.seat = ap (λ k. get_or heads k 0) f.here ∙ began ∙ sym f.here in
      let P : List (Waiter C) → Type 0 = λ vs. StandRuns same heads lasts vs in
      let rest : StandRuns same heads lasts (w ∷ ys) = subst P f.from_is m.rest in
      let on = on_at same heads (set lasts head before) (Some w) (head_of same w run) w.seat ys (sym (head_no same w run begins)) (on_other same heads heads lasts (set lasts head before) head (λ k ne. refl) (written lasts head before) (Some w) w.seat ys out.0 out.1 (rest.0 own)) in
      let Q : List (Waiter C) → Type 0 = λ vs. RunsOn same heads (set lasts head before) None 64 vs in
      record {
        on = subst Q (sym f.is) (on_join same heads (set lasts head before) None 64 xs (w ∷ ys) c.front
            (record { links = (λ e. c.end ∙ m.before_is, own ∙ ap place_of (sym (head_no same w run begins)), on.links); ended = on.ended }));
        end = m.end;
        heads_all = m.heads_all;
        lasts_all = c.all;
      }

  -- at the list's end
  pub made_ends : (heads lasts : List ℕ) (head before at : ℕ) (ws : List (Waiter C)) → IsRow ws → seated at ws ≡ None → MadeUpTo same heads lasts head before at ws → IsRuns same heads (set lasts head before) ws
  made_ends heads lasts head before at ws row none m =
      let all = (from_none at ws none).1 in
      let P : List (Waiter C) → Type 0 = λ vs. RunLinks same heads lasts None 64 vs in
      let is = m.head_is ∙ ap (λ vs. place_of (last_run same None vs)) all in
      let c = closed heads lasts head before ws row is m.lasts_all (subst P all m.links) in
      record {
        on = record { links = c.front; ended = c.end ∙ m.before_is ∙ ap (last_seat 64) all };
        end = m.end;
        heads_all = m.heads_all;
        lasts_all = c.all;
      }

  -- ---- one more at the back

  back_head : (heads lasts : List ℕ) (back : ℕ) (ws : List (Waiter C)) → back ≡ last_seat 64 ws → IsRuns same heads lasts ws → get_or heads back 0 ≡ place_of (last_run same None ws)
  back_head heads lasts back ws is h = ap (λ k. get_or heads k 0) is ∙ head_link same heads lasts None 64 ws h.end h.on.links

  pub goes_low : (ws : List (Waiter C)) (w : Waiter C) (head : ℕ) → IsRow ws → w.seat < 64 → head ≡ place_of (head_of same w (last_run same None ws)) → head < 65
  goes_low ws w head row low is = rw is (elim (cases_Bool (joins same w (last_run same None ws))) [ inl goes ↦ rw goes (run_low same ws row) | inr begins ↦ rw begins (omega (arith, low)) ])

  pushed_on : (heads lasts lasts' : List ℕ) (head : ℕ) (ws : List (Waiter C)) (w : Waiter C) → IsRow (ws ++ w ∷ []) → head ≡ place_of (head_of same w (last_run same None ws)) → RunLinks same heads lasts' None 64 ws →
      (joins same w (last_run same None ws) ≡ false → get_or lasts' (place_of (last_run same None ws)) 0 ≡ last_seat 64 ws) → get_or lasts' head 0 ≡ w.seat → length lasts' ≡ 65 → IsRuns same heads lasts ws → IsRuns same (set heads w.seat head) lasts' (ws ++ w ∷ [])
  pushed_on heads lasts lasts' head ws w row is front begins ended all h =
      let within = row_low ws [] w row in
      record {
        on = on_join same (set heads w.seat head) lasts' None 64 ws (w ∷ []) (links_other same heads (set heads w.seat head) lasts' lasts' w.seat (written heads w.seat head) (λ k ne. refl) None 64 ws (λ e. omega (arith, e, within)) (row_front ws [] w row) front)
            (record { links = (begins, get_or-set_same heads w.seat head 0 (omega (arith, within, h.heads_all)) ∙ is, tt); ended = ap (λ k. get_or lasts' k 0) (sym is) ∙ ended });
        end = other_end heads w.seat head within h.end;
        heads_all = length-set heads w.seat head ∙ h.heads_all;
        lasts_all = all;
      }

  pub pushed : (heads lasts : List ℕ) (head : ℕ) (ws : List (Waiter C)) (w : Waiter C) → IsRow (ws ++ w ∷ []) → head ≡ place_of (head_of same w (last_run same None ws)) →
      IsRuns same heads lasts ws → IsRuns same (set heads w.seat head) (set lasts head w.seat) (ws ++ w ∷ [])
  pushed heads lasts head ws w row is h =
      let run = last_run same None ws in
      let rows = (row_parts ws (w ∷ []) row).0 in
      let within = row_low ws [] w row in
      let ended : get_or (set lasts head w.seat) head 0 ≡ w.seat = get_or-set_same lasts head w.seat 0 (let low = goes_low ws w head rows within is in omega (arith, low, h.lasts_all)) in
      let all = length-set lasts head w.seat ∙ h.lasts_all in
      elim (cases_Bool (joins same w run)) [
        | inl goes ↦
            let c = closed heads lasts head w.seat ws rows (is ∙ ap place_of (head_yes same w run goes)) h.lasts_all h.on.links in
            pushed_on heads lasts (set lasts head w.seat) head ws w row is c.front (λ e. absurd (true≢false (sym goes ∙ e))) ended all h
        | inr begins ↦
            let own : head ≡ w.seat = is ∙ ap place_of (head_no same w run begins) in
            let apart = stands_not (place_of run) w [] (run_first same ws (w ∷ []) row).1 in
            pushed_on heads lasts (set lasts head w.seat) head ws w row is
            (links_other same heads heads lasts (set lasts head w.seat) head (λ k ne. refl) (written lasts head w.seat) None 64 ws (λ e. omega (arith, e, own, within)) (rw own (row_front ws [] w row)) h.on.links)
            (λ _. get_or-set_other lasts head (place_of run) w.seat 0 (λ e. apart.0 (e ∙ own)) ∙ h.on.ended) ended all h
      ]

  -- ---- one more at the front

  pub start_link : (heads lasts : List ℕ) (ws : List (Waiter C)) → RunsOn same heads lasts None 64 ws → get_or lasts 64 0 ≡ 64
  start_link heads lasts [] h = h.ended
  start_link heads lasts (w ∷ ws) h = h.links.0 refl

  pub fronted : (heads lasts : List ℕ) (first : ℕ) (ws : List (Waiter C)) (w : Waiter C) → IsRow (w ∷ ws) → first ≡ first_seat 64 ws → IsRuns same heads lasts ws →
      MadeUpTo same (set heads w.seat w.seat) lasts w.seat w.seat first (w ∷ ws)
  fronted heads lasts first ws w row is h =
      let cuts = cut_at (w ∷ []) ws row in
      let one : ahead first (w ∷ ws) ≡ w ∷ [] = ap (λ k. ahead k (w ∷ ws)) is ∙ cuts.1 in
      let rest : from first (w ∷ ws) ≡ ws = ap (λ k. from k (w ∷ ws)) is ∙ cuts.0 in
      let within = row_low [] ws w row in
      let rows = row_rest w ws row in
      record {
        links = rw one (λ e. start_link heads lasts ws h.on, get_or-set_same heads w.seat w.seat 0 (omega (arith, within, h.heads_all)), tt);
        head_is = rw one refl;
        before_is = rw one refl;
        rest = rw rest (stand_other same heads (set heads w.seat w.seat) lasts lasts w.seat (written heads w.seat w.seat) (λ k ne. refl) ws (row_own w ws row) (stand_of same heads lasts None 64 ws (rows.below 64 (omega arith)) rows h.on));
        end = other_end heads w.seat w.seat within h.end;
        heads_all = length-set heads w.seat w.seat ∙ h.heads_all;
        lasts_all = h.lasts_all;
      }

  -- ---- made anew from the front, where no waiter links to a first

  stand_none : (heads lasts : List ℕ) (ws : List (Waiter C)) → IsRow ws → ((k : ℕ) → k < 64 → get_or heads k 0 ≡ 64) → StandRuns same heads lasts ws
  stand_none heads lasts [] row none = tt
  stand_none heads lasts (w ∷ ws) row none =
      let low = row_low [] ws w row in
      (λ own. absurd (omega (arith, own, none w.seat low, low)), stand_none heads lasts ws (row_rest w ws row) none)

  pub anew : (lasts : List ℕ) (first : ℕ) (ws : List (Waiter C)) → IsRow ws → first ≡ first_seat 64 ws → length lasts ≡ 65 → MadeUpTo same (replicate 65 64) lasts 64 64 first ws
  anew lasts first ws row is all =
      let cuts = cut_at [] ws row in
      let nobody : ahead first ws ≡ [] = ap (λ k. ahead k ws) is ∙ cuts.1 in
      let rest : from first ws ≡ ws = ap (λ k. from k ws) is ∙ cuts.0 in
      record {
        links = rw nobody tt;
        head_is = rw nobody refl;
        before_is = rw nobody refl;
        rest = rw rest (stand_none (replicate 65 64) lasts ws row (λ k low. get_or-replicate 65 k 64 0 (omega (arith, low))));
        end = get_or-replicate 65 64 64 0 (omega arith);
        heads_all = length-replicate {A = ℕ} 65 64;
        lasts_all = all;
      }

  -- ---- one less

  -- the first of a run
  pub dropped : (heads lasts : List ℕ) (s before n : ℕ) (ws : List (Waiter C)) → IsRow ws → 0 < times_in s ws → get_or heads s 0 ≡ s → before ≡ last_seat 64 (ahead s ws) → n ≡ first_seat 64 (behind s ws) →
      IsRuns same heads lasts ws → MadeUpTo same heads lasts (get_or heads before 0) before n (without_in s ws)
  dropped heads lasts s before n ws row stands own back next h =
      let st = standing s ws stands in
      let w = st.w in
      let f = found s ws w st.is in
      let xs = ahead s ws in
      let ys = behind s ws in
      let row' = row_at ws _ f.is row in
      let rows = row_parts xs (w ∷ ys) row' in
      let left = without_is s ws w row f in
      let Q : List (Waiter C) → Type 0 = λ vs. RunsOn same heads lasts None 64 vs in
      let parts = on_part same heads lasts None 64 xs (w ∷ ys) (subst Q f.is h.on) in
      let run = last_run same None xs in
      let cuts = cut_at xs ys (row_at _ _ left (row_without s ws row)) in
      let front : ahead n (without_in s ws) ≡ xs = ap (λ k. ahead k (without_in s ws)) next ∙ ap (ahead (first_seat 64 ys)) left ∙ cuts.1 in
      let rest : from n (without_in s ws) ≡ ys = ap (λ k. from k (without_in s ws)) next ∙ ap (from (first_seat 64 ys)) left ∙ cuts.0 in
      let out = (run_first same xs (w ∷ ys) row').1 in
      let stand : StandRuns same heads lasts (w ∷ ys) = stand_of same heads lasts run (last_seat 64 xs) (w ∷ ys) out rows.1 parts.1 in
      record {
        links = rw front parts.0;
        head_is = ap (λ k. get_or heads k 0) back ∙ head_link same heads lasts None 64 xs h.end parts.0 ∙ sym (ap (λ vs. place_of (last_run same None vs)) front);
        before_is = back ∙ sym (ap (last_seat 64) front);
        rest = rw rest stand.1;
        end = h.end;
        heads_all = h.heads_all;
        lasts_all = h.lasts_all;
      }

  -- the last of a run that goes on in front of it
  cut_last : (heads lasts : List ℕ) (o : Option (Waiter C)) (s p q : ℕ) (ys : List (Waiter C)) → q ≡ place_of o → q < length lasts → times_in q ys ≡ 0 → get_or heads (first_seat 64 ys) 0 ≢ q →
      RunsOn same heads lasts o s ys → RunsOn same heads (set lasts q p) o p ys
  cut_last heads lasts o s p q [] is within out ne h = record { links = tt; ended = write_at lasts q (place_of o) p is within }
  cut_last heads lasts o s p q (y ∷ ys) is within out ne h =
      let apart = stands_not q y ys out in
      elim (cases_Bool (joins same y o)) [
        | inl goes ↦ absurd (ne (h.links.1 ∙ ap place_of (head_yes same y o goes) ∙ sym is))
        | inr begins ↦
            let rest = on_at same heads lasts (head_of same y o) (Some y) y.seat ys (head_no same y o begins) (on_rest same heads lasts o s y ys h) in
            let on = on_at same heads (set lasts q p) (Some y) (head_of same y o) y.seat ys (sym (head_no same y o begins)) (on_other same heads heads lasts (set lasts q p) q (λ k ne. refl) (written lasts q p) (Some y) y.seat ys apart.0 apart.1 rest) in
            record { links = (λ e. write_at lasts q (place_of o) p is within, h.links.1, on.links); ended = on.ended }
      ]

  -- and one in a run that goes on behind it
  cut_inner : (heads lasts : List ℕ) (o : Option (Waiter C)) (s p q : ℕ) (ys : List (Waiter C)) → q ≡ place_of o → q < 64 → get_or heads 64 0 ≡ 64 → times_in q ys ≡ 0 → get_or heads (first_seat 64 ys) 0 ≡ q →
      RunsOn same heads lasts o s ys → RunsOn same heads lasts o p ys
  cut_inner heads lasts o s p q [] is low end out e h = absurd (omega (arith, low, end, e))
  cut_inner heads lasts o s p q (y ∷ ys) is low end out e h =
      let apart = stands_not q y ys out in
      elim (cases_Bool (joins same y o)) [
        | inl goes ↦ record { links = (λ f. absurd (true≢false (sym goes ∙ f)), h.links.1, h.links.2); ended = h.ended }
        | inr begins ↦ absurd (apart.0 (sym e ∙ h.links.1 ∙ ap place_of (head_no same y o begins)))
      ]

  pub record Inner (heads lasts : List ℕ) (s before : ℕ) (ws : List (Waiter C)) : Type 0 where
    pub low : get_or heads s 0 < 65
    pub last : get_or heads (first_seat 64 (behind s ws)) 0 ≢ get_or heads s 0 → IsRuns same heads (set lasts (get_or heads s 0) before) (without_in s ws)
    pub inner : get_or heads (first_seat 64 (behind s ws)) 0 ≡ get_or heads s 0 → IsRuns same heads lasts (without_in s ws)

  pub inner : (heads lasts : List ℕ) (s before : ℕ) (ws : List (Waiter C)) → IsRow ws → 0 < times_in s ws → get_or heads s 0 ≢ s → before ≡ last_seat 64 (ahead s ws) → IsRuns same heads lasts ws → Inner heads lasts s before ws
  inner heads lasts s before ws row stands ne back h =
      let st = standing s ws stands in
      let w = st.w in
      let f = found s ws w st.is in
      let xs = ahead s ws in
      let ys = behind s ws in
      let row' = row_at ws _ f.is row in
      let rows = row_parts xs (w ∷ ys) row' in
      let left = without_is s ws w row f in
      let q = get_or heads s 0 in
      let Q : List (Waiter C) → Type 0 = λ vs. RunsOn same heads lasts None 64 vs in
      let parts = on_part same heads lasts None 64 xs (w ∷ ys) (subst Q f.is h.on) in
      let run = last_run same None xs in
      let own : q ≡ place_of (head_of same w run) = ap (λ k. get_or heads k 0) (sym f.here) ∙ parts.1.links.1 in
      let goes : joins same w run ≡ true = elim (cases_Bool (joins same w run)) [ inl goes ↦ goes | inr begins ↦ absurd (ne (own ∙ ap place_of (head_no same w run begins) ∙ f.here)) ] in
      let is : q ≡ place_of run = own ∙ ap place_of (head_yes same w run goes) in
      let low : q < 64 = rw is (run_inner same xs (w ∷ ys) w row' goes) in
      let out : times_in q ys ≡ 0 = rw is (stands_not (place_of run) w ys (run_first same xs (w ∷ ys) row').1).1 in
      let rest = on_at same heads lasts (head_of same w run) run w.seat ys (head_yes same w run goes) (on_rest same heads lasts run (last_seat 64 xs) w ys parts.1) in
      record {
        low = omega (arith, low);
        last = λ apart. record {
          on = rw (left, back) (on_join same heads (set lasts q (last_seat 64 xs)) None 64 xs ys (closed heads lasts q (last_seat 64 xs) xs rows.0 is h.lasts_all parts.0).front
              (cut_last heads lasts run w.seat (last_seat 64 xs) q ys is (omega (arith, low, h.lasts_all)) out apart rest));
          end = h.end;
          heads_all = h.heads_all;
          lasts_all = length-set lasts q before ∙ h.lasts_all;
        };
        inner = λ goes_on. record {
          on = rw left (on_join same heads lasts None 64 xs ys parts.0 (cut_inner heads lasts run w.seat (last_seat 64 xs) q ys is low h.end out goes_on rest));
          end = h.end;
          heads_all = h.heads_all;
          lasts_all = h.lasts_all;
        };
      }

  -- ---- what the code reads

  pub run_read : (head at : ℕ) (ws : List (Waiter C)) → IsRow ws → head ≡ place_of (last_run same None (ahead at ws)) → seated head ws ≡ last_run same None (ahead at ws)
  run_read head at ws row is =
      let whole = split at ws in
      ap (λ k. seated k ws) is ∙ ap (seated (place_of (last_run same None (ahead at ws)))) whole ∙ (run_first same (ahead at ws) (from at ws) (row_at ws _ whole row)).0

  back_read : (head : ℕ) (ws : List (Waiter C)) → IsRow ws → head ≡ place_of (last_run same None ws) → seated head ws ≡ last_run same None ws
  back_read head ws row is = run_read head 64 ws row (is ∙ ap (λ vs. place_of (last_run same None vs)) (sym (from_none 64 ws (seated_none 64 ws (row.below 64 (omega arith)))).1))
      ∙ ap (last_run same None) (from_none 64 ws (seated_none 64 ws (row.below 64 (omega arith)))).1

  -- the first of the run that a waiter would stand in at the back
  pub head_told : (heads lasts : List ℕ) (back : ℕ) (ws : List (Waiter C)) (w : Waiter C) (b : Bool) (o : Option (Waiter C)) → back ≡ last_seat 64 ws → IsRow ws → IsRuns same heads lasts ws → b ≡ joins same w o → o ≡ seated (get_or heads back 0) ws →
      cond b (get_or heads back 0) w.seat ≡ place_of (head_of same w (last_run same None ws))
  head_told heads lasts back ws w b o is row h told read =
      let run = last_run same None ws in
      let link = back_head heads lasts back ws is h in
      let goes : b ≡ joins same w run = told ∙ ap (joins same w) (read ∙ back_read (get_or heads back 0) ws row link) in
      elim (cases_Bool (joins same w run)) [ inl on ↦ rw (goes, on) link | inr begins ↦ rw (goes, begins) refl ]

  pub joins_told : (b : Bool) (w : Waiter C) (o p q : Option (Waiter C)) (v : Bool) → b ≡ joins same w o → o ≡ p → p ≡ q → b ≡ v → joins same w q ≡ v
  joins_told b w o p q v told read is value = sym (told ∙ ap (joins same w) (read ∙ is)) ∙ value

  pub head_low : (heads lasts : List ℕ) (head before at : ℕ) (ws : List (Waiter C)) → IsRow ws → MadeUpTo same heads lasts head before at ws → head < 65
  head_low heads lasts head before at ws row m = rw m.head_is (run_low same (ahead at ws) (row_parts (ahead at ws) (from at ws) (row_at ws _ (split at ws) row)).0)

module _ {C : Type 0} where
  pub back_place : (ws : List (Waiter C)) (back : ℕ) → IsRow ws → back ≡ last_seat 64 ws → back < 65
  back_place ws back row is = rw is (last_low 64 ws (omega arith) row.below)
