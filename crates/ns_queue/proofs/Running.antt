-- From run to run where nobody is taken: one test a run, and the link from the run's last.
use Rattle.std.proofs.Common.{Bool, Fits, List, None, Option, Some, [], ap, append_assoc, arith, cond, drop, false, get_or, inl, inr, is_some, length, refl, subst, sym, true, w32, ℕ, ◌++◌, ◌+◌, ◌<◌, ◌∙◌, ◌∷◌, ◌≡◌, ◌≤◌}
use Rattle.ns_queue.proofs.Prelude.{IsRow, RunsOn, Waiter, ahead, behind, cases_Bool, first_seat, from, head_of, in_front, is_alike, is_eligible, is_satisfied, joins, one_if, place_of, seated, sought_of, sought_seat, tests_seeking, times_in}
use Rattle.ns_queue.proofs.Bases.{Unmet, alike_none, alike_unmet, at_most_one, cut_at, few, found, from_none, front_no, front_yes, own, own_times, parted, row_at, row_front, row_own, row_parts, seeking_alike, seeking_found, seeking_other, stands_not, times_in-append, unmet_of}
use Rattle.ns_queue.proofs.Links.{head_yes, head_no, on_at, on_rest}

-- tests stay few
pub tests_fit : (tests more : ℕ) (b : Bool) → tests < 64 → more ≡ one_if b → Fits w32 (tests + more)
tests_fit tests more b low is = omega (arith, low, is, at_most_one b)

module _ {C : Type 0} (same : C → C → Bool) where
  -- the place of the last of a run of this first, whose last so far stands at a place
  abbrev run_end : Option (Waiter C) → ℕ → List (Waiter C) → ℕ
  run_end o p [] = p
  run_end o p (w ∷ ws) = cond (joins same w o) (run_end o w.seat ws) p

  -- what is left behind a run of this first
  abbrev pub after_run : Option (Waiter C) → List (Waiter C) → List (Waiter C)
  after_run o [] = []
  after_run o (w ∷ ws) = cond (joins same w o) (after_run o ws) (w ∷ ws)

  after_other : (o : Option (Waiter C)) (w : Waiter C) (ws : List (Waiter C)) → joins same w o ≡ false → after_run o (w ∷ ws) ≡ w ∷ ws
  after_other o w ws begins = rw begins refl

  -- a run's first links to its last
  last_of : (heads lasts : List ℕ) (o : Option (Waiter C)) (p : ℕ) (ws : List (Waiter C)) → RunsOn same heads lasts o p ws → get_or lasts (place_of o) 0 ≡ run_end o p ws
  last_of heads lasts o p [] h = h.ended
  last_of heads lasts o p (w ∷ ws) h = elim (cases_Bool (joins same w o)) [
    | inl goes ↦ rw goes (last_of heads lasts o w.seat ws (on_at same heads lasts (head_of same w o) o w.seat ws (head_yes same w o goes) (on_rest same heads lasts o p w ws h)))
    | inr begins ↦ rw begins (h.links.0 begins)
  ]

  -- the links behind a run are those of a list that begins there
  runs_behind : (heads lasts : List ℕ) (o : Option (Waiter C)) (p : ℕ) (ws : List (Waiter C)) → get_or lasts 64 0 ≡ 64 → RunsOn same heads lasts o p ws → RunsOn same heads lasts None 64 (after_run o ws)
  runs_behind heads lasts o p [] start h = record { links = tt; ended = start }
  runs_behind heads lasts o p (w ∷ ws) start h = elim (cases_Bool (joins same w o)) [
    | inl goes ↦ rw goes (runs_behind heads lasts o w.seat ws start (on_at same heads lasts (head_of same w o) o w.seat ws (head_yes same w o goes) (on_rest same heads lasts o p w ws h)))
    | inr begins ↦
        let rest = on_at same heads lasts (head_of same w o) (Some w) w.seat ws (head_no same w o begins) (on_rest same heads lasts o p w ws h) in
        rw begins (record { links = (λ _. start, h.links.1 ∙ ap place_of (head_no same w o begins), rest.links); ended = rest.ended })
  ]

  -- where a run ends
  record Ended (o : Option (Waiter C)) (w : Waiter C) (ws : List (Waiter C)) : Type 0 where
    zs : List (Waiter C)
    v : Waiter C
    is : w ∷ ws ≡ zs ++ v ∷ after_run o ws
    end : run_end o w.seat ws ≡ v.seat

  run_ended : (o : Option (Waiter C)) (w : Waiter C) (ws : List (Waiter C)) → Ended o w ws
  run_ended o w [] = record { zs = []; v = w; is = refl; end = refl }
  run_ended o w (u ∷ us) = elim (cases_Bool (joins same u o)) [
    | inl goes ↦ (let e = run_ended o u us in record { zs = w ∷ e.zs; v = e.v; is = rw goes (ap (λ vs. w ∷ vs) e.is); end = rw goes e.end })
    | inr begins ↦ record { zs = []; v = w; is = rw begins refl; end = rw begins refl }
  ]

  -- the run behind one that begins at a seat
  pub record NextRun (lasts : List ℕ) (s : ℕ) (ws : List (Waiter C)) (w : Waiter C) : Type 0 where
    pub here : w.seat ≡ s
    pub from_is : from s ws ≡ w ∷ behind s ws
    pub stands : 0 < times_in (get_or lasts s 0) ws
    pub behind_is : behind (get_or lasts s 0) ws ≡ after_run (Some w) (behind s ws)
    pub on : from (first_seat 64 (after_run (Some w) (behind s ws))) ws ≡ after_run (Some w) (behind s ws)

  pub next_run : (heads lasts : List ℕ) (s : ℕ) (ws : List (Waiter C)) (w : Waiter C) → IsRow ws → seated s ws ≡ Some w → RunsOn same heads lasts None 64 (from s ws) → NextRun lasts s ws w
  next_run heads lasts s ws w row is h =
      let f = found s ws w is in
      let P : List (Waiter C) → Type 0 = λ vs. RunsOn same heads lasts None 64 vs in
      let runs : RunsOn same heads lasts None 64 (w ∷ behind s ws) = subst P f.from_is h in
      let rest : RunsOn same heads lasts (Some w) w.seat (behind s ws) = on_rest same heads lasts None 64 w (behind s ws) runs in
      let e = run_ended (Some w) w (behind s ws) in
      let after = after_run (Some w) (behind s ws) in
      let last : get_or lasts s 0 ≡ e.v.seat = ap (λ k. get_or lasts k 0) (sym f.here) ∙ last_of heads lasts (Some w) w.seat (behind s ws) rest ∙ e.end in
      let whole : ws ≡ (ahead s ws ++ e.zs) ++ e.v ∷ after = f.is ∙ ap (λ vs. ahead s ws ++ vs) e.is ∙ sym (append_assoc (ahead s ws) e.zs (e.v ∷ after)) in
      let apart : ws ≡ ((ahead s ws ++ e.zs) ++ e.v ∷ []) ++ after = whole ∙ sym (append_assoc (ahead s ws ++ e.zs) (e.v ∷ []) after) in
      let row' = row_at ws _ whole row in
      record {
        here = f.here;
        from_is = f.from_is;
        stands = rw last (let count = ap (times_in e.v.seat) whole in omega (arith, count, times_in-append e.v.seat (ahead s ws ++ e.zs) (e.v ∷ after), own_times e.v after));
        behind_is = ap (λ k. behind k ws) last ∙ ap (behind e.v.seat) whole ∙ parted (ahead s ws ++ e.zs) after e.v (row_front (ahead s ws ++ e.zs) after e.v row');
        on = ap (from (first_seat 64 after)) apart ∙ (cut_at ((ahead s ws ++ e.zs) ++ e.v ∷ []) after (row_at ws _ apart row)).0;
      }

  -- who links to itself behind a run's first begins a run
  begins_there : (heads lasts : List ℕ) (w : Waiter C) (ys : List (Waiter C)) (n : ℕ) → times_in w.seat ys ≡ 0 → RunsOn same heads lasts (Some w) w.seat ys → n ≡ first_seat 64 ys → get_or heads n 0 ≡ n → n ≡ first_seat 64 (after_run (Some w) ys)
  begins_there heads lasts w [] n out h next own = next
  begins_there heads lasts w (u ∷ us) n out h next own = elim (cases_Bool (joins same u (Some w))) [
    | inl goes ↦
        let linked : get_or heads u.seat 0 ≡ w.seat = h.links.1 ∙ ap place_of (head_yes same u (Some w) goes) in
        let P : ℕ → Type 0 = λ k. get_or heads k 0 ≡ k in
        absurd ((stands_not w.seat u us out).0 (sym linked ∙ subst P next own))
    | inr begins ↦ next ∙ sym (ap (first_seat 64) (after_other (Some w) u us begins))
  ]

  -- and so stands behind that run
  pub next_begins : (heads lasts : List ℕ) (s n : ℕ) (ws : List (Waiter C)) (w : Waiter C) → IsRow ws → seated s ws ≡ Some w → RunsOn same heads lasts None 64 (from s ws) → n ≡ first_seat 64 (behind s ws) → get_or heads n 0 ≡ n → n ≡ first_seat 64 (behind (get_or lasts s 0) ws)
  next_begins heads lasts s n ws w row is h next own =
      let f = found s ws w is in
      let P : List (Waiter C) → Type 0 = λ vs. RunsOn same heads lasts None 64 vs in
      let rest = on_rest same heads lasts None 64 w (behind s ws) (subst P f.from_is h) in
      let out = row_own w (behind s ws) (row_parts (ahead s ws) (w ∷ behind s ws) (row_at ws _ f.is row)).1 in
      begins_there heads lasts w (behind s ws) n out rest next own ∙ sym (ap (first_seat 64) (next_run heads lasts s ws w row is h).behind_is)

  -- who is left to be looked at, from the first who is taken on
  abbrev from_taken : (C → Bool) → List (Waiter C) → List (Waiter C)
  from_taken meets ws = drop (in_front meets ws) ws

  -- a search that has come to the first of a run
  pub record Sought (meets : C → Bool) (heads lasts : List ℕ) (s tests : ℕ) (ws : List (Waiter C)) : Type 0 where
    pub place : s ≡ first_seat 64 (from s ws)
    pub runs : RunsOn same heads lasts None 64 (from s ws)
    pub counted : tests + tests_seeking same meets None (from s ws) ≡ tests_seeking same meets None ws
    pub taken : from_taken meets (from s ws) ≡ from_taken meets ws
    pub few : tests + length (from s ws) ≤ length ws

  after_less : (o : Option (Waiter C)) (ws : List (Waiter C)) → length (after_run o ws) ≤ length ws
  after_less o [] = omega arith
  after_less o (w ∷ ws) = elim (cases_Bool (joins same w o)) [ inl goes ↦ rw goes (omega (arith, after_less o ws)) | inr begins ↦ rw begins (omega arith) ]

  pub sought_smaller : (lasts : List ℕ) (s n : ℕ) (ws : List (Waiter C)) (w : Waiter C) → NextRun lasts s ws w → n ≡ first_seat 64 (behind (get_or lasts s 0) ws) → length (from n ws) < length (from s ws)
  sought_smaller lasts s n ws w r next =
      let on : from n ws ≡ after_run (Some w) (behind s ws) = ap (λ k. from k ws) (next ∙ ap (first_seat 64) r.behind_is) ∙ r.on in
      let one = ap length r.from_is in rw on (omega (arith, one, after_less (Some w) (behind s ws)))

  module _ (meets : C → Bool) (agree : (c d : C) → same c d ≡ true → meets c ≡ meets d) where
    taken_behind : (first : Waiter C) (ws : List (Waiter C)) → Unmet same meets first.cond → from_taken meets ws ≡ from_taken meets (after_run (Some first) ws)
    taken_behind first [] unmet = refl
    taken_behind first (w ∷ ws) unmet = elim (cases_Bool (is_alike same w.cond first.cond)) [
      | inl alike ↦ rw (alike, front_no same meets w ws (alike_unmet same meets agree w.cond first.cond unmet alike)) (taken_behind first ws unmet)
      | inr other ↦ rw other refl
    ]

    -- no test in the rest of the run
    sought_behind : (first : Waiter C) (ws : List (Waiter C)) → Unmet same meets first.cond → tests_seeking same meets first.cond ws ≡ tests_seeking same meets None (after_run (Some first) ws)
    sought_behind first [] unmet = refl
    sought_behind first (w ∷ ws) unmet = elim (cases_Bool (is_alike same w.cond first.cond)) [
      | inl alike ↦ seeking_alike same meets w ws first.cond (alike_unmet same meets agree w.cond first.cond unmet alike) alike ∙ rw alike (sought_behind first ws unmet)
      | inr other ↦ elim (cases_Bool (is_eligible meets w)) [
        | inl goes ↦ seeking_found same meets w ws first.cond goes other ∙ sym (seeking_found same meets w ws None goes (alike_none same w.cond)) ∙ ap (tests_seeking same meets None) (sym (after_other (Some first) w ws other))
        | inr stays ↦ seeking_other same meets w ws first.cond stays other ∙ sym (seeking_other same meets w ws None stays (alike_none same w.cond)) ∙ ap (tests_seeking same meets None) (sym (after_other (Some first) w ws other))
      ]
    ]

    pub sought_start : (heads lasts : List ℕ) (s : ℕ) (ws : List (Waiter C)) → s ≡ first_seat 64 ws → RunsOn same heads lasts None 64 ws → Sought meets heads lasts s 0 ws
    sought_start heads lasts s ws is h =
        let all : from s ws ≡ ws = ap (λ k. from k ws) is ∙ (own ws).0 in
        record {
          place = is ∙ ap (first_seat 64) (sym all);
          runs = rw all h;
          counted = rw all (omega arith);
          taken = rw all refl;
          few = rw all (omega arith);
        }

    pub sought_on : (heads lasts : List ℕ) (s tests more n : ℕ) (ws : List (Waiter C)) (w : Waiter C) → get_or lasts 64 0 ≡ 64 → NextRun lasts s ws w → is_satisfied meets w.cond ≡ false → more ≡ cond (is_some w.cond) 1 0 →
        n ≡ first_seat 64 (behind (get_or lasts s 0) ws) → Sought meets heads lasts s tests ws → Sought meets heads lasts n (tests + more) ws
    sought_on heads lasts s tests more n ws w start r stays counts next h =
        let ys = behind s ws in
        let unmet = unmet_of same meets w.cond stays in
        let on : from n ws ≡ after_run (Some w) ys = ap (λ k. from k ws) (next ∙ ap (first_seat 64) r.behind_is) ∙ r.on in
        let P : List (Waiter C) → Type 0 = λ vs. RunsOn same heads lasts None 64 vs in
        let runs : RunsOn same heads lasts None 64 (w ∷ ys) = subst P r.from_is h.runs in
        let tested = ap (tests_seeking same meets None) r.from_is ∙ seeking_other same meets w ys None stays (alike_none same w.cond) in
        record {
          place = next ∙ ap (first_seat 64) (r.behind_is ∙ sym on);
          runs = rw on (runs_behind heads lasts (Some w) w.seat ys start (on_rest same heads lasts None 64 w ys runs));
          counted = rw on (omega (arith, counts, tested, sought_behind w ys unmet, h.counted));
          taken = rw on (sym (taken_behind w ys unmet) ∙ sym (ap (from_taken meets) r.from_is ∙ rw (front_no same meets w ys stays) refl) ∙ h.taken);
          few = rw on (let one = ap length r.from_is in omega (arith, counts, at_most_one (is_some w.cond), one, after_less (Some w) ys, h.few));
        }

    -- somebody is taken
    pub sought_here : (heads lasts : List ℕ) (s tests more : ℕ) (ws : List (Waiter C)) (w : Waiter C) → seated s ws ≡ Some w → is_satisfied meets w.cond ≡ true → more ≡ cond (is_some w.cond) 1 0 → Sought meets heads lasts s tests ws →
        record { seat = s; tests = tests + more } ≡ sought_of same meets ws
    sought_here heads lasts s tests more ws w is goes counts h =
        let f = found s ws w is in
        let tested = ap (tests_seeking same meets None) f.from_is ∙ seeking_found same meets w (behind s ws) None goes (alike_none same w.cond) in
        let front : from_taken meets (w ∷ behind s ws) ≡ w ∷ behind s ws = rw (front_yes same meets w (behind s ws) goes) refl in
        let seat : s ≡ sought_seat meets ws = sym (ap (first_seat 64) (sym h.taken ∙ ap (from_taken meets) f.from_is ∙ front) ∙ f.here) in
        let total : tests + more ≡ tests_seeking same meets None ws = omega (arith, counts, tested, h.counted) in
        λ i. record { seat = seat i; tests = total i }

    -- nobody is taken
    pub sought_none : (heads lasts : List ℕ) (s tests : ℕ) (ws : List (Waiter C)) → seated s ws ≡ None → Sought meets heads lasts s tests ws → record { seat = s; tests = tests } ≡ sought_of same meets ws
    sought_none heads lasts s tests ws none h =
        let nobody = (from_none s ws none).0 in
        let over = ap (tests_seeking same meets None) nobody in
        let seat : s ≡ sought_seat meets ws = h.place ∙ ap (first_seat 64) nobody ∙ sym (ap (first_seat 64) (sym h.taken ∙ ap (from_taken meets) nobody)) in
        let total : tests ≡ tests_seeking same meets None ws = omega (arith, over, h.counted) in
        λ i. record { seat = seat i; tests = total i }

    pub sought_few : (heads lasts : List ℕ) (s tests : ℕ) (ws : List (Waiter C)) (w : Waiter C) → IsRow ws → seated s ws ≡ Some w → Sought meets heads lasts s tests ws → tests < 64
    sought_few heads lasts s tests ws w row is h =
        let one = ap length (found s ws w is).from_is in omega (arith, one, h.few, few 64 ws row.once row.below)
