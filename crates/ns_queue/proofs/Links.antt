-- The links of the runs: what a link written elsewhere leaves, and lists put together.
use Rattle.std.proofs.Common.{Bool, List, None, Option, Some, [], ap, append_assoc, arith, false, get_or, get_or-set_other, inl, inr, refl, set, subst, sym, true, true≢false, ℕ, ◌++◌, ◌<◌, ◌∙◌, ◌∷◌, ◌≡◌, ◌≢◌, ◌⊎◌}
use Rattle.ns_queue.proofs.Prelude.{IsRow, RunLinks, RunsOn, StandRuns, Waiter, cases_Bool, cases_lt, head_of, joins, last_run, last_seat, place_of, seated, times_in}
use Rattle.ns_queue.proofs.Bases.{row_at, row_front, row_low, row_own, row_parts, row_rest, seated_here, seated_none, stands_not, times_in-append}

-- each link is as it was, but that of one place
abbrev pub SameBut : ℕ → List ℕ → List ℕ → Type 0
SameBut c links links' = (k : ℕ) → k ≢ c → get_or links' k 0 ≡ get_or links k 0

pub written : (links : List ℕ) (c v : ℕ) → SameBut c links (set links c v)
written links c v k ne = get_or-set_other links c k v 0 ne

module _ {C : Type 0} where
  pub last_seat-append : (p : ℕ) (xs ys : List (Waiter C)) → last_seat p (xs ++ ys) ≡ last_seat (last_seat p xs) ys
  last_seat-append p [] ys = refl
  last_seat-append p (x ∷ xs) ys = last_seat-append x.seat xs ys

module _ {C : Type 0} (same : C → C → Bool) where
  pub head_yes : (w : Waiter C) (o : Option (Waiter C)) → joins same w o ≡ true → head_of same w o ≡ o
  head_yes w o is = rw is refl

  pub head_no : (w : Waiter C) (o : Option (Waiter C)) → joins same w o ≡ false → head_of same w o ≡ Some w
  head_no w o is = rw is refl

  pub last_run-append : (o : Option (Waiter C)) (xs ys : List (Waiter C)) → last_run same o (xs ++ ys) ≡ last_run same (last_run same o xs) ys
  last_run-append o [] ys = refl
  last_run-append o (x ∷ xs) ys = last_run-append (head_of same x o) xs ys

  -- ---- another place than a run's first

  place_apart : (c : ℕ) (w : Waiter C) (o : Option (Waiter C)) → c ≢ place_of o → c ≢ w.seat → c ≢ place_of (head_of same w o)
  place_apart c w o ne nw = elim (cases_Bool (joins same w o)) [ inl goes ↦ rw goes ne | inr begins ↦ rw begins nw ]

  pub run_apart : (c : ℕ) (o : Option (Waiter C)) (ws : List (Waiter C)) → c ≢ place_of o → times_in c ws ≡ 0 → c ≢ place_of (last_run same o ws)
  run_apart c o [] ne out = ne
  run_apart c o (w ∷ ws) ne out = let apart = stands_not c w ws out in run_apart c (head_of same w o) ws (place_apart c w o ne apart.0) apart.1

  -- the place of a run's first stands only once
  pub head_out : (w : Waiter C) (o : Option (Waiter C)) (ws : List (Waiter C)) → times_in (place_of o) (w ∷ ws) ≡ 0 → IsRow (w ∷ ws) → times_in (place_of (head_of same w o)) ws ≡ 0
  head_out w o ws out row = elim (cases_Bool (joins same w o)) [ inl goes ↦ rw goes (stands_not (place_of o) w ws out).1 | inr begins ↦ rw begins (row_own w ws row) ]

  -- ---- a link written elsewhere: at this place alone the links may differ

  module _ (heads heads' lasts lasts' : List ℕ) (c : ℕ) (firsts : SameBut c heads heads') (ends : SameBut c lasts lasts') where
    pub links_other : (o : Option (Waiter C)) (p : ℕ) (ws : List (Waiter C)) → c ≢ place_of o → times_in c ws ≡ 0 → RunLinks same heads lasts o p ws → RunLinks same heads' lasts' o p ws
    links_other o p [] ne out h = tt
    links_other o p (w ∷ ws) ne out h =
        let apart = stands_not c w ws out in
        (λ e. ends (place_of o) (λ f. ne (sym f)) ∙ h.0 e, firsts w.seat (λ e. apart.0 (sym e)) ∙ h.1, links_other (head_of same w o) w.seat ws (place_apart c w o ne apart.0) apart.1 h.2)

    pub on_other : (o : Option (Waiter C)) (p : ℕ) (ws : List (Waiter C)) → c ≢ place_of o → times_in c ws ≡ 0 → RunsOn same heads lasts o p ws → RunsOn same heads' lasts' o p ws
    on_other o p ws ne out h = record { links = links_other o p ws ne out h.links; ended = ends (place_of (last_run same o ws)) (λ e. run_apart c o ws ne out (sym e)) ∙ h.ended }

    pub stand_other : (ws : List (Waiter C)) → times_in c ws ≡ 0 → StandRuns same heads lasts ws → StandRuns same heads' lasts' ws
    stand_other [] out h = tt
    stand_other (w ∷ ws) out h =
        let apart = stands_not c w ws out in
        (λ own. on_other (Some w) w.seat ws apart.0 apart.1 (h.0 (sym (firsts w.seat (λ e. apart.0 (sym e))) ∙ own)), stand_other ws apart.1 h.1)

  -- the link of the last run's first isn't read yet
  pub open_end : (heads lasts : List ℕ) (o : Option (Waiter C)) (p : ℕ) (ws : List (Waiter C)) (v : ℕ) → times_in (place_of o) ws ≡ 0 → IsRow ws → RunLinks same heads lasts o p ws →
      RunLinks same heads (set lasts (place_of (last_run same o ws)) v) o p ws
  open_end heads lasts o p [] v out row h = tt
  open_end heads lasts o p (w ∷ ws) v out row h =
      let apart = stands_not (place_of o) w ws out in (
        λ e. get_or-set_other lasts (place_of (last_run same (head_of same w o) ws)) (place_of o) v 0
            (run_apart (place_of o) (head_of same w o) ws (λ f. apart.0 (f ∙ ap place_of (head_no w o e))) apart.1) ∙ h.0 e,
        h.1,
        open_end heads lasts (head_of same w o) w.seat ws v (head_out w o ws out row) (row_rest w ws row) h.2,
      )

  -- ---- lists put together, and taken apart

  pub links_join : (heads lasts : List ℕ) (o : Option (Waiter C)) (p : ℕ) (xs ys : List (Waiter C)) → RunLinks same heads lasts o p xs → RunLinks same heads lasts (last_run same o xs) (last_seat p xs) ys →
      RunLinks same heads lasts o p (xs ++ ys)
  links_join heads lasts o p [] ys h k = k
  links_join heads lasts o p (x ∷ xs) ys h k = (h.0, h.1, links_join heads lasts (head_of same x o) x.seat xs ys h.2 k)

  pub links_part : (heads lasts : List ℕ) (o : Option (Waiter C)) (p : ℕ) (xs ys : List (Waiter C)) → RunLinks same heads lasts o p (xs ++ ys) →
      RunLinks same heads lasts o p xs × RunLinks same heads lasts (last_run same o xs) (last_seat p xs) ys
  links_part heads lasts o p [] ys h = (tt, h)
  links_part heads lasts o p (x ∷ xs) ys h = let rest = links_part heads lasts (head_of same x o) x.seat xs ys h.2 in ((h.0, h.1, rest.0), rest.1)

  pub on_join : (heads lasts : List ℕ) (o : Option (Waiter C)) (p : ℕ) (xs ys : List (Waiter C)) → RunLinks same heads lasts o p xs → RunsOn same heads lasts (last_run same o xs) (last_seat p xs) ys →
      RunsOn same heads lasts o p (xs ++ ys)
  on_join heads lasts o p xs ys h k = record {
    links = links_join heads lasts o p xs ys h k.links;
    ended = ap (λ r. get_or lasts (place_of r) 0) (last_run-append o xs ys) ∙ k.ended ∙ sym (last_seat-append p xs ys);
  }

  pub on_part : (heads lasts : List ℕ) (o : Option (Waiter C)) (p : ℕ) (xs ys : List (Waiter C)) → RunsOn same heads lasts o p (xs ++ ys) →
      RunLinks same heads lasts o p xs × RunsOn same heads lasts (last_run same o xs) (last_seat p xs) ys
  on_part heads lasts o p xs ys h =
      let parts = links_part heads lasts o p xs ys h.links in
      (parts.0, record { links = parts.1; ended = ap (λ r. get_or lasts (place_of r) 0) (sym (last_run-append o xs ys)) ∙ h.ended ∙ last_seat-append p xs ys })

  pub on_rest : (heads lasts : List ℕ) (o : Option (Waiter C)) (p : ℕ) (w : Waiter C) (ws : List (Waiter C)) → RunsOn same heads lasts o p (w ∷ ws) → RunsOn same heads lasts (head_of same w o) w.seat ws
  on_rest heads lasts o p w ws h = record { links = h.links.2; ended = h.ended }

  pub on_at : (heads lasts : List ℕ) (o q : Option (Waiter C)) (p : ℕ) (ws : List (Waiter C)) → o ≡ q → RunsOn same heads lasts o p ws → RunsOn same heads lasts q p ws
  on_at heads lasts o q p ws is h = let P : Option (Waiter C) → Type 0 = λ r. RunsOn same heads lasts r p ws in subst P is h

  -- ---- the last run

  -- the last waiter links to its run's first
  pub head_link : (heads lasts : List ℕ) (o : Option (Waiter C)) (p : ℕ) (ws : List (Waiter C)) → get_or heads p 0 ≡ place_of o → RunLinks same heads lasts o p ws → get_or heads (last_seat p ws) 0 ≡ place_of (last_run same o ws)
  head_link heads lasts o p [] is h = is
  head_link heads lasts o p (w ∷ ws) is h = head_link heads lasts (head_of same w o) w.seat ws h.1 h.2

  -- the last run's first stands in the list
  record RunAt (o : Option (Waiter C)) (ws : List (Waiter C)) : Type 0 where
    zs : List (Waiter C)
    w : Waiter C
    vs : List (Waiter C)
    is : ws ≡ zs ++ w ∷ vs
    run : last_run same o ws ≡ Some w

  run_at : (o : Option (Waiter C)) (ws : List (Waiter C)) → (last_run same o ws ≡ o) ⊎ RunAt o ws
  run_at o [] = inl refl
  run_at o (w ∷ ws) = elim (run_at (head_of same w o) ws) [
    | inl e ↦ elim (cases_Bool (joins same w o)) [
      | inl goes ↦ inl (e ∙ head_yes w o goes)
      | inr begins ↦ inr (record { zs = []; w = w; vs = ws; is = refl; run = e ∙ head_no w o begins })
    ]
    | inr r ↦ inr (record { zs = w ∷ r.zs; w = r.w; vs = r.vs; is = ap (λ us. w ∷ us) r.is; run = r.run })
  ]

  -- the place of the last run's first leads to that one, and it stands nowhere behind
  pub run_first : (xs ys : List (Waiter C)) → IsRow (xs ++ ys) → (seated (place_of (last_run same None xs)) (xs ++ ys) ≡ last_run same None xs) × (times_in (place_of (last_run same None xs)) ys ≡ 0)
  run_first xs ys row = elim (run_at None xs) [
    | inl e ↦ rw e (seated_none 64 (xs ++ ys) (row.below 64 (omega arith)), omega (arith, row.below 64 (omega arith), times_in-append 64 xs ys))
    | inr r ↦
        let whole : xs ++ ys ≡ r.zs ++ r.w ∷ (r.vs ++ ys) = ap (λ us. us ++ ys) r.is ∙ append_assoc r.zs (r.w ∷ r.vs) ys in
        let parts = row_at (xs ++ ys) _ whole row in
        let one = row_own r.w (r.vs ++ ys) (row_parts r.zs (r.w ∷ (r.vs ++ ys)) parts).1 in
        rw r.run (rw whole (seated_here r.zs (r.vs ++ ys) r.w (row_front r.zs (r.vs ++ ys) r.w parts)), omega (arith, one, times_in-append r.w.seat r.vs ys))
  ]

  pub run_low : (xs : List (Waiter C)) → IsRow xs → place_of (last_run same None xs) < 65
  run_low xs row = elim (run_at None xs) [
    | inl e ↦ rw e (omega arith)
    | inr r ↦ rw r.run (let low = row_low r.zs r.vs r.w (row_at xs _ r.is row) in omega (arith, low))
  ]

  -- a run that a waiter goes on with has a first
  pub run_inner : (xs ys : List (Waiter C)) (w : Waiter C) → IsRow (xs ++ ys) → joins same w (last_run same None xs) ≡ true → place_of (last_run same None xs) < 64
  run_inner xs ys w row goes =
      let run = last_run same None xs in
      elim (cases_lt (place_of run) 64) [
        | inl low ↦ low
        | inr high ↦ let nobody : run ≡ None = sym (run_first xs ys row).0 ∙ seated_none (place_of run) (xs ++ ys) (row.below (place_of run) high) in
            absurd (true≢false (sym goes ∙ ap (joins same w) nobody))
      ]

  -- ---- where a run begins, the links behind it are those of a list that begins there

  pub stand_of : (heads lasts : List ℕ) (o : Option (Waiter C)) (p : ℕ) (ws : List (Waiter C)) → times_in (place_of o) ws ≡ 0 → IsRow ws → RunsOn same heads lasts o p ws → StandRuns same heads lasts ws
  stand_of heads lasts o p [] out row h = tt
  stand_of heads lasts o p (w ∷ ws) out row h =
      let rest = on_rest heads lasts o p w ws h in
      let apart = stands_not (place_of o) w ws out in (
        λ own. elim (cases_Bool (joins same w o)) [
          | inl goes ↦ absurd (apart.0 (sym (ap place_of (head_yes w o goes)) ∙ sym h.links.1 ∙ own))
          | inr begins ↦ on_at heads lasts (head_of same w o) (Some w) w.seat ws (head_no w o begins) rest
        ],
        stand_of heads lasts (head_of same w o) w.seat ws (head_out w o ws out row) (row_rest w ws row) rest,
      )
