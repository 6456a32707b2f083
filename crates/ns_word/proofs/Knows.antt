-- What the steps leave of the designated waker and the idle list.
use Rattle.std.proofs.Common.{Bool, List, Option, Some, [], ap, arith, cond, eq-eqb, eqb, eqb-true, false, inl, inr, lt-ltb, ltb, ltb-true, ne_eqb, not, refl, subst, sym, true, ℕ, ◌&&◌, ◌++◌, ◌+◌, ◌||◌, ◌∷◌, ◌≡◌, ◌≢◌, ◌≤◌, ◌⊎◌}
use Rattle.ns_word.proofs.Prelude.{Arrival, InAcquire, Lists, Mode, NobodyCouldGoOn, Owed, QuietWriter, Read, Reader, Releasing, SeatView, ToQueue, Waiter, WaitersPlaced, Walk, Word, Write, Writer, and_cases, and_parts, awaits, bits_of, both_ways, called_of, called_to, calls_from_lock, cases_Bool}
use Rattle.ns_word.proofs.Prelude.{cases_eq, counts_in, flags_with, has_eligible, has_queues, has_some, is_armed, is_from_lock, is_held, is_long, is_on_way, is_queuing, is_unwoken, is_woken, left_of, list_any, may_acquire, needs_scan, not-false, not-true, one_if, one_most, or_cases, or_parts}
use Rattle.ns_word.proofs.Prelude.{owed_to, queued, queuers, takers, times_among, times_in, total_amid, walk_at, was_woken, woken_of, word_acquired, word_released, word_released_returning, word_returned, word_taken, ◌∙◌}
use Rattle.ns_word.proofs.Bases.{Homed, Known, Move, called_most, news, none_eligible, olds, one_set, some_queued, some_seat, times_scan, times_seats, view_of, walk_is, walk_stays, walk_was, woken_none, writer_eligible}
use Rattle.ns_word.proofs.Waits.{cleared, due_of, placed_here}

-- one that waits, and whose wake from the lock list is owed, is on its way
called_on_way : {C : Type 0} (walk : Option (Walk C)) (flag owed : ℕ) → awaits walk ≡ true → 1 ≤ owed → is_on_way walk flag owed ≡ true
called_on_way walk flag owed a some = rw a (rw (lt-ltb 0 owed some) (elim (was_woken walk) as (λ b. (b || (true && (is_from_lock flag || true))) ≡ true) [ true ↦ refl | false ↦ elim (is_from_lock flag) as (λ c. (c || true) ≡ true) [ true ↦ refl | false ↦ refl ] ]))

-- with more to say so, one is on its way still
or_more : (b a c c' : Bool) → (c ≡ true → c' ≡ true) → (b || (a && c)) ≡ true → (b || (a && c')) ≡ true
or_more true a c c' more e = refl
or_more false true c c' more e = more e
or_more false false c c' more e = absurd (cc)

-- more wakes owed are no fewer
more_on_way : {C : Type 0} (walk : Option (Walk C)) (flag owed owed' : ℕ) → owed ≤ owed' → is_on_way walk flag owed ≡ true → is_on_way walk flag owed' ≡ true
more_on_way walk flag owed owed' less e =
    or_more (was_woken walk) (awaits walk) _ _ (or_more (is_from_lock flag) true (ltb 0 owed) (ltb 0 owed') (λ f. lt-ltb 0 owed' (omega (arith, ltb-true 0 owed f, less)))) e

-- a seat that is due has its flag set, and waits
pub due_flag : {C : Type 0} (walk : Option (Walk C)) (flag : ℕ) → 1 ≤ one_if (is_unwoken walk flag) → flag ≡ 1
due_flag walk flag e = eqb-true flag 1 (and_parts (awaits walk) (eqb flag 1) (one_set _ e)).1

pub due_awaits : {C : Type 0} (walk : Option (Walk C)) (flag : ℕ) → 1 ≤ one_if (is_unwoken walk flag) → awaits walk ≡ true
due_awaits walk flag e = (and_parts (awaits walk) (is_armed flag) (one_set _ e)).0

some_append : {A : Type 0} (xs ys : List A) → has_some ys ≡ true → has_some (xs ++ ys) ≡ true
some_append [] ys e = e
some_append (x ∷ xs) ys e = refl

queuer_spins : {C : Type 0} (walk : Option (Walk C)) → one_if (is_queuing walk) ≤ one_if (has_queues walk)
queuer_spins (Some (InAcquire aim place)) = omega arith
queuer_spins walk = omega arith

-- no scan was needed, and nobody is on its way
no_scan : (w d x : Bool) → (w && not d && not x) ≡ false → d ≡ false → (w ≡ false) ⊎ (x ≡ true)
no_scan false d x e f = inl refl
no_scan true true x e f = absurd (cc)
no_scan true false true e f = inr refl
no_scan true false false e f = absurd (cc)

-- the release may have made conditions true
abbrev pub is_loud : Releasing → Bool
is_loud Writer = true
is_loud QuietWriter = false
is_loud Reader = false

refused : (mode : Mode) (arrival : Arrival) (word : Word) → may_acquire mode arrival word ≡ false → word.write ≡ false → word.readers ≡ 0 → (is_woken arrival ≡ false) × ((word.writer_waits ≡ true) ⊎ (word.long ≡ true))
refused Write arrival word e w r =
    let free : (eqb word.readers 0 && (is_woken arrival || not word.long)) ≡ false = subst (λ b. (not b && (eqb word.readers 0 && (is_woken arrival || not word.long))) ≡ false) w e in
    let parts = or_parts (is_woken arrival) (not word.long) (subst (λ n. (eqb n 0 && (is_woken arrival || not word.long)) ≡ false) r free) in
    (parts.0, inr (not-false word.long parts.1))
refused Read arrival word e w r =
    let parts = or_parts (is_woken arrival) (not word.writer_waits && not word.long) (subst (λ b. (not b && (is_woken arrival || (not word.writer_waits && not word.long))) ≡ false) w e) in
    (parts.0, elim (and_cases (not word.writer_waits) (not word.long) parts.1) [ inl f ↦ inl (not-false word.writer_waits f) | inr f ↦ inr (not-false word.long f) ])

-- one that owes no wake owes none of one taken from the lock list
pub nothing_called : {C : Type 0} (at : Option (Walk C)) (owing : List Owed) (seat : ℕ) → owing ≡ [] → ◌≡◌ {A = ℕ} (cond (calls_from_lock at) (times_among seat owing) 0) 0
nothing_called at owing seat none =
    subst (λ xs. ◌≡◌ {A = ℕ} (cond (calls_from_lock at) (times_among seat xs) 0) 0) (sym none) (elim (calls_from_lock at) as (λ b. ◌≡◌ {A = ℕ} (cond b 0 0) 0) [ true ↦ refl | false ↦ refl ])

module _ {C : Type 0} {N : ℕ} where
  queuers_most : (views : List (SeatView C N)) → queuers views ≤ takers views
  queuers_most [] = omega arith
  queuers_most (u ∷ views) = let rest = queuers_most views in let here = queuer_spins u.walk in omega (arith, rest, here)

module _ {C : Type 0} {N : ℕ} (holds : C → List ℕ → Bool) (m : Move C N) where
  open m use {front, who, walk, held, owed, walk', held', owed', back}

  same_queuers : is_queuing walk' ≡ is_queuing walk → queuers (news m) ≡ queuers (olds m)
  same_queuers e = total_amid (λ (view : SeatView C N). one_if (is_queuing view.walk)) front (view_of who walk' held' owed') back ∙ rw e (sym (total_amid (λ (view : SeatView C N). one_if (is_queuing view.walk)) front (view_of who walk held owed) back))

  abbrev Way : (ℕ → ℕ) → List (SeatView C N) → Type 0
  Way flags views = (seat : ℕ) × (is_on_way (walk_at seat views) (flags seat) (called_to seat views) ≡ true)

  -- what the seat itself owes of those wakes
  abbrev pub called : Option (Walk C) → List Owed → ℕ → ℕ
  called walk owed seat = cond (calls_from_lock walk) (times_among seat owed) 0

  abbrev CallsSame : Type 0
  CallsSame = (seat : ℕ) → called walk' owed' seat ≡ called walk owed seat

  called_old : (seat : ℕ) → called_to seat (olds m) ≡ called_to seat front + (called walk owed seat + called_to seat back)
  called_old seat = total_amid (λ view. called view.walk view.owed seat) front (view_of who walk held owed) back

  called_new : (seat : ℕ) → called_to seat (news m) ≡ called_to seat front + (called walk' owed' seat + called_to seat back)
  called_new seat = total_amid (λ view. called view.walk view.owed seat) front (view_of who walk' held' owed') back

  same_called : CallsSame → (seat : ℕ) → called_to seat (news m) ≡ called_to seat (olds m)
  same_called e seat = omega (arith, called_old seat, called_new seat, e seat)

  way : (flags flags' : ℕ → ℕ) → (is_on_way walk (flags who) (called_to who (olds m)) ≡ true → is_on_way walk' (flags' who) (called_to who (news m)) ≡ true) →
      ((seat : ℕ) → who ≢ seat → is_on_way (walk_at seat (olds m)) (flags seat) (called_to seat (olds m)) ≡ true → is_on_way (walk_at seat (olds m)) (flags' seat) (called_to seat (news m)) ≡ true) → Way flags (olds m) → Way flags' (news m)
  way flags flags' here there p =
      let seat = p.0 in
      elim (cases_eq who seat) [
        | inl e ↦
            let was : is_on_way walk (flags who) (called_to who (olds m)) ≡ true = subst (λ w. is_on_way w (flags who) (called_to who (olds m)) ≡ true) (walk_was m) (subst (λ s. is_on_way (walk_at s (olds m)) (flags s) (called_to s (olds m)) ≡ true) (sym e) p.1) in
            (who, subst (λ w. is_on_way w (flags' who) (called_to who (news m)) ≡ true) (sym (walk_is m)) (here was))
        | inr ne ↦ (seat, subst (λ w. is_on_way w (flags' seat) (called_to seat (news m)) ≡ true) (sym (walk_stays m seat ne)) (there seat ne p.1))
      ]

  -- flags and wakes stay
  way_on : (flags : ℕ → ℕ) → CallsSame → (is_on_way walk (flags who) (called_to who (olds m)) ≡ true → is_on_way walk' (flags who) (called_to who (olds m)) ≡ true) → Way flags (olds m) → Way flags (news m)
  way_on flags same o p =
      way flags flags (λ f. subst (λ n. is_on_way walk' (flags who) n ≡ true) (sym (same_called same who)) (o f))
      (λ seat ne f. subst (λ n. is_on_way (walk_at seat (olds m)) (flags seat) n ≡ true) (sym (same_called same seat)) f) p

  -- and one that was woken is on its way no more
  way_taken : (arrival : Arrival) (word : Word) (flags : ℕ → ℕ) → CallsSame → ((flag n : ℕ) → is_woken arrival ≡ false → is_on_way walk flag n ≡ true → is_on_way walk' flag n ≡ true) →
      (word.desig ≡ true → Way flags (olds m)) → (word.desig && not (is_woken arrival)) ≡ true → Way flags (news m)
  way_taken arrival word flags c o p e = let parts = and_parts word.desig (not (is_woken arrival)) e in way_on flags c (o (flags who) (called_to who (olds m)) (not-true (is_woken arrival) parts.1)) (p parts.0)

  -- while the seat has the queues, nobody queues beside it
  alone : (word : Word) (lock : List (Waiter C)) → has_queues walk ≡ true → is_queuing walk' ≡ false → Homed word lock (olds m) → queuers (news m) ≡ 0
  alone word lock spin q' homed =
      let all = total_amid (λ (view : SeatView C N). one_if (has_queues view.walk)) front (view_of who walk held owed) back in
      let here : one_if (has_queues walk) ≡ 1 = ap one_if spin in
      let sum : takers (olds m) ≡ one_if word.spin = homed.spin in
      let most = one_most word.spin in
      let f = queuers_most front in let b = queuers_most back in
      let count = total_amid (λ (view : SeatView C N). one_if (is_queuing view.walk)) front (view_of who walk' held' owed') back in
      let none : one_if (is_queuing walk') ≡ 0 = ap one_if q' in
      omega (arith, all, here, sum, most, f, b, count, none)

  -- The list stays, and the word tells no more of it: as many are about to queue as before.
  known_on : (word word' : Word) (now : List ℕ) (lock : List (Waiter C)) (flags flags' : ℕ → ℕ) → is_queuing walk' ≡ is_queuing walk → (word'.all_false ≡ word.all_false) × (word'.waiting ≡ word.waiting) →
      (word'.write ≡ false → word'.readers ≡ 0 → word'.desig ≡ false → (word.write ≡ false) × (word.readers ≡ 0) × (word.desig ≡ false)) → (word'.desig ≡ true → Way flags' (news m)) →
      Known holds word now lock flags (olds m) → Known holds word' now lock flags' (news m)
  known_on word word' now lock flags flags' q tells holders on_way p =
      let same = same_queuers q in
      record {
        on_way = on_way;
        idle = λ e. let was = p.idle (sym tells.0 ∙ e) in (was.0, same ∙ was.1);
        free = λ e f g. let is = holders e f g in let was = p.free is.0 is.1 is.2 in (was.0, same ∙ was.1);
        empty = λ e. let was = p.empty (sym tells.1 ∙ e) in (was.0, same ∙ was.1);
      }

  -- the word tells the same, and the list stays
  pub rests : (word word' : Word) (now : List ℕ) (lock : List (Waiter C)) (flags : ℕ → ℕ) → CallsSame →
      word'.desig ≡ word.desig → word'.all_false ≡ word.all_false → word'.write ≡ word.write → word'.readers ≡ word.readers → word'.waiting ≡ word.waiting →
      is_queuing walk' ≡ is_queuing walk → ((flag n : ℕ) → is_on_way walk flag n ≡ true → is_on_way walk' flag n ≡ true) →
      Known holds word now lock flags (olds m) → Known holds word' now lock flags (news m)
  rests word word' now lock flags c d a w r i q o p = known_on word word' now lock flags flags q (a, i) (λ e f g. (sym w ∙ e, sym r ∙ f, sym d ∙ g)) (λ e. way_on flags c (o (flags who) (called_to who (olds m))) (p.on_way (sym d ∙ e))) p

  -- an acquire
  pub acquires : (mode : Mode) (arrival : Arrival) (word : Word) (now : List ℕ) (lock : List (Waiter C)) (flags : ℕ → ℕ) → CallsSame →
      is_queuing walk' ≡ is_queuing walk → ((flag n : ℕ) → is_woken arrival ≡ false → is_on_way walk flag n ≡ true → is_on_way walk' flag n ≡ true) →
      Known holds word now lock flags (olds m) → Known holds (word_acquired mode arrival word) now lock flags (news m)
  acquires Write arrival word now lock flags c q o p = known_on word (word_acquired Write arrival word) now lock flags flags q (refl, refl) (λ e f g. absurd (cc)) (way_taken arrival word flags c o p.on_way) p
  acquires Read arrival word now lock flags c q o p = known_on word (word_acquired Read arrival word) now lock flags flags q (refl, refl) (λ e f g. absurd (omega (arith, f))) (way_taken arrival word flags c o p.on_way) p

  -- the queues are taken to queue
  pub takes : (mode : Mode) (arrival : Arrival) (word : Word) (now : List ℕ) (lock : List (Waiter C)) (flags : ℕ → ℕ) → CallsSame →
      may_acquire mode arrival word ≡ false → word.spin ≡ false → Homed word lock (olds m) → (list_any is_long lock ≡ true → has_eligible (λ c. holds c now) lock ≡ true) →
      ((flag n : ℕ) → is_woken arrival ≡ false → is_on_way walk flag n ≡ true → is_on_way walk' flag n ≡ true) →
      Known holds word now lock flags (olds m) → Known holds (word_taken (ToQueue mode arrival) word) now lock flags (news m)
  takes mode arrival word now lock flags c shut clear homed long_can o p = record {
    on_way = way_taken arrival word flags c o p.on_way;
    idle = λ e. absurd (cc);
    free = λ e f g.
        let why = refused mode arrival word shut e f in
        let desig : word.desig ≡ false = elim (and_cases word.desig (not (is_woken arrival)) g) [ inl d ↦ d | inr n ↦ absurd (both_ways (is_woken arrival) why.0 (not-false (is_woken arrival) n)) ] in
        let stuck = (p.free e f desig).0 in
        elim why.1 [
          | inl waits ↦ absurd (both_ways word.writer_waits (ap (λ b. b.writer_waits) (homed.bits clear) ∙ writer_eligible (λ c. holds c now) lock stuck) waits)
          | inr long ↦ absurd (both_ways (has_eligible (λ c. holds c now) lock) stuck (long_can (sym (ap (λ b. b.long) (homed.bits clear)) ∙ long)))
        ];
    empty = λ e. absurd (cc);
  }

  -- a seat puts itself in
  pub puts : (mode : Mode) (c : Option C) (tries : ℕ) (first : Bool) (word : Word) (now : List ℕ) (lock : List (Waiter C)) (flags : ℕ → ℕ) → CallsSame → is_queuing walk ≡ true → ((flag n : ℕ) → is_on_way walk flag n ≡ false) →
      Known holds word now lock flags (olds m) → Known holds (word_returned false (bits_of (queued who mode c tries first lock)) word) now (queued who mode c tries first lock) flags (news m)
  puts mode c tries first word now lock flags calls q o p =
      let count : queuers (olds m) ≡ queuers front + (one_if (is_queuing walk) + queuers back) = total_amid (λ (view : SeatView C N). one_if (is_queuing view.walk)) front (view_of who walk held owed) back in
      let one : one_if (is_queuing walk) ≡ 1 = ap one_if q in
      let some : queuers (olds m) ≢ 0 = λ z. absurd (omega (arith, count, one, z)) in
      record {
        on_way = λ e. way_on flags calls (λ f. absurd (both_ways _ (o (flags who) (called_to who (olds m))) f)) (p.on_way e);
        idle = λ e. absurd (some (p.idle (and_parts word.all_false _ (and_parts (word.all_false && _) true e).0).0).1);
        free = λ e f g. absurd (some (p.free e f g).1);
        empty = λ e. absurd (both_ways (has_some (queued who mode c tries first lock)) e (some_queued who mode c tries first lock));
      }

  -- The queues are put back with some of the lock list gone, or the list as it was.
  pub withdraws : (word : Word) (now : List ℕ) (lock lock' : List (Waiter C)) (flags : ℕ → ℕ) → CallsSame → has_queues walk ≡ true → is_queuing walk ≡ false → is_queuing walk' ≡ false →
      (is_on_way walk (flags who) (called_to who (olds m)) ≡ true → is_on_way walk' (flags who) (called_to who (olds m)) ≡ true) → (has_eligible (λ c. holds c now) lock ≡ false → has_eligible (λ c. holds c now) lock' ≡ false) → Homed word lock (olds m) →
      Known holds word now lock flags (olds m) → Known holds (word_returned false (bits_of lock') word) now lock' flags (news m)
  withdraws word now lock lock' flags calls spin q q' o fewer homed p =
      let same = same_queuers (q' ∙ sym q) in
      let keep : NobodyCouldGoOn holds now lock (olds m) → NobodyCouldGoOn holds now lock' (news m) = λ was. (fewer was.0, same ∙ was.1) in
      record {
        on_way = λ e. way_on flags calls o (p.on_way e);
        idle = λ e. keep (p.idle (and_parts word.all_false _ (and_parts (word.all_false && _) true e).0).0);
        free = λ e f g. keep (p.free e f g);
        empty = λ e. (e, alone word lock spin q' homed);
      }

  -- The queues are put back with some moved to the lock list, by one that found the lock held.
  pub moves_in : (word : Word) (now : List ℕ) (lock taken : List (Waiter C)) (flags : ℕ → ℕ) → CallsSame → ((flag n : ℕ) → is_on_way walk flag n ≡ true → is_on_way walk' flag n ≡ true) → is_held word ≡ true → has_some taken ≡ true →
      Known holds word now lock flags (olds m) → Known holds (word_returned true (bits_of (lock ++ taken)) word) now (lock ++ taken) flags (news m)
  moves_in word now lock taken flags calls o busy some p = record {
    on_way = λ e. way_on flags calls (o (flags who) (called_to who (olds m))) (p.on_way e);
    idle = λ e. let parts = and_parts (word.all_false && has_some (lock ++ taken)) false e in absurd (both_ways false refl parts.1);
    free = λ e f g. absurd (both_ways (is_held word) (rw e (rw f refl)) busy);
    empty = λ e. absurd (both_ways (has_some (lock ++ taken)) e (some_append lock taken some));
  }

  -- A release that needs no scan: nobody waits, or it is excused. Where it is, or the word goes on to say that all conditions are false, they are false of the row that is left.
  released : (word word' : Word) (now now' : List ℕ) (lock : List (Waiter C)) (flags : ℕ → ℕ) (excused : Bool) → (word'.desig ≡ word.desig) × (word'.waiting ≡ word.waiting) → (word.waiting && not word.desig && not excused) ≡ false →
      ((word'.all_false ≡ true) ⊎ ((excused ≡ true) × (word'.readers ≡ 0)) → (word.all_false ≡ true) × (has_eligible (λ c. holds c now) lock ≡ false → has_eligible (λ c. holds c now') lock ≡ false)) →
      CallsSame → is_queuing walk' ≡ is_queuing walk → ((flag n : ℕ) → is_on_way walk flag n ≡ true → is_on_way walk' flag n ≡ true) →
      Known holds word now lock flags (olds m) → Known holds word' now' lock flags (news m)
  released word word' now now' lock flags excused tells calm soft calls q o p =
      let same = same_queuers q in
      let keep : (word'.all_false ≡ true) ⊎ ((excused ≡ true) × (word'.readers ≡ 0)) → NobodyCouldGoOn holds now' lock (news m) = λ way. let is = soft way in let was = p.idle is.0 in (is.1 was.0, same ∙ was.1) in
      record {
        on_way = λ e. way_on flags calls (o (flags who) (called_to who (olds m))) (p.on_way (sym tells.0 ∙ e));
        idle = λ e. keep (inl e);
        free = λ e f g. elim (no_scan word.waiting word.desig excused calm (sym tells.0 ∙ g)) [
          | inl none ↦ let was = p.empty none in (none_eligible (λ c. holds c now') lock was.0, same ∙ was.1)
          | inr x ↦ keep (inr (x, f))
        ];
        empty = λ e. let was = p.empty (sym tells.1 ∙ e) in (was.0, same ∙ was.1);
      }

  -- a release without a scan
  pub releases : (releasing : Releasing) (word : Word) (now now' : List ℕ) (lock : List (Waiter C)) (flags : ℕ → ℕ) → CallsSame → needs_scan releasing word ≡ false →
      (is_loud releasing ≡ false → has_eligible (λ c. holds c now) lock ≡ false → has_eligible (λ c. holds c now') lock ≡ false) →
      is_queuing walk' ≡ is_queuing walk → ((flag n : ℕ) → is_on_way walk flag n ≡ true → is_on_way walk' flag n ≡ true) →
      Known holds word now lock flags (olds m) → Known holds (word_released releasing word) now' lock flags (news m)
  releases Writer word now now' lock flags calls calm row q o p = released word (word_released Writer word) now now' lock flags false (refl, refl) calm (λ way. absurd (elim way [ inl e ↦ both_ways false refl e | inr e ↦ both_ways false refl e.0 ])) calls q o p
  releases QuietWriter word now now' lock flags calls calm row q o p = released word (word_released QuietWriter word) now now' lock flags word.all_false (refl, refl) calm (λ way. (elim way [ inl e ↦ e | inr e ↦ e.0 ], row refl)) calls q o p
  releases Reader word now now' lock flags calls calm row q o p =
      released word (word_released Reader word) now now' lock flags (ltb 1 word.readers || word.all_false) (refl, refl) calm
      (λ way. (elim way [ inl e ↦ e | inr e ↦ elim (or_cases (ltb 1 word.readers) word.all_false e.0) [ inl big ↦ let more = ltb-true 1 word.readers big in absurd (omega (arith, more, e.1)) | inr all ↦ all ] ], row refl)) calls q o p

  -- A scan, with the release of a section that leaves the row now'. What is put back has nobody who can go on where the scan leaves nobody.
  pub scans : (releasing : Releasing) (word : Word) (now now' : List ℕ) (lists : Lists C) (lock' : List (Waiter C)) (flags : ℕ → ℕ) → has_queues walk ≡ true → is_queuing walk' ≡ false → awaits walk ≡ false → ((flag n : ℕ) → is_on_way walk flag n ≡ false) →
      let meets : C → Bool = λ c. holds c now' in
      owed ≡ [] → owed' ≡ called_of (woken_of meets lists.lock) → calls_from_lock walk' ≡ true →
      (has_eligible meets (left_of meets lists.lock) ≡ false → has_eligible meets lock' ≡ false) →
      Homed word lists.lock (olds m) → WaitersPlaced lists flags (olds m) →
      Known holds word now lists.lock flags (olds m) → Known holds (word_released_returning releasing (has_some (woken_of meets lists.lock)) (bits_of lock') word) now' lock' flags (news m)
  scans releasing word now now' lists lock' flags spin q' a o none owes from calm homed placed p =
      let meets : C → Bool = λ c. holds c now' in
      let lock = lists.lock in
      let took = has_some (woken_of meets lock) in
      let nobody : queuers (news m) ≡ 0 = alone word lock spin q' homed in
      let idle : took ≡ false → NobodyCouldGoOn holds now' lock' (news m) = λ e. let left = woken_none meets lock e in (calm (subst (λ ws. has_eligible meets ws ≡ false) (sym left.1) left.0), nobody) in
      let before : (seat : ℕ) → called walk owed seat ≡ 0 = λ seat. nothing_called walk owed seat none in
      let after_all : (seat : ℕ) → called walk' owed' seat ≡ times_in seat (woken_of meets lock) = λ seat. rw from (ap (times_among seat) owes ∙ times_seats seat (woken_of meets lock)) in
      record {
        on_way = λ e. elim (or_cases took word.desig e) [
          | inl t ↦
              let one = some_seat (woken_of meets lock) t in
              let seat = one.0 in
              let sum : counts_in seat lists + _ ≡ one_if (is_unwoken (walk_at seat (olds m)) (flags seat)) = placed.placed seat in
              let part = times_scan seat meets lock in
              let waits : awaits (walk_at seat (olds m)) ≡ true = due_awaits (walk_at seat (olds m)) (flags seat) (omega (arith, sum, part, one.1)) in
              let other : who ≢ seat = λ f. both_ways (awaits walk) a (subst (λ w. awaits w ≡ true) (walk_was m) (subst (λ s. awaits (walk_at s (olds m)) ≡ true) (sym f) waits)) in (
                seat,
                subst (λ w. is_on_way w (flags seat) (called_to seat (news m)) ≡ true) (sym (walk_stays m seat other))
                    (called_on_way (walk_at seat (olds m)) (flags seat) (called_to seat (news m)) waits (omega (arith, called_new seat, after_all seat, one.1))),
              )
          | inr d ↦ way flags flags (λ f. absurd (both_ways (is_on_way walk (flags who) (called_to who (olds m))) (o (flags who) (called_to who (olds m))) f))
              (λ seat ne f. more_on_way (walk_at seat (olds m)) (flags seat) (called_to seat (olds m)) (called_to seat (news m)) (omega (arith, called_old seat, called_new seat, before seat)) f) (p.on_way d)
        ];
        idle = λ e. idle (not-true took (and_parts (has_some lock') (not took) e).1);
        free = λ e f g. idle (or_parts took word.desig g).0;
        empty = λ e. (e, nobody);
      }

  -- a seat sets its flag
  pub arms : (word : Word) (now : List ℕ) (lock : List (Waiter C)) (flags : ℕ → ℕ) → CallsSame → is_queuing walk' ≡ is_queuing walk → ((flag n : ℕ) → is_on_way walk flag n ≡ false) →
      Known holds word now lock flags (olds m) → Known holds word now lock (flags_with flags who 1) (news m)
  arms word now lock flags calls q o p =
      known_on word word now lock flags (flags_with flags who 1) q (refl, refl) (λ e f g. (e, f, g))
      (λ e. way flags (flags_with flags who 1) (λ f. absurd (both_ways (is_on_way walk (flags who) (called_to who (olds m))) (o (flags who) (called_to who (olds m))) f))
      (λ seat ne f. subst (λ n. is_on_way (walk_at seat (olds m)) n (called_to seat (news m)) ≡ true) (sym (ap (λ b. cond b 1 (flags seat)) (ne_eqb who seat ne)))
      (subst (λ n. is_on_way (walk_at seat (olds m)) (flags seat) n ≡ true) (sym (same_called calls seat)) f)) (p.on_way e)) p

  -- a seat pays a wake
  pub pays_one : (word : Word) (now : List ℕ) (lists : Lists C) (flags : ℕ → ℕ) (wake : Owed) → owed ≡ wake ∷ owed' → calls_from_lock walk ≡ is_from_lock wake.value → ((seat : ℕ) → called walk' owed' seat ≡ cond (is_from_lock wake.value) (times_among seat owed') 0) →
      is_queuing walk' ≡ is_queuing walk → awaits walk' ≡ awaits walk → was_woken walk' ≡ was_woken walk → WaitersPlaced lists flags (olds m) →
      Known holds word now lists.lock flags (olds m) → Known holds word now lists.lock (flags_with flags wake.seat wake.value) (news m)
  pays_one word now lists flags wake owes calls after_all q a w placed p =
      let target = wake.seat in let value = wake.value in
      let due : (seat : ℕ) → target ≡ seat → flags seat ≡ 1 = λ seat e. let due = due_of m wake seat lists flags owes e placed in due_flag (walk_at seat (olds m)) (flags seat) (omega (arith, due)) in
      let goes : (seat : ℕ) (at : Option (Walk C)) → is_on_way at (flags seat) (called_to seat (olds m)) ≡ true → is_on_way at (flags_with flags target value seat) (called_to seat (news m)) ≡ true = λ seat at f.
      elim (cases_eq target seat) [
        | inl e ↦ subst (λ n. is_on_way at n (called_to seat (news m)) ≡ true) (sym (ap (λ b. cond b value (flags seat)) (eq-eqb target seat e))) (elim (cases_Bool (is_from_lock value)) [
          | inl said ↦ or_more (was_woken at) (awaits at) _ (is_from_lock value || ltb 0 (called_to seat (news m))) (λ z. rw said refl) f
          | inr other ↦
              let here : called walk owed seat ≡ 0 = ap (λ b. cond b (times_among seat owed) 0) (calls ∙ other) in
              let there : called walk' owed' seat ≡ 0 = after_all seat ∙ ap (λ b. cond b (times_among seat owed') 0) other in
              let now_is : called_to seat (news m) ≡ called_to seat (olds m) = omega (arith, called_old seat, called_new seat, here, there) in
              subst (λ n. is_on_way at value n ≡ true) (sym now_is) (rw other (subst (λ n. is_on_way at n (called_to seat (olds m)) ≡ true) (due seat e) f))
        ])
        | inr ne ↦
            let fewer : times_among seat owed ≡ times_among seat owed' = ap (times_among seat) owes ∙ rw (ne_eqb target seat ne) (omega arith) in
            let here : called walk owed seat ≡ called walk' owed' seat = ap (λ b. cond b (times_among seat owed) 0) calls ∙ ap (λ n. cond (is_from_lock value) n 0) fewer ∙ sym (after_all seat) in
            let now_is : called_to seat (news m) ≡ called_to seat (olds m) = omega (arith, called_old seat, called_new seat, here) in
            subst (λ n. is_on_way at n (called_to seat (news m)) ≡ true) (sym (ap (λ b. cond b value (flags seat)) (ne_eqb target seat ne))) (subst (λ n. is_on_way at (flags seat) n ≡ true) (sym now_is) f)
      ] in
      known_on word word now lists.lock flags (flags_with flags target value) q (refl, refl) (λ e f g. (e, f, g))
      (λ e. way flags (flags_with flags target value) (λ f. rw (w, a) (goes who walk f)) (λ seat ne f. goes seat (walk_at seat (olds m)) f) (p.on_way e)) p

  -- a seat sees its flag cleared
  pub sees_wake : (word : Word) (now : List ℕ) (lists : Lists C) (flags : ℕ → ℕ) → CallsSame → is_queuing walk' ≡ is_queuing walk → flags who ≢ 1 →
      (is_on_way walk (flags who) 0 ≡ true → is_on_way walk' (flags who) 0 ≡ true) → WaitersPlaced lists flags (olds m) →
      Known holds word now lists.lock flags (olds m) → Known holds word now lists.lock flags (news m)
  sees_wake word now lists flags calls q clear o placed p =
      let sum : counts_in who lists + owed_to who (olds m) ≡ 0 = placed_here m lists flags placed ∙ rw (cleared walk (flags who) clear) refl in
      let none : called_to who (olds m) ≡ 0 = let most = called_most who (olds m) in omega (arith, sum, most) in
      known_on word word now lists.lock flags flags q (refl, refl) (λ e f g. (e, f, g))
      (λ e. way_on flags calls (λ f. subst (λ n. is_on_way walk' (flags who) n ≡ true) (sym none) (o (subst (λ n. is_on_way walk (flags who) n ≡ true) none f))) (p.on_way e)) p
