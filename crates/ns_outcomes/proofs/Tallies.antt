-- What is counted after one run more, what the counts give as a list, and the blocks of one outcome more.
use Rattle.std.proofs.Common.{All, AllPairs, Bool, Contains, IfSome, IsPermutation, IsSortedBy, List, None, Option, Some, String, [], add-one, add-zero, ap, append-nil, append_assoc, arith, below_more, bytes_eq, cond, count_by, eq-eqb, false, get_or, inl, inr, le-ltb, length, length-take-le}
use Rattle.std.proofs.Common.{lt-ltb, map, option_map, position, refl, slice_get, string_bytes, string_cmp, subst, suc, sum, sym, take, true, zero-add, ℕ, ◌*◌, ◌++◌, ◌+◌, ◌<◌, ◌^◌, ◌∙◌, ◌∷◌, ◌≡◌, ◌≤◌, ◌⊎◌}
use Rattle.ns_outcomes.proofs.Prelude.{All-found, All-map, All-permutation, All-weaker, AllByRecursion, AllPairs-from_IsDistinct, AreRuns, BadScript, Contains-permutation, Count, Counts, CountsOnceMore, Fault, Found, Global, HasCounted, IsBefore, IsCountFault, IsDistinct, IsDistinct-IsPermutation}
use Rattle.ns_outcomes.proofs.Prelude.{IsDistinct-cons, IsDistinct-from_apart, IsDistinct-from_sorted, IsDistinct-head, IsDistinct-tail, IsDrawFault, IsFound, IsOrdered, IsOutcomeOf, IsPermutation-map, IsTally, NotJson, OutOfMemory, Plan, Read, Seeds, StepLimit, TooMany, Write, back_total}
use Rattle.ns_outcomes.proofs.Prelude.{block_text, blocks_text, bytes_decides, cases_lt, cases_order, count_by-le-length, counted, counted_at, eq_by_cmp, found_of, get_by_text, get_or-le-sum_by, get_or_append_left, get_or_from_slice_get, get_or_push, is_at, is_eq-slice_cmp, is_lt, keys_of}
use Rattle.ns_outcomes.proofs.Prelude.{length_push, lookup, nat_cmp, nat_cmp_total, nat_list_eq_equiv, on_total, once_more, option_or, ordering_then, place_from_lookup, position_from, position_from-zero, ranks_by, same_Some, seed_at, slice_cmp, slice_get-map, slice_get_within, sorted_far}
use Rattle.ns_outcomes.proofs.Prelude.{string_cmp_total, sum_by-cons, sum_by_push, take-suc, texts_of, then_total, times}

-- ---- the first place that passes, and how many pass

module _ {X : Type 0} (p : X → Bool) where
  -- an element more is the first that passes, if none did before
  seek_push : (i : ℕ) (xs : List X) (y : X) → position_from p i (xs ++ y ∷ []) ≡ option_or (position_from p i xs) (cond (p y) (Some (i + length xs)) None)
  seek_push i [] y = ap (λ (n : ℕ). cond (p y) (Some n) None) (sym (add-zero i))
  seek_push i (x ∷ xs) y =
      let next : i + 1 + length xs ≡ i + length (x ∷ xs) = omega arith in
      let more = seek_push (i + 1) xs y ∙ ap (λ (n : ℕ). option_or (position_from p (i + 1) xs) (cond (p y) (Some n) None)) next in
      elim (p x) as (λ b. cond b (Some i) (position_from p (i + 1) (xs ++ y ∷ [])) ≡ option_or (cond b (Some i) (position_from p (i + 1) xs)) (cond (p y) (Some (i + length (x ∷ xs))) None)) [
        | true ↦ refl
        | false ↦ more
      ]

  position_push : (xs : List X) (y : X) → position p (xs ++ y ∷ []) ≡ option_or (position p xs) (cond (p y) (Some (length xs)) None)
  position_push xs y =
      rw (position_from-zero p (xs ++ y ∷ []), position_from-zero p xs)
      (seek_push 0 xs y ∙ ap (λ (n : ℕ). option_or (position_from p 0 xs) (cond (p y) (Some n) None)) (zero-add (length xs)))

  -- where none is found, none passes
  none_from : (i : ℕ) (xs : List X) → position_from p i xs ≡ None → count_by p xs ≡ 0
  none_from i [] none = refl
  none_from i (x ∷ xs) none =
      let more = none_from (i + 1) xs in
      sum_by-cons (λ y. cond (p y) 1 0) x xs
      ∙ elim (p x) as (λ b. cond b (Some i) (position_from p (i + 1) xs) ≡ None → cond b 1 0 + count_by p xs ≡ 0) [
        | true ↦ λ h. absurd cc
        | false ↦ λ h. zero-add (count_by p xs) ∙ more h
      ] none

  none_passes : (xs : List X) → position p xs ≡ None → count_by p xs ≡ 0
  none_passes xs none = none_from 0 xs (sym (position_from-zero p xs) ∙ none)

  -- where an element passes, one is found
  is_there : (xs : List X) (k : ℕ) (d : X) → k < length xs → p (get_or xs k d) ≡ true → (o : Option ℕ) → position p xs ≡ o → (place : ℕ) × (position p xs ≡ Some place)
  is_there xs k d lt passes None none =
      let least : cond (p (get_or xs k d)) 1 0 ≤ count_by p xs = get_or-le-sum_by (λ y. cond (p y) 1 0) xs k d lt in
      let one : 1 ≤ count_by p xs = rw passes at least in
      absurd (omega (arith, one, none_passes xs none))
  is_there xs k d lt passes (Some place) here = (place, here)

-- a text is itself
own_text : (text : List ℕ) → bytes_eq text text ≡ true
own_text text = (bytes_decides text text).1 refl

-- ---- one run more

joined : (from n m : ℕ) (o : Option ℕ) → (o ≡ None → n ≡ 0) → option_map (counted_at from (n + 1)) (option_or o (Some m)) ≡ Some (once_more (option_map (counted_at from n) o) (seed_at from m))
joined from n m None none = rw (none refl) refl
joined from n m (Some place) none = refl

or_none : (o : Option ℕ) → option_or o None ≡ o
or_none None = refl
or_none (Some place) = refl

-- of the text that the run came to
more_same : (from : ℕ) (runs : List (List ℕ)) (run : List ℕ) → counted from (runs ++ run ∷ []) run ≡ Some (once_more (counted from runs run) (seed_at from (length runs)))
more_same from runs run =
    let place : position (bytes_eq run) (runs ++ run ∷ []) ≡ option_or (position (bytes_eq run) runs) (Some (length runs)) = rw (own_text run) at (position_push (bytes_eq run) runs run) in
    let count : times (runs ++ run ∷ []) run ≡ times runs run + 1 = rw (own_text run) at (sum_by_push (λ r. cond (bytes_eq run r) 1 0) runs run) in
    rw (place, count) (joined from (times runs run) (length runs) (position (bytes_eq run) runs) (none_passes (bytes_eq run) runs))

-- of another
more_other : (from : ℕ) (runs : List (List ℕ)) (run text : List ℕ) → bytes_eq run text ≡ false → counted from (runs ++ run ∷ []) text ≡ counted from runs text
more_other from runs run text apart =
    let not_it : bytes_eq text run ≡ false = nat_list_eq_equiv.symm text run ∙ apart in
    let place : position (bytes_eq text) (runs ++ run ∷ []) ≡ option_or (position (bytes_eq text) runs) None = rw not_it at (position_push (bytes_eq text) runs run) in
    let count : times (runs ++ run ∷ []) text ≡ times runs text + 0 = rw not_it at (sum_by_push (λ r. cond (bytes_eq text r) 1 0) runs run) in
    rw (place ∙ or_none (position (bytes_eq text) runs), count ∙ add-zero (times runs text)) refl

counted_more : (from : ℕ) (runs : List (List ℕ)) (run text : List ℕ) (b : Bool) → bytes_eq run text ≡ b → counted from (runs ++ run ∷ []) text ≡ cond b (Some (once_more (counted from runs run) (seed_at from (length runs)))) (counted from runs text)
counted_more from runs run text true same = rw (← ((bytes_decides run text).0 same)) (more_same from runs run)
counted_more from runs run text false apart = more_other from runs run text apart

-- a tally that counts one run more has counted it
has_counted_more : (from : ℕ) (runs : List (List ℕ)) (run : List ℕ) (old new : Counts) → HasCounted from runs old → CountsOnceMore old run (seed_at from (length runs)) new → HasCounted from (runs ++ run ∷ []) new
has_counted_more from runs run old new has more = λ text. more text ∙ rw (has run, has text) (sym (counted_more from runs run text (bytes_eq run text) refl))

room_at : (from n : ℕ) (o : Option ℕ) → n + 1 < 2 ^ 32 → IfSome (option_map (counted_at from n) o) (λ before. before.count + 1 < 2 ^ 32)
room_at from n None few = tt
room_at from n (Some place) few = few

sum_push : (ns : List ℕ) (n : ℕ) → sum (ns ++ n ∷ []) ≡ sum ns + n
sum_push ns n = sum_by_push (λ m. m) ns n

-- there is room for a run more, where there are few enough
pub has_room : (from : ℕ) (runs : List (List ℕ)) (tally : Counts) (text : List ℕ) → HasCounted from runs tally → length runs + 1 < 2 ^ 32 → IfSome (get_by_text tally.by_text text) (λ before. before.count + 1 < 2 ^ 32)
has_room from runs tally text has few =
    let most : times runs text ≤ length runs = count_by-le-length (bytes_eq text) runs in
    rw (has text) (room_at from (times runs text) (position (bytes_eq text) runs) (omega (arith, most)))

-- the outcomes and turns of one run more
runs_more : (limit from count : ℕ) (plan : Plan) (runs : List (List ℕ)) (turns : List ℕ) (text : List ℕ) (n : ℕ) → AreRuns limit from count plan runs turns → IsOutcomeOf limit plan (seed_at from count) text n →
    AreRuns limit from (count + 1) plan (runs ++ text ∷ []) (turns ++ n ∷ [])
runs_more limit from count plan runs turns text n made comes =
    let many = made.many in
    let counted = made.counted in
    let outcome = λ (k : ℕ) (t : List ℕ) (m : ℕ). IsOutcomeOf limit plan (seed_at from k) t m in
    record {
      many = length_push runs text ∙ ap (λ (m : ℕ). m + 1) many;
      counted = length_push turns n ∙ ap (λ (m : ℕ). m + 1) counted;
      each = below_more _ _
          (λ k lt.
          let first : k < length runs = omega arith in
          let second : k < length turns = omega arith in
          subst (λ (m : ℕ). outcome k (get_or (runs ++ text ∷ []) k []) m) (sym (get_or_append_left turns (n ∷ []) 0 k second))
          (subst (λ (t : List ℕ). outcome k t (get_or turns k 0)) (sym (get_or_append_left runs (text ∷ []) [] k first)) (made.each k lt)))
          (subst (λ (m : ℕ). outcome count (get_or (runs ++ text ∷ []) count []) m) (sym (get_or_push turns n 0 count counted))
          (subst (λ (t : List ℕ). outcome count t n) (sym (get_or_push runs text [] count many)) comes));
    }

-- the outcomes and turns of so many runs, their counts, and the sum of the turns, for which 64 bits have room
pub record HaveRun (limit from number : ℕ) (plan : Plan) (counts : Counts) (all : ℕ) : Type 0 where
  pub runs : List (List ℕ)
  pub turns : List ℕ
  pub made : AreRuns limit from number plan runs turns
  pub has : HasCounted from runs counts
  pub total : all ≡ sum turns
  pub room : all ≤ number * 4294967295

-- none is made
pub no_runs : (limit from : ℕ) (plan : Plan) (counts : Counts) → HasCounted from [] counts → HaveRun limit from 0 plan counts 0
no_runs limit from plan counts has = record { runs = []; turns = []; made = record { many = refl; counted = refl; each = λ k lt. absurd (omega arith) }; has = has; total = refl; room = omega arith }

-- a run more, and its count
pub one_more : (limit from number seed : ℕ) (plan : Plan) (run : List ℕ) (n : ℕ) (old new : Counts) (all more : ℕ) → seed ≡ seed_at from number → HaveRun limit from number plan old all → IsOutcomeOf limit plan seed run n → CountsOnceMore old run seed new →
    more ≡ all + n → n ≤ 4294967295 → HaveRun limit from (number + 1) plan new more
one_more limit from number seed plan run n old new all more is have comes counts sums few =
    let by : seed ≡ seed_at from (length have.runs) = is ∙ ap (seed_at from) (sym have.made.many) in
    let total : sum (have.turns ++ n ∷ []) ≡ sum have.turns + n = sum_push have.turns n in
    let before = have.total in
    let room = have.room in
    record {
      runs = have.runs ++ run ∷ [];
      turns = have.turns ++ n ∷ [];
      made = runs_more limit from number plan have.runs have.turns run n have.made (subst (λ (s : ℕ). IsOutcomeOf limit plan s run n) is comes);
      has = has_counted_more from have.runs run old new have.has (subst (λ (s : ℕ). CountsOnceMore old run s new) by counts);
      total = omega (arith, sums, total, before);
      room = omega (arith, sums, few, room);
    }

-- why a seed has no run, behind the runs of those before it
pub long_run : (seeds : Seeds) (plan : Plan) (counts : Counts) (all number : ℕ) (told : Option ℕ) (fault : Fault) → number < seeds.count → HaveRun seeds.limit seeds.from number plan counts all → IsDrawFault seeds.limit plan (seed_at seeds.from number) fault →
    told ≡ Some (seed_at seeds.from number) → IsCountFault seeds plan told fault
long_run seeds plan counts all number told OutOfMemory lt have h named = tt
long_run seeds plan counts all number told StepLimit lt have h named = record { earlier = number; few = lt; runs = have.runs; turns = have.turns; made = have.made; long = h; named = named }
long_run seeds plan counts all number told NotJson lt have h named = absurd h
long_run seeds plan counts all number told (BadScript path) lt have h named = absurd h
long_run seeds plan counts all number told (TooMany path) lt have h named = absurd h
long_run seeds plan counts all number told Read lt have h named = absurd h
long_run seeds plan counts all number told Write lt have h named = absurd h

-- ---- the list of what was counted

parts : (from n : ℕ) (o : Option ℕ) (here : Count) → option_map (counted_at from n) o ≡ Some here → (here.count ≡ n) × (option_map (seed_at from) o ≡ Some here.first)
parts from n None here is = absurd cc
parts from n (Some place) here is =
    let same = same_Some _ _ is in
    (ap (λ (c : Count). c.count) (sym same), ap (λ (c : Count). Some c.first) same)

each_found : (from : ℕ) (runs : List (List ℕ)) (tally : Counts) → IsOrdered string_cmp tally.by_text → HasCounted from runs tally → All (IsFound from runs) (map found_of tally.by_text.entries)
each_found from runs tally ordered has =
    All-map (IsFound from runs) found_of tally.by_text.entries
    (All-weaker _ (λ e. IsFound from runs (found_of e))
    (λ e here.
    let p = parts from (times runs (string_bytes e.0)) (position (bytes_eq (string_bytes e.0)) runs) e.1 (sym (has (string_bytes e.0)) ∙ here) in
    record { count = p.0; first = p.1 })
    tally.by_text.entries (All-found string_cmp_total tally.by_text ordered))

-- a text of which something is counted is in the list
text_listed : (es : List (String Global × Count)) (text : List ℕ) (here : Count) → lookup (is_at (λ k. slice_cmp nat_cmp text (string_bytes k))) es ≡ Some here → Contains (texts_of (map found_of es)) text
text_listed es text here is =
    let at = place_from_lookup _ es here is in
    let got : slice_get (texts_of (map found_of es)) at.0 ≡ Some (string_bytes at.1) =
    slice_get-map (λ (f : Found). string_bytes f.text) (map found_of es) at.0 ∙ ap (option_map (λ (f : Found). string_bytes f.text)) (slice_get-map found_of es at.0 ∙ ap (option_map found_of) at.2) in
    let same : text ≡ string_bytes at.1 = (bytes_decides text (string_bytes at.1)).0 (sym (is_eq-slice_cmp text (string_bytes at.1)) ∙ at.3) in
    (at.0, slice_get_within _ at.0 _ got, get_or_from_slice_get _ at.0 _ text got ∙ sym same)

all_listed : (from : ℕ) (runs : List (List ℕ)) (tally : Counts) → HasCounted from runs tally → All (Contains (texts_of (map found_of tally.by_text.entries))) runs
all_listed from runs tally has k d lt =
    let run = get_or runs k d in
    let there = is_there (bytes_eq run) runs k d lt (own_text run) (position (bytes_eq run) runs) refl in
    text_listed tally.by_text.entries run (counted_at from (times runs run) there.0) (has run ∙ ap (option_map (counted_at from (times runs run))) there.1)

apart_texts : (key : String Global) (es : List (String Global × Count)) → AllByRecursion (λ y. eq_by_cmp string_cmp key y ≡ false) (keys_of es) → AllByRecursion (λ y. bytes_eq (string_bytes key) y ≡ false) (texts_of (map found_of es))
apart_texts key [] h = tt
apart_texts key (e ∷ es) (apart, more) = (sym (is_eq-slice_cmp (string_bytes key) (string_bytes e.0)) ∙ apart, apart_texts key es more)

distinct_texts : (es : List (String Global × Count)) → IsDistinct (eq_by_cmp string_cmp) (keys_of es) → IsDistinct bytes_eq (texts_of (map found_of es))
distinct_texts [] h = IsDistinct-from_apart bytes_eq [] (λ i j d lt within. absurd (omega arith))
distinct_texts (e ∷ es) h =
    IsDistinct-cons bytes_eq (string_bytes e.0) (texts_of (map found_of es)) (apart_texts e.0 es (IsDistinct-head (eq_by_cmp string_cmp) e.0 (keys_of es) h))
    (distinct_texts es (IsDistinct-tail (eq_by_cmp string_cmp) e.0 (keys_of es) h))

-- ---- their order

no_higher : (s t : ℕ) → is_lt (nat_cmp t s) ≡ false → s ≤ t
no_higher s t h =
    elim (cases_lt t s) [
      | inl lt ↦ let never = rw (lt-ltb t s lt) at h in absurd cc
      | inr le ↦ le
    ]

before_from : (m n s t : ℕ) → is_lt (ordering_then (nat_cmp m n) (nat_cmp t s)) ≡ false → (n < m) ⊎ ((m ≡ n) × (s ≤ t))
before_from m n s t h =
    elim (cases_order m n) [
      | inl same ↦ let le : n ≤ m = omega arith in inr (same, no_higher s t (rw (le-ltb m n le, eq-eqb m n same) at h))
      | inr (inl lt) ↦ let never = rw (lt-ltb m n lt) at h in absurd cc
      | inr (inr more) ↦ inl more
    ]

-- what the sort leaves
pub in_order : (found : List Found) → IsSortedBy (λ x y. is_lt (ordering_then (nat_cmp y.count x.count) (nat_cmp x.first y.first))) found → AllPairs IsBefore found
in_order found sorted i j d lt within =
    let total = then_total (on_total (λ (f : Found). f.count) (back_total nat_cmp_total)) (on_total (λ (f : Found). f.first) nat_cmp_total) in
    before_from (get_or found i d).count (get_or found j d).count (get_or found i d).first (get_or found j d).first (sorted_far _ (ranks_by total (λ (f : Found). f)) found sorted i j d (omega arith) within)

-- a list of what was counted, in this order, is the tally of the runs
pub tallied : (tally : Counts) (found : List Found) → IsOrdered string_cmp tally.by_text → IsPermutation (map found_of tally.by_text.entries) found → AllPairs IsBefore found → (from : ℕ) (runs : List (List ℕ)) → HasCounted from runs tally → IsTally from runs found
tallied tally found ordered moved order from runs has =
    let listed = map found_of tally.by_text.entries in
    let texts : IsPermutation (texts_of listed) (texts_of found) = IsPermutation-map (λ (f : Found). string_bytes f.text) listed found moved in
    record {
      each = All-permutation (IsFound from runs) listed found moved (each_found from runs tally ordered has);
      complete = λ k d lt. Contains-permutation (texts_of listed) (texts_of found) _ texts (all_listed from runs tally has k d lt);
      distinct = AllPairs-from_IsDistinct bytes_decides (texts_of found)
          (IsDistinct-IsPermutation bytes_eq nat_list_eq_equiv.symm (texts_of listed) (texts_of found) texts (distinct_texts tally.by_text.entries (IsDistinct-from_sorted string_cmp (keys_of tally.by_text.entries) ordered)));
      order = order;
    }

-- ---- the text

-- what grew twice grew by both
pub grows : (old mid new xs ys : List ℕ) → mid ≡ old ++ xs → new ≡ mid ++ ys → new ≡ old ++ (xs ++ ys)
grows old mid new xs ys e f = f ∙ ap (λ (t : List ℕ). t ++ ys) e ∙ append_assoc old xs ys

-- the last of some blocks has the number of those before it, and the first number
pub blocks_more : (all first : ℕ) (front : List Found) (one : Found) → blocks_text all first (front ++ one ∷ []) ≡ blocks_text all first front ++ block_text all (first + length front) one
blocks_more all first [] one =
    let here : first + 0 ≡ first = omega arith in
    rw (here, append-nil (block_text all first one)) refl
blocks_more all first (found ∷ front) one =
    let next : first + 1 + length front ≡ first + suc (length front) = omega arith in
    rw (blocks_more all (first + 1) front one, next, append_assoc (block_text all first found) (blocks_text all (first + 1) front) (block_text all (first + suc (length front)) one)) refl

-- the blocks up to a place, and the one there
pub blocks_step : (all i : ℕ) (found : List Found) (one : Found) → i < length found → one ≡ get_or found i one → blocks_text all 1 (take (i + 1) found) ≡ blocks_text all 1 (take i found) ++ block_text all (i + 1) one
blocks_step all i found one lt is =
    let more : take (i + 1) found ≡ take i found ++ one ∷ [] = rw (add-one, take-suc found i one lt, ← is) refl in
    let few : i ≤ length found = omega arith in
    let long : length (take i found) ≡ i = length-take-le i found few in
    let number : 1 + length (take i found) ≡ i + 1 = omega (arith, long) in
    rw more (blocks_more all 1 (take i found) one ∙ ap (λ (n : ℕ). blocks_text all 1 (take i found) ++ block_text all n one) number)
