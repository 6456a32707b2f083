-- Where a wait for variables stands: in the list of each of them.
use Rattle.std.proofs.Common.{Bool, List, None, Some, [], ap, arith, cond, eq-eqb, eqb, eqb-true, false, get_or, inl, inr, length, lt-ltb, ltb, ne_eqb, refl, subst, suc, sym, true, zero, ℕ, ◌%◌, ◌&&◌, ◌*◌, ◌++◌, ◌+◌, ◌/◌, ◌<◌, ◌^◌, ◌∷◌, ◌≡◌, ◌≢◌, ◌≤◌, ◌⊎◌}
use Rattle.ns_word.proofs.Prelude.{Any, AreVariables, Cv, Cvs, Lists, Mode, OnVariables, Only, Variables, Waiter, bit_at, bit_at-lt, bit_at-zero, bit_at_above, bit_at_cat_low, cases_Bool, cases_eq, cases_lt, counts_in, four_kept, get_or-le-sum_by, has, named_for, one_if, one_most, read_apart}
use Rattle.ns_word.proofs.Prelude.{read_back, same_from_bits_below, sum_by, sum_by-cons, times, times_at_most, times_in, times_in-append, times_in-cons, waiters_of, waits_at, with_each, with_waiters, ◌∙◌}
use Rattle.ns_model.specs.Cvs.{is_in}
use Rattle.ns_word.proofs.CountsIn.{OnceInEach, none_one, some_one}

-- ---- variables that there are

and_second : (a b : Bool) → (a && b) ≡ true → b ≡ true
and_second true b e = e
and_second false b e = absurd (cc)

-- a variable of a set that has only numbers below 4
in_set_low : (cvs : Cvs) (k : ℕ) → cvs.0 < 16 → is_in cvs k ≡ true → k < 4
in_set_low cvs k few is = elim (cases_lt k 4) [
  | inl low ↦ low
  | inr high ↦
      let one : bit_at cvs.0 k ≡ 1 = eqb-true (bit_at cvs.0 k) 1 (and_second (ltb k 8) (eqb (bit_at cvs.0 k) 1) is) in
      absurd (omega (arith, one, bit_at_above cvs.0 4 k few high))
]

pub variable_low : (variables : Variables) (k : ℕ) → AreVariables variables → has variables k ≡ true → k < 4
variable_low (Only j) k low is = subst (λ i. i < 4) (eqb-true j k is) low
variable_low (Any cvs) k are is = in_set_low cvs k are.1 is

-- a bit of a variable that isn't in the set
clear_bit : (cvs : Cvs) (k : ℕ) → k < 4 → is_in cvs k ≡ false → bit_at cvs.0 k ≡ bit_at 0 k
clear_bit cvs k low out = elim (cases_eq (bit_at cvs.0 k) 1) [
  | inl one ↦ let is : is_in cvs k ≡ true = rw (lt-ltb k 8 (omega (arith, low)), eq-eqb (bit_at cvs.0 k) 1 one) refl in let both : true ≡ false = sym is ∙ out in absurd (cc)
  | inr other ↦ omega (arith, bit_at-lt cvs.0 k, bit_at-zero k, other)
]

-- one of the first n, or none of them
one_below : (cvs : Cvs) (n : ℕ) → ((k : ℕ) × (is_in cvs k ≡ true)) ⊎ ((i : ℕ) → i < n → is_in cvs i ≡ false)
one_below cvs zero = inr (λ i low. absurd (omega (arith, low)))
one_below cvs (suc n) = elim (one_below cvs n) [
  | inl one ↦ inl one
  | inr none ↦ elim (cases_Bool (is_in cvs n)) [
    | inl is ↦ inl (n, is)
    | inr out ↦ inr (λ i low. elim (cases_eq i n) [ inl e ↦ ap (is_in cvs) e ∙ out | inr ne ↦ none i (omega (arith, low, ne)) ])
  ]
]

-- there is one
pub one_has : (variables : Variables) → AreVariables variables → (k : ℕ) × (has variables k ≡ true)
one_has (Only j) low = (j, eq-eqb j j refl)
one_has (Any cvs) are = elim (one_below cvs 4) [
  | inl one ↦ one
  | inr none ↦ absurd (omega (arith, are.0, same_from_bits_below 4 cvs.0 0 are.1 (omega arith) (λ i low. clear_bit cvs i low (none i low))))
]

-- a set of which all are below 4, and which has some, is of variables that there are
pub are_some : (cvs : Cvs) (k : ℕ) → cvs.0 < 256 → is_in cvs k ≡ true → ((j : ℕ) → is_in cvs j ≡ true → j < 4) → AreVariables (Any cvs)
are_some cvs k byte is low = (some, few) where
  some : 1 ≤ cvs.0
  some = elim (cases_eq cvs.0 0) [
    | inl none ↦
        let one : bit_at cvs.0 k ≡ 1 = eqb-true (bit_at cvs.0 k) 1 (and_second (ltb k 8) (eqb (bit_at cvs.0 k) 1) is) in
        let zero : bit_at cvs.0 k ≡ 0 = ap (λ n. bit_at n k) none ∙ bit_at-zero k in absurd (omega (arith, one, zero))
    | inr any ↦ omega (arith, any)
  ]

  high_clear : (i : ℕ) → i < 8 → 4 ≤ i → bit_at cvs.0 i ≡ 0
  high_clear i inside high = elim (cases_eq (bit_at cvs.0 i) 1) [
    | inl one ↦ let here : is_in cvs i ≡ true = rw (lt-ltb i 8 inside, eq-eqb (bit_at cvs.0 i) 1 one) refl in absurd (omega (arith, low i here, high))
    | inr other ↦ omega (arith, bit_at-lt cvs.0 i, other)
  ]

  low_bits : ℕ
  low_bits = cvs.0 % 16

  same_bit : (i : ℕ) → i < 8 → bit_at cvs.0 i ≡ bit_at low_bits i
  same_bit i inside = elim (cases_lt i 4) [
    | inl below ↦ ap (λ n. bit_at n i) split ∙ bit_at_cat_low (cvs.0 / 16) 4 low_bits i below
    | inr high ↦ high_clear i inside high ∙ sym (bit_at_above low_bits 4 i (omega arith) high)
  ]
    where
      split : cvs.0 ≡ cvs.0 / 16 * 2 ^ 4 + low_bits
      split = omega arith

  few : cvs.0 < 16
  few = let same : cvs.0 ≡ low_bits = same_from_bits_below 8 cvs.0 low_bits byte (omega (arith, byte)) same_bit in omega (arith, same)

-- ---- a waiter at the back of several lists

module _ {C : Type 0} where
  -- a waiter as it stands in the list of one of its variables
  abbrev pub stander : ℕ → Mode → ℕ → Waiter C
  stander who mode k = record { seat = who; mode = mode; cond = None; tries = 0; via = Some k }

  -- It stands at the back of the list of each of these variables, and else the lists are as they were.
  pub record HasEntered (variables : Variables) (who : ℕ) (mode : Mode) (old new : Lists C) : Type 0 where
    pub lock : new.lock ≡ old.lock
    pub four : length new.cvs ≡ 4
    pub into : (k : ℕ) → k < 4 → has variables k ≡ true → waiters_of new (Cv k) ≡ waiters_of old (Cv k) ++ stander who mode k ∷ []
    pub others : (k : ℕ) → k < 4 → has variables k ≡ false → waiters_of new (Cv k) ≡ waiters_of old (Cv k)

  module _ (cvs : Cvs) (w : Waiter C) (old : Lists C) (four : length old.cvs ≡ 4) where
    abbrev below : ℕ → Lists C
    below n = with_each n cvs w old

    abbrev queue : ℕ → List (Waiter C)
    queue n = waiters_of (below n) (Cv n) ++ named_for n w ∷ []

    -- so it is in the lists of those variables of the set whose numbers are below n
    record Upto (n : ℕ) : Type 0 where
      lock : (below n).lock ≡ old.lock
      kept : length (below n).cvs ≡ 4
      into : (k : ℕ) → k < n → is_in cvs k ≡ true → waiters_of (below n) (Cv k) ≡ waiters_of old (Cv k) ++ named_for k w ∷ []
      others : (k : ℕ) → (is_in cvs k ≡ false) ⊎ (n ≤ k) → waiters_of (below n) (Cv k) ≡ waiters_of old (Cv k)

    less_more : (n k : ℕ) → k < suc n → k ≢ n → k < n
    less_more n k less other = elim (cases_lt k n) [ inl low ↦ low | inr high ↦ absurd (other (omega (arith, less, high))) ]

    one_more : (n : ℕ) → n < 4 → Upto n → (b : Bool) → is_in cvs n ≡ b → Upto (suc n)
    one_more n low p true e =
        let is : below (suc n) ≡ with_waiters (below n) (Cv n) (queue n) = ap (λ b. cond b (with_waiters (below n) (Cv n) (queue n)) (below n)) e in
        let at : (k : ℕ) → waiters_of (below (suc n)) (Cv k) ≡ waiters_of (with_waiters (below n) (Cv n) (queue n)) (Cv k) = λ k. ap (λ (l : Lists C). waiters_of l (Cv k)) is in
        record {
          lock = ap (λ (l : Lists C). l.lock) is ∙ p.lock;
          kept = ap (λ (l : Lists C). length l.cvs) is ∙ four_kept (below n) (Cv n) (queue n) ∙ p.kept;
          into = λ k less is_k. elim (cases_eq k n) [
            | inl same ↦ subst (λ j. waiters_of (below (suc n)) (Cv j) ≡ waiters_of old (Cv j) ++ named_for j w ∷ []) (sym same)
                (at n ∙ read_back (below n) (Cv n) (queue n) p.kept low ∙ ap (λ (ws : List (Waiter C)). ws ++ named_for n w ∷ []) (p.others n (inr (omega arith))))
            | inr other ↦ at k ∙ read_apart (below n) n k (queue n) other ∙ p.into k (less_more n k less other) is_k
          ];
          others = λ k out. elim (cases_eq k n) [
            | inl same ↦ elim out [
              | inl lacks ↦ let both : true ≡ false = sym e ∙ ap (is_in cvs) (sym same) ∙ lacks in absurd (cc)
              | inr high ↦ absurd (omega (arith, same, high))
            ]
            | inr other ↦ at k ∙ read_apart (below n) n k (queue n) other ∙ p.others k (elim out [ inl lacks ↦ inl lacks | inr high ↦ inr (omega (arith, high)) ])
          ];
        }
    one_more n low p false e =
        let is : below (suc n) ≡ below n = ap (λ b. cond b (with_waiters (below n) (Cv n) (queue n)) (below n)) e in
        let at : (k : ℕ) → waiters_of (below (suc n)) (Cv k) ≡ waiters_of (below n) (Cv k) = λ k. ap (λ (l : Lists C). waiters_of l (Cv k)) is in
        record {
          lock = ap (λ (l : Lists C). l.lock) is ∙ p.lock;
          kept = ap (λ (l : Lists C). length l.cvs) is ∙ p.kept;
          into = λ k less is_k. at k ∙ p.into k (less_more n k less (λ same. let both : true ≡ false = sym is_k ∙ ap (is_in cvs) same ∙ e in absurd (cc))) is_k;
          others = λ k out. at k ∙ p.others k (elim (cases_eq k n) [
            | inl same ↦ inl (ap (is_in cvs) same ∙ e)
            | inr other ↦ elim out [ inl lacks ↦ inl lacks | inr high ↦ inr (omega (arith, high)) ]
          ]);
        }

    upto : (n : ℕ) → n ≤ 4 → Upto n
    upto zero low = record { lock = refl; kept = four; into = λ k less is. absurd (omega (arith, less)); others = λ k out. refl }
    upto (suc n) low = one_more n (omega (arith, low)) (upto n (omega (arith, low))) (is_in cvs n) refl

  -- so a wait for variables does
  pub entered_at : (variables : Variables) (who : ℕ) (mode : Mode) (again : Bool) (old : Lists C) → length old.cvs ≡ 4 → AreVariables variables → HasEntered variables who mode old (waits_at (OnVariables variables) who mode again old)
  entered_at (Only k) who mode again old four low =
      let queue = waiters_of old (Cv k) ++ stander who mode k ∷ [] in record {
        lock = refl;
        four = four_kept old (Cv k) queue ∙ four;
        into = λ j few is. subst (λ i. waiters_of (with_waiters old (Cv k) queue) (Cv i) ≡ waiters_of old (Cv i) ++ stander who mode i ∷ []) (eqb-true k j is) (read_back old (Cv k) queue four low);
        others = λ j few lacks. read_apart old k j queue (λ e. let both : true ≡ false = sym (eq-eqb k j (sym e)) ∙ lacks in absurd (cc));
      }
  entered_at (Any cvs) who mode again old four are =
      let all = upto cvs (record { seat = who; mode = mode; cond = None; tries = 0; via = None }) old four 4 (omega arith) in record {
        lock = all.lock;
        four = all.kept;
        into = λ k few is. all.into k few is;
        others = λ k few lacks. all.others k (inl lacks);
      }

  -- ---- how often a seat stands there then

  times_into : (who : ℕ) (mode : Mode) (k seat : ℕ) (ws : List (Waiter C)) → times_in seat (ws ++ stander who mode k ∷ []) ≡ times_in seat ws + one_if (eqb who seat)
  times_into who mode k seat ws = omega (arith, times_in-append seat ws (stander who mode k ∷ []), times_in-cons seat (stander who mode k) [])

  module _ (variables : Variables) (who : ℕ) (mode : Mode) (old new : Lists C) (four : length old.cvs ≡ 4) (are : AreVariables variables) (none : times who old ≡ 0) (entered : HasEntered variables who mode old new) where
    out_at : (k : ℕ) → k < 4 → times_in who (waiters_of old (Cv k)) ≡ 0
    out_at k low = omega (arith, times_at_most old (Cv k) who four low, none)

    -- another seat stands in a list as often as before
    pub times_other : (seat k : ℕ) → who ≢ seat → k < 4 → times_in seat (waiters_of new (Cv k)) ≡ times_in seat (waiters_of old (Cv k))
    times_other seat k ne low = elim (cases_Bool (has variables k)) [
      | inl is ↦ ap (times_in seat) (entered.into k low is) ∙ omega (arith, times_into who mode k seat (waiters_of old (Cv k)), ap one_if (ne_eqb who seat ne))
      | inr lacks ↦ ap (times_in seat) (entered.others k low lacks)
    ]

    -- and who entered stands once at most
    times_who : (k : ℕ) → k < 4 → times_in who (waiters_of new (Cv k)) ≤ 1
    times_who k low = elim (cases_Bool (has variables k)) [
      | inl is ↦ omega (arith, ap (times_in who) (entered.into k low is), times_into who mode k who (waiters_of old (Cv k)), out_at k low, one_most (eqb who who))
      | inr lacks ↦ omega (arith, ap (times_in who) (entered.others k low lacks), out_at k low)
    ]

    pub once_entered : OnceInEach old → OnceInEach new
    once_entered once seat k low = elim (cases_eq who seat) [
      | inl e ↦ subst (λ s. times_in s (waiters_of new (Cv k)) ≤ 1) e (times_who k low)
      | inr ne ↦ omega (arith, times_other seat k ne low, once seat k low)
    ]

    pub counts_entered : (seat : ℕ) → counts_in seat new ≡ one_if (eqb who seat) + counts_in seat old
    counts_entered seat = elim (cases_eq who seat) [
      | inl e ↦ subst (λ s. counts_in s new ≡ one_if (eqb who s) + counts_in s old) e here
      | inr ne ↦
          let same = sums_same seat old.cvs new.cvs (entered.four ∙ sym four) (λ k low. times_other seat k ne (omega (arith, low, four))) in
          let zero : one_if (eqb who seat) ≡ 0 = ap one_if (ne_eqb who seat ne) in
          omega (arith, ap (times_in seat) entered.lock, ap (λ n. one_if (ltb 0 n)) same, zero)
    ] where
      here : counts_in who new ≡ one_if (eqb who who) + counts_in who old
      here =
          let one = one_has variables are in
          let low = variable_low variables one.0 are one.1 in
          let self : one_if (eqb who who) ≡ 1 = ap one_if (eq-eqb who who refl) in
          let there = ap (times_in who) (entered.into one.0 low one.1) ∙ times_into who mode one.0 who (waiters_of old (Cv one.0)) in
          let some = get_or-le-sum_by (times_in who) new.cvs one.0 [] (omega (arith, entered.four, low)) in
          let before = none_one (sum_by (times_in who) old.cvs) (omega (arith, none)) in
          let after = some_one (sum_by (times_in who) new.cvs) (omega (arith, some, there, self)) in
          omega (arith, ap (times_in who) entered.lock, before, after, self)

      -- lists that hold the same at each place hold the same in all
      sums_same : (seat : ℕ) (cvs cvs' : List (List (Waiter C))) → length cvs' ≡ length cvs → ((k : ℕ) → k < length cvs → times_in seat (get_or cvs' k []) ≡ times_in seat (get_or cvs k [])) → sum_by (times_in seat) cvs' ≡ sum_by (times_in seat) cvs
      sums_same seat [] [] as_many same = refl
      sums_same seat (ws ∷ cvs) (ws' ∷ cvs') as_many same =
          let rest = sums_same seat cvs cvs' (omega (arith, as_many)) (λ k low. same (suc k) (omega (arith, low))) in
          omega (arith, sum_by-cons (times_in seat) ws cvs, sum_by-cons (times_in seat) ws' cvs', same 0 (omega arith), rest)
      sums_same seat _ _ as_many same = absurd (omega (arith, as_many))
