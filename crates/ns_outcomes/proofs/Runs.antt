-- Outcomes: their text, and the runs that they are of.
use Rattle.std.proofs.Common.{Bool, List, T, [], ap, eqb, eqb→eq, false, flat_map, length, map, not, refl, subst, sym, true, ℕ, ◌&&◌, ◌++◌, ◌∙◌, ◌∷◌, ◌≡◌}
use Rattle.ns_outcomes.proofs.Prelude.{Call, ComesTo, EndsOtherwise, HasRun, IsLike, Line, Plan, Script, ScriptCondition, Vec, Whole, flat_map-same, length-map, outcome_text, plan_of, pointwise, range_with_len, thread_text}

-- the same calls are in progress by either test
pub threads_same : (f g : ℕ → Bool) (lines : List Line) (threads : ℕ) → ((seat : ℕ) → f seat ≡ g seat) → flat_map (thread_text f lines) (range_with_len 0 threads) ≡ flat_map (thread_text g lines) (range_with_len 0 threads)
threads_same f g lines threads h = flat_map-same (thread_text f lines) (thread_text g lines) (λ n. rw (h n) refl) (range_with_len 0 threads)

-- two parts, from nothing
pub two_parts : (new mid out a b : List ℕ) → new ≡ [] → mid ≡ new ++ a → out ≡ mid ++ b → out ≡ a ++ b
two_parts new mid out a b e e₁ e₂ = rw (e₂, e₁, e) refl

-- as many threads as lists
pub threads_long : (script : Script) (n : ℕ) → n ≡ length script.threads.items → n ≡ length (plan_of script).threads
threads_long script n count =
    let same : length (map (λ (calls : Vec (Call ScriptCondition)). calls.items) script.threads.items) ≡ length script.threads.items = length-map script.threads.items (λ calls. calls.items) in
    count ∙ sym same

-- a text that was read back, as its parts give it
pub comes : (limit : ℕ) (bytes read : List ℕ) (script : Script) (now : Whole ScriptCondition 8) (lines : List Line) (plan : Plan) (made wanted : List ℕ) (n : ℕ) → read ≡ bytes →
    HasRun limit read (plan_of script) now lines → IsLike (plan_of script) plan → n ≡ length script.threads.items → made ≡ outcome_text n now lines → made ≡ wanted → ComesTo limit bytes plan wanted
comes limit bytes read script now lines plan made wanted n same has_run like count is wants = record {
  read = plan_of script;
  world = now;
  lines = lines;
  has_run = subst (λ (b : List ℕ). HasRun limit b (plan_of script) now lines) same has_run;
  like = like;
  is = sym wants ∙ is ∙ ap (λ (m : ℕ). outcome_text m now lines) (threads_long script n count);
}

-- a text that was read back otherwise
pub ends_otherwise : (limit : ℕ) (bytes read : List ℕ) (script : Script) (now : Whole ScriptCondition 8) (lines : List Line) (plan : Plan) (made wanted : List ℕ) (n : ℕ) → read ≡ bytes →
    HasRun limit read (plan_of script) now lines → n ≡ length script.threads.items → made ≡ outcome_text n now lines → (IsLike (plan_of script) plan → made ≡ wanted → ⊥) → EndsOtherwise limit bytes plan wanted
ends_otherwise limit bytes read script now lines plan made wanted n same has_run count is apart = record {
  read = plan_of script;
  world = now;
  lines = lines;
  has_run = subst (λ (b : List ℕ). HasRun limit b (plan_of script) now lines) same has_run;
  other = λ like e. apart like (is ∙ ap (λ (m : ℕ). outcome_text m now lines) (threads_long script n count) ∙ sym e);
}

-- ---- lists with equal elements

and_parts : (a b : Bool) → (a && b) ≡ true → (a ≡ true) × (b ≡ true)
and_parts true true e = (refl, refl)
and_parts true false e = absurd cc
and_parts false b e = absurd cc

pub pointwise_same : {X : Type 0} (E : X → X → Bool) → ((a b : X) → E a b ≡ true → a ≡ b) → (xs ys : List X) → pointwise E xs ys ≡ true → xs ≡ ys
pointwise_same E h [] [] e = refl
pointwise_same E h [] (y ∷ ys) e = absurd cc
pointwise_same E h (x ∷ xs) [] e = absurd cc
pointwise_same E h (x ∷ xs) (y ∷ ys) e =
    let parts = and_parts (E x y) (pointwise E xs ys) e in
    let first = h x y parts.0 in
    let more = pointwise_same E h xs ys parts.1 in
    rw (first, more) refl

pub pointwise_self : {X : Type 0} (E : X → X → Bool) → ((a : X) → E a a ≡ true) → (xs : List X) → pointwise E xs xs ≡ true
pointwise_self E h [] = refl
pointwise_self E h (x ∷ xs) = rw (h x, pointwise_self E h xs) refl

-- lists that are found to differ aren't equal
pub pointwise_other : {X : Type 0} (E : X → X → Bool) → ((a : X) → E a a ≡ true) → (xs ys : List X) → true ≡ not (pointwise E xs ys) → xs ≡ ys → ⊥
pointwise_other E h xs ys e same =
    let all : pointwise E xs ys ≡ true = subst (λ zs. pointwise E xs zs ≡ true) same (pointwise_self E h xs) in
    let never : true ≡ false = rw all at e in
    absurd cc

pub not_false : (b : Bool) → false ≡ not b → b ≡ true
not_false true e = refl
not_false false e = absurd cc

-- numbers that are found to be equal are
pub number_same : (a b : ℕ) → eqb a b ≡ true → a ≡ b
number_same a b e = eqb→eq a b (subst T (sym e) tt)
