use Rattle.std.proofs.Common.{Bool, IsSome, None, Option, Some, ap, false, is_some, ltb-true, nat_lt, not, refl, subst, sym, true, ℕ, ◌&&◌, ◌<◌, ◌||◌, ◌∙◌, ◌≡◌}
use Rattle.ns_world.proofs.Prelude.{Add, Call, CallFits, CallInRange, CounterWait, Done, Items, Mode, NamesAll, NoteStanding, ObjectWalk, OnObjects, Once, Setup, Value, WaitAny, finds, first_of_all, have_variable, is_among, is_there, items_of, list_all, lower, none_among, note_at, object_start}
use Rattle.ns_world.proofs.Prelude.{rest_of_all, some_among, start_of}
use Rattle.ns_world.proofs.Places.{begins_where}
use Rattle.ns_world.proofs.call.Call.start.Goals as goal

-- a section is in hand where a variable is named just where the test says so
named_from : (mode : Option Mode) (items : Items) → (is_some mode || not (have_variable items)) ≡ true → (k : ℕ) → is_among k (items_of items) ≡ true → IsSome mode
named_from (Some mode) items test k is = refl
named_from None items test k is = by (have_variable items) refl test where
  by : (b : Bool) → have_variable items ≡ b → not b ≡ true → IsSome {T = Mode} None
  by false none e = absurd (none_among (items_of items) k none is)
  by true some e = absurd (cc)

named_to : (mode : Option Mode) (items : Items) → ((k : ℕ) → is_among k (items_of items) ≡ true → IsSome mode) → (is_some mode || not (have_variable items)) ≡ true
named_to (Some mode) items named = refl
named_to None items named = by (have_variable items) refl where
  by : (b : Bool) → have_variable items ≡ b → not b ≡ true
  by false none = refl
  by true some = let one = some_among (items_of items) some in absurd (cc (named one.0 one.1))

both : (a b : Bool) → a ≡ true → b ≡ true → (a && b) ≡ true
both a b p q = rw p q

-- what the test says of the call's need, and where the call begins
record Judges {C : Type 0} (n : ℕ) (setup : Setup) (notes : ℕ → NoteStanding) (mode : Option Mode) (call : Call C) (walk : ObjectWalk) : Type 0 where
  fits : finds setup notes mode call ≡ true → CallFits setup notes call mode
  needs : CallFits setup notes call mode → finds setup notes mode call ≡ true
  begins : OnObjects walk ≡ start_of n mode call

module _ {C : Type 0} (n : ℕ) (setup : Setup) (notes : ℕ → NoteStanding) (mode : Option Mode) where
  counted : (call : Call C) (walk : ObjectWalk) (at below : ℕ) → finds setup notes mode call ≡ nat_lt at below → ◌≡◌ {A = Type 0} (CallFits setup notes call mode) (at < below) → OnObjects walk ≡ start_of n mode call → Judges n setup notes mode call walk
  counted call walk at below test fits begins = record {
    fits = λ e. subst (λ (T : Type 0). T) (sym fits) (ltb-true at below (sym test ∙ e));
    needs = λ p. test ∙ lower (nat_lt at below) at below refl (subst (λ (T : Type 0). T) fits p);
    begins = begins;
  }

  judges : (call : Call C) (walk : ObjectWalk) → CallInRange n call → NamesAll call → object_start call ≡ Some walk → Judges n setup notes mode call walk
  judges (Add counter delta) walk range all is = counted (Add counter delta) walk counter setup.counters refl refl (let same : Some _ ≡ Some walk = is in ap OnObjects (cc))
  judges (Value counter) walk range all is = counted (Value counter) walk counter setup.counters refl refl (cc)
  judges (CounterWait counter deadline) walk range all is = counted (CounterWait counter deadline) walk counter setup.counters refl refl (cc)
  judges (Once once) walk range all is = counted (Once once) walk once setup.cells refl refl (cc)
  judges (Done once) walk range all is = counted (Done once) walk once setup.cells refl refl (cc)
  judges (WaitAny items deadline) walk range all is = record {
    fits = λ e. ((range.0, first_of_all (list_all (is_there setup notes) (items_of items)) (is_some mode || not (have_variable items)) e, all), named_from mode items (rest_of_all (list_all (is_there setup notes) (items_of items)) (is_some mode || not (have_variable items)) e));
    needs = λ p. both (list_all (is_there setup notes) (items_of items)) (is_some mode || not (have_variable items)) p.0.1 (named_to mode items p.1);
    begins = cc;
  }
  judges call walk range all is = absurd (cc)

pub returns-in-Some : goal.returns-in-Some
returns-in-Some g c =
    let judge = judges g.row.N c.args.setup.now (note_at c.args.notes.now) c.args.mode c.args.self c.in-Some.walk c.requires.range c.finds.ensures.many (sym c.on_objects.ensures ∙ c.in-Some.is) in
    begins_where g.row.N c.args.setup.now (note_at c.args.notes.now) c.args.self c.args.mode c.finds.result (OnObjects c.in-Some.walk) c.operate.result c.operate.ensures judge.begins (λ e. judge.fits (sym c.finds.ensures.found ∙ e)) (λ p. c.finds.ensures.found ∙ judge.needs p)
