-- What a lawful world gives to a step of one of its seats.
use Rattle.std.proofs.Common.{IfSome, List, None, Option, Some, [], ap, drop, ltb-true, map, slice_get, subst, suc, sym, take, true, unwrap_or, ℕ, ◌∙◌, ◌∷◌, ◌≡◌, ◌≤◌}
use Rattle.ns_world.proofs.Prelude.{ActFits, AnyWait, Commits, Doing, DoingFits, EnvActFits, EnvWalk, Every, InRound, IsFew, IsLawfulWhole, IsLow, MayGoOn, NeedsSection, NoteStanding, ObjectWalk, OnLock, OnObjects, OnVariable, OutOfMemory, Seat, SeatView, Setup, StepFits, Walk, WalkFits, Whole}
use Rattle.ns_world.proofs.Prelude.{WholeFault, act_fits, asking_of, asks_in_range, env_want_of, first_of_all, is_there, items_of, length-map, list_all, lock_of, looks_at, may_step, notes_of, object_asked, objects_after, objects_of, operating_of, part_in, rest_of_all, view_of, walk_of, want_of}
use Rattle.ns_world.specs.Prelude.{Item}
use Rattle.ns_world.proofs.Mapped.{got-map}
use Rattle.ns_world.proofs.Places.{fits_more}
use Rattle.ns_world.proofs.SeatSet.{number_here, split_here}

low_if_there : (setup : Setup) (notes : ℕ → NoteStanding) (item : Item) → is_there setup notes item ≡ true → IsLow item
low_if_there setup notes (OnVariable k) is = ltb-true k 4 is
low_if_there setup notes other is = tt

all_low : (setup : Setup) (notes : ℕ → NoteStanding) (items : List Item) → list_all (is_there setup notes) items ≡ true → Every IsLow items
all_low setup notes [] all = tt
all_low setup notes (item ∷ items) all = (low_if_there setup notes item (first_of_all (is_there setup notes item) (list_all (is_there setup notes) items) all), all_low setup notes items (rest_of_all (is_there setup notes item) (list_all (is_there setup notes) items) all))

module _ {C : Type 0} {N : ℕ} (world : Whole C N) (lawful : IsLawfulWhole world) (i : ℕ) (seat : Seat C N) (at : slice_get world.seats i ≡ Some seat) where
  abbrev views : List (SeatView C N)
  views = map view_of world.seats

  -- what the law says of the seat's place, where it is doing this
  pub stands_here : (doing : Doing C) → seat.doing ≡ doing → DoingFits world.objects.setup world.env.notes seat.held doing
  stands_here doing is = subst (DoingFits world.objects.setup world.env.notes seat.held) is (lawful.stands i seat at)

  fits_at : (walk : ObjectWalk) → operating_of seat.doing ≡ Some walk → WalkFits world.objects.setup (objects_after world.objects.setup lawful.past.objects) world.env.notes i walk
  fits_at walk is = lawful.led.1.each i walk (ap (λ o. unwrap_or o None) (got-map (λ s. operating_of s.doing) world.seats i seat at) ∙ is)

  -- the step that the seat's walk on the clock and the notes wants may be made
  pub ask_here : (walk : EnvWalk) → asking_of seat.doing ≡ Some walk → EnvActFits world.env.next (env_want_of walk)
  ask_here walk is = asks_in_range lawful.past.notes (notes_of world) i walk (subst (λ n. n ≤ 64) (sym (length-map world.seats (λ s. asking_of s.doing))) lawful.few) lawful.led.0 (got-map (λ s. asking_of s.doing) world.seats i seat at ∙ ap Some is)

  -- the step that the seat's walk on the lock wants may be made
  pub act_here : (walk : Walk C) → walk_of seat.doing ≡ Some walk → ActFits world.truths 64 seat.number (want_of walk) (part_in world seat)
  act_here walk walks = fits_more world.truths _ 64 seat.number (want_of walk) (part_in world seat) lawful.few
      (act_fits world.truths _ lawful.few world.history (lock_of world) (take i views) (view_of seat) (drop (suc i) views) (split_here world lawful i seat at) lawful.lawful walk walks)

  pub no_look_here : (walk : Walk C) (wait : Option AnyWait) → seat.doing ≡ OnLock walk wait → looks_at (want_of walk) ≡ None
  no_look_here walk wait is = (stands_here (OnLock walk wait) is).1

  -- a step of it on the objects may be made
  pub operates_fit : (walk : ObjectWalk) → operating_of seat.doing ≡ Some walk → StepFits world.env.next walk
  operates_fit walk is = may_step lawful.past.objects (objects_of world) world.env lawful.past.notes lawful.led.0.lawful.meets lawful.led.1 i walk (ap (λ o. unwrap_or o None) (got-map (λ s. operating_of s.doing) world.seats i seat at) ∙ is)

  -- a call on them may go on to wait on the lock
  pub may_go_on : (walk : ObjectWalk) → seat.doing ≡ OnObjects walk → MayGoOn seat.held walk
  may_go_on walk is = by walk (stands_here (OnObjects walk) is) (fits_at walk (ap operating_of is)) where
    by : (walk : ObjectWalk) → NeedsSection (object_asked walk) seat.held → WalkFits world.objects.setup (objects_after world.objects.setup lawful.past.objects) world.env.notes i walk → MayGoOn seat.held walk
    by (InRound round place) holds fits = (fits.0.0, all_low world.objects.setup world.env.notes (items_of round.items) fits.0.1, holds)
    by walk holds fits = tt

  -- a wait that it is in is for few objects
  pub few_there : (walk : Walk C) (wait : Option AnyWait) → seat.doing ≡ OnLock walk wait → IfSome wait IsFew
  few_there walk None is = tt
  few_there walk (Some wait) is = (stands_here (OnLock walk (Some wait)) is).0.there.0

  -- a step is refused that would commit an event
  pub refused_here : (walk : Walk C) → walk_of seat.doing ≡ Some walk → Commits seat.number (want_of walk) world.word world.queues → WholeFault world i OutOfMemory
  refused_here walk walks commits = record { seat = seat; at = at; walk = walk; walks = walks; commits = subst (λ n. Commits n (want_of walk) world.word world.queues) (number_here world lawful i seat at) commits }
