-- The rule of a table of counters and once cells.
use Rattle.std.specs.Prelude.{◌≡◌, ℕ, ◌≤◌, List, []}
use Rattle.ns_objects.specs.Names.{Every, Free, HoldsBy, IsLawful, ObjectEvent, ObjectView, Setup, TableState, ViewFits, ViewsOf, is_numbered, numbered, tally}

-- what all seats know, a list for each seat of the table
abbrev pub Views : Type 0
Views = ViewsOf ObjectView

-- 1 for the seat of this number
abbrev pub is_seat : ℕ → ObjectView → ℕ
is_seat = is_numbered (λ view. view.seat)

-- The rule: the words and this history are lawful, and what each of the seats knows fits the history.
pub record IsRuled (setup : Setup) (words : List ℕ) (views : Views) (history : List ObjectEvent) : Type 0 where
  pub lawful : IsLawful setup words history
  pub seats : tally (λ _. 1) views ≡ setup.seats
  pub once : (seat : ℕ) → tally (is_seat seat) views ≤ 1
  pub each : Every (Every (ViewFits setup history)) views

-- a seat that has made no step
abbrev pub fresh_seat : Setup → ℕ → ObjectView
fresh_seat setup seat = record { setup = setup; seat = seat; place = Free; seen = []; mine = [] }

-- the first views of so many seats, from a number on
abbrev pub fresh : Setup → ℕ → ℕ → List ObjectView
fresh setup = numbered (fresh_seat setup)

-- The rule of a table that was made so: some history is as it says.
abbrev pub Holds : {S : Type 0} → Setup → TableState S (List ObjectView) → Type 0
Holds setup = HoldsBy (λ words homes views history. IsRuled setup words views history)
