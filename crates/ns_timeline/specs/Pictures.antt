-- Of what there is a picture.
use Rattle.std.specs.Prelude.{◌≡◌, ℕ, List, ◌++◌, codes}
use Rattle.ns_world.specs.declared.schedule.Line.{Line}
use Rattle.ns_world.specs.Whole.{Whole}
use Rattle.ns_replay.specs.declared.condition.ScriptCondition.{ScriptCondition}
use Rattle.ns_replay.specs.Replaying.{HasRun}
use Rattle.ns_replay.specs.Script.{Plan}

-- The bytes give a script that has a run in at most so many turns.
pub record RunsIn (limit : ℕ) (bytes : List ℕ) : Type 0 where
  pub plan : Plan
  pub world : Whole ScriptCondition 8
  pub lines : List Line
  pub has_run : HasRun limit bytes plan world lines

-- The bytes have a picture. What stands in it is shown by tests alone.
abbrev pub IsPicture : ℕ → List ℕ → List ℕ → Type 0
IsPicture limit bytes picture = RunsIn limit bytes

-- how each drawing begins
abbrev pub drawing_head : List ℕ
drawing_head = codes "<svg xmlns=\"http://www.w3.org/2000/svg\" role=\"img\""

-- how each drawing ends
abbrev pub drawing_tail : List ℕ
drawing_tail = codes "</svg>\n"

-- The document begins and ends as a drawing does.
abbrev pub IsDocument : List ℕ → Type 0
IsDocument document = (middle : List ℕ) × (document ≡ drawing_head ++ middle ++ drawing_tail)

-- The bytes have a drawing, which is a document. What else stands in it is shown by tests alone.
abbrev pub IsDrawing : ℕ → List ℕ → List ℕ → Type 0
IsDrawing limit bytes document = RunsIn limit bytes × IsDocument document
