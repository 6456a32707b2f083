-- The conditions of scripts.
use Rattle.std.specs.List.{list_all}
use Rattle.std.specs.Prelude.{Bool, List, None, Option, Some, [], codes, decimal, false, length, nat_le, nat_lt, slice_index, true, zip, ℕ, ◌&&◌, ◌++◌, ◌==◌}
use Rattle.ns_replay.specs.Names.{AtLeast, ScriptCondition, Truths, truths}

-- `I>=V`
abbrev pub at_least_text : AtLeast → List ℕ
at_least_text part = decimal part.cell ++ codes ">=" ++ decimal part.least

-- `&I>=V` for a second part, if there is one
abbrev pub second_text : Option AtLeast → List ℕ
second_text None = []
second_text (Some part) = codes "&" ++ at_least_text part

-- `I>=V` or `I>=V&I>=V`
abbrev pub condition_text : ScriptCondition → List ℕ
condition_text condition = at_least_text condition.first ++ second_text condition.second

-- the cell is there, and at least the value
abbrev pub is_at_least : AtLeast → List ℕ → Bool
is_at_least part row = nat_lt part.cell (length row) && nat_le part.least (slice_index row part.cell)

-- a second part is true, or there is none
abbrev pub are_at_least : Option AtLeast → List ℕ → Bool
are_at_least None row = true
are_at_least (Some part) row = is_at_least part row

-- each part is true
abbrev pub is_true_of : ScriptCondition → List ℕ → Bool
is_true_of condition row = is_at_least condition.first row && are_at_least condition.second row

-- two parts have one text
abbrev pub has_same_fields : AtLeast → AtLeast → Bool
has_same_fields a b = (a.cell == b.cell) && (a.least == b.least)

-- two second parts have one text, or there is none of either
abbrev pub have_same_fields : Option AtLeast → Option AtLeast → Bool
have_same_fields None None = true
have_same_fields (Some a) (Some b) = has_same_fields a b
have_same_fields None (Some b) = false
have_same_fields (Some a) None = false

-- the two have one text
abbrev pub is_same_condition : ScriptCondition → ScriptCondition → Bool
is_same_condition a b = has_same_fields a.first b.first && have_same_fields a.second b.second

-- no cell rose
abbrev pub none_rose : List ℕ → List ℕ → Bool
none_rose before after = list_all (λ cells. nat_le cells.1 cells.0) (zip before after)

-- what the conditions of scripts mean
abbrev pub script_truths : Truths ScriptCondition
script_truths = truths is_true_of is_same_condition none_rose
