-- The text of a script with a schedule of words that were drawn.
use Rattle.std.specs.Prelude.{List, None, Option, Some, [], codes, decimal, false, flat_map, if◌then◌else◌, ℕ, ◌++◌, ◌==◌, ◌∷◌, ◌≡◌, ◌≤◌}
use Rattle.ns_outcomes.specs.Names.{Data, IsInOrder, Turn, compact_text, depth, get, has_float, max_depth, read}

-- ---- the words

-- `!`, if each of its turns goes on until the call returns
abbrev pub whole_text : Turn → List ℕ
whole_text word = if word.whole then codes "!" else []

-- `*N`, unless it is one turn
abbrev pub times_text : Turn → List ℕ
times_text word = if word.times == 1 then [] else codes "*" ++ decimal word.times

-- a word: `A`, `A!`, `A*N` or `A!*N`
unfoldable pub word_text : Turn → List ℕ
word_text word = decimal word.thread ++ whole_text word ++ times_text word

-- a word behind another, parted by one space
abbrev pub next_text : Turn → List ℕ
next_text word = codes " " ++ word_text word

-- the words, parted by one space
abbrev pub words_text : List Turn → List ℕ
words_text [] = []
words_text (word ∷ words) = word_text word ++ flat_map next_text words

-- ---- the members

-- The text prints the value: it has the items and members in order, and is read back as the value. Of a value with no float there is one such text, with no space.
pub record IsPrinted (value : Data) (text : List ℕ) : Type 0 where
  pub plain : has_float value ≡ false → text ≡ compact_text value
  pub order : IsInOrder text value
  pub back : depth value ≤ max_depth → read text ≡ Some value

-- the text of a member, with the comma behind it
unfoldable pub member_text : List ℕ → List ℕ → List ℕ
member_text name printed = codes "\"" ++ name ++ codes "\":" ++ printed ++ codes ","

-- The text is that of the member of this name with this value; where there is none, it is empty.
abbrev pub IsMember : List ℕ → Option Data → List ℕ → Type 0
IsMember name None text = text ≡ []
IsMember name (Some value) text = (printed : List ℕ) × IsPrinted value printed × (text ≡ member_text name printed)

-- The text has the value's members of these names, in this order.
abbrev pub AreMembers : List (List ℕ) → Data → List ℕ → Type 0
AreMembers [] value text = text ≡ []
AreMembers (name ∷ names) value text = (first : List ℕ) × (more : List ℕ) × IsMember name (get name value) first × AreMembers names value more × (text ≡ first ++ more)

-- the members before the schedule, in the order in which a script is checked
abbrev pub names_before : List (List ℕ)
names_before = codes "version" ∷ codes "counters" ∷ codes "onces" ∷ codes "cvs" ∷ codes "threads" ∷ []

-- ---- the whole

-- one line, with the schedule behind the other members
unfoldable pub line_text : List ℕ → List Turn → List ℕ
line_text members words = codes "{" ++ members ++ codes "\"schedule\":\"" ++ words_text words ++ codes "\"}\n"

-- The text has those members before the schedule that the JSON value of the bytes has, each printed from it, and these words as its schedule.
pub record IsScriptText (bytes : List ℕ) (words : List Turn) (text : List ℕ) : Type 0 where
  pub value : Data
  pub reads : read bytes ≡ Some value
  pub members : List ℕ
  pub are : AreMembers names_before value members
  pub is : text ≡ line_text members words
