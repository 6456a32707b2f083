-- The text of a script, part by part.
use Rattle.std.proofs.Common.{Err, List, Ok, OnOk, Result, [], append-nil, append_assoc, codes, refl, string_bytes, ℕ, ◌++◌, ◌≡◌}
use Rattle.ns_outcomes.proofs.Prelude.{AllocError, AreMembers, Data, HasSeedRun, HasText, IsMember, IsScriptText, IsSeedRun, Script, SeedRun, Turn, get, names_before, plan_from, plan_of, ⊤}

-- ---- the members

-- the text grew by the member of this name
abbrev pub Grows : Data → List ℕ → List ℕ → List ℕ → Type 0
Grows value name old new = (text : List ℕ) × IsMember name (get name value) text × (new ≡ old ++ text)

five_parts : (o a b c d e t₁ t₂ t₃ t₄ t₅ : List ℕ) → a ≡ o ++ t₁ → b ≡ a ++ t₂ → c ≡ b ++ t₃ → d ≡ c ++ t₄ → e ≡ d ++ t₅ → e ≡ o ++ (t₁ ++ (t₂ ++ (t₃ ++ (t₄ ++ (t₅ ++ [])))))
five_parts o a b c d e t₁ t₂ t₃ t₄ t₅ e₁ e₂ e₃ e₄ e₅ =
    rw (
      e₅,
      e₄,
      e₃,
      e₂,
      e₁,
      append-nil t₅,
      append_assoc o t₁ t₂,
      append_assoc o (t₁ ++ t₂) t₃,
      append_assoc t₁ t₂ t₃,
      append_assoc o (t₁ ++ (t₂ ++ t₃)) t₄,
      append_assoc t₁ (t₂ ++ t₃) t₄,
      append_assoc t₂ t₃ t₄,
      append_assoc o (t₁ ++ (t₂ ++ (t₃ ++ t₄))) t₅,
      append_assoc t₁ (t₂ ++ (t₃ ++ t₄)) t₅,
      append_assoc t₂ (t₃ ++ t₄) t₅,
      append_assoc t₃ t₄ t₅,
    ) refl

-- one member behind another
pub all_members : (value : Data) (o a b c d e : List ℕ) (result : Result ⊤ AllocError) → Grows value (codes "version") o a → Grows value (codes "counters") a b → Grows value (codes "onces") b c → Grows value (codes "cvs") c d
    → OnOk result (Grows value (codes "threads") d e) → OnOk result ((text : List ℕ) × AreMembers names_before value text × (e ≡ o ++ text))
all_members value o a b c d e (Err fault) g₁ g₂ g₃ g₄ g₅ = tt
all_members value o a b c d e (Ok done) (t₁, m₁, e₁) (t₂, m₂, e₂) (t₃, m₃, e₃) (t₄, m₄, e₄) (t₅, m₅, e₅) = (
  t₁ ++ (t₂ ++ (t₃ ++ (t₄ ++ (t₅ ++ [])))),
  (t₁, t₂ ++ (t₃ ++ (t₄ ++ (t₅ ++ []))), m₁, (t₂, t₃ ++ (t₄ ++ (t₅ ++ [])), m₂, (t₃, t₄ ++ (t₅ ++ []), m₃, (t₄, t₅ ++ [], m₄, (t₅, [], m₅, refl, refl), refl), refl), refl), refl),
  five_parts o a b c d e t₁ t₂ t₃ t₄ t₅ e₁ e₂ e₃ e₄ e₅,
)

-- ---- the whole

-- the seed's run of the script that was read
abbrev pub has_run : (limit seed : ℕ) (bytes : List ℕ) (script : Script) (run : SeedRun) → plan_from bytes ≡ Ok (plan_of script) → IsSeedRun limit (plan_of script) seed run.words.items (string_bytes run.text) run.turns → HasSeedRun limit seed bytes
has_run limit seed bytes script run read comes = record { plan = plan_of script; read = read; words = run.words.items; outcome = string_bytes run.text; turns = run.turns; comes = comes }

-- the text with the words of its schedule
abbrev pub has_text : (limit seed : ℕ) (bytes : List ℕ) (script : Script) (run : SeedRun) (words : List Turn) (text : List ℕ) → plan_from bytes ≡ Ok (plan_of script) → IsSeedRun limit (plan_of script) seed run.words.items (string_bytes run.text) run.turns →
    words ≡ script.schedule.items ++ run.words.items → IsScriptText bytes words text → HasText limit seed bytes text
has_text limit seed bytes script run words text read comes are made = record { run = has_run limit seed bytes script run read comes; made = rw are at made }
