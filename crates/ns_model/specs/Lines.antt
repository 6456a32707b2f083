-- A walk from a note up to its root, while the history grows.
use Rattle.std.specs.Prelude.{◌≡◌, ℕ, false, List, Option, None, Some}
use Rattle.ns_model.specs.declared.environment.EnvEvent.{EnvEvent}
use Rattle.ns_model.specs.Beginnings.{BeginsWith}
use Rattle.ns_model.specs.Environments.{IsLegalEnv, IsMade, is_notified, IsNotified}

-- where a walk from a note stands that has found nobody notified below the place: at a note, or past the root
abbrev pub IsLeftAt : List EnvEvent → ℕ → Option ℕ → Type 0
IsLeftAt seen note None = is_notified seen note ≡ false
IsLeftAt seen note (Some place) = IsMade seen place × (is_notified seen place ≡ false → is_notified seen note ≡ false) × ((h : List EnvEvent) → IsLegalEnv h → BeginsWith h seen → IsNotified h place → IsNotified h note)
