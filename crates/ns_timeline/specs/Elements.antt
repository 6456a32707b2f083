-- What is written of a text, or of a title, that stands as it may in a document.
use Rattle.std.specs.Prelude.{ℕ, List, ◌++◌, codes, decimal}

-- the beginning of a mark with a title
abbrev pub title_element : List ℕ → List ℕ
title_element title = codes "<g><title>" ++ title ++ codes "</title>"

-- a text of a class at a place
abbrev pub text_element : List ℕ → ℕ → ℕ → List ℕ → List ℕ
text_element class x y text = codes "<text class=\"" ++ class ++ codes "\" x=\"" ++ decimal x ++ codes "\" y=\"" ++ decimal y ++ codes "\">" ++ text ++ codes "</text>"
