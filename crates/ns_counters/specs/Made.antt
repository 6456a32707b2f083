-- How objects are made.
use Rattle.std.specs.Prelude.{List, length, replicate, slice_index, ℕ, ◌++◌, ◌-◌, ◌≡◌}
use Rattle.ns_counters.specs.Names.{Setup}

-- the values by number, and 0 past the last, 16 in all
abbrev pub padded : List ℕ → List ℕ
padded values = values ++ replicate (16 - length values) 0

-- for so many seats, a counter for each of the values, and so many once cells
abbrev pub setup_of : ℕ → List ℕ → ℕ → Setup
setup_of seats counters cells = record { seats = seats; counters = length counters; starts = padded counters; cells = cells }

-- They are as asked: for all the seats, with as many counters as values, which begin with these, by number, and with all the once cells. Past the last there is no value, so 0. It isn't said by `setup_of`, by which they are made.
pub record AreAsAsked (seats : ℕ) (values : List ℕ) (cells : ℕ) (made : Setup) : Type 0 where
  pub all : made.seats ≡ seats
  pub counters : made.counters ≡ length values
  pub starts : (number : ℕ) → slice_index made.starts number ≡ slice_index values number
  pub onces : made.cells ≡ cells

-- the words of new counters with these values, and of 16 unused once cells
abbrev pub first_words : List ℕ → List ℕ
first_words starts = starts ++ replicate 16 0
