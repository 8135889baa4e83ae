-- Lines and columns of a text, as an editor counts them (own).
use Rattle.std.specs.Prelude.{◌≡◌, ◌≢◌, ℕ, ◌+◌, ◌-◌, ◌<◌, ◌≤◌, ◌==◌, ◌||◌, nat_lt, nat_le, Bool, List, length, slice_index, take, drop, count_by}

abbrev pub is_line_feed : ℕ → Bool
is_line_feed b = b == 10

-- a line ends with a carriage return, a line feed or both
abbrev pub is_line_end : ℕ → Bool
is_line_end b = b == 13 || b == 10

-- a byte that begins a character of UTF-8
abbrev pub is_first_byte : ℕ → Bool
is_first_byte b = nat_lt b 128 || nat_le 192 b

-- the last line of a text begins there: right behind the last line feed, or at the start
pub record IsLineStart (text : List ℕ) (start : ℕ) : Type 0 where
  pub within : start ≤ length text
  pub behind : 0 < start → slice_index text (start - 1) ≡ 10
  pub last : (k : ℕ) → start ≤ k → k < length text → slice_index text k ≢ 10

-- a byte stands at that line and column: one more than the line feeds before it, and than the characters before it in its line
pub record IsPlace (text : List ℕ) (at line column : ℕ) : Type 0 where
  pub start : ℕ
  pub begun : IsLineStart (take at text) start
  pub line_told : line ≡ count_by is_line_feed (take at text) + 1
  pub column_told : column ≡ count_by is_first_byte (drop start (take at text)) + 1
