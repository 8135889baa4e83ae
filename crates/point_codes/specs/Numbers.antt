-- Decimal numbers without sign or leading zeros.
use Rattle.std.specs.Prelude.{ℕ, ◌==◌, ◌&&◌, ◌||◌, not, nat_lt, nat_le, Bool, if◌then◌else◌, List, length, slice_index, Option, Some, None}
use Rattle.std.specs.Str.{all_ascii_digits}
use Rattle.std.specs.Str.Parse.{digits_value}

-- digits, at least one, the first no 0 unless it is alone
abbrev pub is_number : List ℕ → Bool
is_number text = (nat_lt 0 (length text) && all_ascii_digits text) && (not (slice_index text 0 == 48) || length text == 1)

-- the number that a text is, up to a limit below 2^32
abbrev pub number_of : ℕ → List ℕ → Option ℕ
number_of most text =
    if (is_number text && nat_lt (length text) 11) && nat_le (digits_value 10 text) most then Some (digits_value 10 text) else None
