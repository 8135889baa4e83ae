-- The numbers of commands, decimal without sign or leading zeros.
use Rattle.std.specs.Prelude.{ℕ, ◌^◌, ◌&&◌, nat_lt, if◌then◌else◌, List, Option, Some, None}
use Rattle.std.specs.Str.{all_ascii_digits}
use Rattle.std.specs.Str.Parse.{digits_value}
use Rattle.point_codes.specs.Numbers.{is_number, number_of}

-- C: a collector, from 0 to 255
abbrev pub collector_of : List ℕ → Option ℕ
collector_of text = number_of 255 text

-- the number of these digits, below 2^64
abbrev pub digits_in : List ℕ → Option ℕ
digits_in text = if all_ascii_digits text && nat_lt (digits_value 10 text) (2 ^ 64) then Some (digits_value 10 text) else None

-- SEQ: a sequence number of 64 bits
abbrev pub sequence_of : List ℕ → Option ℕ
sequence_of text = if is_number text then digits_in text else None

-- K: a slot, from 0 to 31
abbrev pub slot_of : List ℕ → Option ℕ
slot_of text = number_of 31 text

-- S: a signalling link selection, from 0 to 15
abbrev pub selection_of : List ℕ → Option ℕ
selection_of text = number_of 15 text
