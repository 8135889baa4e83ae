-- The tokens that are numbers.
use Rattle.std.specs.Prelude.{ℕ, List, Option}
use Rattle.point_codes.specs.Numbers.{number_of}

-- the link set id that a token is
abbrev pub id_of : List ℕ → Option ℕ
id_of text = number_of 65535 text

-- the signalling link code that a token is
abbrev pub slc_of : List ℕ → Option ℕ
slc_of text = number_of 255 text

-- the rank that a token is
abbrev pub rank_of : List ℕ → Option ℕ
rank_of text = number_of 255 text
