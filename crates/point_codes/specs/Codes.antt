-- Point codes in text (Q.708).
use Rattle.std.specs.Prelude.{ℕ, ◌+◌, ◌*◌, ◌/◌, ◌%◌, ◌<◌, ◌==◌, List, ◌∷◌, ◌++◌, take, drop, position, Option, option_map, option_and_then}
use Rattle.std.specs.Fmt.{decimal}
use Rattle.point_codes.specs.Numbers.{number_of}

-- the parts before and after the first of this byte
abbrev pub split_of : ℕ → List ℕ → Option (List ℕ × List ℕ)
split_of byte text = option_map (λ i. (take i text, drop (i + 1) text)) (position (λ b. b == byte) text)

-- the code that a text is: zone, area and point, joined by -
abbrev pub code_of : List ℕ → Option ℕ
code_of text =
    option_and_then (λ (zone, rest).
    option_and_then (λ (area, point).
    option_and_then (λ z.
    option_and_then (λ a.
    option_map (λ p. z * 2048 + a * 8 + p) (number_of 7 point)) (number_of 255 area)) (number_of 7 zone)) (split_of 45 rest)) (split_of 45 text)

-- how a code is written
abbrev pub code_text : ℕ → List ℕ
code_text n = decimal (n / 2048) ++ 45 ∷ decimal (n / 8 % 256) ++ 45 ∷ decimal (n % 8)

-- a number of 14 bits
abbrev pub IsCode : ℕ → Type 0
IsCode n = n < 16384
