-- The parts of a code's text, read from the text's two ends.
use Rattle.std.proofs.Common.{◌≡◌, ℕ, ◌+◌, ◌-◌, ◌*◌, ◌/◌, ◌%◌, ◌<◌, ◌≤◌, List, [], ◌∷◌, ◌++◌, length, take, drop, get_or, Option, Some, None, option_map, option_and_then, suc, subst, sym, ap, refl, ◌∙◌, arith, length-append}
use Rattle.std.proofs.Math.Seq.{drop-cons, get_or-append_seam}
use Rattle.std.proofs.lemmas.List.{take-append-drop, drop_all}
use Rattle.std.proofs.lemmas.Fmt.{decimal_digit, length-decimal-le}
use Rattle.std.specs.Fmt.{decimal}
use Rattle.point_codes.specs.Numbers.{number_of}
use Rattle.point_codes.specs.Codes.{code_of, code_text}
use Rattle.point_codes.proofs.NumberLemmas.{number_reads, number_written}
use Rattle.point_codes.proofs.CodeLemmas.{and_then_Some, map_Some, code_from, code_reads, code_written, code_text_parts}

-- ---- numbers

-- options that have the same values are equal
same_options : (o q : Option ℕ) → ((n : ℕ) → o ≡ Some n → q ≡ Some n) → ((n : ℕ) → q ≡ Some n → o ≡ Some n) → o ≡ q
same_options None None there back = refl
same_options None (Some y) there back = back y refl
same_options (Some x) q there back = sym (there x refl)

-- an option without values is none
no_value : (o : Option ℕ) → ((n : ℕ) → o ≡ Some n → ⊥) → None ≡ o
no_value None none = refl
no_value (Some x) none = absurd (none x refl)

-- an area has at most three digits
pub area_short : (text : List ℕ) → 4 ≤ length text → None ≡ number_of 255 text
area_short text long = no_value (number_of 255 text) (λ n e.
    let reads = number_reads 255 n text (omega arith) e in
    let small = reads.0 in
    let short = length-decimal-le 3 n (omega arith) (omega arith) (omega arith) in
    let same = ap length reads.1 in
    omega arith)

-- ---- codes

-- the code of three parts, where all of them are numbers
abbrev pub joined : Option ℕ → Option ℕ → Option ℕ → Option ℕ
joined zone area point = option_and_then (λ z. option_and_then (λ a. option_map (λ p. z * 2048 + a * 8 + p) point) area) zone

-- a text with its zone and its point as single bytes
abbrev pub ends_text : ℕ → List ℕ → ℕ → List ℕ
ends_text zone area point = zone ∷ 45 ∷ (area ++ (45 ∷ point ∷ []))

-- a code's text has a zone and a point of one digit each
code_text_ends : (n : ℕ) → n < 16384 → code_text n ≡ ends_text (48 + n / 2048) (decimal (n / 8 % 256)) (48 + n % 8)
code_text_ends n small =
    let area = decimal (n / 8 % 256) in
    code_text_parts n
    ∙ ap (λ t. t ++ (45 ∷ (area ++ (45 ∷ decimal (n % 8))))) (decimal_digit (n / 2048) (omega arith))
    ∙ ap (λ t. (48 + n / 2048) ∷ 45 ∷ (area ++ (45 ∷ t))) (decimal_digit (n % 8) (omega arith))

-- a text that ends in - and a byte is known by what stands before them and that byte
same_end : (a b : List ℕ) (x y : ℕ) → a ++ (45 ∷ x ∷ []) ≡ b ++ (45 ∷ y ∷ []) → (a ≡ b) × (x ≡ y)
same_end [] [] x y e = (refl, cc)
same_end [] (b ∷ []) x y e = absurd (cc)
same_end [] (b ∷ c ∷ []) x y e = absurd (cc)
same_end [] (b ∷ c ∷ d ∷ bs) x y e = absurd (cc)
same_end (a ∷ []) [] x y e = absurd (cc)
same_end (a ∷ c ∷ []) [] x y e = absurd (cc)
same_end (a ∷ c ∷ d ∷ as_) [] x y e = absurd (cc)
same_end (a ∷ as_) (b ∷ bs) x y e =
    let rest : as_ ++ (45 ∷ x ∷ []) ≡ bs ++ (45 ∷ y ∷ []) = cc in
    let more = same_end as_ bs x y rest in
    let first : a ≡ b = cc in
    (cc (more.0, first), more.1)

-- texts with such ends are equal only if their zones, areas and points are
same_parts : (x y p q : ℕ) (a b : List ℕ) → ends_text x a p ≡ ends_text y b q → (x ≡ y) × (a ≡ b) × (p ≡ q)
same_parts x y p q a b e =
    let rest : a ++ (45 ∷ p ∷ []) ≡ b ++ (45 ∷ q ∷ []) = cc in
    let more = same_end a b p q rest in
    (cc, more.0, more.1)

-- a digit up to 7 is read as its number
octal_number : (d : ℕ) → d < 8 → number_of 7 ((48 + d) ∷ []) ≡ Some d
octal_number d small = ap (number_of 7) (sym (decimal_digit d (omega arith))) ∙ number_written 7 d (omega arith) (omega arith)

-- the code of three numbers
joined_Some : (o q r : Option ℕ) (z a p : ℕ) → o ≡ Some z → q ≡ Some a → r ≡ Some p → joined o q r ≡ Some (z * 2048 + a * 8 + p)
joined_Some o q r z a p zs as_ ps = rw (zs, as_, ps) refl

-- a text that is a code has numbers as its parts
ends_written : (n z p : ℕ) (area : List ℕ) → code_of (ends_text z area p) ≡ Some n → joined (number_of 7 (z ∷ [])) (number_of 255 area) (number_of 7 (p ∷ [])) ≡ Some n
ends_written n z p area e =
    let reads = code_reads n (ends_text z area p) e in
    let small = reads.0 in
    let parts = same_parts z (48 + n / 2048) p (48 + n % 8) area (decimal (n / 8 % 256)) (reads.1 ∙ code_text_ends n small) in
    let whole : n / 2048 * 2048 + n / 8 % 256 * 8 + n % 8 ≡ n = omega arith in
    joined_Some _ _ _ (n / 2048) (n / 8 % 256) (n % 8)
    (ap (λ b. number_of 7 (b ∷ [])) parts.0 ∙ octal_number (n / 2048) (omega arith))
    (ap (number_of 255) parts.1 ∙ number_written 255 (n / 8 % 256) (omega arith) (omega arith))
    (ap (λ b. number_of 7 (b ∷ [])) parts.2 ∙ octal_number (n % 8) (omega arith))
    ∙ ap Some whole

-- a text whose parts are numbers is their code
ends_read : (n z p : ℕ) (area : List ℕ) → joined (number_of 7 (z ∷ [])) (number_of 255 area) (number_of 7 (p ∷ [])) ≡ Some n → code_of (ends_text z area p) ≡ Some n
ends_read n z p area e =
    let first = and_then_Some (number_of 7 (z ∷ [])) _ n e in
    let second = and_then_Some (number_of 255 area) _ n first.2 in
    let third = map_Some (number_of 7 (p ∷ [])) _ n second.2 in
    let made = code_from n first.0 second.0 third.0 (ends_text z area p) (z ∷ []) (area ++ (45 ∷ p ∷ [])) area (p ∷ []) refl refl
    (number_reads 7 first.0 (z ∷ []) (omega arith) first.1) (number_reads 255 second.0 area (omega arith) second.1) (number_reads 7 third.0 (p ∷ []) (omega arith) third.1) third.2 in
    ap code_of made.1 ∙ code_written n made.0

-- the code of a text is that of its parts
code_of_ends : (z p : ℕ) (area : List ℕ) → code_of (ends_text z area p) ≡ joined (number_of 7 (z ∷ [])) (number_of 255 area) (number_of 7 (p ∷ []))
code_of_ends z p area = same_options _ _ (λ n. ends_written n z p area) (λ n. ends_read n z p area)

-- ---- texts

-- a text with two bytes more than k
last_two : (k : ℕ) (text : List ℕ) → length text ≡ k + 2 → text ≡ take k text ++ (get_or text k 0 ∷ get_or text (k + 1) 0 ∷ [])
last_two k text size =
    let none : drop (k + 2) text ≡ [] = drop_all (k + 2) text (omega arith) in
    let next : drop (k + 1) text ≡ get_or text (k + 1) 0 ∷ drop (k + 2) text = drop_next (k + 1) (k + 2) text (omega arith) (omega arith) in
    let here : drop k text ≡ get_or text k 0 ∷ drop (k + 1) text = drop_next k (k + 1) text (omega arith) (omega arith) in
    sym (take-append-drop k text)
    ∙ ap (λ t. take k text ++ t) (here ∙ ap (λ t. get_or text k 0 ∷ t) (next ∙ ap (λ t. get_or text (k + 1) 0 ∷ t) none))
  where
    drop_next : (i j : ℕ) (text : List ℕ) → i < length text → j ≡ suc i → drop i text ≡ get_or text i 0 ∷ drop j text
    drop_next i j text within e = drop-cons text i 0 within ∙ ap (λ m. get_or text i 0 ∷ drop m text) (sym e)

-- a text with - after its first byte and before its last
from_ends : (text : List ℕ) → 4 ≤ length text → get_or text 1 0 ≡ 45 → get_or text (length text - 2) 0 ≡ 45
    → text ≡ ends_text (get_or text 0 0) (take (length text - 2 - 2) (drop 2 text)) (get_or text (length text - 1) 0)
from_ends [] long first second = absurd (omega arith)
from_ends (z ∷ []) long first second = absurd (omega arith)
from_ends (z ∷ b ∷ rest) long first second =
    let k = length rest - 2 in
    let size : length (z ∷ b ∷ rest) ≡ k + 4 = omega arith in
    let place : length (z ∷ b ∷ rest) - 2 ≡ suc (suc k) = omega arith in
    let last : length (z ∷ b ∷ rest) - 1 ≡ suc (suc (k + 1)) = omega arith in
    let width : length (z ∷ b ∷ rest) - 2 - 2 ≡ k = omega arith in
    let dash : get_or rest k 0 ≡ 45 = sym (ap (λ i. get_or (z ∷ b ∷ rest) i 0) place) ∙ second in
    ap (λ t. z ∷ b ∷ t) (last_two k rest (omega arith))
    ∙ ap (λ x. z ∷ x ∷ (take k rest ++ (get_or rest k 0 ∷ get_or rest (k + 1) 0 ∷ []))) first
    ∙ ap (λ x. z ∷ 45 ∷ (take k rest ++ (x ∷ get_or rest (k + 1) 0 ∷ []))) dash
    ∙ ap (λ i. z ∷ 45 ∷ (take i rest ++ (45 ∷ get_or rest (k + 1) 0 ∷ []))) (sym width)
    ∙ ap (λ i. z ∷ 45 ∷ (take (length (z ∷ b ∷ rest) - 2 - 2) rest ++ (45 ∷ get_or (z ∷ b ∷ rest) i 0 ∷ []))) (sym last)

-- the code of a text with - after its first byte and before its last
pub code_at_ends : (text : List ℕ) → 4 ≤ length text → get_or text 1 0 ≡ 45 → get_or text (length text - 2) 0 ≡ 45
    → code_of text ≡ joined (number_of 7 (get_or text 0 0 ∷ [])) (number_of 255 (take (length text - 2 - 2) (drop 2 text))) (number_of 7 (get_or text (length text - 1) 0 ∷ []))
code_at_ends text long first second =
    ap code_of (from_ends text long first second) ∙ code_of_ends (get_or text 0 0) (get_or text (length text - 1) 0) (take (length text - 2 - 2) (drop 2 text))

-- where a text of this form has its bytes
ends_places : (z p : ℕ) (area : List ℕ) → (4 ≤ length (ends_text z area p)) × (get_or (ends_text z area p) 1 0 ≡ 45) × (get_or (ends_text z area p) (length (ends_text z area p) - 2) 0 ≡ 45)
ends_places z p area =
    let size = length-append area (45 ∷ p ∷ []) in
    let place : length (ends_text z area p) - 2 ≡ suc (suc (length area)) = omega arith in
    (omega arith, refl, ap (λ i. get_or (ends_text z area p) i 0) place ∙ get_or-append_seam area 45 (p ∷ []) 0)

-- a code's text has - after its first byte and before its last
code_places : (n : ℕ) (text : List ℕ) → code_of text ≡ Some n → (4 ≤ length text) × (get_or text 1 0 ≡ 45) × (get_or text (length text - 2) 0 ≡ 45)
code_places n text e =
    let reads = code_reads n text e in
    let form = reads.1 ∙ code_text_ends n reads.0 in
    subst (λ (t : List ℕ). (4 ≤ length t) × (get_or t 1 0 ≡ 45) × (get_or t (length t - 2) 0 ≡ 45)) (sym form) (ends_places (48 + n / 2048) (48 + n % 8) (decimal (n / 8 % 256)))

-- a text that doesn't have - after its first byte and before its last is no code
pub no_code : (text : List ℕ) → (4 ≤ length text → get_or text 1 0 ≡ 45 → get_or text (length text - 2) 0 ≡ 45 → ⊥) → None ≡ code_of text
no_code text other = no_value (code_of text) (λ n e. let places = code_places n text e in other places.0 places.1 places.2)

-- the code of a text whose parts are these numbers
pub code_made : (z a p : ℕ) (text : List ℕ) → 4 ≤ length text → get_or text 1 0 ≡ 45 → get_or text (length text - 2) 0 ≡ 45
    → Some z ≡ number_of 7 (get_or text 0 0 ∷ []) → Some a ≡ number_of 255 (take (length text - 2 - 2) (drop 2 text)) → Some p ≡ number_of 7 (get_or text (length text - 1) 0 ∷ [])
    → code_of text ≡ Some (z * 2048 + a * 8 + p)
code_made z a p text long first second zs as_ ps =
    code_at_ends text long first second ∙ joined_Some _ _ _ z a p (sym zs) (sym as_) (sym ps)
