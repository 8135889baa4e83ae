-- What more bytes do to the lines of a text.
use Rattle.std.proofs.Common.{◌≡◌, ◌≢◌, ℕ, suc, ◌<◌, ◌+◌, ◌-◌, ◌==◌, not, Bool, true, false, cond, ltb, List, [], ◌∷◌, ◌++◌, length, take, drop, get_or, Some, None, option_map, sym, ap, subst, refl, ◌∙◌, arith, append_assoc, append-nil, length-append}
use Rattle.std.proofs.lemmas.Bool.{and_parts, eqb-true, lt-ltb, ltb-false}
use Rattle.std.specs.Prelude.{slice_index}
use Rattle.std.proofs.lemmas.List.{length-take-le, take_more, take_all}
use Rattle.std.specs.List.{position_or_len}
use Rattle.point_codes.specs.Codes.{split_of}
use Rattle.point_codes.proofs.CodeLemmas.{lacks, lacks_parts, split_parts, parts_at}
use Rattle.std.proofs.lemmas.List.Sums.{sum_by-append}
use Rattle.sessions.specs.Lines.{Cut, put_before, cut, whole_lines, rest_of, last_line, lines_of, line_count, trimmed, is_too_long}

-- a text that goes on after a line feed
abbrev joined_cut : Cut → Cut → Cut
joined_cut c d = record { whole = c.whole ++ c.rest ∷ d.whole; rest = d.rest }

put_before-joined : (b : Bool) (x : ℕ) (whole : List (List ℕ)) (rest : List ℕ) (d : Cut)
    → put_before b x (whole ++ rest ∷ d.whole) d.rest ≡ joined_cut (put_before b x whole rest) d
put_before-joined true x whole rest d = refl
put_before-joined false x [] rest d = refl
put_before-joined false x (l ∷ ls) rest d = refl

pub cut_joined : (xs ys : List ℕ) → cut (xs ++ 10 ∷ ys) ≡ record { whole = whole_lines xs ++ rest_of xs ∷ whole_lines ys; rest = rest_of ys }
cut_joined [] ys = refl
cut_joined (x ∷ xs) ys =
    ap (λ c. put_before (x == 10) x c.whole c.rest) (cut_joined xs ys) ∙ put_before-joined (x == 10) x (whole_lines xs) (rest_of xs) (cut ys)

-- a line feed at the end
pub cut_ended : (xs : List ℕ) → cut (xs ++ 10 ∷ []) ≡ record { whole = whole_lines xs ++ rest_of xs ∷ []; rest = [] }
cut_ended xs = cut_joined xs []

-- another byte at the end
put_before-grown : (b : Bool) (x y : ℕ) (whole : List (List ℕ)) (rest : List ℕ)
    → put_before b x whole (rest ++ y ∷ []) ≡ record { whole = (put_before b x whole rest).whole; rest = (put_before b x whole rest).rest ++ y ∷ [] }
put_before-grown true x y whole rest = refl
put_before-grown false x y [] rest = refl
put_before-grown false x y (l ∷ ls) rest = refl

pub cut_grown : (xs : List ℕ) (y : ℕ) → (y == 10) ≡ false → cut (xs ++ y ∷ []) ≡ record { whole = whole_lines xs; rest = rest_of xs ++ y ∷ [] }
cut_grown [] y other = ap (λ b. put_before b y [] []) other
cut_grown (x ∷ xs) y other =
    ap (λ c. put_before (x == 10) x c.whole c.rest) (cut_grown xs y other) ∙ put_before-grown (x == 10) x y (whole_lines xs) (rest_of xs)

-- other bytes at the end, none a line feed
pub cut_grown_all : (xs ys : List ℕ) → lacks 10 ys ≡ true → cut (xs ++ ys) ≡ record { whole = whole_lines xs; rest = rest_of xs ++ ys }
cut_grown_all xs [] none = ap cut (append-nil xs) ∙ ap (λ r. record { whole = whole_lines xs; rest = r }) (sym (append-nil (rest_of xs)))
cut_grown_all xs (y ∷ ys) none =
    let parts = and_parts (not (y == 10)) (lacks 10 ys) none in
    ap cut (sym (append_assoc xs (y ∷ []) ys)) ∙ cut_grown_all (xs ++ y ∷ []) ys parts.1
    ∙ ap (λ c. record { whole = c.whole; rest = c.rest ++ ys }) (cut_grown xs y (lacks_parts y 10 parts.0))
    ∙ ap (λ r. record { whole = whole_lines xs; rest = r }) (append_assoc (rest_of xs) (y ∷ []) ys)

-- a line with its last bytes and a line feed
pub whole_ended : (xs ys : List ℕ) → lacks 10 ys ≡ true → whole_lines ((xs ++ ys) ++ 10 ∷ []) ≡ whole_lines xs ++ (rest_of xs ++ ys) ∷ []
whole_ended xs ys none = ap (λ c. c.whole) (cut_ended (xs ++ ys)) ∙ ap (λ c. c.whole ++ c.rest ∷ []) (cut_grown_all xs ys none)

-- what stands before the first of a byte
lacks_more : (c x n m : ℕ) (xs : List ℕ) → (x == c) ≡ false → m ≡ suc n → lacks c (take n xs) ≡ true → lacks c (take m (x ∷ xs)) ≡ true
lacks_more c x n m xs other next h = rw (next, other) h

lacks_before : (c x : ℕ) (xs : List ℕ) (v : Bool) → (x == c) ≡ v → lacks c (take (position_or_len (λ b. b == c) xs) xs) ≡ true
    → lacks c (take (position_or_len (λ b. b == c) (x ∷ xs)) (x ∷ xs)) ≡ true
lacks_before c x xs true e h = rw e refl
lacks_before c x xs false e h = lacks_more c x (position_or_len (λ b. b == c) xs) _ xs e (rw e (omega arith)) h

lacks_first : (c : ℕ) (text : List ℕ) → lacks c (take (position_or_len (λ b. b == c) text) text) ≡ true
lacks_first c [] = refl
lacks_first c (x ∷ xs) = lacks_before c x xs (x == c) refl (lacks_first c xs)

-- the part before the first of a byte lacks it
pub split_front : (c : ℕ) (text front after : List ℕ) → split_of c text ≡ Some (front, after) → lacks c front ≡ true
split_front c text front after e =
    let n = position_or_len (λ b. b == c) text in
    subst (λ t. lacks c t ≡ true) (parts_at text front after (ltb n (length text)) n e).1 (lacks_first c text)

none_at : (text : List ℕ) (v : Bool) (n : ℕ) → option_map {U = List ℕ × List ℕ} (λ i. (take i text, drop (i + 1) text)) (cond v (Some n) None) ≡ None → v ≡ false
none_at text true n e = absurd (cc)
none_at text false n e = refl

-- a text that isn't split at a byte lacks it
pub split_nowhere : (c : ℕ) (text : List ℕ) → split_of c text ≡ None → lacks c text ≡ true
split_nowhere c text e =
    let n = position_or_len (λ b. b == c) text in
    subst (λ t. lacks c t ≡ true) (take_all n text (ltb-false n (length text) (none_at text (ltb n (length text)) n e))) (lacks_first c text)

-- a text goes on after the line feed that it is split at
pub split_on : (done text front after : List ℕ) → split_of 10 text ≡ Some (front, after) → ((done ++ front) ++ 10 ∷ []) ++ after ≡ done ++ text
split_on done text front after e =
    append_assoc (done ++ front) (10 ∷ []) after ∙ append_assoc done front (10 ∷ after) ∙ ap (λ t. done ++ t) (sym (split_parts 10 text front after e))

-- what comes after it is shorter
pub split_size : (text front after : List ℕ) → split_of 10 text ≡ Some (front, after) → length after < length text
split_size text front after e =
    let size : length text ≡ length front + suc (length after) = ap length (split_parts 10 text front after e) ∙ length-append front (10 ∷ after) in
    omega arith

-- lines of a text with more bytes
ended_more : (read : List ℕ) (b : ℕ) (ls : List (List ℕ)) (all : List (List ℕ)) → (b == 10) ≡ true → all ≡ whole_lines (read ++ b ∷ []) ++ ls → all ≡ whole_lines read ++ rest_of read ∷ ls
ended_more read b ls all e same =
    same ∙ ap (λ x. whole_lines (read ++ x ∷ []) ++ ls) (eqb-true b 10 e) ∙ ap (λ c. c.whole ++ ls) (cut_ended read) ∙ append_assoc (whole_lines read) (rest_of read ∷ []) ls

next_lines : (read : List ℕ) (b : ℕ) (bs : List ℕ) (ls : List (List ℕ)) → whole_lines ((read ++ b ∷ []) ++ bs) ≡ whole_lines (read ++ b ∷ []) ++ ls
    → (v : Bool) → (b == 10) ≡ v → (ms : List (List ℕ)) × (whole_lines (read ++ b ∷ bs) ≡ whole_lines read ++ ms)
next_lines read b bs ls same true e = (rest_of read ∷ ls, ended_more read b ls _ e (ap whole_lines (sym (append_assoc read (b ∷ []) bs)) ∙ same))
next_lines read b bs ls same false e = (ls, ap whole_lines (sym (append_assoc read (b ∷ []) bs)) ∙ same ∙ ap (λ c. c.whole ++ ls) (cut_grown read b e))

pub whole_more : (read more : List ℕ) → (ls : List (List ℕ)) × (whole_lines (read ++ more) ≡ whole_lines read ++ ls)
whole_more read [] = ([], ap whole_lines (append-nil read) ∙ sym (append-nil (whole_lines read)))
whole_more read (b ∷ bs) = let next = whole_more (read ++ b ∷ []) bs in next_lines read b bs next.0 next.1 (b == 10) refl

-- a piece is taken byte by byte
pub pushed : (read chunk : List ℕ) (i : ℕ) → i < length chunk → (read ++ take i chunk) ++ get_or chunk i 0 ∷ [] ≡ read ++ take (i + 1) chunk
pushed read chunk i h = append_assoc read (take i chunk) (get_or chunk i 0 ∷ []) ∙ ap (λ t. read ++ t) (sym (take_more chunk i 0 h))

-- the last line
one_last_line : (rest : List ℕ) → rest ≢ [] → last_line rest ≡ rest ∷ []
one_last_line [] h = absurd (h refl)
one_last_line (b ∷ bs) h = refl

pub lines_none : (read : List ℕ) → rest_of read ≡ [] → lines_of read ≡ whole_lines read
lines_none read e = ap (λ r. whole_lines read ++ last_line r) e ∙ append-nil (whole_lines read)

pub lines_one : (read : List ℕ) → rest_of read ≢ [] → lines_of read ≡ whole_lines (read ++ 10 ∷ [])
lines_one read h = ap (λ ls. whole_lines read ++ ls) (one_last_line (rest_of read) h) ∙ ap (λ c. c.whole) (sym (cut_ended read))

-- line feeds of two parts
pub line_count-append : (a b : List ℕ) → line_count (a ++ b) ≡ line_count a + line_count b
line_count-append a b = sum_by-append (λ x. cond (x == 10) 1 0) a b

-- a line with more than one byte beyond the limit is too long, whether or not its last is dropped
pub long_trimmed : (line : List ℕ) → 131073 < length line → is_too_long (trimmed line) ≡ true
long_trimmed line long = go (slice_index line (length line - 1) == 13)
  where
    go : (b : Bool) → is_too_long (cond b (take (length line - 1) line) line) ≡ true
    go true =
        let size : length (take (length line - 1) line) ≡ length line - 1 = length-take-le (length line - 1) line (omega arith) in
        lt-ltb 131072 (length (take (length line - 1) line)) (omega arith)
    go false = lt-ltb 131072 (length line) (omega arith)
