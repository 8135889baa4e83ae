-- Rows in text.
use Rattle.std.proofs.Common.{◌≡◌, ◌↔◌, ℕ, ◌+◌, ◌/◌, ◌%◌, ◌^◌, ◌<◌, ◌≤◌, ◌==◌, not, Bool, true, false, cond, ltb, List, [], ◌∷◌, ◌++◌, length, take, drop, Option, Some, None, option_map, codes, sym, ap, subst, refl, ◌∙◌, arith, append-nil, length-append}
use Rattle.std.proofs.lemmas.Bool.{and_parts}
use Rattle.std.proofs.lemmas.Bool.Decides.{nat_tests}
use Rattle.std.proofs.lemmas.Option.{some_pair_parts}
use Rattle.std.proofs.lemmas.Fmt.{digits_decimal}
use Rattle.std.specs.Char.{is_ascii_digit}
use Rattle.std.specs.List.{AllByRecursion, position_or_len}
use Rattle.std.specs.Fmt.{decimal}
use Rattle.std.specs.Str.{all_ascii_digits, bytes_eq}
use Rattle.net_items.specs.declared.lists.Row.{Row}
use Rattle.point_codes.specs.Codes.{split_of, code_of, code_text, IsCode}
use Rattle.tokens.specs.Numbers.{rank_of}
use Rattle.tokens.specs.Pieces.{pieces_of}
use Rattle.tokens.specs.Rows.{vias_of, classes_of, flagged, flag_of, parts_of, row_of, vias_text, classes_text, row_text, IsClass, IsRow}
use Rattle.tokens.specs.Words.{word_if}
use Rattle.point_codes.proofs.NumberLemmas.{own, number_reads, number_written}
use Rattle.point_codes.proofs.CodeLemmas.{lacks, lacks_parts, split_here, split_parts, and_then_Some, map_Some, cond_Some, both, code_reads, code_written}
use Rattle.tokens.proofs.MarkedLemmas.{bytes_same}
use Rattle.tokens.proofs.PiecesLemmas.{lacks-append, join_lacks, join_some, pieces_read, pieces_written}

pub some_classes : (text : List ℕ) → (length text == 0) ≡ false → classes_of text ≡ pieces_of 47 vias_of text
some_classes [] h = absurd (cc)
some_classes (b ∷ bs) h = refl

-- ---- which bytes a token lacks

other_than_digit : (c d : ℕ) → is_ascii_digit c ≡ false → is_ascii_digit d ≡ true → not (d == c) ≡ true
other_than_digit c d p q = grind (arith, nat_tests)

pub digits_free : (c : ℕ) (ds : List ℕ) → is_ascii_digit c ≡ false → all_ascii_digits ds ≡ true → lacks c ds ≡ true
digits_free c [] p h = refl
digits_free c (d ∷ ds) p h =
    let parts = and_parts (is_ascii_digit d) (all_ascii_digits ds) h in
    both _ _ (other_than_digit c d p parts.0) (digits_free c ds p parts.1)

pub decimal_free : (c n : ℕ) → is_ascii_digit c ≡ false → n < 2 ^ 64 → lacks c (decimal n) ≡ true
decimal_free c n p small = digits_free c (decimal n) p (digits_decimal own n small)

pub code_free : (c n : ℕ) → is_ascii_digit c ≡ false → not (45 == c) ≡ true → n < 16384 → lacks c (code_text n) ≡ true
code_free c n p q small =
    lacks-append c (decimal (n / 2048) ++ 45 ∷ decimal (n / 8 % 256)) (45 ∷ decimal (n % 8))
    (lacks-append c (decimal (n / 2048)) (45 ∷ decimal (n / 8 % 256)) (decimal_free c (n / 2048) p (omega arith)) (both _ _ q (decimal_free c (n / 8 % 256) p (omega arith))))
    (both _ _ q (decimal_free c (n % 8) p (omega arith)))

pub code_some : (n : ℕ) → 0 < length (code_text n)
code_some n = let size = length-append (decimal (n / 2048) ++ 45 ∷ decimal (n / 8 % 256)) (45 ∷ decimal (n % 8)) in omega arith

pub vias_free : (c : ℕ) → is_ascii_digit c ≡ false → not (45 == c) ≡ true → not (43 == c) ≡ true → (vias : List ℕ) → IsClass vias → lacks c (vias_text vias) ≡ true
vias_free c p q r vias h = join_lacks c 43 code_text IsCode r (λ n small. code_free c n p q small) vias h.1

classes_free : (classes : List (List ℕ)) → AllByRecursion IsClass classes → lacks 58 (classes_text classes) ≡ true
classes_free classes h = join_lacks 58 47 vias_text IsClass refl (vias_free 58 refl refl refl) classes h

-- ---- classes

vias_read : (text : List ℕ) (vias : List ℕ) → vias_of text ≡ Some vias → IsClass vias × (text ≡ vias_text vias)
vias_read text vias e = let h = pieces_read 43 code_of code_text IsCode (λ t n r. code_reads n t r) text vias e in ((h.0, h.1), h.2)

vias_written : (vias : List ℕ) → IsClass vias → vias_of (vias_text vias) ≡ Some vias
vias_written vias h = pieces_written 43 code_of code_text IsCode code_written (λ n small. code_free 43 n refl refl small) vias h.0 h.1

classes_read : (text : List ℕ) (classes : List (List ℕ)) → classes_of text ≡ Some classes → AllByRecursion IsClass classes × (text ≡ classes_text classes)
classes_read [] [] e = (tt, refl)
classes_read [] (c ∷ cs) e = absurd (cc)
classes_read (b ∷ bs) classes e = let h = pieces_read 47 vias_of vias_text IsClass vias_read (b ∷ bs) classes e in (h.1, h.2)

not_none : (n : ℕ) → 0 < n → (n == 0) ≡ false
not_none n h = grind (arith, nat_tests)

vias_some : (vias : List ℕ) → IsClass vias → 0 < length (vias_text vias)
vias_some vias h = join_some 43 code_text vias h.0 code_some

first_some : (c : List ℕ) (cs : List (List ℕ)) → IsClass c → 0 < length (classes_text (c ∷ cs))
first_some c [] h = vias_some c h
first_some c (d ∷ ds) h = let size = length-append (vias_text c) (47 ∷ classes_text (d ∷ ds)) in let some = vias_some c h in omega arith

classes_written : (classes : List (List ℕ)) → AllByRecursion IsClass classes → classes_of (classes_text classes) ≡ Some classes
classes_written [] h = refl
classes_written (c ∷ cs) h =
    some_classes (classes_text (c ∷ cs)) (not_none _ (first_some c cs h.0))
    ∙ pieces_written 47 vias_of vias_text IsClass vias_written (vias_free 47 refl refl refl) (c ∷ cs) (omega arith) h

-- ---- the flag

place_none : (c : ℕ) (a : List ℕ) → lacks c a ≡ true → position_or_len (λ b. b == c) a ≡ length a
place_none c [] h = refl
place_none c (b ∷ bs) h =
    let parts = and_parts (not (b == c)) (lacks c bs) h in
    let other = lacks_parts b c parts.0 in
    let more = place_none c bs parts.1 in
    rw other (omega arith)

none_by : (text : List ℕ) (n : ℕ) → n ≡ length text → option_map {U = List ℕ × List ℕ} (λ i. (take i text, drop (i + 1) text)) (cond (ltb n (length text)) (Some n) None) ≡ None
none_by text n e = let past : ltb n (length text) ≡ false = grind (arith, nat_tests) in rw past refl

split_lacks : (c : ℕ) (text : List ℕ) → lacks c text ≡ true → split_of c text ≡ None
split_lacks c text h = none_by text (position_or_len (λ b. b == c) text) (place_none c text h)

flag_read_by : (text classes : List ℕ) (m : Bool) (s : Option (List ℕ × List ℕ)) → split_of 58 text ≡ s → flagged text s ≡ Some (classes, m) → text ≡ classes ++ word_if m (codes ":m")
flag_read_by text classes m None e h =
    let parts = some_pair_parts text classes false m h in
    parts.0 ∙ sym (append-nil classes) ∙ ap (λ b. classes ++ word_if b (codes ":m")) parts.1
flag_read_by text classes m (Some (a, flag)) e h =
    let test = cond_Some (bytes_eq flag (codes "m")) (a, true) (classes, m) h in
    let parts = some_pair_parts a classes true m (ap Some test.1) in
    split_parts 58 text a flag e ∙ ap (λ t. a ++ (58 ∷ t)) (bytes_same flag (codes "m") test.0) ∙ ap (λ t. t ++ codes ":m") parts.0 ∙ ap (λ b. classes ++ word_if b (codes ":m")) parts.1

flag_written : (classes : List ℕ) (m : Bool) → lacks 58 classes ≡ true → flag_of (classes ++ word_if m (codes ":m")) ≡ Some (classes, m)
flag_written classes false h = ap flag_of (append-nil classes) ∙ ap (flagged classes) (split_lacks 58 classes h)
flag_written classes true h = ap (flagged (classes ++ codes ":m")) (split_here 58 classes (codes "m") h)

-- ---- rows

row_from : (row : Row) (c r : ℕ) (cs : List (List ℕ)) (m : Bool) (text code rest rank tail classes : List ℕ) → text ≡ code ++ (58 ∷ rest) → rest ≡ rank ++ (58 ∷ tail) → tail ≡ classes ++ word_if m (codes ":m")
    → (c < 16384) × (code ≡ code_text c) → (r ≤ 255) × (rank ≡ decimal r) → AllByRecursion IsClass cs × (classes ≡ classes_text cs) → record { point = c; rank = r; classes = cs; mate = m } ≡ row
    → IsRow row × (text ≡ row_text row)
row_from row c r cs m text code rest rank tail classes e1 e2 e3 hc hr hcs same =
    let flag = word_if m (codes ":m") in
    let last : tail ≡ classes_text cs ++ flag = e3 ∙ ap (λ t. t ++ flag) hcs.1 in
    let next : rest ≡ decimal r ++ (58 ∷ (classes_text cs ++ flag)) = e2 ∙ ap (λ t. t ++ (58 ∷ tail)) hr.1 ∙ ap (λ t. decimal r ++ (58 ∷ t)) last in
    let whole : text ≡ code_text c ++ (58 ∷ (decimal r ++ (58 ∷ (classes_text cs ++ flag)))) = e1 ∙ ap (λ t. t ++ (58 ∷ rest)) hc.1 ∙ ap (λ t. code_text c ++ (58 ∷ t)) next in
    subst (λ (row : Row). IsRow row × (text ≡ row_text row)) same ((hc.0, hr.0, hcs.0), whole)

row_reads : (row : Row) (text : List ℕ) → row_of text ≡ Some row → IsRow row × (text ≡ row_text row)
row_reads row text e =
    let first = and_then_Some (parts_of text) _ row e in
    let p1 = and_then_Some (split_of 58 text) _ first.0 first.1 in
    let p2 = and_then_Some (split_of 58 p1.0.1) _ first.0 p1.2 in
    let p3 = and_then_Some (flag_of p2.0.1) _ first.0 p2.2 in
    let p4 = and_then_Some (code_of p1.0.0) _ first.0 p3.2 in
    let p5 = map_Some (rank_of p2.0.0) _ first.0 p4.2 in
    let made : ℕ × ℕ × List ℕ × Bool → Option Row = λ q. option_map (λ cs. record { point = q.0; rank = q.1; classes = cs; mate = q.3 }) (classes_of q.2) in
    let e2 : made (p4.0, p5.0, p3.0.0, p3.0.1) ≡ Some row = ap made p5.2 ∙ first.2 in
    let last = map_Some (classes_of p3.0.0) _ row e2 in
    row_from row p4.0 p5.0 last.0 p3.0.1 text p1.0.0 p1.0.1 p2.0.0 p2.0.1 p3.0.0
    (split_parts 58 text p1.0.0 p1.0.1 p1.1) (split_parts 58 p1.0.1 p2.0.0 p2.0.1 p2.1) (flag_read_by p2.0.1 p3.0.0 p3.0.1 (split_of 58 p2.0.1) refl p3.1)
    (code_reads p4.0 p1.0.0 p4.1) (number_reads 255 p5.0 p2.0.0 (omega arith) p5.1) (classes_read p3.0.0 last.0 last.1) last.2

row_at : (row : Row) (text code rest rank tail classes : List ℕ) → split_of 58 text ≡ Some (code, rest) → split_of 58 rest ≡ Some (rank, tail) → flag_of tail ≡ Some (classes, row.mate)
    → code_of code ≡ Some row.point → rank_of rank ≡ Some row.rank → classes_of classes ≡ Some row.classes → row_of text ≡ Some row
row_at row text code rest rank tail classes e1 e2 e3 e4 e5 e6 = rw (e1, e2, e3, e4, e5, e6) refl

pub row_writes : (row : Row) → IsRow row → row_of (row_text row) ≡ Some row
row_writes row h =
    let classes = classes_text row.classes in
    let tail = classes ++ word_if row.mate (codes ":m") in
    let small : row.rank ≤ 255 = h.1 in
    row_at row (row_text row) (code_text row.point) (decimal row.rank ++ (58 ∷ tail)) (decimal row.rank) tail classes
    (split_here 58 (code_text row.point) (decimal row.rank ++ (58 ∷ tail)) (code_free 58 row.point refl refl h.0))
    (split_here 58 (decimal row.rank) tail (decimal_free 58 row.rank refl (omega arith)))
    (flag_written classes row.mate (classes_free row.classes h.2))
    (code_written row.point h.0) (number_written 255 row.rank (omega arith) small) (classes_written row.classes h.2)

pub row_law : (row : Row) (text : List ℕ) → (row_of text ≡ Some row) ↔ (IsRow row × (text ≡ row_text row))
row_law row text = (row_reads row text, λ h. ap row_of h.1 ∙ row_writes row h.0)

-- a row read from the front
pub plain_row : (row : Row) (text tail rest : List ℕ) → row.point < 16384 → row.rank ≤ 255 → AllByRecursion IsClass row.classes
    → text ≡ code_text row.point ++ (58 ∷ (decimal row.rank ++ (58 ∷ tail))) → tail ≡ classes_text row.classes ++ rest → rest ≡ word_if row.mate (codes ":m") → row_of text ≡ Some row
plain_row row text tail rest coded ranked classes head body end =
    let written : text ≡ row_text row
    = head ∙ ap (λ t. code_text row.point ++ (58 ∷ (decimal row.rank ++ (58 ∷ t)))) (body ∙ ap (λ t. classes_text row.classes ++ t) end) in
    ap row_of written ∙ row_writes row (coded, ranked, classes)
