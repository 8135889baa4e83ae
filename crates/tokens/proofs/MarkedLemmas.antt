-- Marks in text.
use Rattle.std.proofs.Common.{◌≡◌, ◌↔◌, ℕ, ◌≤◌, not, Bool, true, false, cond, ltb, nat_le, List, [], ◌∷◌, ◌++◌, length, take, drop, Option, Some, None, unwrap_or, codes, sym, ap, subst, refl, ◌∙◌, arith, append-nil}
use Rattle.std.proofs.Math.Seq.{take-append_seam, drop-append_seam}
use Rattle.std.proofs.lemmas.Bool.{and_parts}
use Rattle.std.proofs.lemmas.Bool.Decides.{nat_tests}
use Rattle.std.proofs.lemmas.List.{take-append-drop}
use Rattle.std.proofs.lemmas.List.Sums.{prefix_len-le-length}
use Rattle.std.proofs.lemmas.Slice.Eq.{bytes_eq-Decides}
use Rattle.std.proofs.lemmas.Fmt.{digits_decimal}
use Rattle.std.specs.Char.{is_ascii_digit}
use Rattle.std.specs.List.{position_or_len}
use Rattle.std.specs.Fmt.{decimal}
use Rattle.std.specs.Str.{all_ascii_digits, bytes_eq}
use Rattle.link_state.specs.declared.marks.Marks.{Marks}
use Rattle.net_items.specs.declared.links.Link.{Link}
use Rattle.tokens.specs.Numbers.{slc_of}
use Rattle.tokens.specs.Marked.{starts_with, at_end, marks, marks_in_one, marks_in_two, digits_len, marked_by, marked_of, marks_text, marked_text, IsMarked}
use Rattle.tokens.specs.Words.{word_if}
use Rattle.tokens.specs.declared.marked.Format.{Format}
use Rattle.tokens.specs.declared.marked.Format.TheVariants.{One, Two}
use Rattle.point_codes.proofs.NumberLemmas.{own, number_reads, number_written}
use Rattle.point_codes.proofs.CodeLemmas.{and_then_Some, map_Some}

pub bytes_same : (xs ys : List ℕ) → bytes_eq xs ys ≡ true → xs ≡ ys
bytes_same xs ys h = (bytes_eq-Decides xs ys).0 h

-- a text is the word, where it stands at the front, and the rest
front_by : (word text : List ℕ) (b : Bool) → starts_with word text ≡ b → text ≡ word_if b word ++ cond b (drop (length word) text) text
front_by word text false h = refl
front_by word text true h =
    let parts = and_parts (nat_le (length word) (length text)) (bytes_eq (take (length word) text) word) h in
    sym (take-append-drop (length word) text) ∙ ap (λ t. t ++ drop (length word) text) (bytes_same (take (length word) text) word parts.1)

front_text : (word text : List ℕ) → text ≡ word_if (starts_with word text) word ++ cond (starts_with word text) (drop (length word) text) text
front_text word text = front_by word text (starts_with word text) refl

ended : {A : Type 0} (text : List ℕ) (x y : A) → at_end text x ≡ Some y → (text ≡ []) × (x ≡ y)
ended [] x y e = (refl, cc)
ended (b ∷ bs) x y e = absurd (cc)

one_from : (text t1 t2 t3 : List ℕ) (f b i : Bool) (m : Marks) → text ≡ word_if f (codes "f") ++ t1 → t1 ≡ word_if b (codes "b") ++ t2 → t2 ≡ word_if i (codes "i") ++ t3
    → at_end t3 (marks f b false i false) ≡ Some m → (m.blocked_b ≡ false) × (m.inhibited_b ≡ false) × (text ≡ marks_text One m)
one_from text t1 t2 t3 f b i m e1 e2 e3 e =
    let last = ended t3 (marks f b false i false) m e in
    let t2s : t2 ≡ word_if i (codes "i") = e3 ∙ ap (λ t. word_if i (codes "i") ++ t) last.0 ∙ append-nil (word_if i (codes "i")) in
    let whole : text ≡ marks_text One (marks f b false i false) = e1 ∙ ap (λ t. word_if f (codes "f") ++ t) (e2 ∙ ap (λ t. word_if b (codes "b") ++ t) t2s) in
    subst (λ (m : Marks). (m.blocked_b ≡ false) × (m.inhibited_b ≡ false) × (text ≡ marks_text One m)) last.1 (refl, refl, whole)

one_reads : (text : List ℕ) (m : Marks) → marks_in_one text ≡ Some m → (m.blocked_b ≡ false) × (m.inhibited_b ≡ false) × (text ≡ marks_text One m)
one_reads text m e = one_from text _ _ _ _ _ _ m (front_text (codes "f") text) (front_text (codes "b") _) (front_text (codes "i") _) e

two_from : (text t1 t2 t3 t4 t5 : List ℕ) (f ba bb ia ib : Bool) (m : Marks) → text ≡ word_if f (codes "f") ++ t1 → t1 ≡ word_if ba (codes "ba") ++ t2 → t2 ≡ word_if bb (codes "bb") ++ t3
    → t3 ≡ word_if ia (codes "ia") ++ t4 → t4 ≡ word_if ib (codes "ib") ++ t5 → at_end t5 (marks f ba bb ia ib) ≡ Some m → text ≡ marks_text Two m
two_from text t1 t2 t3 t4 t5 f ba bb ia ib m e1 e2 e3 e4 e5 e =
    let last = ended t5 (marks f ba bb ia ib) m e in
    let t4s : t4 ≡ word_if ib (codes "ib") = e5 ∙ ap (λ t. word_if ib (codes "ib") ++ t) last.0 ∙ append-nil (word_if ib (codes "ib")) in
    let whole : text ≡ marks_text Two (marks f ba bb ia ib) =
    e1 ∙ ap (λ t. word_if f (codes "f") ++ t) (e2 ∙ ap (λ t. word_if ba (codes "ba") ++ t) (e3 ∙ ap (λ t. word_if bb (codes "bb") ++ t) (e4 ∙ ap (λ t. word_if ia (codes "ia") ++ t) t4s))) in
    whole ∙ ap (marks_text Two) last.1

two_reads : (text : List ℕ) (m : Marks) → marks_in_two text ≡ Some m → text ≡ marks_text Two m
two_reads text m e =
    two_from text _ _ _ _ _ _ _ _ _ _ m (front_text (codes "f") text) (front_text (codes "ba") _) (front_text (codes "bb") _) (front_text (codes "ia") _) (front_text (codes "ib") _) e

-- ---- what is written is read

abbrev pub starts_other : List ℕ → Bool
starts_other [] = true
starts_other (b ∷ bs) = not (is_ascii_digit b)

one_written : (f b i : Bool) → (marks_in_one (marks_text One (marks f b false i false)) ≡ Some (marks f b false i false)) × (starts_other (marks_text One (marks f b false i false)) ≡ true)
one_written false false false = (refl, refl)
one_written false false true = (refl, refl)
one_written false true false = (refl, refl)
one_written false true true = (refl, refl)
one_written true false false = (refl, refl)
one_written true false true = (refl, refl)
one_written true true false = (refl, refl)
one_written true true true = (refl, refl)

two_written : (f ba bb ia ib : Bool) → (marks_in_two (marks_text Two (marks f ba bb ia ib)) ≡ Some (marks f ba bb ia ib)) × (starts_other (marks_text Two (marks f ba bb ia ib)) ≡ true)
two_written false false false false false = (refl, refl)
two_written false false false false true = (refl, refl)
two_written false false false true false = (refl, refl)
two_written false false false true true = (refl, refl)
two_written false false true false false = (refl, refl)
two_written false false true false true = (refl, refl)
two_written false false true true false = (refl, refl)
two_written false false true true true = (refl, refl)
two_written false true false false false = (refl, refl)
two_written false true false false true = (refl, refl)
two_written false true false true false = (refl, refl)
two_written false true false true true = (refl, refl)
two_written false true true false false = (refl, refl)
two_written false true true false true = (refl, refl)
two_written false true true true false = (refl, refl)
two_written false true true true true = (refl, refl)
two_written true false false false false = (refl, refl)
two_written true false false false true = (refl, refl)
two_written true false false true false = (refl, refl)
two_written true false false true true = (refl, refl)
two_written true false true false false = (refl, refl)
two_written true false true false true = (refl, refl)
two_written true false true true false = (refl, refl)
two_written true false true true true = (refl, refl)
two_written true true false false false = (refl, refl)
two_written true true false false true = (refl, refl)
two_written true true false true false = (refl, refl)
two_written true true false true true = (refl, refl)
two_written true true true false false = (refl, refl)
two_written true true true false true = (refl, refl)
two_written true true true true false = (refl, refl)
two_written true true true true true = (refl, refl)

digits_place : (ds rest : List ℕ) → all_ascii_digits ds ≡ true → starts_other rest ≡ true → position_or_len (λ b. not (is_ascii_digit b)) (ds ++ rest) ≡ length ds
digits_place [] [] h o = refl
digits_place [] (b ∷ bs) h o = rw o refl
digits_place (d ∷ ds) rest h o =
    let parts = and_parts (is_ascii_digit d) (all_ascii_digits ds) h in
    let more = digits_place ds rest parts.1 o in
    rw parts.0 (omega arith)

len_by : (n len : ℕ) → n ≤ len → unwrap_or (cond (ltb n len) (Some n) None) len ≡ n
len_by n len h = grind (arith, nat_tests)

pub digits_then : (ds rest : List ℕ) → all_ascii_digits ds ≡ true → starts_other rest ≡ true → digits_len (ds ++ rest) ≡ length ds
digits_then ds rest h o =
    len_by (position_or_len (λ b. not (is_ascii_digit b)) (ds ++ rest)) (length (ds ++ rest)) (prefix_len-le-length _ (ds ++ rest)) ∙ digits_place ds rest h o

marked_at : (marks_in : List ℕ → Option Marks) (text a b : List ℕ) (n slc : ℕ) (m : Marks) → digits_len text ≡ n → take n text ≡ a → drop n text ≡ b → slc_of a ≡ Some slc → marks_in b ≡ Some m
    → marked_by marks_in text ≡ Some (record { slc = slc; marks = m })
marked_at marks_in text a b n slc m len front back s e = rw (len, front, back, s, e) refl

marked_written_by : (marks_in : List ℕ → Option Marks) (rest : List ℕ) (slc : ℕ) (m : Marks) → slc ≤ 255 → marks_in rest ≡ Some m → starts_other rest ≡ true → marked_by marks_in (decimal slc ++ rest) ≡ Some (record { slc = slc; marks = m })
marked_written_by marks_in rest slc m small e o =
    marked_at marks_in (decimal slc ++ rest) (decimal slc) rest (length (decimal slc)) slc m (digits_then (decimal slc) rest (digits_decimal own slc (omega arith)) o)
    (take-append_seam (decimal slc) rest) (drop-append_seam (decimal slc) rest) (number_written 255 slc (omega arith) small) e

pub marked_writes : (format : Format) (link : Link) → IsMarked format link → marked_of format (marked_text format link) ≡ Some link
marked_writes One link h =
    let m = link.marks in
    let shape : m ≡ marks m.failed m.blocked_a false m.inhibited_a false = ap (λ b. marks m.failed m.blocked_a b m.inhibited_a m.inhibited_b) h.1 ∙ ap (λ b. marks m.failed m.blocked_a false m.inhibited_a b) h.2 in
    let w = one_written m.failed m.blocked_a m.inhibited_a in
    marked_written_by marks_in_one (marks_text One m) link.slc m h.0 (w.0 ∙ ap Some (sym shape)) w.1
marked_writes Two link h =
    let m = link.marks in
    let w = two_written m.failed m.blocked_a m.blocked_b m.inhibited_a m.inhibited_b in
    marked_written_by marks_in_two (marks_text Two m) link.slc m h w.0 w.1

marked_from : (format : Format) (text a b : List ℕ) (slc : ℕ) (m : Marks) (link : Link) → text ≡ a ++ b → a ≡ decimal slc → b ≡ marks_text format m → IsMarked format (record { slc = slc; marks = m }) → record { slc = slc; marks = m } ≡ link
    → IsMarked format link × (text ≡ marked_text format link)
marked_from format text a b slc m link whole first second is same =
    subst (λ (l : Link). IsMarked format l × (text ≡ marked_text format l)) same (is, whole ∙ ap (λ t. t ++ b) first ∙ ap (λ t. decimal slc ++ t) second)

marked_reads : (format : Format) (link : Link) (text : List ℕ) → marked_of format text ≡ Some link → IsMarked format link × (text ≡ marked_text format link)
marked_reads One link text e =
    let n = digits_len text in
    let first = and_then_Some (slc_of (take n text)) _ link e in
    let second = map_Some (marks_in_one (drop n text)) _ link first.2 in
    let slc = number_reads 255 first.0 (take n text) (omega arith) first.1 in
    let m = one_reads (drop n text) second.0 second.1 in
    marked_from One text (take n text) (drop n text) first.0 second.0 link (sym (take-append-drop n text)) slc.1 m.2 (slc.0, m.0, m.1) second.2
marked_reads Two link text e =
    let n = digits_len text in
    let first = and_then_Some (slc_of (take n text)) _ link e in
    let second = map_Some (marks_in_two (drop n text)) _ link first.2 in
    let slc = number_reads 255 first.0 (take n text) (omega arith) first.1 in
    marked_from Two text (take n text) (drop n text) first.0 second.0 link (sym (take-append-drop n text)) slc.1 (two_reads (drop n text) second.0 second.1) slc.0 second.2

pub marked_law : (format : Format) (link : Link) (text : List ℕ) → (marked_of format text ≡ Some link) ↔ (IsMarked format link × (text ≡ marked_text format link))
marked_law format link text = (marked_reads format link text, λ h. ap (marked_of format) h.1 ∙ marked_writes format link h.0)
