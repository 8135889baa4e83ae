-- Entries that are written are read again.
use Rattle.std.proofs.Common.{◌≡◌, ℕ, ◌<◌, ◌≤◌, lit<, ◌==◌, Bool, true, false, List, [], ◌∷◌, ◌++◌, map, length, Some, option_map, codes, ap, refl, ◌∙◌, arith, length-append}
use Rattle.std.proofs.lemmas.Bool.Decides.{nat_tests}
use Rattle.std.proofs.lemmas.Fmt.{decimal_nonempty}
use Rattle.std.specs.List.{AllByRecursion}
use Rattle.std.specs.Fmt.{decimal}
use Rattle.net_items.specs.declared.items.Kind.{Kind}
use Rattle.net_items.specs.declared.items.Kind.TheVariants.{Sep, Stp}
use Rattle.net_items.specs.declared.items.Point.{Point}
use Rattle.net_items.specs.declared.items.LinkSet.{LinkSet}
use Rattle.net_items.specs.declared.items.Plan.{Plan}
use Rattle.net_items.specs.declared.links.Link.{Link}
use Rattle.net_items.specs.declared.lists.Row.{Row}
use Rattle.net_data.specs.declared.events.Event.TheVariants as on
use Rattle.point_codes.specs.Codes.{code_of, code_text, IsCode}
use Rattle.tokens.specs.Numbers.{id_of}
use Rattle.tokens.specs.Kinds.{kind_text}
use Rattle.tokens.specs.Marked.{marks_text, marked_of, marked_text, IsMarked}
use Rattle.tokens.specs.declared.marked.Format.TheVariants.{Two}
use Rattle.tokens.specs.Pieces.{all_of}
use Rattle.tokens.specs.Rows.{row_text, vias_text, classes_text, IsClass, IsRow}
use Rattle.tokens.specs.Words.{word_if, IsWord}
use Rattle.point_codes.proofs.NumberLemmas.{number_written}
use Rattle.point_codes.proofs.CodeLemmas.{lacks, code_written}
use Rattle.tokens.proofs.PiecesLemmas.{all_written, lacks-append, join_lacks}
use Rattle.tokens.proofs.RowLemmas.{decimal_free, code_free, code_some, vias_free}
use Rattle.tokens.proofs.MarkedLemmas.{marked_writes}
use Rattle.tokens.proofs.WordsLemmas.{words_back}
use Rattle.script_words.specs.Events.{added_point_of, pair_of, plan_of}
use Rattle.script_words.proofs.EventWordsLemmas.{event_writes}
use Rattle.net_text.specs.Entries.{set_of, entry_of, only_event}
use Rattle.net_text.specs.declared.faults.Key.TheVariants.{Points, Pairs, Sets, Plans}
use Rattle.net_building.specs.Building.{point_event, set_events, plan_event}
use Rattle.tokens.specs.Entries.{point_text, pair_text, set_text, plan_text}

-- ---- what can be written: each number in the range of its token

abbrev pub IsSetText : LinkSet → Type 0
IsSetText s = (s.id ≤ 65535) × IsCode s.a × IsCode s.b × (0 < length s.links) × AllByRecursion (IsMarked Two) s.links

abbrev pub IsPlanText : Plan → Type 0
IsPlanText p = IsCode p.dest × AllByRecursion IsRow p.rows

-- ---- tokens are words

code_word : (n : ℕ) → IsCode n → IsWord (code_text n)
code_word n h = (code_some n, code_free 32 n refl refl h)

number_word : (n : ℕ) → n ≤ 65535 → IsWord (decimal n)
number_word n h = (decimal_nonempty n (omega arith), decimal_free 32 n refl (omega arith))

kind_word : (k : Kind) → IsWord (kind_text k)
kind_word Sep = (lit< tt, refl)
kind_word Stp = (lit< tt, refl)

longer : (a b : List ℕ) → 0 < length a → 0 < length (a ++ b)
longer a b h = let size = length-append a b in omega arith

word_free : (b : Bool) (word : List ℕ) → lacks 32 word ≡ true → lacks 32 (word_if b word) ≡ true
word_free false word h = refl
word_free true word h = h

marked_word : (l : Link) → IsMarked Two l → IsWord (marked_text Two l)
marked_word l h =
    let m = l.marks in
    let small : l.slc ≤ 255 = h in
    let ib = word_if m.inhibited_b (codes "ib") in
    let ia = word_if m.inhibited_a (codes "ia") ++ ib in
    let bb = word_if m.blocked_b (codes "bb") ++ ia in
    let ba = word_if m.blocked_a (codes "ba") ++ bb in
    let free_ia : lacks 32 ia ≡ true = lacks-append 32 (word_if m.inhibited_a (codes "ia")) ib (word_free m.inhibited_a (codes "ia") refl) (word_free m.inhibited_b (codes "ib") refl) in
    let free_bb : lacks 32 bb ≡ true = lacks-append 32 (word_if m.blocked_b (codes "bb")) ia (word_free m.blocked_b (codes "bb") refl) free_ia in
    let free_ba : lacks 32 ba ≡ true = lacks-append 32 (word_if m.blocked_a (codes "ba")) bb (word_free m.blocked_a (codes "ba") refl) free_bb in
    let free : lacks 32 (marks_text Two m) ≡ true = lacks-append 32 (word_if m.failed (codes "f")) ba (word_free m.failed (codes "f") refl) free_ba in (
      longer (decimal l.slc) (marks_text Two m) (decimal_nonempty l.slc (omega arith)),
      lacks-append 32 (decimal l.slc) (marks_text Two m) (decimal_free 32 l.slc refl (omega arith)) free,
    )

row_word : (r : Row) → IsRow r → IsWord (row_text r)
row_word r h =
    let small : r.rank ≤ 255 = h.1 in
    let classes = classes_text r.classes in
    let flag = word_if r.mate (codes ":m") in
    let tail = 58 ∷ (classes ++ flag) in
    let last : lacks 32 tail ≡ true = lacks-append 32 classes flag (join_lacks 32 47 vias_text IsClass refl (vias_free 32 refl refl refl) r.classes h.2) (word_free r.mate (codes ":m") refl) in (
      longer (code_text r.point) (58 ∷ (decimal r.rank ++ tail)) (code_some r.point),
      lacks-append 32 (code_text r.point) (58 ∷ (decimal r.rank ++ tail)) (code_free 32 r.point refl refl h.0) (lacks-append 32 (decimal r.rank) tail (decimal_free 32 r.rank refl (omega arith)) last),
    )

all_words : {A : Type 0} (Is : A → Type 0) (f : A → List ℕ) → ((x : A) → Is x → IsWord (f x)) → (xs : List A) → AllByRecursion Is xs → AllByRecursion IsWord (map f xs)
all_words Is f word [] h = tt
all_words Is f word (x ∷ xs) h = (word x h.0, all_words Is f word xs h.1)

-- ---- entries

pub point_reads : (p : Point) → IsCode p.code → entry_of Points Two (point_text p) ≡ Some (only_event (point_event p))
point_reads p h =
    ap (λ ws. option_map only_event (added_point_of ws)) (words_back (code_text p.code ∷ kind_text p.kind ∷ []) (code_word p.code h, (kind_word p.kind, tt)))
    ∙ ap (option_map only_event) (event_writes (on.AddPoint p.code p.kind) h)

pub pair_reads : (p q : ℕ) → IsCode p → IsCode q → entry_of Pairs Two (pair_text p q) ≡ Some (only_event (on.Pair p q))
pair_reads p q h k =
    ap (λ ws. option_map only_event (pair_of ws)) (words_back (code_text p ∷ code_text q ∷ []) (code_word p h, (code_word q k, tt)))
    ∙ ap (option_map only_event) (event_writes (on.Pair p q) (h, k))

links_some : (ls : List Link) → 0 < length ls → (length (map (marked_text Two) ls) == 0) ≡ false
links_some [] h = absurd (omega arith)
links_some (l ∷ ls) h = grind (arith, nat_tests)

set_at : (s : LinkSet) (id a b : List ℕ) (links : List (List ℕ)) → (length links == 0) ≡ false → id_of id ≡ Some s.id → code_of a ≡ Some s.a → code_of b ≡ Some s.b → all_of (marked_of Two) links ≡ Some s.links
    → option_map set_events (set_of Two (id ∷ a ∷ b ∷ links)) ≡ Some (set_events s)
set_at s id a b links some e1 e2 e3 e4 = let read : set_of Two (id ∷ a ∷ b ∷ links) ≡ Some s = rw (some, e4, e1, e2, e3) refl in ap (option_map set_events) read

pub set_reads : (s : LinkSet) → IsSetText s → entry_of Sets Two (set_text s) ≡ Some (set_events s)
set_reads s h =
    let links = map (marked_text Two) s.links in
    ap (λ ws. option_map set_events (set_of Two ws)) (words_back (decimal s.id ∷ code_text s.a ∷ code_text s.b ∷ links)
    (number_word s.id h.0, (code_word s.a h.1, (code_word s.b h.2, all_words (IsMarked Two) (marked_text Two) marked_word s.links h.4))))
    ∙ set_at s (decimal s.id) (code_text s.a) (code_text s.b) links (links_some s.links h.3) (number_written 65535 s.id (omega arith) h.0) (code_written s.a h.1) (code_written s.b h.2)
    (all_written (marked_of Two) (marked_text Two) (IsMarked Two) (marked_writes Two) s.links h.4)

pub plan_reads : (p : Plan) → IsPlanText p → entry_of Plans Two (plan_text p) ≡ Some (only_event (plan_event p))
plan_reads p h =
    ap (λ ws. option_map only_event (plan_of ws)) (words_back (code_text p.dest ∷ map row_text p.rows) (code_word p.dest h.0, all_words IsRow row_text row_word p.rows h.1))
    ∙ ap (option_map only_event) (event_writes (on.SetPlan p) h)
