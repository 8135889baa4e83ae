-- MARKED: a link with its marks.
use Rattle.std.specs.Prelude.{◌≡◌, ◌≤◌, ℕ, ◌&&◌, not, nat_le, Bool, false, if◌then◌else◌, List, [], ◌∷◌, ◌++◌, length, take, drop, position, unwrap_or, Option, Some, None, option_map, option_and_then, codes}
use Rattle.std.specs.Char.{is_ascii_digit}
use Rattle.std.specs.Str.{bytes_eq}
use Rattle.std.specs.Fmt.{decimal}
use Rattle.link_state.specs.declared.marks.Marks.{Marks}
use Rattle.net_items.specs.declared.links.Link.{Link}
use Rattle.tokens.specs.Numbers.{slc_of}
use Rattle.tokens.specs.Words.{word_if}
use Rattle.tokens.specs.declared.marked.Format.{Format}
use Rattle.tokens.specs.declared.marked.Format.TheVariants.{One, Two}

-- whether the word stands at the front of the text
abbrev pub starts_with : List ℕ → List ℕ → Bool
starts_with word text = nat_le (length word) (length text) && bytes_eq (take (length word) text) word

-- whether the word stands at the front, and what comes after it
abbrev pub front : {A : Type 0} → List ℕ → List ℕ → (Bool → List ℕ → A) → A
front word text next = next (starts_with word text) (if starts_with word text then drop (length word) text else text)

-- the value, if the text has ended
abbrev pub at_end : {A : Type 0} → List ℕ → A → Option A
at_end [] x = Some x
at_end (_ ∷ _) x = None

-- failed, blocked by the first and by the second end, inhibited by the first and by the second end
abbrev pub marks : Bool → Bool → Bool → Bool → Bool → Marks
marks f ba bb ia ib = record { failed = f; blocked_a = ba; blocked_b = bb; inhibited_a = ia; inhibited_b = ib }

-- format 1: any of f, b, i, in this order; b and i are those of the first end
abbrev pub marks_in_one : List ℕ → Option Marks
marks_in_one text =
    front (codes "f") text (λ f text.
    front (codes "b") text (λ b text.
    front (codes "i") text (λ i text. at_end text (marks f b false i false))))

-- format 2: any of f, ba, bb, ia, ib, in this order
abbrev pub marks_in_two : List ℕ → Option Marks
marks_in_two text =
    front (codes "f") text (λ f text.
    front (codes "ba") text (λ ba text.
    front (codes "bb") text (λ bb text.
    front (codes "ia") text (λ ia text.
    front (codes "ib") text (λ ib text. at_end text (marks f ba bb ia ib))))))

-- how many digits stand at the front
abbrev pub digits_len : List ℕ → ℕ
digits_len text = unwrap_or (position (λ b. not (is_ascii_digit b)) text) (length text)

-- a link code in digits, then its marks
abbrev pub marked_by : (List ℕ → Option Marks) → List ℕ → Option Link
marked_by marks_in text =
    option_and_then (λ slc. option_map (λ m. record { slc = slc; marks = m }) (marks_in (drop (digits_len text) text))) (slc_of (take (digits_len text) text))

-- the link that a token is, in a format
abbrev pub marked_of : Format → List ℕ → Option Link
marked_of One text = marked_by marks_in_one text
marked_of Two text = marked_by marks_in_two text

-- how marks are written in a format
abbrev pub marks_text : Format → Marks → List ℕ
marks_text One m = word_if m.failed (codes "f") ++ (word_if m.blocked_a (codes "b") ++ word_if m.inhibited_a (codes "i"))
marks_text Two m =
    word_if m.failed (codes "f") ++ (word_if m.blocked_a (codes "ba") ++ (word_if m.blocked_b (codes "bb")
    ++ (word_if m.inhibited_a (codes "ia") ++ word_if m.inhibited_b (codes "ib"))))

-- how a link is written in a format
abbrev pub marked_text : Format → Link → List ℕ
marked_text format link = decimal link.slc ++ marks_text format link.marks

-- what a format can say of a link: format 1 has no marks of the second end
abbrev pub IsMarked : Format → Link → Type 0
IsMarked One link = (link.slc ≤ 255) × (link.marks.blocked_b ≡ false) × (link.marks.inhibited_b ≡ false)
IsMarked Two link = link.slc ≤ 255
