-- Links with their marks, each mark by the end of the set that it is of (own).
use Rattle.std.specs.Prelude.{ℕ, Bool, List, ◌∷◌, ◌++◌, codes}
use Rattle.std.specs.List.{flat_map}
use Rattle.std.specs.Fmt.{decimal}
use Rattle.link_state.specs.declared.marks.Marks.{Marks}
use Rattle.point_codes.specs.Codes.{code_text}
use Rattle.net_items.specs.declared.items.LinkSet.{LinkSet}
use Rattle.net_items.specs.declared.links.Link.{Link}
use Rattle.tokens.specs.Words.{word_if}

-- a mark of an end, if it is there: its name, and the code of that end
abbrev pub mark_word : List ℕ → ℕ → Bool → List ℕ
mark_word name code is_there = word_if is_there (name ++ code_text code)

-- the marks of a link between the ends a and b: `:failed`, `:blocked@CODE` and `:inhibited@CODE`
abbrev pub marks_word : ℕ → ℕ → Marks → List ℕ
marks_word a b m =
    word_if m.failed (codes ":failed") ++ (mark_word (codes ":blocked@") a m.blocked_a ++ (mark_word (codes ":blocked@") b m.blocked_b
    ++ (mark_word (codes ":inhibited@") a m.inhibited_a ++ mark_word (codes ":inhibited@") b m.inhibited_b)))

-- a link between the ends a and b: its code, and its marks
abbrev pub link_word : ℕ → ℕ → Link → List ℕ
link_word a b link = decimal link.slc ++ marks_word a b link.marks

-- the links of a set, each after a space
abbrev pub links_words : LinkSet → List ℕ
links_words set = flat_map (λ link. 32 ∷ link_word set.a set.b link) set.links
