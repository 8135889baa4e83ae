-- The links of a set as a list, however they are kept (own, after Q.704 clauses 2.2 and 3.2).
use Rattle.std.specs.Prelude.{◌≡◌, ◌≢◌, ◌<◌, ℕ, ◌==◌, Bool, false, List, map, filter, slice_get}
use Rattle.std.specs.Int.{bit_at}
use Rattle.std.specs.List.{range_with_len}
use Rattle.std.specs.Option.{option_map_or}
use Rattle.link_state.specs.Marks.{is_clear}
use Rattle.link_state.specs.declared.marks.Marks.{Marks}
use Rattle.net_items.specs.declared.links.Link.{Link}
use Rattle.net_items.specs.declared.links.MarkBits.{MarkBits}

-- whether the bit of a signalling link code is set
abbrev pub has_bit : ℕ → ℕ → Bool
has_bit bits slc = bit_at bits slc == 1

-- the marks that have the bit of a signalling link code
abbrev pub marks_in : MarkBits → ℕ → Marks
marks_in m slc = record {
  failed = has_bit m.failed slc;
  blocked_a = has_bit m.blocked_a slc;
  blocked_b = has_bit m.blocked_b slc;
  inhibited_a = has_bit m.inhibited_a slc;
  inhibited_b = has_bit m.inhibited_b slc;
}

-- the link of a signalling link code, with these marks
abbrev pub link_in : MarkBits → ℕ → Link
link_in m slc = record { slc = slc; marks = marks_in m slc }

-- the links whose bit is set, of the sixteen signalling link codes, in rising code
unfoldable pub links_in : ℕ → MarkBits → List Link
links_in there m = filter (λ (link : Link). has_bit there link.slc) (map (link_in m) (range_with_len 0 16))

-- bits in which one of the sixteen is set or not, and the others are as before
pub record IsWithBit (before slc : ℕ) (set : Bool) (after : ℕ) : Type 0 where
  pub here : has_bit after slc ≡ set
  pub others : (c : ℕ) → c < 16 → c ≢ slc → has_bit after c ≡ has_bit before c

-- the same of the marks
pub record IsWithMarks (before : MarkBits) (slc : ℕ) (marks : Marks) (after : MarkBits) : Type 0 where
  pub here : marks_in after slc ≡ marks
  pub others : (c : ℕ) → c < 16 → c ≢ slc → marks_in after c ≡ marks_in before c

-- a link with no mark
abbrev pub link_available : Link → Bool
link_available link = is_clear link.marks

-- the link at position i is there and available
abbrev pub available_at : List Link → ℕ → Bool
available_at links i = option_map_or link_available (slice_get links i) false

-- each of the sixteen bits tells whether the link at its position is there and available
abbrev pub IsMask : List Link → ℕ → Type 0
IsMask links mask = (i : ℕ) → i < 16 → has_bit mask i ≡ available_at links i
