-- Link sets and their links: what is asked of them, and how they change.
use Rattle.std.specs.Prelude.{◌≡◌, ℕ, Bool, true, false, not, ◌&&◌, ◌||◌, ◌==◌, nat_le, is_some, List, [], ◌∷◌, length}
use Rattle.std.specs.List.{list_any}
use Rattle.std.specs.Option.{option_map_or}
use Rattle.net_items.specs.declared.items.LinkSet.{LinkSet}
use Rattle.net_items.specs.declared.links.Link.{Link}
use Rattle.link_state.specs.declared.marks.LinkChange.{LinkChange}
use Rattle.net_items.specs.Keyed.{at_key, put, edit, without}
use Rattle.link_state.specs.Marks.{marks_after}
use Rattle.net_items.specs.Lookups.{set_at, adjacent}

-- no number stands twice
abbrev pub is_distinct : List ℕ → Bool
is_distinct [] = true
is_distinct (x ∷ xs) = not (list_any (λ y. y == x) xs) && is_distinct xs

-- nothing is in the list
abbrev pub is_nil : {X : Type 0} → List X → Bool
is_nil [] = true
is_nil (x ∷ xs) = false

-- the point is an end of the set
abbrev pub is_end : ℕ → LinkSet → Bool
is_end c s = s.a == c || s.b == c

-- the set has a link of that code
abbrev pub has_link : ℕ → LinkSet → Bool
has_link slc s = is_some (at_key (λ (l : Link). l.slc) slc s.links)

-- the set has no more than one link
abbrev pub has_last_link : LinkSet → Bool
has_last_link s = nat_le (length s.links) 1

-- whether the set of that id passes
abbrev pub set_passes : (LinkSet → Bool) → List LinkSet → ℕ → Bool
set_passes test sets id = option_map_or test (set_at sets id) false

-- a new link has the failed mark alone
abbrev pub new_link : ℕ → Link
new_link slc = record { slc = slc; marks = record { failed = true; blocked_a = false; blocked_b = false; inhibited_a = false; inhibited_b = false } }

-- the links of those codes in rising code
abbrev pub new_links : List ℕ → List Link
new_links [] = []
new_links (slc ∷ slcs) = put (λ (l : Link). l.slc) (new_link slc) (new_links slcs)

-- the set after its link of that code is changed
abbrev pub with_change : ℕ → LinkChange → LinkSet → LinkSet
with_change slc change s = record s { links = edit (λ (l : Link). l.slc) slc (λ (l : Link). record l { marks = marks_after change l.marks }) s.links }

-- the set with a new link of that code
abbrev pub with_link : ℕ → LinkSet → LinkSet
with_link slc s = record s { links = put (λ (l : Link). l.slc) (new_link slc) s.links }

-- the set without its link of that code
abbrev pub without_link : ℕ → LinkSet → LinkSet
without_link slc s = record s { links = without (λ (l : Link). l.slc) slc s.links }

-- the sets after the one of that id is changed
abbrev pub edit_set : ℕ → (LinkSet → LinkSet) → List LinkSet → List LinkSet
edit_set id f sets = edit (λ (s : LinkSet). s.id) id f sets

-- no later set joins the ends of an earlier one
abbrev pub IsOnePerPair : List LinkSet → Type 0
IsOnePerPair [] = Unit {0}
IsOnePerPair (s ∷ ss) = (adjacent ss s.a s.b ≡ false) × IsOnePerPair ss
