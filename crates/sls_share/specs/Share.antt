-- How the sixteen share numbers are spread over the links of a set, and the SLS values over the vias of a class (own, after Q.704 clause 2.3).
use Rattle.std.specs.Prelude.{◌≡◌, ◌≢◌, ◌<◌, ◌≤◌, ℕ, ◌==◌, ◌+◌, ◌-◌, ◌*◌, ◌/◌, ◌%◌, Bool, true, false, List, Option, Some, IsSome, IsTrue, ◌⊎◌, ◌||◌, if◌then◌else◌, map, find, slice_get, slice_set, length}
use Rattle.std.specs.List.{range_with_len, list_any}
use Rattle.std.specs.Option.{option_and_then, option_map}
use Rattle.net_items.specs.declared.links.Link.{Link}
use Rattle.net_items.specs.Links.{link_available, available_at}

-- the position tried at turn j for share number t in a set of n links
abbrev pub probe : ℕ → ℕ → ℕ → ℕ
probe t n j = if j == 0 then t % n else (t % n + 1 + (t / n + (j - 1)) % (n - 1)) % n

-- the positions in the order tried
abbrev pub probe_order : ℕ → ℕ → List ℕ
probe_order t n = map (probe t n) (range_with_len 0 n)

-- the position of the first available link in that order
abbrev pub position_for : List Link → ℕ → Option ℕ
position_for links t = find (available_at links) (probe_order t (length links))

-- the SLC of that link
abbrev pub link_for : List Link → ℕ → Option ℕ
link_for links t = option_and_then (λ i. option_map (λ link. link.slc) (slice_get links i)) (position_for links t)

-- another link that becomes unavailable leaves this answer as it is
abbrev pub IsSteady : List Link → ℕ → Option ℕ → Type 0
IsSteady links t answer =
    (k : ℕ) (was now : Link) → slice_get links k ≡ Some was → answer ≢ Some was.slc → link_available now ≡ false
    → link_for (slice_set links k now) t ≡ answer

-- the number of the via that carries SLS s in a class of this size, where `first` and `second` tell the members
abbrev pub via_of : ℕ → Bool → Bool → ℕ → ℕ
via_of size first second s =
    if size == 1 then 0
    else (if s % 2 == 0 then (if first then 0 else 1) else (if second then 1 else 0))

-- the share number of SLS s on its via
abbrev pub share_of : ℕ → ℕ → ℕ
share_of size s = if size == 1 then s else s / 2 + 8 * (s % 2)

-- a class of one or two vias with a member among them
abbrev pub HasMember : ℕ → Bool → Bool → Type 0
HasMember size first second = ((size ≡ 1) × IsTrue first) ⊎ ((size ≡ 2) × IsTrue (first || second))

-- the probe order tries every position, for each size of a set and share number
abbrev pub ProbesCover : Type 0
ProbesCover = (n t i : ℕ) → n ≤ 16 → t < 16 → i < n → (j : ℕ) × (j < n) × (probe t n j ≡ i)

-- an available set of at most sixteen links has a link for each share number
abbrev pub SetsServe : Type 0
SetsServe = (links : List Link) (t : ℕ) → list_any link_available links ≡ true → length links ≤ 16 → t < 16 → IsSome (link_for links t)
