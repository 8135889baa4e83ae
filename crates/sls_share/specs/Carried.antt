-- The links of a set that carry the sixteen share numbers, told by two masks (own, after Q.704 clause 2.3).
use Rattle.std.specs.Prelude.{◌≡◌, ◌<◌, ℕ, ◌==◌, List, Option, map, filter, find, slice_get, length}
use Rattle.std.specs.Int.{bit_at}
use Rattle.std.specs.List.{range_with_len, list_any}
use Rattle.std.specs.Option.{option_and_then}
use Rattle.net_items.specs.declared.links.Link.{Link}
use Rattle.sls_share.specs.Share.{probe_order, link_for}

-- the codes in a mask, in rising order
unfoldable pub codes_in : ℕ → List ℕ
codes_in mask = filter (λ c. bit_at mask c == 1) (range_with_len 0 16)

-- the first available position in the probe order of share number t among n links
abbrev pub masked_position : ℕ → ℕ → ℕ → Option ℕ
masked_position available n t = find (λ i. bit_at available i == 1) (probe_order t n)

-- the code that carries share number t, where `available` has a bit for each available place among the codes
abbrev pub code_for : List ℕ → ℕ → ℕ → Option ℕ
code_for codes available t = option_and_then (slice_get codes) (masked_position available (length codes) t)

-- the codes that carry the sixteen share numbers
unfoldable pub codes_for : List ℕ → ℕ → List (Option ℕ)
codes_for codes available = map (code_for codes available) (range_with_len 0 16)

-- those of a set's links
unfoldable pub links_for : List Link → List (Option ℕ)
links_for links = map (link_for links) (range_with_len 0 16)

-- each of the sixteen bits tells whether a link has its place as code
abbrev pub IsCodeMask : List Link → ℕ → Type 0
IsCodeMask links mask = (c : ℕ) → c < 16 → (bit_at mask c == 1) ≡ list_any (λ link. link.slc == c) links
