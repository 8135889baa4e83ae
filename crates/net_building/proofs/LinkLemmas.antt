-- The links of a new set get their marks, one change after the other.
use Rattle.std.proofs.Common.{map, ◌≡◌, ℕ, ◌<◌, Bool, true, false, not, eqb, ltb, List, [], ◌∷◌, length, refl, ap, ◌∙◌, arith}
use Rattle.std.specs.List.{AllByRecursion, list_all, list_any}
use Rattle.std.proofs.lemmas.Bool.{and_from, lt-ltb, ne_eqb}
use Rattle.link_state.specs.declared.marks.End.TheVariants.{First, Second}
use Rattle.link_state.specs.declared.marks.LinkChange.{LinkChange}
use Rattle.link_state.specs.declared.marks.LinkChange.TheVariants.{Restore, Block, Inhibit}
use Rattle.link_state.specs.declared.marks.Marks.{Marks}
use Rattle.link_state.specs.Marks.{marks_after}
use Rattle.net_items.specs.declared.links.Link.{Link}
use Rattle.net_items.specs.Keyed.{IsRising, put}
use Rattle.net_sets.specs.Sets.{is_distinct, is_nil, new_link, new_links}
use Rattle.net_building.specs.Building.{is_needed}
use Rattle.net_building.proofs.EndLemmas.{put_front, map-same}

-- a link after a change, if it is made
abbrev pub change_if : Bool → LinkChange → Link → Link
change_if true change l = record l { marks = marks_after change l.marks }
change_if false change l = l

-- a link so far, after a change that its marks at the end need
abbrev pub stepped : LinkChange → (Link → Link) → Link → Link
stepped change so_far l = change_if (is_needed change l.marks) change (so_far l)

-- a new link of the same code
abbrev pub fresh : Link → Link
fresh l = new_link l.slc

-- a link after all the changes that it needs
abbrev pub marked : Link → Link
marked l = stepped (Inhibit Second) (stepped (Inhibit First) (stepped (Block Second) (stepped (Block First) (stepped Restore fresh)))) l

-- a link of those marks
abbrev link_of : ℕ → Bool → Bool → Bool → Bool → Bool → Link
link_of slc f a b i j = record { slc = slc; marks = record { failed = f; blocked_a = a; blocked_b = b; inhibited_a = i; inhibited_b = j } }

restored : (slc : ℕ) (f : Bool) → change_if (not f) Restore (new_link slc) ≡ link_of slc f false false false false
restored slc true = refl
restored slc false = refl

blocked_first : (slc : ℕ) (f a : Bool) → change_if a (Block First) (link_of slc f false false false false) ≡ link_of slc f a false false false
blocked_first slc f true = refl
blocked_first slc f false = refl

blocked_second : (slc : ℕ) (f a b : Bool) → change_if b (Block Second) (link_of slc f a false false false) ≡ link_of slc f a b false false
blocked_second slc f a true = refl
blocked_second slc f a false = refl

inhibited_first : (slc : ℕ) (f a b i : Bool) → change_if i (Inhibit First) (link_of slc f a b false false) ≡ link_of slc f a b i false
inhibited_first slc f a b true = refl
inhibited_first slc f a b false = refl

inhibited_second : (slc : ℕ) (f a b i j : Bool) → change_if j (Inhibit Second) (link_of slc f a b i false) ≡ link_of slc f a b i j
inhibited_second slc f a b i true = refl
inhibited_second slc f a b i false = refl

-- the changes that a link needs make the link
marked-same : (l : Link) → marked l ≡ l
marked-same l =
    let m : Marks = l.marks in
    let last : Link → Link = λ x. change_if m.inhibited_b (Inhibit Second) x in
    let fourth : Link → Link = λ x. last (change_if m.inhibited_a (Inhibit First) x) in
    let third : Link → Link = λ x. fourth (change_if m.blocked_b (Block Second) x) in
    let second : Link → Link = λ x. third (change_if m.blocked_a (Block First) x) in
    ap second (restored l.slc m.failed)
    ∙ ap third (blocked_first l.slc m.failed m.blocked_a)
    ∙ ap fourth (blocked_second l.slc m.failed m.blocked_a m.blocked_b)
    ∙ ap last (inhibited_first l.slc m.failed m.blocked_a m.blocked_b m.inhibited_a)
    ∙ inhibited_second l.slc m.failed m.blocked_a m.blocked_b m.inhibited_a m.inhibited_b

-- the links after all changes are the links
pub all_marked : (links : List Link) → map marked links ≡ links
all_marked links = map-same marked marked-same links

change_if-keeps : (b : Bool) (change : LinkChange) (l : Link) → (change_if b change l).slc ≡ l.slc
change_if-keeps true change l = refl
change_if-keeps false change l = refl

-- a change keeps the code
pub stepped-keeps : (change : LinkChange) (so_far : Link → Link) → ((l : Link) → (so_far l).slc ≡ l.slc) → (l : Link) → (stepped change so_far l).slc ≡ l.slc
stepped-keeps change so_far keeps l = change_if-keeps (is_needed change l.marks) change (so_far l) ∙ keeps l

-- new links of codes that rise
pub new_links-fresh : (links : List Link) → IsRising (λ (l : Link). l.slc) links → new_links (map (λ (l : Link). l.slc) links) ≡ map fresh links
new_links-fresh [] up = refl
new_links-fresh (l ∷ ls) up =
    ap (λ xs. put (λ (l : Link). l.slc) (fresh l) xs) (new_links-fresh ls up.1)
    ∙ put_front (λ (l : Link). l.slc) (fresh l) (map fresh ls) (All-fresh ls up.0)
  where
    All-fresh : (xs : List Link) → AllByRecursion (λ (x : Link). l.slc < x.slc) xs → AllByRecursion (λ (x : Link). l.slc < x.slc) (map fresh xs)
    All-fresh [] all = tt
    All-fresh (x ∷ xs) all = (all.0, All-fresh xs all.1)

-- codes that rise are apart
pub is_distinct-rising : (links : List Link) → IsRising (λ (l : Link). l.slc) links → is_distinct (map (λ (l : Link). l.slc) links) ≡ true
is_distinct-rising [] up = refl
is_distinct-rising (l ∷ ls) up = rw (none ls up.0, is_distinct-rising ls up.1) refl
  where
    none : (xs : List Link) → AllByRecursion (λ (x : Link). l.slc < x.slc) xs → list_any (λ y. eqb y l.slc) (map (λ (l : Link). l.slc) xs) ≡ false
    none [] all = refl
    none (x ∷ xs) all = let high : l.slc < x.slc = all.0 in rw (ne_eqb x.slc l.slc (λ e. omega arith)) (none xs all.1)

-- small codes pass
pub codes_small : (links : List Link) → AllByRecursion (λ (l : Link). l.slc < 16) links → list_all (λ c. ltb c 16) (map (λ (l : Link). l.slc) links) ≡ true
codes_small [] small = refl
codes_small (l ∷ ls) small = and_from (ltb l.slc 16) _ (lt-ltb l.slc 16 small.0) (codes_small ls small.1)

-- some link has a code
pub codes_some : (links : List Link) → 0 < length links → is_nil (map (λ (l : Link). l.slc) links) ≡ false
codes_some [] some = absurd (omega arith)
codes_some (l ∷ ls) some = refl
