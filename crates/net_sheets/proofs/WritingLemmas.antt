-- Texts made of a first part and of others.
use Rattle.std.proofs.Common.{take, drop, length, get_or, ◌+◌, ◌-◌, ◌<◌, arith, ◌≡◌, ℕ, Bool, ◌≤◌, List, [], ◌∷◌, ◌++◌, map, ap, refl, sym, ◌∙◌, append-nil, append_assoc, add-one, drop-cons}
use Rattle.std.specs.List.{flat_map, join_with_byte}
use Rattle.std.proofs.lemmas.Grind.{flat_map-append}
use Rattle.std.proofs.lemmas.List.Folds.{flat_map-map}
use Rattle.tokens.proofs.JoinLemmas.{join_tails, rest_all}
use Rattle.net_sheets.specs.declared.routes.Route.TheVariants.{Via}
use Rattle.net_sheets.specs.declared.routes.Route.{Route}
use Rattle.net_sheets.specs.declared.about.Entry.TheVariants as entry
use Rattle.plan_ranks.specs.declared.given.RowRank.{RowRank}
use Rattle.net_sheets.specs.About.{network_header, entry_record, entries_of}
use Rattle.net_sheets.specs.Tables.{line_text, table_text, route_record, class_routes}

-- a list in text, by its first and its other elements
pub tails_made : {A : Type 0} (c : ℕ) (f : A → List ℕ) (ss : List A) (d : A) (t0 t1 : List ℕ) → 1 ≤ length ss → t0 ≡ f (get_or ss 0 d) → t1 ≡ t0 ++ flat_map (λ x. c ∷ f x) (take (length ss - 1) (drop 1 ss)) → t1 ≡ join_with_byte c (map f ss)
tails_made c f [] d t0 t1 some h0 h1 = absurd (omega arith)
tails_made c f (x ∷ xs) d t0 t1 some h0 h1 =
    h1 ∙ ap (λ l. t0 ++ flat_map (λ x. c ∷ f x) l) (rest_all x xs) ∙ ap (λ t. t ++ flat_map (λ x. c ∷ f x) xs) h0 ∙ join_tails c f (f x) xs

-- the line of a way
abbrev pub route_line : Route → List ℕ
route_line r = line_text (route_record r)

-- the lines of one more class
pub class_more : (dest y : ℕ) (classes : List (List ℕ)) (i : ℕ) (d t0 t1 total : List ℕ) → i < length classes → t1 ≡ t0 ++ flat_map (λ z. route_line (Via dest y (i + 1) z)) (get_or classes i d)
    → t0 ++ flat_map route_line (class_routes dest y (i + 1) (drop i classes)) ≡ total → t1 ++ flat_map route_line (class_routes dest y (i + 1 + 1) (drop (i + 1) classes)) ≡ total
class_more dest y classes i d t0 t1 total here more before =
    let vias = get_or classes i d in
    let later = class_routes dest y (i + 1 + 1) (drop (i + 1) classes) in
    let first : drop i classes ≡ vias ∷ drop (i + 1) classes = drop-cons classes i d here ∙ ap (λ n. vias ∷ drop n classes) (sym (add-one i)) in
    let split : flat_map route_line (class_routes dest y (i + 1) (drop i classes)) ≡ flat_map (λ z. route_line (Via dest y (i + 1) z)) vias ++ flat_map route_line later =
    ap (λ cs. flat_map route_line (class_routes dest y (i + 1) cs)) first
    ∙ flat_map-append route_line (map (Via dest y (i + 1)) vias) later
    ∙ ap (λ t. t ++ flat_map route_line later) (flat_map-map route_line (Via dest y (i + 1)) vias) in
    ap (λ t. t ++ flat_map route_line later) more
    ∙ append_assoc t0 (flat_map (λ z. route_line (Via dest y (i + 1) z)) vias) (flat_map route_line later)
    ∙ ap (λ t. t0 ++ t) (sym split)
    ∙ before

-- lines of records
pub lines_made : (header t0 t1 : List ℕ) (routes told : List Route) → t0 ≡ header → told ≡ routes → t1 ≡ t0 ++ flat_map route_line told → t1 ≡ header ++ flat_map line_text (map route_record routes)
lines_made header t0 t1 routes told h0 hr h1 = h1 ∙ rw (h0, hr) (ap (λ t. header ++ t) (sym (flat_map-map line_text route_record routes)))

-- the line of a plan without rows
abbrev pub bare_line : ℕ → List ℕ
bare_line dest = line_text (entry_record (entry.Bare dest))

-- the line of a rank
abbrev pub rank_line : RowRank → List ℕ
rank_line r = line_text (entry_record (entry.Rank r))

-- lines of the table of a network
pub network_made : (t0 t1 t2 : List ℕ) (ni : ℕ) (tfr : Bool) (bare told : List ℕ) (ranks given : List RowRank) → t0 ≡ line_text network_header ++ (line_text (entry_record (entry.Ni ni)) ++ line_text (entry_record (entry.Tfr tfr))) → told ≡ bare
    → t1 ≡ t0 ++ flat_map bare_line told → given ≡ ranks → t2 ≡ t1 ++ flat_map rank_line given → t2 ≡ table_text network_header (map entry_record (entries_of ni tfr bare ranks))
network_made t0 t1 t2 ni tfr bare told ranks given h0 e h1 f h2 =
    let one = line_text (entry_record (entry.Ni ni)) in
    let two = line_text (entry_record (entry.Tfr tfr)) in
    let bares = map entry.Bare bare in
    let gives = map entry.Rank ranks in
    let head = line_text network_header in
    let later = flat_map bare_line bare ++ flat_map rank_line ranks in
    let lines : flat_map line_text (map entry_record (bares ++ gives)) ≡ later =
    flat_map-map line_text entry_record (bares ++ gives) ∙ flat_map-append (λ it. line_text (entry_record it)) bares gives
    ∙ rw (flat_map-map (λ it. line_text (entry_record it)) entry.Bare bare, flat_map-map (λ it. line_text (entry_record it)) entry.Rank ranks) refl in
    h2 ∙ rw (h1, h0, e, f) (append_assoc (head ++ (one ++ two)) (flat_map bare_line bare) (flat_map rank_line ranks) ∙ append_assoc head (one ++ two) later ∙ ap (λ t. head ++ t) (append_assoc one two later ∙ ap (λ t. one ++ (two ++ t)) (sym lines)))
