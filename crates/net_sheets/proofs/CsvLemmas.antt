-- The texts of the tables, read as CSV.
use Rattle.std.proofs.Common.{◌≡◌, ℕ, zero, suc, ◌+◌, ◌/◌, ◌%◌, ◌<◌, ◌≢◌, ◌==◌, Bool, true, false, List, [], ◌∷◌, ◌++◌, length, map, Option, Some, None, codes, refl, ap, sym, ◌∙◌, subst, arith, append-nil}
use Rattle.std.specs.List.{AllByRecursion, flat_map, list_any, join_with_byte}
use Rattle.std.specs.Option.{option_map_or}
use Rattle.std.specs.Fmt.{decimal, digits, digits_onto, digit_glyph}
use Rattle.std.proofs.lemmas.Bool.{ne_eqb, lt-ltb}
use Rattle.std.proofs.lemmas.List.Folds.{list_any-append}
use Rattle.std.proofs.lemmas.List.Elements.{All-from_recursion}
use Rattle.csv.specs.Machine.{next_record}
use Rattle.csv.specs.Reading.{Reached, AreRecords, default_config, strip_bom}
use Rattle.csv.specs.Writing.{needs_byte, default_writer, field_text, fields_text, row_text, is_blank}
use Rattle.csv.specs.declared.parser.State.TheVariants.{StartRecord}
use Rattle.csv.proofs.RoundTrip.{read-write-many}
use Rattle.net_items.specs.declared.items.Kind.{Kind}
use Rattle.net_items.specs.declared.items.Kind.TheVariants.{Sep, Stp}
use Rattle.net_items.specs.declared.items.Point.{Point}
use Rattle.net_items.specs.declared.items.LinkSet.{LinkSet}
use Rattle.net_items.specs.declared.links.Link.{Link}
use Rattle.point_codes.specs.Codes.{code_text}
use Rattle.tokens.specs.Kinds.{kind_text}
use Rattle.tokens.specs.Words.{word_if}
use Rattle.tokens.specs.Marked.{marked_text}
use Rattle.tokens.specs.declared.marked.Format.TheVariants.{Two}
use Rattle.net_sheets.specs.declared.routes.Route.{Route}
use Rattle.net_sheets.specs.declared.routes.Route.TheVariants.{Via, Mate}
use Rattle.net_sheets.specs.Tables.{Fields, line_text, table_text, points_header, sets_header, routes_header, point_record, set_record, route_record, links_text}
use Rattle.net_sheets.specs.declared.about.Entry.{Entry}
use Rattle.net_sheets.specs.declared.about.Entry.TheVariants as entry
use Rattle.plan_ranks.specs.declared.given.RowRank.{RowRank}
use Rattle.net_sheets.specs.About.{network_header, flag_text, rank_text, entry_record}
use Rattle.net_sheets.specs.Records.{IsTable}

-- a text without a byte that calls for quotes
abbrev IsPlain : List ℕ → Type 0
IsPlain x = list_any (needs_byte default_writer) x ≡ false

plain_byte : (b : ℕ) → b ≢ 44 → b ≢ 34 → b ≢ 13 → b ≢ 10 → needs_byte default_writer b ≡ false
plain_byte b n1 n2 n3 n4 = rw (ne_eqb b 44 n1, ne_eqb b 34 n2, ne_eqb b 13 n3, ne_eqb b 10 n4) refl

plain_append : (x y : List ℕ) → IsPlain x → IsPlain y → IsPlain (x ++ y)
plain_append x y a b = list_any-append (needs_byte default_writer) x y ∙ rw (a, b) refl

plain_cons : (b : ℕ) (x : List ℕ) → needs_byte default_writer b ≡ false → IsPlain x → IsPlain (b ∷ x)
plain_cons b x a p = rw (a, p) refl

plain_digit : (n : ℕ) → needs_byte default_writer (digit_glyph false (n % 10)) ≡ false
plain_digit n =
    let small : n % 10 < 10 = omega arith in
    let told : digit_glyph false (n % 10) ≡ 48 + n % 10 = rw (lt-ltb (n % 10) 10 small) refl in
    ap (needs_byte default_writer) told ∙ plain_byte (48 + n % 10) (λ e. omega arith) (λ e. omega arith) (λ e. omega arith) (λ e. omega arith)

plain_onto : (k n : ℕ) (acc : List ℕ) → IsPlain acc → IsPlain (digits_onto k 10 false n acc)
plain_onto zero n acc p = p
plain_onto (suc k) n acc p = go (n / 10 == 0) refl (plain_onto k (n / 10) (digit_glyph false (n % 10) ∷ acc) (plain_cons (digit_glyph false (n % 10)) acc (plain_digit n) p))
  where
    go : (b : Bool) → (n / 10 == 0) ≡ b → IsPlain (digits_onto k 10 false (n / 10) (digit_glyph false (n % 10) ∷ acc)) → IsPlain (digits_onto (suc k) 10 false n acc)
    go true e next = rw e (plain_cons (digit_glyph false (n % 10)) acc (plain_digit n) p)
    go false e next = rw e next

plain_decimal : (n : ℕ) → IsPlain (decimal n)
unfolding digits
plain_decimal n = plain_onto 64 n [] refl

plain_code : (n : ℕ) → IsPlain (code_text n)
plain_code n =
    plain_append (decimal (n / 2048) ++ 45 ∷ decimal (n / 8 % 256)) (45 ∷ decimal (n % 8))
    (plain_append (decimal (n / 2048)) (45 ∷ decimal (n / 8 % 256)) (plain_decimal (n / 2048)) (plain_cons 45 (decimal (n / 8 % 256)) refl (plain_decimal (n / 8 % 256))))
    (plain_cons 45 (decimal (n % 8)) refl (plain_decimal (n % 8)))

plain_kind : (kind : Kind) → IsPlain (kind_text kind)
plain_kind Sep = refl
plain_kind Stp = refl

plain_if : (b : Bool) (word : List ℕ) → IsPlain word → IsPlain (word_if b word)
plain_if true word p = p
plain_if false word p = refl

plain_marked : (l : Link) → IsPlain (marked_text Two l)
plain_marked l =
    let m = l.marks in
    plain_append (decimal l.slc) _ (plain_decimal l.slc)
    (plain_append (word_if m.failed (codes "f")) _ (plain_if m.failed (codes "f") refl)
    (plain_append (word_if m.blocked_a (codes "ba")) _ (plain_if m.blocked_a (codes "ba") refl)
    (plain_append (word_if m.blocked_b (codes "bb")) _ (plain_if m.blocked_b (codes "bb") refl)
    (plain_append (word_if m.inhibited_a (codes "ia")) _ (plain_if m.inhibited_a (codes "ia") refl) (plain_if m.inhibited_b (codes "ib") refl)))))

plain_links : (links : List Link) → IsPlain (links_text links)
plain_links [] = refl
plain_links (l ∷ []) = plain_marked l
plain_links (l ∷ k ∷ ls) = plain_append (marked_text Two l) (32 ∷ links_text (k ∷ ls)) (plain_marked l) (plain_cons 32 (links_text (k ∷ ls)) refl (plain_links (k ∷ ls)))

-- ---- lines

-- a record of two plain fields or more
abbrev IsPlainRecord : Fields → Type 0
IsPlainRecord [] = ⊥
IsPlainRecord (x ∷ []) = ⊥
IsPlainRecord (x ∷ y ∷ ys) = AllByRecursion IsPlain (x ∷ y ∷ ys)

fields_joined : (x : List ℕ) (ys : Fields) → AllByRecursion IsPlain (x ∷ ys) → field_text default_writer x ++ fields_text default_writer ys ≡ join_with_byte 44 (x ∷ ys)
unfolding fields_text
fields_joined x [] plain = let here : list_any (needs_byte default_writer) x ≡ false = plain.0 in rw here (append-nil x)
fields_joined x (y ∷ ys) plain = let here : list_any (needs_byte default_writer) x ≡ false = plain.0 in rw here (ap (λ t. x ++ 44 ∷ t) (fields_joined y ys plain.1))

-- the line of a record is what the writer of the crate csv writes
line_row : (fields : Fields) → IsPlainRecord fields → row_text default_writer fields ≡ line_text fields
unfolding is_blank
line_row [] plain = absurd plain
line_row (x ∷ []) plain = absurd plain
line_row (x ∷ y ∷ ys) plain = ap (λ t. t ++ 10 ∷ []) (fields_joined x (y ∷ ys) plain)

line_read : (fields : Fields) (rest : List ℕ) → IsPlainRecord fields → next_record default_config StartRecord [] [] (line_text fields ++ rest) ≡ Some (fields, StartRecord, rest)
line_read [] rest plain = absurd plain
line_read (x ∷ []) rest plain = absurd plain
line_read (x ∷ y ∷ ys) rest plain = ap (λ t. next_record default_config StartRecord [] [] (t ++ rest)) (sym (line_row (x ∷ y ∷ ys) plain)) ∙ read-write-many x y ys rest

lines_read : (records : List Fields) → AllByRecursion IsPlainRecord records → Reached default_config StartRecord (flat_map line_text records) records StartRecord []
unfolding Reached
lines_read [] plain = (refl, refl)
lines_read (r ∷ rs) plain = ((r, StartRecord, flat_map line_text rs), line_read r (flat_map line_text rs) plain.0, refl, lines_read rs plain.1)

lines_all : (records : List Fields) → AllByRecursion IsPlainRecord records → AreRecords default_config StartRecord (flat_map line_text records) records
unfolding next_record
lines_all records plain = (StartRecord, [], lines_read records plain, refl)

-- a table of plain records of one width
table_read : (header : Fields) (records : List Fields) → strip_bom (table_text header records) ≡ table_text header records → IsPlainRecord header → AllByRecursion IsPlainRecord records → AllByRecursion (λ fields. length fields ≡ length header) records
    → IsTable header (table_text header records) records
table_read header records no_mark plain all wide = record {
  read = subst (λ t. AreRecords default_config StartRecord t (header ∷ records)) (sym no_mark) (lines_all (header ∷ records) (plain, all));
  wide = All-from_recursion (λ fields. length fields ≡ length header) records wide;
}

-- ---- the tables

mapped : {X : Type 0} (P : Fields → Type 0) (f : X → Fields) → ((x : X) → P (f x)) → (xs : List X) → AllByRecursion P (map f xs)
mapped P f h [] = tt
mapped P f h (x ∷ xs) = (h x, mapped P f h xs)

plain_mate : (mate : Option ℕ) → IsPlain (option_map_or code_text mate [])
plain_mate None = refl
plain_mate (Some m) = plain_code m

plain_point : (p : Point) → IsPlainRecord (point_record p)
plain_point p = (plain_code p.code, (plain_kind p.kind, (plain_mate p.mate, tt)))

plain_set : (s : LinkSet) → IsPlainRecord (set_record s)
plain_set s = (plain_decimal s.id, (plain_code s.a, (plain_code s.b, (plain_links s.links, tt))))

plain_route : (r : Route) → IsPlainRecord (route_record r)
plain_route (Via dest y class z) = (plain_code dest, (plain_code y, (plain_decimal class, (plain_code z, tt))))
plain_route (Mate dest y) = (plain_code dest, (plain_code y, (refl, (refl, tt))))

wide_route : (r : Route) → length (route_record r) ≡ length routes_header
wide_route (Via dest y class z) = refl
wide_route (Mate dest y) = refl

pub points_read : (points : List Point) → IsTable points_header (table_text points_header (map point_record points)) (map point_record points)
unfolding strip_bom
points_read points = table_read points_header (map point_record points) refl (refl, (refl, (refl, tt))) (mapped IsPlainRecord point_record plain_point points) (mapped (λ fields. length fields ≡ 3) point_record (λ p. refl) points)

pub sets_read : (sets : List LinkSet) → IsTable sets_header (table_text sets_header (map set_record sets)) (map set_record sets)
unfolding strip_bom
sets_read sets = table_read sets_header (map set_record sets) refl (refl, (refl, (refl, (refl, tt)))) (mapped IsPlainRecord set_record plain_set sets) (mapped (λ fields. length fields ≡ 4) set_record (λ s. refl) sets)

pub routes_read : (routes : List Route) → IsTable routes_header (table_text routes_header (map route_record routes)) (map route_record routes)
unfolding strip_bom
routes_read routes = table_read routes_header (map route_record routes) refl (refl, (refl, (refl, (refl, tt)))) (mapped IsPlainRecord route_record plain_route routes) (mapped (λ fields. length fields ≡ length routes_header) route_record wide_route routes)

plain_flag : (b : Bool) → IsPlain (flag_text b)
plain_flag true = refl
plain_flag false = refl

plain_rank : (r : RowRank) → IsPlain (rank_text r)
plain_rank r =
    let number = 32 ∷ decimal r.rank in
    let later = 32 ∷ (code_text r.point ++ number) in
    plain_append (code_text r.dest) later (plain_code r.dest) (plain_cons 32 (code_text r.point ++ number) refl (plain_append (code_text r.point) number (plain_code r.point) (plain_cons 32 (decimal r.rank) refl (plain_decimal r.rank))))

plain_entry : (e : Entry) → IsPlainRecord (entry_record e)
plain_entry (entry.Ni n) = (refl, (plain_decimal n, tt))
plain_entry (entry.Tfr b) = (refl, (plain_flag b, tt))
plain_entry (entry.Bare dest) = (refl, (plain_code dest, tt))
plain_entry (entry.Rank r) = (refl, (plain_rank r, tt))

wide_entry : (e : Entry) → length (entry_record e) ≡ length network_header
wide_entry (entry.Ni n) = refl
wide_entry (entry.Tfr b) = refl
wide_entry (entry.Bare dest) = refl
wide_entry (entry.Rank r) = refl

pub entries_read : (entries : List Entry) → IsTable network_header (table_text network_header (map entry_record entries)) (map entry_record entries)
unfolding strip_bom
entries_read entries = table_read network_header (map entry_record entries) refl (refl, (refl, tt)) (mapped IsPlainRecord entry_record plain_entry entries) (mapped (λ fields. length fields ≡ length network_header) entry_record wide_entry entries)
