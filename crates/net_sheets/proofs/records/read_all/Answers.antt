use Rattle.std.proofs.Common.{Bor, List, ℕ, ◌≡◌, ◌∙◌, ap, subst, sym, refl, inl, inr, map, Some, Ok, Err, OnOk, Result, true, is_ok, rules, ◌++◌, ◌∷◌, []}
use Rattle.std.proofs.lemmas.List.{map-append}
use Rattle.csv.specs.Reading.{Reached, default_config, strip_bom}
use Rattle.csv.specs.Records.{Row, fields_of}
use Rattle.csv.specs.declared.parser.State.TheVariants as st
use Rattle.csv.proofs.ReadFacts.{rows-end, rows-more}
use Rattle.net_sheets.proofs.records.read_all.Goals as goal

-- what holds of a result that is right
on_ok : {E : Type 0} (P : Type 0) (r : Result (Unit {0}) E) → (r ≡ Ok (tt {0}) → P) → OnOk r P
on_ok P (Ok x) f = f refl
on_ok P (Err e) f = tt

given : {E : Type 0} (P : Type 0) (r : Result (Unit {0}) E) → OnOk r P → r ≡ Ok (tt {0}) → P
given P (Ok x) p same = p
given P (Err e) p same = search rules

right : {E : Type 0} (r : Result (Unit {0}) E) → is_ok r ≡ true → r ≡ Ok (tt {0})
right (Ok x) is = refl
right (Err e) is = search rules

pub loop-row-init : goal.loop-row-init
unfolding Reached
loop-row-init c = λ _.
    let fr = c.records_of-row-items.ensures in
    let start = c.into_iter-row-iterator.ensures.into_iter_gives ∙ refl in
    rw (start, c.requires) (
      fr.trim,
      inr (inr (fr.has_headers, fr.headers)),
      fr.left,
      fr.config,
      strip_bom c.args.text.now,
      fr.source,
      (sym fr.state, refl),
    )

pub loop-row-preserved-then-is_ok : goal.loop-row-preserved-then-is_ok
loop-row-preserved-then-is_ok c = λ same.
    let inv = c.loop-row.invariant (right c.loop-row.read (sym c.is_ok.ensures.value ∙ c.if-is_ok.true)) in
    let kept = given ((x : Row) × (c.in-Some.row ≡ Ok x) × (c.keep-read.new.rows.items ≡ c.loop-row.rows.items ++ x ∷ [])) c.keep-read.result c.keep-read.ensures same in
    let s = rw (c.in-Some.is, kept.1) at ((c.next.ensures.steps inv.2 inv.0).0 inv.1) in
    let m = rows-more (λ (s : Bor (List ℕ)). Some s.now) c.loop-row.row-iterator.rdr c.next.new.self.rdr (fields_of kept.0) default_config st.StartRecord (strip_bom c.args.text.now) inv.4 (map fields_of c.loop-row.rows.items) inv.3 inv.5 inv.6 s.0 in
    (s.0.3 ∙ inv.0, inl s.1, s.2, s.0.2 ∙ inv.3, m.0, m.1, subst (λ (rows : List (List (List ℕ))). Reached default_config st.StartRecord (strip_bom c.args.text.now) rows c.next.new.self.rdr.state m.0) (sym (ap (map fields_of) kept.2 ∙ map-append fields_of c.loop-row.rows.items (kept.0 ∷ []))) m.2)

pub returns : goal.returns
returns c = on_ok _ c.loop-row.read (λ same.
    let inv = c.loop-row.invariant same in
    let s = rw c.in-None.is at ((c.next.ensures.steps inv.2 inv.0).0 inv.1) in
    (c.loop-row.row-iterator.rdr.state, inv.4, inv.6, rows-end (λ (s : Bor (List ℕ)). Some s.now) c.loop-row.row-iterator.rdr c.next.new.self.rdr [] default_config inv.4 inv.3 inv.5 s))
