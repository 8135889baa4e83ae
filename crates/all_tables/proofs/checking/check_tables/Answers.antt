use Rattle.std.proofs.Common.{Some, None, length, slice_get, get_or, refl, ap, ◌∙◌, arith, inl, inr}
use Rattle.std.proofs.lemmas.Bool.{cases_eq}
use Rattle.std.proofs.lemmas.Option.{slice_get_read, slice_get-get_or}
use Rattle.all_tables.specs.Tables.{IsJudged}
use Rattle.all_tables.proofs.CheckingLemmas.{at_place, same_length, settled_before}
use Rattle.all_tables.proofs.checking.check_tables.Goals as goal

pub index-requires : goal.index-requires
index-requires g c = let h = same_length (IsJudged c.args.net.now) c.args.tables.now c.in_ok-complaints.complaints.items c.in_ok-complaints.ensures in omega arith

pub returns-in-Some : goal.returns-in-Some
returns-in-Some g c =
    let net = c.args.net.now in
    let tables = c.args.tables.now in
    let found = c.in_ok-complaints.complaints.items in
    let same = same_length (IsJudged net) tables found c.in_ok-complaints.ensures in
    let there = slice_get_read found (length found) c.loop-position.position c.index.result.now refl (omega arith) c.index.ensures ∙ ap Some c.in-Some.is in
    let judged = at_place (IsJudged net) tables found c.loop-position.position c.index-tables-position.result (Some c.in-Some.complaint) c.in_ok-complaints.ensures there in
    record {
      position = c.loop-position.position;
      table = get_or tables c.loop-position.position c.index-tables-position.result;
      there = slice_get-get_or tables c.loop-position.position c.index-tables-position.result (omega arith);
      before = settled_before net tables found c.loop-position.position c.in_ok-complaints.ensures c.loop-position.invariant;
      dest = refl;
      unsettled = judged.1;
      complaint = judged.0;
    }

pub loop-position-preserved : goal.loop-position-preserved
loop-position-preserved g c = λ k low.
    let found = c.in_ok-complaints.complaints.items in
    let same = same_length (IsJudged c.args.net.now) c.args.tables.now found c.in_ok-complaints.ensures in
    elim (cases_eq k c.loop-position.position) [
      | inl e ↦
          ap (slice_get found) e
          ∙ slice_get_read found (length found) c.loop-position.position c.index.result.now refl (omega arith) c.index.ensures ∙ ap Some c.in_default.is
      | inr ne ↦ c.loop-position.invariant k (omega arith)
    ]

pub returns : goal.returns
returns g c = λ k d low. at_place (IsJudged c.args.net.now) c.args.tables.now c.in_ok-complaints.complaints.items k d None c.in_ok-complaints.ensures (c.loop-position.invariant k (omega arith))
