use Rattle.std.proofs.Common.{◌≡◌, length, ap, subst, sym, ◌∙◌}
use Rattle.std.specs.List.{All}
use Rattle.std.proofs.lemmas.List.{take_all}
use Rattle.std.proofs.lemmas.List.Elements.{All-more}
use Rattle.csv.specs.Records.{Row, fields_of}
use Rattle.net_sheets.proofs.records.misfit.Goals as goal

pub loop-record-preserved : goal.loop-record-preserved
loop-record-preserved c =
    All-more (λ (fields : Row). length (fields_of fields) ≡ c.args.width) c.args.records.now c.loop-record.record-index c.record-item.result c.loop-record-test.true c.loop-record.invariant
    (ap (λ (r : Row). length (fields_of r)) (sym c.record-item.is) ∙ sym c.len.ensures ∙ c.if-len-width.false)

pub returns : goal.returns
returns c = λ t. subst (All (λ (fields : Row). length (fields_of fields) ≡ c.args.width)) (take_all c.loop-record.record-index c.args.records.now c.loop-record-test.false) c.loop-record.invariant
