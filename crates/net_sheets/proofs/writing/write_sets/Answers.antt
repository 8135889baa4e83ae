use Rattle.std.proofs.Common.{string_bytes, ◌∙◌}
use Rattle.net_sheets.specs.Tables.{sets_header, set_record}
use Rattle.net_sheets.proofs.LineLemmas.{record_more, records_all}
use Rattle.net_sheets.proofs.writing.write_sets.Goals as goal

pub loop-set-preserved : goal.loop-set-preserved
loop-set-preserved c =
    record_more sets_header set_record c.args.net.now.sets c.sets-set-items.result.now c.loop-set.set-index _ c.set-item.result (string_bytes c.loop-set.text) _ _
    c.sets-set-items.ensures c.loop-set-test.true c.set-item.is c.in_ok-push_str.ensures.bytes (c.as_str.ensures.value ∙ c.in_ok-line.ensures) c.loop-set.invariant

pub returns : goal.returns
returns c = records_all sets_header set_record c.args.net.now.sets c.sets-set-items.result.now c.loop-set.set-index (string_bytes c.loop-set.text) c.sets-set-items.ensures c.loop-set-test.false c.loop-set.invariant
