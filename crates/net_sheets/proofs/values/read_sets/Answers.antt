use Rattle.std.proofs.Common.{ap, ◌∙◌}
use Rattle.tokens.specs.Pieces.{pieces_of}
use Rattle.tokens.specs.Marked.{marked_of}
use Rattle.tokens.specs.declared.marked.Format.TheVariants.{Two}
use Rattle.net_sheets.specs.Values.{set_of}
use Rattle.net_sheets.proofs.ValueLemmas.{value_more, fault_told}
use Rattle.net_sheets.proofs.values.read_sets.Goals as goal

pub loop-i-preserved : goal.loop-i-preserved
loop-i-preserved c =
    value_more set_of c.args.table.now c.loop-i.i c.index-table-i.result c.loop-i.sets.items _ c.in-Ok.set _ c.loop-i-test.true c.index-table-i.is
    (c.in-Ok.ensures (c.in_ok-links.ensures ∙ ap (pieces_of 32 (marked_of Two)) c.field.ensures)) c.in_ok-push-in-Ok.ensures c.loop-i.invariant

pub returns-in-Err-clause-err : goal.returns-in-Err-clause-err
returns-in-Err-clause-err c =
    fault_told set_of c.args.table.now c.loop-i.i c.index-table-i.result c.loop-i.sets.items c.in-Err.flaw _ _ c.loop-i-test.true c.index-table-i.is
    (c.in-Err.ensures (c.in_ok-links.ensures ∙ ap (pieces_of 32 (marked_of Two)) c.field.ensures)) c.loop-i.invariant c.flaw_fault.ensures
