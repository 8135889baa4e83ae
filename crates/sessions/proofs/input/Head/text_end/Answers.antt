use Rattle.std.proofs.Common.{◌∙◌, ap, sym}
use Rattle.sessions.specs.Input.{is_mark}
use Rattle.sessions.proofs.InputLemmas.{end_marked, end_unmarked, rest_slice_of}
use Rattle.sessions.proofs.input.Head.text_end.Goals as goal

pub returns-then-is_mark_line-clause-parts : goal.returns-then-is_mark_line-clause-parts
returns-then-is_mark_line-clause-parts c =
    let bytes = c.args.self.now.bytes.items in
    let same = rest_slice_of bytes c.as_slice-bytes.result.now c.args.self.now.line c.as_slice-bytes.ensures.value in
    end_marked bytes c.args.self.now.line c.requires (ap is_mark (sym same) ∙ sym c.is_mark_line.ensures ∙ c.if-is_mark_line.true)

pub returns-clause-parts : goal.returns-clause-parts
returns-clause-parts c =
    let bytes = c.args.self.now.bytes.items in
    let same = rest_slice_of bytes c.as_slice-bytes.result.now c.args.self.now.line c.as_slice-bytes.ensures.value in
    rw c.as_slice-bytes.ensures.value
    (end_unmarked bytes c.args.self.now.line c.requires (ap is_mark (sym same) ∙ sym c.is_mark_line.ensures ∙ c.if-is_mark_line.false))
