use Rattle.std.proofs.Common.{string_bytes, ◌∙◌}
use Rattle.std.specs.Fmt.{decimal}
use Rattle.point_codes.specs.Codes.{code_text}
use Rattle.net_sheets.specs.declared.routes.Route.TheVariants.{Via}
use Rattle.net_sheets.proofs.WritingLemmas.{route_line}
use Rattle.net_sheets.proofs.LineLemmas.{four_line, piece_more, pieces_all}
use Rattle.net_sheets.proofs.writing.put_vias.Goals as goal

pub loop-via-preserved : goal.loop-via-preserved
loop-via-preserved c =
    let via = c.via-item.result in
    piece_more (λ z. route_line (Via c.args.dest c.args.point c.args.class z)) c.args.vias.now c.loop-via.via-index _ via (string_bytes c.args.text.now) (string_bytes c.loop-via.text) _ c.as_str.result.now
    c.loop-via-test.true c.via-item.is c.in_ok-push_str.ensures.bytes
    (c.as_str.ensures.value ∙ c.in_ok-line.ensures.ok ∙ four_line (code_text c.args.dest) (code_text c.args.point) (decimal c.args.class) (code_text via)) c.loop-via.invariant

pub returns : goal.returns
returns c =
    pieces_all (λ z. route_line (Via c.args.dest c.args.point c.args.class z)) c.args.vias.now c.loop-via.via-index (string_bytes c.args.text.now) (string_bytes c.loop-via.text) c.loop-via-test.false c.loop-via.invariant
