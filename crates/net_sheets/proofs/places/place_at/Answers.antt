use Rattle.std.proofs.Common.{◌+◌, take, ap, ◌∙◌}
use Rattle.std.specs.List.{count_by}
use Rattle.net_sheets.specs.Places.{is_first_byte}
use Rattle.net_sheets.proofs.PlanLemmas.{rest_from}
use Rattle.net_sheets.proofs.places.place_at.Goals as goal

pub returns : goal.returns
returns c = record {
  start = c.line_start-start.result;
  begun = c.line_start-start.ensures;
  line_told = ap (λ n. n + 1) c.lines_in.ensures.lines;
  column_told = ap (λ n. n + 1) (c.characters_in.ensures.characters ∙ ap (count_by is_first_byte) (rest_from c.line_start-start.result (take c.args.at c.args.text.now)));
}
