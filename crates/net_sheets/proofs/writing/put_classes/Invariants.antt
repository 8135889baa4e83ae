use Rattle.std.proofs.Common.{◌≡◌, ◌+◌, ◌++◌, drop, string_bytes}
use Rattle.std.specs.List.{flat_map}
use Rattle.net_sheets.specs.Tables.{line_text, route_record, class_routes}
use Rattle.net_sheets.proofs.writing.put_classes.Given as goal

-- what was written and what is left to write are all lines
abbrev pub invariant-loop-place : goal.invariant-loop-place
invariant-loop-place l =
    string_bytes l.text ++ flat_map (λ r. line_text (route_record r)) (class_routes l.dest l.point (l.place + 1) (drop l.place l.classes))
    ≡ string_bytes l.fn.text ++ flat_map (λ r. line_text (route_record r)) (class_routes l.dest l.point 1 l.classes)
