use Rattle.std.proofs.Common.{◌≡◌, ◌++◌, take, string_bytes}
use Rattle.std.specs.List.{flat_map}
use Rattle.net_sheets.specs.declared.routes.Route.TheVariants.{Via}
use Rattle.net_sheets.specs.Tables.{line_text, route_record}
use Rattle.net_sheets.proofs.writing.put_vias.Given as goal

abbrev pub invariant-loop-via : goal.invariant-loop-via
invariant-loop-via l = string_bytes l.text ≡ string_bytes l.fn.text ++ flat_map (λ z. line_text (route_record (Via l.dest l.point l.class z))) (take l.via-index l.vias)
