use Rattle.std.proofs.Common.{◌≡◌, map, take, length}
use Rattle.net_sheets.specs.declared.routes.Route.TheVariants.{Via}
use Rattle.net_sheets.proofs.rows.take_class.Given as goal

abbrev pub invariant-loop-route : goal.invariant-loop-route
invariant-loop-route l = record {
  many : length l.vias.items ≡ l.route-index;
  vias : map (Via l.dest l.point l.class) l.vias.items ≡ take l.route-index l.routes;
}
