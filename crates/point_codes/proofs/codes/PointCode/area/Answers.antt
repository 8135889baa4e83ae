use Rattle.std.proofs.Common.{rules}
use Rattle.point_codes.proofs.codes.PointCode.area.Goals as goal

pub returns : goal.returns
returns c = search rules
