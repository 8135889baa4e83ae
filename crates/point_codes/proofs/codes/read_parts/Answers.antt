-- The code of a text whose three parts are numbers.
use Rattle.std.proofs.Common.{rules, ◌≡◌, ◌+◌, ◌*◌, Some}
use Rattle.point_codes.specs.Codes.{code_of}
use Rattle.point_codes.proofs.PartLemmas.{code_made}
use Rattle.point_codes.proofs.codes.read_parts.Goals as goal

pub returns-in_ok-p-in-45 : goal.returns-in_ok-p-in-45
returns-in_ok-p-in-45 c =
    let z = c.in_ok-z-in-45.z in
    let a = c.in_ok-a-in-45.a in
    let p = c.in_ok-p-in-45.p in
    let code : code_of c.args.text.now ≡ Some (z * 2048 + a * 8 + p) = code_made z a p c.args.text.now (search rules) (search rules) (search rules) c.in_ok-z-in-45.ensures c.in_ok-a-in-45.ensures c.in_ok-p-in-45.ensures in
    search rules
