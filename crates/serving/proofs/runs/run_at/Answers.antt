use Rattle.std.proofs.Common.{◌≡◌, arith, length}
use Rattle.std.specs.Prelude.{vec_len}
use Rattle.serving.proofs.runs.run_at.Goals as goal

pub returns-in-Ok-clause-served : goal.returns-in-Ok-clause-served
returns-in-Ok-clause-served g c = λ net opening.
    let ok : vec_len c.args.channels ≡ length c.args.channels.items = c.args.channels.ok.0 in
    let one = c.requires.count.0 in
    let all = c.requires.count.1 in
    c.run_sittings.ensures net c.args.channels.items opening c.in-Ok.ensures.seated (omega arith) (omega arith)
