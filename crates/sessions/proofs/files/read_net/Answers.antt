use Rattle.sessions.proofs.InputLemmas.{loaded_whole}
use Rattle.sessions.proofs.files.read_net.Goals as goal

pub returns : goal.returns
returns g c =
    let text = c.in_ok-bytes.bytes.items in
    loaded_whole _ _ text c.of_run.result c.in_ok-bytes.ensures
    (c.of_run.ensures text c.load_owned.ensures.ok c.load_owned.ensures.err c.load_owned.ensures.never_read)
