use Rattle.sessions.proofs.InputLemmas.{put_together}
use Rattle.sessions.proofs.laws.input_parts_law.Goals as goal

pub returns : goal.returns
returns c = put_together
