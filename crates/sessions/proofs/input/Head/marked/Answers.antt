use Rattle.std.proofs.Common.{inr, arith}
use Rattle.sessions.proofs.InputLemmas.{mark_whole, text_length}
use Rattle.sessions.proofs.input.Head.marked.Goals as goal

pub returns-then-self-gt-TEXT_LIMIT : goal.returns-then-self-gt-TEXT_LIMIT
returns-then-self-gt-TEXT_LIMIT c = λ unread left consumed few.
    let bytes = c.args.self.bytes.items in
    let open_at = c.requires.open_at in
    let size = text_length bytes c.args.self.line (mark_whole bytes c.args.self.line c.args.at c.requires) (omega arith) in
    record { read = bytes; consumed = consumed; cause = inr (omega arith) }
