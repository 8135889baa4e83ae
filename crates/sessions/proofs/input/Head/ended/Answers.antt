use Rattle.std.proofs.Common.{inr, arith}
use Rattle.sessions.proofs.InputLemmas.{text_length}
use Rattle.sessions.proofs.input.Head.ended.Goals as goal

pub returns-then-text-gt-TEXT_LIMIT : goal.returns-then-text-gt-TEXT_LIMIT
returns-then-text-gt-TEXT_LIMIT c = λ unread left consumed end few.
    let bytes = c.args.self.bytes.items in
    let size = text_length bytes _ c.text_end-text.ensures.parts.0 c.text_end-text.ensures.within in
    record { read = bytes; consumed = consumed; cause = inr (omega arith) }
