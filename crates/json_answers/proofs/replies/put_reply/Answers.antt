use Rattle.std.proofs.Common.{OnOk, subst, sym}
use Rattle.json_answers.specs.Members.{Adds, member_tokens}
use Rattle.json_answers.specs.Objects.{reply_members}
use Rattle.json_answers.proofs.replies.put_reply.Goals as goal

pub returns-in-Abandoned : goal.returns-in-Abandoned
returns-in-Abandoned c =
    subst (λ r. OnOk c.put_word-in-Abandoned.result (Adds c.args.writer.now c.put_word-in-Abandoned.new.writer (member_tokens (reply_members r)))) (sym c.in-Abandoned.is) c.put_word-in-Abandoned.ensures
