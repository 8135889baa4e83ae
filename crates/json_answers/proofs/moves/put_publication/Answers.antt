use Rattle.std.proofs.Common.{OnOk, subst, sym}
use Rattle.json_answers.specs.Members.{Adds, member_tokens}
use Rattle.json_answers.specs.Objects.{publication_members}
use Rattle.json_answers.proofs.moves.put_publication.Goals as goal

pub returns-in-Published : goal.returns-in-Published
returns-in-Published c =
    subst (λ p. OnOk c.put_numbered.result (Adds c.args.writer.now c.put_numbered.new.writer (member_tokens (publication_members p)))) (sym c.in-Published.is) c.put_numbered.ensures

pub returns-in-Changes : goal.returns-in-Changes
returns-in-Changes c =
    subst (λ p. OnOk c.put_changes.result (Adds c.args.writer.now c.put_changes.new.writer (member_tokens (publication_members p)))) (sym c.in-Changes.is) (rw c.get.ensures at c.put_changes.ensures)
