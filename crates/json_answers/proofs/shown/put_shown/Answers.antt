use Rattle.std.proofs.Common.{OnOk, subst, sym}
use Rattle.json_answers.specs.Members.{Adds, member_tokens}
use Rattle.json_answers.specs.Shown.{shown_members}
use Rattle.json_answers.proofs.shown.put_shown.Goals as goal

pub returns-in-Size : goal.returns-in-Size
returns-in-Size c =
    subst (λ s. OnOk c.show_size.result (Adds c.args.writer.now c.show_size.new.writer (member_tokens (shown_members s)))) (sym c.in-Size.is) c.show_size.ensures

pub returns-in-Set : goal.returns-in-Set
returns-in-Set c =
    subst (λ s. OnOk c.show_set.result (Adds c.args.writer.now c.show_set.new.writer (member_tokens (shown_members s)))) (sym c.in-Set.is) c.show_set.ensures
