use Rattle.std.proofs.Common.{◌++◌, codes, string_bytes}
use Rattle.std.proofs.lemmas.Result.{on_ok_weaker}
use Rattle.tokens.specs.Words.{word_if}
use Rattle.answers.specs.Ends.{mark_word}
use Rattle.answers.proofs.ShownLemmas.{behind}
use Rattle.answers.proofs.ends.put_marks.Goals as goal

pub returns : goal.returns
returns c =
    let m = c.args.marks in
    let failed = word_if m.failed (codes ":failed") in
    let blocked_a = mark_word (codes ":blocked@") c.args.a m.blocked_a in
    let blocked_b = mark_word (codes ":blocked@") c.args.b m.blocked_b in
    let inhibited_a = mark_word (codes ":inhibited@") c.args.a m.inhibited_a in
    let inhibited_b = mark_word (codes ":inhibited@") c.args.b m.inhibited_b in
    on_ok_weaker c.put_mark-4.result
    (λ is. behind (string_bytes c.args.text.now) failed (blocked_a ++ (blocked_b ++ (inhibited_a ++ inhibited_b))) _ _ c.in_ok-put_if.ensures
    (behind _ blocked_a (blocked_b ++ (inhibited_a ++ inhibited_b)) _ _ c.in_ok-put_mark.ensures
    (behind _ blocked_b (inhibited_a ++ inhibited_b) _ _ c.in_ok-put_mark-2.ensures
    (behind _ inhibited_a inhibited_b _ _ c.in_ok-put_mark-3.ensures is))))
    c.put_mark-4.ensures
