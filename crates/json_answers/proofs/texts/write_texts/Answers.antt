use Rattle.std.proofs.Common.{Bor, ◌≡◌, ℕ, List, ◌++◌, map, ap, ◌∙◌}
use Rattle.json.specs.Json.{string}
use Rattle.json.specs.Tree.{json_tokens}
use Rattle.json_answers.specs.Members.{Member, object_with}
use Rattle.json_answers.proofs.MemberLemmas.{line_written}
use Rattle.json_answers.proofs.texts.write_texts.Goals as goal

pub returns : goal.returns
returns c =
    let writer = c.put_texts_object.new.writer in
    let ms : List Member = map (λ (f : Bor (List ℕ) × Bor (List ℕ)). (f.0.now, string f.1.now)) c.args.texts.now in
    let tokens : writer.tokens ≡ json_tokens (object_with ms) =
    c.in_ok-put_texts_object.ensures.tokens ∙ ap (λ ts. ts ++ json_tokens (object_with ms)) c.new-writer.ensures.tokens in
    line_written c.end_line.result writer _ (json_tokens (object_with ms)) (c.in_ok-put_texts_object.ensures.before ∙ c.new-writer.ensures.before) tokens c.end_line.ensures
