use Rattle.std.proofs.lemmas.Result.{IfOk-weaker}
use Rattle.json_answers.proofs.ReadingLemmas.{answer_reads}
use Rattle.json_answers.proofs.objects.write_object.Goals as goal

pub returns-clause-reads : goal.returns-clause-reads
returns-clause-reads c = IfOk-weaker c.object_bytes.result _ _ (λ bytes lexed. answer_reads c.args.answer.now bytes.items lexed) c.object_bytes.ensures.tokens
