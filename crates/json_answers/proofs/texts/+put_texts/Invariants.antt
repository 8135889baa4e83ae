use Rattle.std.proofs.Common.{length}
use Rattle.json_answers.proofs.texts.+put_texts.Given as goal

abbrev pub decreases-put_texts : goal.decreases-put_texts
decreases-put_texts a = length a.texts.now
