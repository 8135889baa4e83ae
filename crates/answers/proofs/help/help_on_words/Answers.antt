use Rattle.std.proofs.Common.{List, ℕ, Bor, map, sym, arith}
use Rattle.std.proofs.lemmas.List.{length-map}
use Rattle.answers.proofs.HelpLemmas.{more_words}
use Rattle.answers.proofs.help.help_on_words.Goals as goal

pub returns-in-len2-up : goal.returns-in-len2-up
returns-in-len2-up c =
    sym (more_words (map {A = Bor (List ℕ)} {B = List ℕ} (λ w. w.now) c.args.words.now)
    (omega (arith, c.in-len2-up.len_at_least, length-map {A = Bor (List ℕ)} {B = List ℕ} c.args.words.now (λ w. w.now))))
