use Rattle.std.proofs.Common.{ap, sym, ◌∙◌, ◌++◌}
use Rattle.tokens.specs.Words.{words_of}
use Rattle.tokens.proofs.WordsLemmas.{word_taken, word_last, nows, nows_more}
use Rattle.tokens.proofs.words.split_words.Goals as goal

pub loop-first-preserved-in_ok-push : goal.loop-first-preserved-in_ok-push
loop-first-preserved-in_ok-push c =
    ap (λ t. t ++ words_of c.in-Some.after.now) (ap nows c.in_ok-push.ensures.ok ∙ nows_more c.loop-first.words.items c.in-Some.first)
    ∙ word_taken (nows c.loop-first.words.items) _ c.loop-first.rest.now c.in-Some.first.now c.in-Some.after.now (sym c.in-Some.ensures) (sym c.is_empty.ensures ∙ c.if-not-is_empty.true) c.loop-first.invariant

pub returns : goal.returns
returns c =
    ap nows c.in_ok-push-2.ensures.ok ∙ nows_more c.loop-first.words.items c.loop-first.rest
    ∙ word_last (nows c.loop-first.words.items) _ c.loop-first.rest.now (sym c.in_default.ensures) (sym c.is_empty-2.ensures ∙ c.if-is_empty.false) c.loop-first.invariant
