use Rattle.std.proofs.Common.{◌+◌, drop, ap, ◌∙◌}
use Rattle.tokens.specs.Marked.{marked_of}
use Rattle.tokens.specs.Pieces.{all_of}
use Rattle.tokens.proofs.PiecesLemmas.{onto}
use Rattle.tokens.proofs.WordsLemmas.{nows}
use Rattle.net_text.proofs.LinkLemmas.{word_read, word_none, words_end}
use Rattle.net_text.proofs.sets.read_links.Goals as goal

pub loop-word-preserved : goal.loop-word-preserved
loop-word-preserved c =
    let read = marked_of c.args.format in
    ap (λ ls. onto ls (all_of read (nows (drop (c.loop-word.word-index + 1) c.args.words.now)))) c.in_ok-push-in-Some.ensures.items
    ∙ word_read read c.loop-word.links.items c.args.words.now c.loop-word.word-index _ c.in-Some.link _ c.loop-word-test.true c.in-Some.ensures c.loop-word.invariant

pub returns-in-None : goal.returns-in-None
returns-in-None c =
    word_none (marked_of c.args.format) c.loop-word.links.items c.args.words.now c.loop-word.word-index _ _ c.loop-word-test.true c.in-None.ensures c.loop-word.invariant

pub returns : goal.returns
returns c =
    words_end (marked_of c.args.format) c.loop-word.links.items c.args.words.now c.loop-word.word-index _ c.loop-word-test.false c.loop-word.invariant
