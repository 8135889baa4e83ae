use Rattle.net_text.proofs.TableLemmas.{texts_refused, texts_kept}
use Rattle.net_text.proofs.keys.read_texts.Goals as goal

pub returns-then-not-has_only_texts-clause-err : goal.returns-then-not-has_only_texts-clause-err
returns-then-not-has_only_texts-clause-err c =
    texts_refused c.args.key _ c.in-Some.values.now.items _ _ c.in-Some.ensures c.as_slice-values.ensures.value c.has_only_texts.ensures c.if-not-has_only_texts.true

pub returns-clause-ok : goal.returns-clause-ok
returns-clause-ok c =
    texts_kept c.args.key _ c.in-Some.values.now.items _ _ c.in-Some.ensures c.as_slice-values.ensures.value c.has_only_texts.ensures c.if-not-has_only_texts.false
