use Rattle.std.proofs.Common.{◌∙◌, length, refl, ap, sym, inl}
use Rattle.net_items.specs.declared.lists.Row.{Row}
use Rattle.excerpts.specs.Excerpt.{source_of}
use Rattle.transfer_state.proofs.AuditLemmas.{settled_kept, first_kept, wrong_kept}
use Rattle.transfer_state.proofs.auditing.check_kept.Goals as goal

pub returns-then-kept-rows_of-clause-first : goal.returns-then-kept-rows_of-clause-first
returns-then-kept-rows_of-clause-first c =
    inl (record { clause = refl; point = c.dest.ensures; wrong = λ together. c.if-kept-rows_of.true (together ∙ sym (ap (length {A = Row}) c.rows_of.ensures)) })

pub returns-then-kept-rows_of-clause-wrong : goal.returns-then-kept-rows_of-clause-wrong
returns-then-kept-rows_of-clause-wrong c = λ settled. c.if-kept-rows_of.true (settled.together ∙ sym (ap (length {A = Row}) c.rows_of.ensures))

pub returns-clause-settled : goal.returns-clause-settled
returns-clause-settled c =
    settled_kept (source_of c.args.e.now) c.args.kept.now c.check_choices.result (c.if-kept-rows_of.false ∙ ap (length {A = Row}) c.rows_of.ensures) c.check_choices.ensures.settled

pub returns-clause-first : goal.returns-clause-first
returns-clause-first c =
    first_kept (source_of c.args.e.now) c.args.kept.now c.check_choices.result (c.if-kept-rows_of.false ∙ ap (length {A = Row}) c.rows_of.ensures) c.check_choices.ensures.first

pub returns-clause-wrong : goal.returns-clause-wrong
returns-clause-wrong c = wrong_kept (source_of c.args.e.now) c.args.kept.now c.check_choices.result c.check_choices.ensures.first
