use Rattle.std.proofs.Common.{ap, sym, ◌∙◌, set, subst}
use Rattle.std.specs.Prelude.{slice_index_or}
use Rattle.std.proofs.lemmas.Option.{slice_get-get_or}
use Rattle.transfer_state.specs.Kept.{KeptValue}
use Rattle.excerpts.specs.Excerpt.{source_of}
use Rattle.transfer_state.specs.Following.{ObeysBut}
use Rattle.transfer_state.proofs.FollowLemmas.{same_status, new_status}
use Rattle.transfer_state.proofs.following.choose_anew.Goals as goal

pub returns-in_ok-mark_readers-clause-obey : goal.returns-in_ok-mark_readers-clause-obey
returns-in_ok-mark_readers-clause-obey c =
    subst (λ (q : KeptValue). ObeysBut (source_of c.args.e.now) (set c.args.choices.now c.args.position q) c.mark_readers.new.marks.items) (sym c.kept_choice-choice.ensures)
    (new_status c.args.e.now c.validity.ensures c.args.choices.now c.args.marks.now.items c.args.position c.row_in_place-row.result.now (slice_index_or c.args.choices.now c.args.position c.index-choices-position.result) c.row_in_place-row.ensures
    (slice_get-get_or c.args.choices.now c.args.position c.index-choices-position.result c.requires.here) c.requires.obey
    c.mark_readers.new.marks.items c.in_ok-mark_readers.ensures.kept c.in_ok-mark_readers.ensures.marked)

pub returns-else-not-is_same-clause-obey : goal.returns-else-not-is_same-clause-obey
returns-else-not-is_same-clause-obey c =
    subst (λ (q : KeptValue). ObeysBut (source_of c.args.e.now) (set c.args.choices.now c.args.position q) c.args.marks.now.items) (sym c.kept_choice-choice.ensures)
    (same_status c.args.e.now c.validity.ensures c.args.choices.now c.args.marks.now.items c.args.position c.row_in_place-row.result.now (slice_index_or c.args.choices.now c.args.position c.index-choices-position.result) c.row_in_place-row.ensures
    (slice_get-get_or c.args.choices.now c.args.position c.index-choices-position.result c.requires.here) c.requires.obey
    (ap (λ (q : KeptValue). q.status) (sym c.kept_choice-choice.ensures) ∙ (sym c.status.ensures ∙ (c.is_same_status-is_same.ensures.0 c.if-not-is_same.false ∙ (c.status-2.ensures ∙ ap (λ (q : KeptValue). q.status) c.index-choices-position.is)))))
