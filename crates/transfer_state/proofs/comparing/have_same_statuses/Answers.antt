use Rattle.std.proofs.Common.{◌≡◌, true, false, length, refl, sym, ◌∙◌, arith}
use Rattle.std.proofs.lemmas.Option.{slice_get_read}
use Rattle.transfer_state.proofs.StatusLemmas.{same_at}
use Rattle.transfer_state.proofs.comparing.have_same_statuses.Goals as goal

pub returns-then-not-is_same_status : goal.returns-then-not-is_same_status
returns-then-not-is_same_status c =
    let choices = c.args.choices.now in
    let others = c.args.others.now in
    let one = c.index-choices-position in
    let other = c.index-others-position in
    let here = slice_get_read choices (length choices) c.loop-position.position one.result refl (omega arith) one.is in
    let there = slice_get_read others (length others) c.loop-position.position other.result refl (omega arith) other.is in (
      (λ none. (let no : false ≡ true = none in cc)),
      λ e. c.if-not-is_same_status.ensures.1
          (c.status.ensures ∙ (same_at choices others c.loop-position.position one.result other.result here there e ∙ sym c.status-in-loop-position.ensures)),
    )
