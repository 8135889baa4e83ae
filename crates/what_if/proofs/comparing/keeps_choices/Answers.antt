use Rattle.std.proofs.Common.{◌≡◌, false, subst, sym, ◌∙◌}
use Rattle.std.specs.List.{list_any}
use Rattle.std.proofs.lemmas.Bool.{not-true}
use Rattle.excerpts.specs.declared.turned.Ends.{Ends}
use Rattle.excerpts.specs.Excerpt.{IsRight}
use Rattle.transfer_state.specs.Following.{rests_on}
use Rattle.what_if.proofs.UnchangedLemmas.{choices_rest}
use Rattle.what_if.proofs.comparing.keeps_choices.Goals as goal

pub returns : goal.returns
returns c kept =
    let x = c.args.before.now.excerpt in
    let none : list_any (λ (ends : Ends). rests_on x ends.point ends.other) c.args.turned.now ≡ false = not-true _ (sym c.keeps_statuses.ensures.told ∙ kept) in
    choices_rest x c.args.after.now (subst IsRight c.excerpt.ensures c.validity.ensures) c.validity-2.ensures c.args.turned.now c.requires.dest c.requires.turned none
