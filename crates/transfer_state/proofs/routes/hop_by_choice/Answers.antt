use Rattle.std.proofs.Common.{rules, ◌≡◌, ◌∙◌, None, sym}
use Rattle.sls_share.specs.Share.{link_for}
use Rattle.transfer_state.proofs.routes.hop_by_choice.Goals as goal

pub returns-in_err-slc : goal.returns-in_err-slc
returns-in_err-slc c =
    let none : link_for c.in_ok-set.set.now.links c.member_for-position.result.1 ≡ None = sym (c.link_for.ensures.answer c.member_for-position.ensures.below) ∙ c.in_err-slc.was in
    search rules
