use Rattle.std.proofs.Common.{◌≡◌, sym, ap, ◌∙◌}
use Rattle.net_data.specs.Network.{Network}
use Rattle.net_data.specs.Edits.{replay}
use Rattle.what_if.proofs.UnchangedLemmas.{made_by}
use Rattle.what_if.proofs.reports.network_after.Goals as goal

-- the events made it of the version's network
pub after_events-requires-in-Ok : goal.after_events-requires-in-Ok
after_events-requires-in-Ok c =
    let copied : c.in_ok-copy.copy ≡ c.args.version.now.network = c.in_ok-copy.ensures ∙ (c.net-2.ensures ∙ c.net.ensures) in
    made_by 1 c.in_ok-copy.copy c.in-Ok.net c.args.events.now (sym c.in_ok-net.ensures ∙ c.in-Ok.is)
    ∙ ap (λ (n : Network). replay n c.args.events.now) (copied ∙ sym c.net-in-Ok.ensures)

pub returns-in_ok-frozen-in-Ok-clause-made : goal.returns-in_ok-frozen-in-Ok-clause-made
returns-in_ok-frozen-in-Ok-clause-made c =
    let copied : c.in_ok-copy.copy ≡ c.args.version.now.network = c.in_ok-copy.ensures ∙ (c.net-2.ensures ∙ c.net.ensures) in
    c.in_ok-frozen-in-Ok.ensures
    ∙ (made_by 1 c.in_ok-copy.copy c.in-Ok.net c.args.events.now (sym c.in_ok-net.ensures ∙ c.in-Ok.is) ∙ ap (λ (n : Network). replay n c.args.events.now) copied)
