use Rattle.std.proofs.Common.{◌≡◌, ap, sym, ◌∙◌}
use Rattle.net_data.specs.Edits.{replay}
use Rattle.net_data.specs.Network.{Network}
use Rattle.net_building.proofs.StepLemmas.{all_made}
use Rattle.what_if.specs.Listed.{meant_from}
use Rattle.what_if.proofs.listed.network_listed.Goals as goal

-- the events that are meant made it of the version's network
pub after_events-requires : goal.after_events-requires
after_events-requires c =
    let copied : c.in_ok-copy.copy ≡ c.args.version.now.network = c.in_ok-copy.ensures ∙ (c.net-2.ensures ∙ c.net.ensures) in
    let both = rw c.in-Ok.is at c.in_ok-net.ensures in
    all_made c.in_ok-copy.copy c.in-Ok.net c.in-Ok.events.items both.1
    ∙ ap (λ (n : Network). replay n c.in-Ok.events.items) (copied ∙ sym c.net-in-Ok.ensures) ∙ ap (replay c.net-in-Ok.result.now) (sym c.deref.ensures.value)

pub returns-in_ok-frozen-in-Ok : goal.returns-in_ok-frozen-in-Ok
returns-in_ok-frozen-in-Ok c =
    let copied : c.in_ok-copy.copy ≡ c.args.version.now.network = c.in_ok-copy.ensures ∙ (c.net-2.ensures ∙ c.net.ensures) in
    let both = rw c.in-Ok.is at c.in_ok-net.ensures in (
      ap (λ (n : Network). meant_from 1 n c.args.entries.now) (sym copied) ∙ both.0,
      c.in_ok-frozen-in-Ok.ensures ∙ all_made c.in_ok-copy.copy c.in-Ok.net c.in-Ok.events.items both.1 ∙ ap (λ (n : Network). replay n c.in-Ok.events.items) copied,
    )
