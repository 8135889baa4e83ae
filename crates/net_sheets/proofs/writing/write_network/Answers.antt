use Rattle.std.proofs.Common.{ap, sym}
use Rattle.net_sheets.specs.About.{bare_of, ranks_told}
use Rattle.net_sheets.proofs.WritingLemmas.{network_made}
use Rattle.net_sheets.proofs.writing.write_network.Goals as goal

pub returns : goal.returns
returns c =
    let plans = c.args.net.now.plans in
    rw (sym c.ni.ensures, sym c.tfr.ensures)
    (network_made _ _ _ c.ni.result c.tfr.result (bare_of plans) _ (ranks_told c.args.ranked plans) _ c.in_ok-text.ensures (ap bare_of c.plans.ensures) c.in_ok-put_all_bare.ensures (ap (ranks_told c.args.ranked) c.plans-2.ensures) c.in_ok-put_ranks.ensures)
