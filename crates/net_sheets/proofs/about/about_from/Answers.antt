use Rattle.std.proofs.Common.{ℕ, ◌-◌, ◌∙◌, sym, ap, take, drop, length}
use Rattle.net_sheets.proofs.PlanLemmas.{rest_from}
use Rattle.net_sheets.proofs.ReadingLemmas.{entries_made}
use Rattle.net_sheets.proofs.about.about_from.Goals as goal

pub returns-clause-ok : goal.returns-clause-ok
returns-clause-ok c =
    let others = take (length c.args.entries.now - 2) (drop 2 c.args.entries.now) in
    let n : ℕ = c.len-count.result in
    entries_made c.args.entries.now others c.in-Some.ni n c.in-Some-tfr_of.tfr c.in_ok-bare.bare.items c.in_ok-ranks.ranks.items c.in-Some.ensures c.in-Some-tfr_of.ensures.told (rest_from 2 c.args.entries.now)
    (c.in_ok-bare.ensures.told ∙ ap (λ k. take k others) (sym c.len-count.ensures)) (c.in_ok-ranks.ensures.ok ∙ rest_from n others)
