use Rattle.std.proofs.Common.{List, option_map, subst}
use Rattle.plan_ranks.specs.declared.given.RowRank.{RowRank}
use Rattle.net_sheets.specs.Events.{IsRankedBy}
use Rattle.net_sheets.proofs.ReadingLemmas.{says_all}
use Rattle.net_sheets.proofs.reading.read_by.Goals as goal

pub returns-in-Ok-give_ranks-clause-ok : goal.returns-in-Ok-give_ranks-clause-ok
returns-in-Ok-give_ranks-clause-ok c =
    let about = c.args.about in
    says_all (option_map (λ t. t.now) c.args.network) c.args.points.now c.args.sets.now c.args.routes.now about.ni about.tfr about.bare.items about.ranks.items c.in-Ok.net c.add_all.new.net c.give_ranks.new.net
    c.requires.told c.in-Ok.ensures.ok c.in_ok-add_all.ensures.ok (subst (λ (rs : List RowRank). IsRankedBy c.add_all.new.net rs c.give_ranks.new.net) c.as_slice.ensures.value c.in-Ok-give_ranks.ensures.ok)
