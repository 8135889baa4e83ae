use Rattle.std.proofs.Common.{◌∙◌, sym, subst, List}
use Rattle.net_data.specs.Valid.{IsValid}
use Rattle.excerpts.specs.Turned.{HasTurned}
use Rattle.excerpts.specs.declared.turned.Ends.{Ends}
use Rattle.what_if.proofs.UnchangedLemmas.{nothing_told}
use Rattle.what_if.proofs.comparing.none_told.Goals as goal

pub returns : goal.returns
returns g c =
    let old = c.args.version.now.network in
    let new = c.args.net.now in
    c.new.ensures.items
    ∙ sym (nothing_told g.D.Difference.told c.stays.ensures old new (subst IsValid c.net.ensures c.validity.ensures) c.validity-2.ensures (subst (λ (turned : List Ends). HasTurned old new turned) c.requires.none c.requires.turned))
