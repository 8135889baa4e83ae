use Rattle.std.proofs.Common.{◌≡◌, Bool, List, ap, sym, ◌∙◌, length, map, subst}
use Rattle.std.proofs.lemmas.List.{length-map}
use Rattle.net_items.specs.declared.items.Plan.{Plan}
use Rattle.net_data.specs.Network.{Network}
use Rattle.dirty_sets.specs.Bits.{is_marked}
use Rattle.net_versions.specs.Versions.{AreKept}
use Rattle.desk_core.proofs.OpeningLemmas.{places_kept}
use Rattle.desk_core.proofs.desk.at_once.renewed_version.Goals as goal

pub renewed-requires-clause-together : goal.renewed-requires-clause-together
renewed-requires-clause-together c = ap (length {A = Bool}) (c.deref.ensures.value ∙ c.in_ok-places.ensures) ∙ length-map c.in_ok-net.net.plans (λ (p : Plan). is_marked c.args.touched.now p.dest)

-- what isn't touched reads the same
pub renewed-requires-clause-kept : goal.renewed-requires-clause-kept
renewed-requires-clause-kept c =
    subst (λ (net : Network). AreKept net c.args.before.now.network c.deref.result.now) (sym c.in_ok-net.ensures)
    (subst (AreKept c.args.latest.now c.args.before.now.network)
    (sym (c.deref.ensures.value ∙ c.in_ok-places.ensures ∙ ap (λ (net : Network). map (λ (p : Plan). is_marked c.args.touched.now p.dest) net.plans) c.in_ok-net.ensures))
    (places_kept c.args.latest.now c.args.before.now.network c.validity.ensures (is_marked c.args.touched.now) c.requires.kept))
