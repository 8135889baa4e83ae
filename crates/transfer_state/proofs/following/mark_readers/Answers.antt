use Rattle.std.proofs.Common.{◌≡◌, ◌∙◌, ap, sym, map, eqb, List, ℕ, true, subst}
use Rattle.std.specs.List.{list_any}
use Rattle.std.proofs.lemmas.List.{map-id}
use Rattle.std.proofs.lemmas.Iterator.Consumers.{YieldsList-from_first, YieldsList-end}
use Rattle.link_sets.specs.Availability.{connected}
use Rattle.link_sets.specs.Neighbours.{neighbours, all_codes}
use Rattle.profile.proofs.CertificateLemmas.{code_found}
use Rattle.excerpts.specs.Around.{neighbours_left}
use Rattle.transfer_state.proofs.FollowLemmas.{kept_by_filter, reads_more}
use Rattle.transfer_state.proofs.following.mark_readers.Goals as goal

pub loop-neighbour-init : goal.loop-neighbour-init
loop-neighbour-init c = record { within = c.requires; kept = λ k h. h; put = λ w among. cc }

pub mark_end-requires : goal.mark_end-requires
mark_end-requires c = c.loop-neighbour.invariant.within

pub loop-neighbour-preserved : goal.loop-neighbour-preserved
loop-neighbour-preserved c = record {
  within = c.in_ok-mark_end.ensures.within;
  kept = λ k h. c.in_ok-mark_end.ensures.kept k (c.loop-neighbour.invariant.kept k h);
  put = reads_more c.args.e.now c.loop-neighbour.marks.items c.mark_end.new.marks.items c.loop-neighbour.yielded c.in-Some.neighbour c.args.point c.in_ok-mark_end.ensures.kept c.in_ok-mark_end.ensures.marked c.loop-neighbour.invariant.put;
}

pub returns-clause-within : goal.returns-clause-within
returns-clause-within c = c.loop-neighbour.invariant.within

pub returns-clause-kept : goal.returns-clause-kept
returns-clause-kept c = c.loop-neighbour.invariant.kept

pub returns-clause-marked : goal.returns-clause-marked
returns-clause-marked c =
    let around : neighbours_left c.into_iter-neighbour-iterator.result ≡ neighbours c.args.e.now.network.sets c.args.point
    = ap neighbours_left c.into_iter-neighbour-iterator.ensures.into_iter_gives ∙ c.neighbours-neighbour-items.ensures in
    let all : map (λ x. x) c.loop-neighbour.yielded ≡ neighbours c.args.e.now.network.sets c.args.point
    = (YieldsList-end (YieldsList-from_first (λ x. x) neighbours_left (neighbours c.args.e.now.network.sets c.args.point) around) c.loop-neighbour.yielded _ c.loop-neighbour.yielded_by c.next.result c.next.new.self c.in-None.is c.next.ensures.steps).0 in
    let are : neighbours c.args.e.now.network.sets c.args.point ≡ c.loop-neighbour.yielded = sym all ∙ map-id c.loop-neighbour.yielded in
    λ y coded joined. c.loop-neighbour.invariant.put y (subst (λ (ys : List ℕ). list_any (λ v. eqb v y) ys ≡ true) are (kept_by_filter (connected c.args.e.now.network.sets c.args.point) all_codes y (code_found y coded) joined))
