use Rattle.std.proofs.Common.{◌≡◌, sym, ap, ◌∙◌, List, map, subst}
use Rattle.std.specs.List.{AllByRecursion}
use Rattle.net_data.specs.Network.{Network}
use Rattle.excerpts.specs.declared.turned.Ends.{Ends}
use Rattle.excerpts.specs.declared.turned.Pair.{Pair}
use Rattle.excerpts.specs.Turned.{has_ends, has_pair, told_of, IsTold}
use Rattle.excerpts.proofs.KeepingLemmas.{kept_by_all}
use Rattle.excerpts.proofs.TurnedLemmas.{all_told, told_ends}
use Rattle.excerpts.proofs.turned.turned_by.Goals as goal

pub returns : goal.returns
returns c =
    let same = kept_by_all _ c.args.events.now (sym c.are_keeping.ensures ∙ c.if-not-are_keeping.false) in
    let points = c.args.net.now.points in
    let pairs : List Pair = c.deref.result.now in
    let made : _ ≡ map (told_of points) pairs = c.in_ok-all_told.ensures in
    let has : pairs ≡ c.in_ok-turned.turned.items = c.deref.ensures.value in
    record {
      points = ap (λ (n : Network). n.points) c.requires ∙ same.points;
      plans = ap (λ (n : Network). n.plans) c.requires ∙ same.plans;
      tfr = ap (λ (n : Network). n.tfr) c.requires ∙ same.tfr;
      turned = λ y z lacks. c.in_ok-turned.ensures y z
          (ap (λ (list : List Pair). has_pair list y z) (sym has) ∙ sym (told_ends points pairs y z) ∙ ap (λ (list : List Ends). has_ends list y z) (sym made) ∙ lacks);
      told = subst (AllByRecursion (IsTold points)) (sym made) (all_told points pairs);
    }
