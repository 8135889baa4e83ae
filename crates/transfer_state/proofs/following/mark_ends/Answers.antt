use Rattle.std.proofs.Common.{ap, eqb, false, refl, sym, ◌∙◌}
use Rattle.std.specs.Option.{option_map_or}
use Rattle.std.proofs.lemmas.Bool.{eq-eqb, false≢true}
use Rattle.transfer_state.proofs.FollowLemmas.{on_ok}
use Rattle.transfer_state.proofs.following.mark_ends.Goals as goal

-- the rows of a point and of its mate are marked, which is as much as can be asked
pub returns-in-None : goal.returns-in-None
returns-in-None c =
    let done = c.mark_with_mate.ensures in
    record {
      within = done.within;
      kept = done.kept;
      marked = on_ok c.mark_with_mate.result (λ has. record { via = λ leads. has; mate = λ paired. has }) done.marked;
    }

-- the point leads nowhere there, and the other one isn't its mate
pub returns-in-None-2 : goal.returns-in-None-2
returns-in-None-2 c =
    let other = c.args.ends.now.other in
    record {
      within = c.requires.marks;
      kept = λ k e. e;
      marked = record {
        via = λ leads. absurd (false≢true (c.in-None-2.ensures.leads ∙ leads));
        mate = λ paired. absurd (false≢true (sym c.if-ends.false ∙ c.requires.told.mates ∙ ap (λ o. option_map_or (λ m. eqb m other) o false) paired ∙ eq-eqb other other refl));
      };
    }
