use Rattle.std.proofs.Common.{◌≡◌, ◌∙◌, sym, ap, subst, length}
use Rattle.std.specs.Prelude.{if◌then◌else◌}
use Rattle.seats.specs.Minutes.{MinutesValue}
use Rattle.versions.specs.Authors.{taken_between}
use Rattle.versions.specs.Working.{IsHistory, left_at}
use Rattle.versions.specs.declared.state.DeskAndChain.{DeskAndChain}
use Rattle.versions.proofs.AuthorLemmas.{has_count, kept_more, kept_same}
use Rattle.versions.proofs.posters.BySeats.see.Goals as goal

pub count_one-requires : goal.count_one-requires
count_one-requires g c = has_count c.self.inside.minutes c.see.new.minutes _ _ c.args.state.now _ c.self.invariant c.requires.number c.see.ensures.seats.0

pub invariant_of-self : goal.invariant_of-self
invariant_of-self g c =
    let history = subst (λ (m : MinutesValue DeskAndChain). IsHistory m.log) (sym c.self.view_is) c.requires.history in
    let more = subst (λ (m : MinutesValue DeskAndChain). length (taken_between (left_at m.log) c.args.state.now) ≡ (if c.args.is_more then 1 else 0)) (sym c.self.view_is) c.requires.more in
    kept_more _ _ _ c.args.number _ _ c.self.invariant c.see.ensures.minutes history c.requires.number c.see.ensures.seats.0 (more ∙ ap (λ b. if b then 1 else 0) c.if-is_more.true) _ c.count_one.ensures

pub invariant_of-self-else-is_more : goal.invariant_of-self-else-is_more
invariant_of-self-else-is_more g c =
    let history = subst (λ (m : MinutesValue DeskAndChain). IsHistory m.log) (sym c.self.view_is) c.requires.history in
    let more = subst (λ (m : MinutesValue DeskAndChain). length (taken_between (left_at m.log) c.args.state.now) ≡ (if c.args.is_more then 1 else 0)) (sym c.self.view_is) c.requires.more in
    kept_same _ _ _ c.args.number _ _ c.self.invariant c.see.ensures.minutes history (more ∙ ap (λ b. if b then 1 else 0) c.if-is_more.false)
