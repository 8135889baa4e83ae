use Rattle.std.proofs.Common.{◌≡◌, ℕ, [], true, false, cond, eqb, ap, sym, ◌∙◌, subst, length}
use Rattle.net_items.specs.declared.items.Plan.{Plan}
use Rattle.net_items.specs.Keyed.{IsRising}
use Rattle.net_data.specs.Network.{Network}
use Rattle.desk_core.specs.Desk.{DeskValue, accepted, net_now}
use Rattle.desk_core.specs.Runs.{IsRunOf}
use Rattle.desk_core.specs.Steps.{caught_up, published_to}
use Rattle.desk_core.proofs.AtOnceLemmas.{run_at_once}
use Rattle.desk_core.proofs.RunLemmas.{run_none}
use Rattle.desk_core.proofs.desk.Desk.publish_at_once.Goals as goal

-- nothing is done
pub returns-then-is_empty-clause-ok : goal.returns-then-is_empty-clause-ok
returns-then-is_empty-clause-ok c =
    let s : DeskValue = c.args.self.now in
    let none : eqb (length s.pending) 0 ≡ true
    = ap (λ (q : DeskValue). eqb (length q.pending) 0) (sym c.self.view_is) ∙ ap (λ n. eqb n 0) (sym c.self.inside.pending.ok.0) ∙ sym c.is_empty.ensures ∙ c.if-is_empty.true in
    sym (ap (λ b. cond b s (published_to s (accepted s))) none)

pub returns-then-is_empty-clause-run : goal.returns-then-is_empty-clause-run
returns-then-is_empty-clause-run c = run_none c.args.self.now

pub returns-in_err-version-clause-run : goal.returns-in_err-version-clause-run
returns-in_err-version-clause-run c = run_none c.args.self.now

pub returns-clause-ok : goal.returns-clause-ok
returns-clause-ok c =
    let s : DeskValue = c.args.self.now in
    let some : eqb (length s.pending) 0 ≡ false
    = ap (λ (q : DeskValue). eqb (length q.pending) 0) (sym c.self.view_is) ∙ ap (λ n. eqb n 0) (sym c.self.inside.pending.ok.0) ∙ sym c.is_empty.ensures ∙ c.if-is_empty.false in
    c.put_version.ensures ∙ sym (ap (λ b. cond b s (published_to s (accepted s))) some)

pub returns-clause-run : goal.returns-clause-run
returns-clause-run c =
    let some : eqb (length c.args.self.now.pending) 0 ≡ false
    = ap (λ (q : DeskValue). eqb (length q.pending) 0) (sym c.self.view_is) ∙ ap (λ n. eqb n 0) (sym c.self.inside.pending.ok.0) ∙ sym c.is_empty.ensures ∙ c.if-is_empty.false in
    let up : IsRising (λ (p : Plan). p.dest) (net_now c.args.self.now).plans
    = subst (λ (n : Network). IsRising (λ (p : Plan). p.dest) n.plans) (c.self.invariant.inside.is_now ∙ ap net_now c.self.view_is) c.validity.ensures.plans_rise in
    subst (IsRunOf c.args.self.now []) (sym c.put_version.ensures) (run_at_once c.args.self.now c.requires some up)
