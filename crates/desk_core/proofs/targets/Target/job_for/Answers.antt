use Rattle.std.proofs.Common.{◌≡◌, ℕ, sym, subst}
use Rattle.excerpts.specs.Excerpt.{excerpt_at}
use Rattle.work_units.specs.Work.{IsJob}
use Rattle.desk_core.specs.Targets.{TargetValue}
use Rattle.desk_core.specs.declared.targets.Parts.{Parts}
use Rattle.net_versions.proofs.PlannedLemmas.{routing_of}
use Rattle.desk_core.proofs.targets.Target.job_for.Goals as goal

pub returns : goal.returns
returns c =
    let dest : c.in-Some-routing.routing.excerpt.plan.dest ≡ c.args.dest = (routing_of c.deref.result.now.network c.args.dest c.in-Some-routing.routing (sym c.in-Some-routing.ensures)).dest in
    subst (λ (t : TargetValue). IsJob t.number (excerpt_at t.network c.args.dest) c.after.result) c.self.view_is
    (subst (λ (p : Parts). IsJob p.number (excerpt_at p.net c.args.dest) c.after.result) c.deref-parts.ensures
    (subst (λ (d : ℕ). IsJob c.deref-parts.result.now.number (excerpt_at c.deref-parts.result.now.net d) c.after.result) dest c.after.ensures))
