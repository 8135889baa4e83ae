use Rattle.std.proofs.Common.{◌≡◌, ℕ, false, Option, Some, None, ap, refl, sym, ◌∙◌, subst}
use Rattle.std.specs.Arc.{arc_value}
use Rattle.std.specs.Option.{option_map}
use Rattle.excerpts.specs.Excerpt.{content_at}
use Rattle.dirty_sets.specs.Touched.{marks_of}
use Rattle.net_versions.specs.Versions.{VersionValue}
use Rattle.desk_core.specs.Desk.{DeskValue, OpenTarget}
use Rattle.desk_core.specs.Inside.{IsInside}
use Rattle.desk_core.specs.Targets.{TargetValue}
use Rattle.desk_core.proofs.desk.Desk.version_at_once.Goals as goal

-- no target is open, so what wasn't touched reads the same as in the published version
pub renewed_version-requires-clause-kept : goal.renewed_version-requires-clause-kept
renewed_version-requires-clause-kept c x low untouched =
    let s : DeskValue = record {
      published = arc_value c.self.inside.published;
      pending = c.self.inside.pending.items;
      lasts = c.self.inside.lasts.items;
      target = option_map (λ (t : TargetValue). record { number = t.number; tasks = t.tasks }) c.self.inside.target;
      spare = c.self.inside.spare;
    } in
    let none : c.self.inside.target ≡ None = absent c.self.inside.target (ap (λ (q : DeskValue). q.target) c.self.view_is ∙ c.requires) in
    let inside : IsInside s c.self.inside.latest (marks_of c.self.inside.touched) None = subst (λ o. IsInside s c.self.inside.latest (marks_of c.self.inside.touched) o) none c.self.invariant.inside in
    inside.kept x low (sym (c.all-touched.ensures x) ∙ untouched) ∙ ap (λ (v : VersionValue). content_at v.network x) (sym c.deref-2.ensures)
  where
    absent : (o : Option TargetValue) → option_map {U = OpenTarget} (λ (t : TargetValue). record { number = t.number; tasks = t.tasks }) o ≡ None → o ≡ None
    absent None e = refl
    absent (Some t) e = absurd (cc)
