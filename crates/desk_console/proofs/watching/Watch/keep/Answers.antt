use Rattle.std.proofs.Common.{◌≡◌, ◌∙◌, ap, refl, Some, arith, map, slice_set}
use Rattle.std.specs.Arc.{arc_value}
use Rattle.std.specs.Option.{option_map}
use Rattle.net_versions.specs.Versions.{VersionValue}
use Rattle.answers.specs.Changes.{earlier}
use Rattle.desk_console.specs.Watch.{WatchValue, is_replaced, watched}
use Rattle.desk_console.proofs.WatchLemmas.{kept_then, watch_of}
use Rattle.desk_console.proofs.watching.Watch.keep.Goals as goal
use Rattle.desk_console.proofs.watching.Watch.keep.Goals.{in-Some-1, in-None-1}

pub returns-then-is_other-clause-kept : goal.returns-then-is_other-clause-kept
returns-then-is_other-clause-kept c =
    let is : watch_of (map (option_map (λ a. earlier (arc_value a))) (slice_set c.rotate_right.new.self 0 (Some c.args.old))) c.self.inside.is_on ≡ watched c.args.self.now (arc_value c.args.old) c.args.new.now =
    kept_then (option_map (λ a. earlier (arc_value a))) (Some c.args.old) c.self.inside.kept c.rotate_right.new.self c.self.inside.is_on (arc_value c.args.old) c.args.new.now (omega arith) c.rotate_right.ensures.after refl (c.if-is_other.ensures ∙ ap (λ (o : VersionValue). is_replaced o c.args.new.now) c.deref.ensures) ∙ ap (λ (v : WatchValue). watched v (arc_value c.args.old) c.args.new.now) c.self.view_is in
    elim c.match-self.branch [ in-Some-1 w ↦ w.self-is ∙ is | in-None-1 w ↦ w.self-is ∙ is ]
