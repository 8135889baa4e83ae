use Rattle.std.proofs.Common.{◌≡◌, ◌-◌, drop, refl, ap, sym, ◌∙◌, subst, arith}
use Rattle.std.specs.Arc.{arc_value}
use Rattle.std.specs.Option.{option_map}
use Rattle.net_versions.specs.Versions.{VersionValue}
use Rattle.desk_core.specs.Desk.{DeskValue}
use Rattle.desk_core.specs.Steps.{IsNext, with_version}
use Rattle.desk_core.specs.Targets.{TargetValue}
use Rattle.desk_core.proofs.InsideLemmas.{inside_alike, inside_next}
use Rattle.desk_core.proofs.desk.Desk.seal.Goals as goal

pub invariant_of-self : goal.invariant_of-self
invariant_of-self c =
    let s : DeskValue = record {
      published = arc_value c.self.inside.published;
      pending = c.self.inside.pending.items;
      lasts = c.self.inside.lasts.items;
      target = option_map (λ (t : TargetValue). record { number = t.number; tasks = t.tasks }) c.self.inside.target;
      spare = c.self.inside.spare;
    } in
    let v : VersionValue = arc_value c.args.version in
    let i = c.self.invariant.inside in
    let next : IsNext s v = subst (λ (q : DeskValue). IsNext q v) (sym c.self.view_is) c.requires.next in
    let new_number : c.number.result ≡ v.number = c.number.ensures ∙ ap (λ (q : VersionValue). q.number) c.deref.ensures in
    let old_number : c.number-2.result ≡ s.published.number = c.number-2.ensures ∙ ap (λ (q : VersionValue). q.number) c.deref-2.ensures in
    let pending : c.drop_front.new.pending.items ≡ drop (v.number - s.published.number) s.pending
    = c.drop_front.ensures.items ∙ ap (λ n. drop (n - c.number-2.result) s.pending) new_number ∙ ap (λ n. drop (v.number - n) s.pending) old_number in
    record {
      inside = inside_alike (with_version s v) _ c.self.inside.latest _ _ refl pending i.collectors (inside_next s c.self.inside.latest _ c.self.inside.target v i next);
      room = let room = c.self.invariant.room in omega (arith, c.drop_front.ensures.len, c.drop_front.ensures.room, room);
    }
