use Rattle.std.proofs.Common.{◌≡◌, ◌+◌, ◌<◌, ◌^◌, ◌∷◌, [], ◌++◌, None, List, length, refl, ap, sym, ◌∙◌, arith, subst}
use Rattle.std.proofs.Math.ListN.{length-set}
use Rattle.net_data.specs.declared.events.Event.{Event}
use Rattle.net_data.specs.Edits.{refusal_of}
use Rattle.dirty_sets.specs.Touched.{marks_of}
use Rattle.desk_core.specs.declared.posts.Last.{Last}
use Rattle.desk_core.specs.Desk.{DeskValue, accepted, net_now}
use Rattle.desk_core.specs.Steps.{with_post}
use Rattle.desk_core.proofs.InsideLemmas.{inside_alike, inside_post, inside_same}
use Rattle.desk_core.proofs.desk.Desk.accept.Goals as goal

pub invariant_of-self : goal.invariant_of-self
invariant_of-self c =
    let i = c.self.invariant.inside in
    record {
      inside = rw c.in_err-copy.ensures.kept (inside_alike _ _ c.self.inside.latest (marks_of c.follow_with_copy.new.touched) c.self.inside.target refl c.follow_with_copy.ensures.items i.collectors
          (inside_same _ c.self.inside.latest (marks_of c.self.inside.touched) c.self.inside.target i (marks_of c.follow_with_copy.new.touched) c.in_err-copy.ensures.same));
      room = c.follow_with_copy.ensures.room_kept;
    }

pub invariant_of-self-2 : goal.invariant_of-self-2
invariant_of-self-2 c =
    let i = c.self.invariant.inside in
    let pushed : c.push_reserved.new.self.items ≡ c.self.inside.pending.items ++ c.args.event ∷ [] = c.push_reserved.ensures.items ∙ ap (λ (es : List Event). es ++ c.args.event ∷ []) c.follow_with_copy.ensures.items in
    let few : length c.self.inside.pending.items < 65536 = subst (λ (s : DeskValue). length s.pending < 65536) (sym c.self.view_is) c.requires.few in
    let edit : refusal_of c.self.inside.latest c.args.event ≡ None = ap (λ n. refusal_of n c.args.event) i.is_now ∙ ap (λ (s : DeskValue). refusal_of (net_now s) c.args.event) c.self.view_is ∙ c.requires.edit in
    let counted = subst (λ (s : DeskValue). accepted s + 1 < 2 ^ 64) (sym c.self.view_is) c.requires.counted in
    record {
      inside = inside_alike (with_post _ c.args.collector c.args.seq c.args.event) _ c.follow_with_copy.new.latest (marks_of c.follow_with_copy.new.touched) c.self.inside.target refl pushed
          (ap (length {A = Last}) c.note_last.ensures ∙ length-set c.self.inside.lasts.items _ _ ∙ i.collectors)
          (inside_post _ c.self.inside.latest (marks_of c.self.inside.touched) c.self.inside.target i c.args.collector c.args.seq c.args.event (marks_of c.follow_with_copy.new.touched) c.follow_with_copy.new.latest
          c.validity.ensures edit few counted c.in_ok-copy.ensures.latest c.in_ok-copy.ensures.noted);
      room = omega (arith, c.push_reserved.ensures.len, c.push_reserved.ensures.capacity, c.follow_with_copy.ensures.room_kept, c.saturating_sub-self-inside.ensures);
    }
