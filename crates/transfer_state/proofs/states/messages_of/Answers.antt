use Rattle.std.proofs.Common.{◌≡◌, ◌∙◌, ap, sym, map, not, eqb, List, false, ℕ, Vec, Global}
use Rattle.std.specs.Prelude.{filter}
use Rattle.std.proofs.lemmas.List.{map-id}
use Rattle.profile.specs.Local.{message}
use Rattle.profile.specs.declared.tables.Message.{Message}
use Rattle.transfer_state.proofs.TableLemmas.{filter_past, messages_from}
use Rattle.profile.proofs.ReceiverLemmas.{messages_never}
use Rattle.std.proofs.lemmas.Iterator.Consumers.{YieldsList-from_first, YieldsList-end}
use Rattle.link_sets.specs.Neighbours.{neighbours}
use Rattle.excerpts.specs.Around.{neighbours_left}
use Rattle.profile.specs.Status.{Source}
use Rattle.excerpts.specs.Excerpt.{source_of}
use Rattle.transfer_state.proofs.states.messages_of.Goals as goal
use Rattle.transfer_state.proofs.states.messages_of.Goals.{then-is_stp+in-None, else-is_stp}

pub loop-z-preserved : goal.loop-z-preserved
loop-z-preserved c =
    let other : not (eqb c.in-Some.z c.args.e.now.plan.dest) ≡ false = ap (λ x. not (eqb c.in-Some.z x)) (sym c.dest.ensures) ∙ sym c.ne.ensures ∙ c.if-ne.false in
    c.loop-z.invariant ∙ ap (map (λ z. record { kind = message c.args.choice.now z; to = z })) (sym (filter_past (λ z. not (eqb z c.args.e.now.plan.dest)) c.loop-z.yielded c.in-Some.z other))

pub returns : goal.returns
returns c = elim c.if-is_stp.branch [
  | then-is_stp+in-None w ↦
      let src : Source = source_of c.args.e.now in
      let around : neighbours_left w.into_iter-z-iterator.result ≡ neighbours src.sets c.args.row.now.point
      = ap neighbours_left w.into_iter-z-iterator.ensures.into_iter_gives ∙ w.neighbours-z-items.ensures in
      let all : map (λ x. x) w.loop-z.yielded ≡ neighbours src.sets c.args.row.now.point
      = (YieldsList-end (YieldsList-from_first (λ x. x) neighbours_left (neighbours src.sets c.args.row.now.point) around) w.loop-z.yielded _ w.loop-z.yielded_by w.next.result w.next.new.self w.in-None.is w.next.ensures.steps).0 in
      c.from_vec.ensures ∙ ap (λ (v : Vec Message Global). v.items) w.list-is ∙ w.loop-z.invariant
      ∙ ap (λ (zs : List ℕ). map (λ z. record { kind = message c.args.choice.now z; to = z }) (filter (λ z. not (eqb z src.dest)) zs)) (sym (map-id w.loop-z.yielded) ∙ all)
      ∙ messages_from src c.args.row.now c.args.choice.now (sym c.is_stp.ensures ∙ w.if-is_stp.true)
  | else-is_stp w ↦
      c.from_vec.ensures ∙ ap (λ (v : Vec Message Global). v.items) w.list-is ∙ c.in_ok-list.ensures.items
      ∙ messages_never (source_of c.args.e.now) c.args.row.now c.args.choice.now (sym c.is_stp.ensures ∙ w.if-is_stp.false)
]
