use Rattle.std.proofs.Common.{List, ap, sym, ◌∙◌, subst, rules}
use Rattle.net_data.specs.declared.events.Event.{Event}
use Rattle.net_building.specs.Wholes.{whole_events}
use Rattle.desk_core.specs.Desk.{DeskValue, net_now}
use Rattle.desk_console.specs.Does.{whole_against}
use Rattle.beside.specs.Beside.{PostsEachBeside}
use Rattle.beside.proofs.WholeLemmas.{refused_whole, taken_whole}
use Rattle.beside.proofs.visitor.Visitor.post_whole.Goals as goal

pub returns-in-Err-clause-does : goal.returns-in-Err-clause-does
returns-in-Err-clause-does g c =
    let against = rw c.in-Err.is at c.in_ok-events.ensures.events in
    refused_whole g.N.Naming.seats c.args.collector c.args.whole c.args.self.now c.args.hub.now.state c.refuse.new.self c.refuse.result c.in-Err.refusal
    (ap (λ (s : DeskValue). whole_against s c.args.collector c.args.whole) (sym c.desk.ensures) ∙ against) c.refuse.ensures.refused

pub returns-clause-does : goal.returns-clause-does
returns-clause-does g c =
    let both = rw c.in-Ok.is at c.in_ok-events.ensures.events in
    taken_whole g.N.Naming.seats c.args.collector c.args.whole c.args.self.now c.args.hub.now.state c.post_each.new.self c.answer_all_taken.result c.in-Ok.events.items c.accepted-before.result
    (ap (λ (s : DeskValue). whole_against s c.args.collector c.args.whole) (sym c.desk.ensures) ∙ both.0)
    (both.1 ∙ ap (λ (s : DeskValue). whole_events (net_now s) c.args.whole) c.desk.ensures)
    (search rules) c.answer_all_taken.ensures
    (subst (λ (es : List Event). PostsEachBeside g.N.Naming.seats c.args.collector es c.args.self.now c.args.hub.now.state c.post_each.new.self) c.as_slice.ensures.value c.in_ok-post_each.ensures.posted)
