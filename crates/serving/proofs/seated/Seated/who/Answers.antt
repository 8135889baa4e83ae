use Rattle.std.proofs.Common.{◌∙◌, ap, subst}
use Rattle.answers.specs.Who.{seat_counts}
use Rattle.answers.specs.declared.answer.Answer.TheVariants as answer
use Rattle.beside.specs.Beside.{CountsSeats}
use Rattle.serving.specs.Seated.{SeatedValue}
use Rattle.serving.proofs.seated.Seated.who.Goals as goal

pub returns-clause-does : goal.returns-clause-does
returns-clause-does g c = (
  (
    c.in_ok-counts.counts.items,
    subst (λ (s : SeatedValue). CountsSeats g.N.Naming.seats s.beside c.in_ok-counts.counts.items c.count.new.self) c.self.view_is c.in_ok-counts.ensures.counts,
    c.in_ok-answer_who.ensures ∙ (λ i. answer.Who (seat_counts (c.self.view_is i).rules.names (c.as_slice.ensures.value i))),
  ),
  ap (λ (s : SeatedValue). s.rules) c.self.view_is,
)
