use Rattle.std.proofs.Common.{◌∙◌, ap, sym, arith, ℕ, ◌∷◌, ◌+◌, ◌-◌, Option, subst, length}
use Rattle.std.specs.Prelude.{filter}
use Rattle.std.specs.List.{range_with_len}
use Rattle.std.specs.Iterator.{YieldsFirst}
use Rattle.link_sets.specs.Availability.{connected}
use Rattle.link_sets.specs.Neighbours.{code_count}
use Rattle.excerpts.specs.Around.{neighbours_left}
use Rattle.link_sets.proofs.NeighbourLemmas.{rest_none, rest_some}
use Rattle.excerpts.proofs.neighbours.NeighboursIterator.next.Goals as goal

pub returns-in_err-z-clause-steps : goal.returns-in_err-z-clause-steps
returns-in_err-z-clause-steps c =
    let none = rest_none (connected c.args.self.now.net.now.sets c.args.self.now.point) c.args.self.now.from (sym c.next_near.ensures.value ∙ c.in_err-z.was) in
    subst (λ (o : Option ℕ). YieldsFirst neighbours_left c.args.self.now o c.args.self.now) (sym c.from_residual.ensures) (none, none)

pub returns-clause-steps : goal.returns-clause-steps
returns-clause-steps c =
    rest_some (connected c.args.self.now.net.now.sets c.args.self.now.point) c.args.self.now.from c.in_ok-z.z (sym c.next_near.ensures.value ∙ c.in_ok-z.was)
    ∙ ap (λ n. c.in_ok-z.z ∷ filter (connected c.args.self.now.net.now.sets c.args.self.now.point) (range_with_len (n + 1) (code_count - (n + 1)))) (sym c.number.ensures.value)

pub returns-clause-goes : goal.returns-clause-goes
returns-clause-goes c =
    let step = returns-clause-steps c in
    let fewer = ap (length {A = ℕ}) step in
    omega (arith, fewer)
