use Rattle.std.proofs.Common.{◌∙◌, ap, sym, List, ℕ, slice_get}
use Rattle.excerpts.proofs.PlaceLemmas.{found_by_code}
use Rattle.excerpts.proofs.positions.position_by_code.Goals as goal

pub returns-in-Some-clause-found : goal.returns-in-Some-clause-found
returns-in-Some-clause-found c =
    found_by_code c.args.rows.now c.in-Some.at c.args.point c.requires (ap (λ (codes : List ℕ). slice_get codes c.in-Some.at) (sym c.codes-codes.ensures) ∙ c.in-Some.ensures)
