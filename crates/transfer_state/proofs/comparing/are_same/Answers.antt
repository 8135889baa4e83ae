-- `==` of what is kept decides if it is equal
use Rattle.std.proofs.Common.{rules}
use Rattle.std.proofs.lemmas.Slice.Eq.{slice_eq-Decides}
use Rattle.transfer_state.proofs.comparing.are_same.Goals as goal

pub returns : goal.returns
returns c = slice_eq-Decides (λ x y. search rules) _ _ _ c.eq.ensures
