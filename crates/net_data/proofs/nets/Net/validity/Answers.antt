use Rattle.std.proofs.Common.{subst}
use Rattle.net_data.specs.Network.{Network}
use Rattle.net_data.specs.Valid.{IsValid}
use Rattle.net_data.proofs.nets.Net.validity.Goals as goal

pub returns : goal.returns
returns c = subst (λ (n : Network). IsValid n) c.self.view_is c.self.invariant
