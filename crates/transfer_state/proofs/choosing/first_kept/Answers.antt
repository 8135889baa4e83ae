use Rattle.std.proofs.Common.{◌∙◌, ◌∷◌, sym, ap, arith, get_or, List}
use Rattle.route_choice.specs.declared.choices.Far.TheVariants.{Allowed}
use Rattle.route_choice.specs.Routes.{Offer, choose, has_via}
use Rattle.route_choice.proofs.OfferLemmas.{offered_one, offered_two}
use Rattle.transfer_state.specs.Kept.{kept}
use Rattle.transfer_state.proofs.FirstLemmas.{one_allowed, two_allowed, kept_one, kept_two}
use Rattle.transfer_state.proofs.choosing.first_kept.Goals as goal

pub returns-in-len1-clause-allowed : goal.returns-in-len1-clause-allowed
returns-in-len1-clause-allowed c = λ some.
    let o : Offer = record { via = get_or c.args.vias.now 0 0; far = get_or c.args.fars.now 0 Allowed } in
    let one = offered_one c.args.vias.now c.args.fars.now 0 Allowed (omega (arith, c.in-len1.len_at_least, c.in-len1.len_below)) (omega arith) in
    ap (has_via Allowed) one ∙ one_allowed o (sym c.is_same_as-first.ensures ∙ c.if-first.true)

pub returns-in-len1-clause-keeps : goal.returns-in-len1-clause-keeps
returns-in-len1-clause-keeps c tfr later mate =
    let o : Offer = record { via = get_or c.args.vias.now 0 0; far = get_or c.args.fars.now 0 Allowed } in
    let one = offered_one c.args.vias.now c.args.fars.now 0 Allowed (omega (arith, c.in-len1.len_at_least, c.in-len1.len_below)) (omega arith) in
    c.of_first.ensures ∙ sym (ap (λ (os : List Offer). kept (choose tfr (os ∷ later) mate)) one ∙ kept_one tfr o later mate (sym c.is_same_as-first.ensures ∙ c.if-first.true))

pub returns-in-len2-clause-allowed : goal.returns-in-len2-clause-allowed
returns-in-len2-clause-allowed c = λ some.
    let o : Offer = record { via = get_or c.args.vias.now 0 0; far = get_or c.args.fars.now 0 Allowed } in
    let p : Offer = record { via = get_or c.args.vias.now 1 0; far = get_or c.args.fars.now 1 Allowed } in
    let two = offered_two c.args.vias.now c.args.fars.now 0 0 Allowed Allowed (omega (arith, c.in-len2.len_at_least, c.in-len2.len_below)) (omega arith) in
    ap (has_via Allowed) two ∙ two_allowed o p (rw (c.is_same_as-first.ensures, c.is_same_as-second.ensures) at c.if-first-second.true)

pub returns-in-len2-clause-keeps : goal.returns-in-len2-clause-keeps
returns-in-len2-clause-keeps c tfr later mate =
    let o : Offer = record { via = get_or c.args.vias.now 0 0; far = get_or c.args.fars.now 0 Allowed } in
    let p : Offer = record { via = get_or c.args.vias.now 1 0; far = get_or c.args.fars.now 1 Allowed } in
    let two = offered_two c.args.vias.now c.args.fars.now 0 0 Allowed Allowed (omega (arith, c.in-len2.len_at_least, c.in-len2.len_below)) (omega arith) in
    let its = ap (λ (os : List Offer). kept (choose tfr (os ∷ later) mate)) two ∙ kept_two tfr o p later mate (rw (c.is_same_as-first.ensures, c.is_same_as-second.ensures) at c.if-first-second.true) in
    c.of_first-in-len2.ensures ∙ rw (← c.is_same_as-first.ensures, ← c.is_same_as-second.ensures) at (sym its)
