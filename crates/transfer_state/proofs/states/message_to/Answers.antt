use Rattle.std.proofs.Common.{arith, Some, sym, ap, ◌∙◌}
use Rattle.point_codes.specs.declared.kinds.MsgKind.{MsgKind}
use Rattle.excerpts.specs.Excerpt.{source_of}
use Rattle.transfer_state.proofs.MessageLemmas.{message_found}
use Rattle.transfer_state.proofs.states.message_to.Goals as goal

pub returns-then-sends : goal.returns-then-sends
returns-then-sends c =
    let found = message_found (source_of c.args.e.now) c.args.row.now c.args.choice.now c.args.neighbour (omega (arith, c.number-number.ensures.value, c.number-number.ensures.in_range)) in
    let sent = sym c.sends.ensures ∙ c.if-sends.true in
    ap (λ (k : MsgKind). Some (record { kind = k; to = c.args.neighbour })) c.message.ensures ∙ sym (rw sent at found)

pub returns-else-sends : goal.returns-else-sends
returns-else-sends c =
    let found = message_found (source_of c.args.e.now) c.args.row.now c.args.choice.now c.args.neighbour (omega (arith, c.number-number.ensures.value, c.number-number.ensures.in_range)) in
    let unsent = sym c.sends.ensures ∙ c.if-sends.false in
    sym (rw unsent at found)
