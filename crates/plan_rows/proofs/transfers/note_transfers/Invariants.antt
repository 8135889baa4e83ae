use Rattle.std.proofs.Common.{◌≡◌, length, take}
use Rattle.plan_rows.specs.Transfers.{IsTransfers}
use Rattle.plan_rows.proofs.transfers.note_transfers.Given as goal

abbrev pub invariant-loop-point : goal.invariant-loop-point
invariant-loop-point l = record { long : length l.transfers ≡ 16384; noted : IsTransfers l.transfers (take l.point-index l.points) }
