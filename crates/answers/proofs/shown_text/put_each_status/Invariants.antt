use Rattle.std.proofs.Common.{◌≡◌, ◌++◌, take, string_bytes}
use Rattle.std.specs.List.{flat_map}
use Rattle.answers.specs.Shown.{point_status_word}
use Rattle.answers.proofs.shown_text.put_each_status.Given as goal

abbrev pub invariant-loop-status : goal.invariant-loop-status
invariant-loop-status l = string_bytes l.text ≡ string_bytes l.fn.text ++ flat_map point_status_word (take l.status-index l.statuses)
