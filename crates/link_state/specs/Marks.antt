-- The marks of a link: what a change does to them, and what they say (Q.704 clause 3.2).
use Rattle.std.specs.Prelude.{ℕ, ◌+◌, ◌||◌, not, Bool, true, false, if◌then◌else◌}
use Rattle.link_state.specs.declared.marks.End.TheVariants.{First, Second}
use Rattle.link_state.specs.declared.marks.Marks.{Marks}
use Rattle.link_state.specs.declared.marks.LinkChange.{LinkChange}
use Rattle.link_state.specs.declared.marks.LinkChange.TheVariants.{Fail, Restore, Block, Unblock, Inhibit, Uninhibit}

-- the marks after a change
abbrev pub marks_after : LinkChange → Marks → Marks
marks_after Fail m = record m { failed = true }
marks_after Restore m = record m { failed = false }
marks_after (Block First) m = record m { blocked_a = true }
marks_after (Block Second) m = record m { blocked_b = true }
marks_after (Unblock First) m = record m { blocked_a = false }
marks_after (Unblock Second) m = record m { blocked_b = false }
marks_after (Inhibit First) m = record m { inhibited_a = true }
marks_after (Inhibit Second) m = record m { inhibited_b = true }
marks_after (Uninhibit First) m = record m { inhibited_a = false }
marks_after (Uninhibit Second) m = record m { inhibited_b = false }

-- no mark is set: the link is available
abbrev pub is_clear : Marks → Bool
is_clear m = not (m.failed || m.blocked_a || m.blocked_b || m.inhibited_a || m.inhibited_b)

-- the case of unavailability (numbering own)
abbrev pub case_of : Marks → ℕ
case_of m = (if m.failed then 1 else 0) + (if m.blocked_a || m.blocked_b then 2 else 0) + (if m.inhibited_a || m.inhibited_b then 4 else 0)
