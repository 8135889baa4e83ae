-- How a check of a file is told as an object (own).
use Rattle.std.specs.Prelude.{ℕ, List, ◌∷◌, codes}
use Rattle.transfer_state.specs.declared.complaints.Complaint.{Complaint}
use Rattle.json_answers.specs.Members.{Member}
use Rattle.json_answers.specs.Values.{numbered_members, word_member}
use Rattle.json_answers.specs.Objects.{complaint_members}

-- that many tables, each right
abbrev pub right_members : ℕ → List Member
right_members plans = numbered_members (codes "ok") (codes "plans") plans

-- the first wrong table
abbrev pub wrong_members : ℕ → Complaint → List Member
wrong_members dest complaint = word_member (codes "bad") ∷ complaint_members dest complaint
