-- How a check of all tables of a version is answered.
use Rattle.std.specs.Prelude.{ℕ, List, ◌∷◌, ◌++◌, codes}
use Rattle.std.specs.Fmt.{decimal}
use Rattle.point_codes.specs.Codes.{code_text}
use Rattle.transfer_state.specs.declared.complaints.Clause.{Clause}
use Rattle.transfer_state.specs.declared.complaints.Clause.TheVariants.{Points, Route, Status, Links, Messages}
use Rattle.transfer_state.specs.declared.complaints.Complaint.{Complaint}
use Rattle.answers.specs.declared.answer.Answer.{Answer}
use Rattle.answers.specs.declared.answer.Answer.TheVariants as answer
use Rattle.answers.specs.declared.answer.NetAnswer.TheVariants as net

-- the letter of what is wrong
abbrev pub clause_letter : Clause → List ℕ
clause_letter Points = codes "a"
clause_letter Route = codes "b"
clause_letter Status = codes "c"
clause_letter Links = codes "d"
clause_letter Messages = codes "e"

-- `X Y c`: the destination of a wrong table, and the point and the letter of the first complaint about it
abbrev pub complaint_text : ℕ → Complaint → List ℕ
complaint_text dest complaint = code_text dest ++ 32 ∷ (code_text complaint.point ++ 32 ∷ clause_letter complaint.clause)

-- `audit ok P`: that many tables, each right
abbrev pub audit_right : ℕ → List ℕ
audit_right count = codes "audit ok " ++ decimal count

-- `audit bad X Y c`: the first wrong table
abbrev pub audit_wrong : ℕ → Complaint → List ℕ
audit_wrong dest complaint = codes "audit bad " ++ complaint_text dest complaint

-- all tables of a version are right
abbrev pub audit_answer : ℕ → Answer
audit_answer count = answer.Net (net.Right count)
