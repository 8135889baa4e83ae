-- What is told in the place of an answer by who puts pictures and networks into files (own).
use Rattle.std.specs.Prelude.{◌≡◌, ◌⊎◌}
use Rattle.answers.specs.declared.answer.Answer.{Answer}
use Rattle.answers.specs.declared.answer.Answer.TheVariants as answer
use Rattle.answers.specs.declared.answer.NetAnswer.{NetAnswer}
use Rattle.answers.specs.declared.answer.NetAnswer.TheVariants as net
use Rattle.answers.specs.declared.answer.Reason.TheVariants as reason

-- a file can't be written, or none may be
abbrev pub IsUnfiled : Answer → Type 0
IsUnfiled a = (a ≡ answer.Refused reason.Write) ⊎ (a ≡ answer.Refused reason.BadLine)

-- of the whole network: of a picture and of the network itself the file that it was put into, or that it wasn't; of anything else just that
abbrev pub IsNetFiled : NetAnswer → Answer → Type 0
IsNetFiled (net.Picture file picture) a = (a ≡ answer.Net (net.Drawn file)) ⊎ IsUnfiled a
IsNetFiled (net.Saving file network) a = (a ≡ answer.Net (net.Saved file)) ⊎ IsUnfiled a
IsNetFiled told a = a ≡ answer.Net told

-- of anything else just that
abbrev pub IsFiled : Answer → Answer → Type 0
IsFiled (answer.Net told) a = IsNetFiled told a
IsFiled told a = a ≡ told
