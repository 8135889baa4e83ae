-- What `picture` tells (own): a picture of a version of a network, and the file that it is for.
use Rattle.std.specs.Prelude.{ℕ, Bool, false, if◌then◌else◌, List, Option, None, Some, codes}
use Rattle.std.specs.Path.{path_extension}
use Rattle.std.specs.Str.{str_eq_ignore_ascii_case}
use Rattle.net_data.specs.Network.{Network}
use Rattle.pictures.specs.Dot.{dot_text}
use Rattle.pictures.specs.Shown.{lacks_plan}
use Rattle.pictures.specs.Svg.{svg_text}
use Rattle.answers.specs.declared.answer.Answer.{Answer}
use Rattle.answers.specs.declared.answer.Answer.TheVariants as answer
use Rattle.answers.specs.declared.answer.NetAnswer.TheVariants as net_answer
use Rattle.answers.specs.declared.answer.Reason.TheVariants as reason

-- whether an ending is `svg`, in small letters or in capitals
abbrev pub is_svg_ending : Option (List ℕ) → Bool
is_svg_ending None = false
is_svg_ending (Some ending) = str_eq_ignore_ascii_case ending (codes "svg")

-- whether the name of a file ends in `.svg`, in small letters or in capitals
abbrev pub is_svg : List ℕ → Bool
is_svg file = is_svg_ending (path_extension file)

-- the picture for a file, of the version of that number: an SVG document if its name ends so, else a DOT text
abbrev pub picture_for : List ℕ → Network → Option ℕ → ℕ → List ℕ
picture_for file net about number = if is_svg file then svg_text net about (Some number) else dot_text net about (Some number)

-- the answer: the file and its picture, refused if the picture is asked about a destination that has no plan
abbrev pub picture_told : List ℕ → Network → Option ℕ → ℕ → Answer
picture_told file net about number = if lacks_plan net about then answer.Refused reason.NoPlan else answer.Net (net_answer.Picture file (picture_for file net about number))
