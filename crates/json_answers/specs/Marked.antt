-- Links with their marks, in objects (own).
use Rattle.std.specs.Prelude.{List, [], ◌∷◌, codes}
use Rattle.json.specs.Json.{Json, string}
use Rattle.net_items.specs.declared.links.Link.{Link}
use Rattle.tokens.specs.Marked.{marked_text}
use Rattle.tokens.specs.declared.marked.Format.TheVariants.{Two}
use Rattle.what_if.specs.declared.mending.SetLink.{SetLink}
use Rattle.json_answers.specs.Members.{Member}
use Rattle.json_answers.specs.Values.{number_member, text_member}

-- a link with its marks
abbrev pub marked_value : Link → Json
marked_value link = string (marked_text Two link)

-- a link: its set, and the link with its marks
abbrev pub mend_members : SetLink → List Member
mend_members l = number_member (codes "set") l.id ∷ text_member (codes "marked") (marked_text Two l.link) ∷ []
