-- Members of objects, by the values that they tell.
use Rattle.std.specs.Prelude.{ℕ, List, [], ◌∷◌, map, codes}
use Rattle.std.specs.Fmt.{decimal}
use Rattle.json.specs.Json.{string, number, array}
use Rattle.json.specs.Print.{print}
use Rattle.json.specs.Tree.{json_tokens}
use Rattle.json.specs.Value.{items_of}
use Rattle.point_codes.specs.Codes.{code_text}
use Rattle.json_answers.specs.Members.{Member, object_with}

-- a text under a name
abbrev pub text_member : List ℕ → List ℕ → Member
text_member name text = (name, string text)

-- a number
abbrev pub number_member : List ℕ → ℕ → Member
number_member name n = (name, number (decimal n))

-- a point's code
abbrev pub code_member : List ℕ → ℕ → Member
code_member name code = (name, string (code_text code))

-- a list of objects, by the members of each
abbrev pub list_member : {A : Type 0} → List ℕ → (A → List Member) → List A → Member
list_member name members xs = (name, array (items_of (map (λ x. object_with (members x)) xs)))

-- `word`, which tells what an answer is
abbrev pub word_member : List ℕ → Member
word_member word = text_member (codes "word") word

-- a word, and a number under a name
abbrev pub numbered_members : List ℕ → List ℕ → ℕ → List Member
numbered_members word name n = word_member word ∷ number_member name n ∷ []

-- the text of the object with these members
abbrev pub members_text : List Member → List ℕ
members_text ms = print (json_tokens (object_with ms))
