-- How explanations are written.
use Rattle.std.specs.Prelude.{ℕ, List, [], ◌∷◌, ◌++◌, codes}
use Rattle.std.specs.List.{flat_map}
use Rattle.explanations.specs.declared.explanation.Explanation.{Explanation}

-- what stands before values: a space, or nothing if there are none
abbrev pub gap_before : List ℕ → List ℕ
gap_before [] = []
gap_before (b ∷ rest) = 32 ∷ []

-- what ends a line, or nothing if it is left out
abbrev pub end_after : List ℕ → List ℕ
end_after [] = []
end_after (b ∷ rest) = 10 ∷ []

-- the title with its values, and the meaning, a line each
abbrev pub meaning_text : Explanation → List ℕ
meaning_text e = e.title.now ++ (gap_before e.values.now ++ (e.values.now ++ 10 ∷ (e.meaning.now ++ 10 ∷ [])))

-- what the values are if there are any, and what to do, a line each
abbrev pub action_text : Explanation → List ℕ
action_text e = e.legend.now ++ (end_after e.legend.now ++ (codes "What to do: " ++ (e.action.now ++ 10 ∷ [])))

-- all of that
abbrev pub explanation_text : Explanation → List ℕ
explanation_text e = meaning_text e ++ action_text e

-- the title and the meaning in a line
abbrev pub title_line : Explanation → List ℕ
title_line e = e.title.now ++ (codes ": " ++ (e.meaning.now ++ 10 ∷ []))

-- a line for each
abbrev pub titles_text : List Explanation → List ℕ
titles_text list = flat_map title_line list
