-- The title of a picture (own): the network, the destination that it is asked about, and the version that it shows.
use Rattle.std.specs.Prelude.{ℕ, ◌==◌, List, [], ◌++◌, Option, length, if◌then◌else◌, codes}
use Rattle.std.specs.Option.{option_map_or}
use Rattle.std.specs.Fmt.{decimal}
use Rattle.point_codes.specs.Codes.{code_text}
use Rattle.net_data.specs.Network.{Network}
use Rattle.excerpts.specs.Excerpt.{ExcerptValue}
use Rattle.pictures.specs.Shown.{dest_of}

-- the ending of a word for so many
abbrev pub plural_text : ℕ → List ℕ
plural_text n = if n == 1 then [] else codes "s"

-- `network of 14 points and 36 link sets`
abbrev pub network_title : ℕ → ℕ → List ℕ
network_title points sets =
    codes "network of " ++ (decimal points ++ (codes " point" ++ (plural_text points ++ (codes " and " ++ (decimal sets ++ (codes " link set" ++ plural_text sets))))))

-- `, traffic to 2-11-0`, if a destination is asked about
abbrev pub about_title : Option ℕ → List ℕ
about_title dest = option_map_or (λ x. codes ", traffic to " ++ code_text x) dest []

-- `, version 20: after 20 accepted events`, of the version of that number, if it is one
abbrev pub version_title : Option ℕ → List ℕ
version_title version =
    option_map_or (λ n. codes ", version " ++ (decimal n ++ (codes ": after " ++ (decimal n ++ (codes " accepted event" ++ plural_text n))))) version []

-- the whole title
unfoldable pub title_text : Option ExcerptValue → Option ℕ → Network → List ℕ
title_text about version net = network_title (length net.points) (length net.sets) ++ (about_title (dest_of about) ++ version_title version)
