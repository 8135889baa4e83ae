-- Two points that an available set joins have a link for each share number.
use Rattle.std.proofs.Common.{◌≡◌, ℕ, ◌<◌, ◌≤◌, List, Option, Some, None, All, true, false, refl, length}
use Rattle.net_items.specs.declared.items.LinkSet.{LinkSet}
use Rattle.profile.specs.declared.tables.LinkRef.{LinkRef}
use Rattle.link_sets.specs.Availability.{set_available, connected}
use Rattle.net_items.specs.Lookups.{set_between, joins}
use Rattle.profile.specs.Whole.{link_between}
use Rattle.profile.specs.Valid.{HasFewLinks}
use Rattle.link_sets.proofs.ListLemmas.{find_gives}
use Rattle.sls_share.proofs.CoverLemmas.{link_there}

pub found_few : (sets : List LinkSet) (y z : ℕ) (set : LinkSet) → All HasFewLinks sets → set_between sets y z ≡ Some set → length set.links ≤ 16
found_few sets y z set few e = (find_gives (joins y z) HasFewLinks sets set few e).1.few

-- an available set has a link for each share number
pub joined_link : (sets : List LinkSet) (y z t : ℕ) → All HasFewLinks sets → connected sets y z ≡ true → t < 16 → (link : LinkRef) × (link_between sets y z t ≡ Some link)
joined_link sets y z t few joined share = go (set_between sets y z) refl
  where
    go : (o : Option LinkSet) → set_between sets y z ≡ o → (link : LinkRef) × (link_between sets y z t ≡ Some link)
    go None e = let no_set : false ≡ true = rw e at joined in cc
    go (Some set) e =
        let up : set_available set ≡ true = rw e at joined in
        let r = link_there set.links t up (found_few sets y z set few e) share in
        (record { id = set.id; slc = r.0 }, rw (e, r.1) refl)
