-- The links of a row, told by the sets to its members.
use Rattle.std.proofs.Common.{◌≡◌, ℕ, ◌<◌, List, [], ◌∷◌, Option, Some, None, map, Bool, false, refl, sym, ap, ◌∙◌, arith, length, get_or, zero-add}
use Rattle.std.specs.List.{range_with_len}
use Rattle.std.proofs.lemmas.List.{same_lists, get_or_default}
use Rattle.std.proofs.lemmas.List.FromFn.{get_or-map-range_with_len}
use Rattle.profile.specs.declared.tables.LinkRef.{LinkRef}
use Rattle.profile.specs.declared.tables.SetLinks.{SetLinks}
use Rattle.sls_share.specs.Share.{via_of, share_of}
use Rattle.std.specs.Option.{option_and_then}
use Rattle.profile.specs.Links.{link_over, link_at, links_at}

pub links_none : links_at 1 (false ∷ false ∷ []) (None ∷ None ∷ []) ≡ map (λ _. None) (range_with_len 0 16)
unfolding links_at
links_none = refl

-- the link of one SLS
pub link_is : (size : ℕ) (used : List Bool) (sets : List (Option SetLinks)) (s : ℕ) → s < 16 → get_or (links_at size used sets) s None ≡ link_at size used sets s
unfolding links_at
link_is size used sets s low = get_or-map-range_with_len (link_at size used sets) 0 16 s s None low (zero-add s)

-- the link over the set to the member that carries an SLS
pub link_found : (size : ℕ) (used : List Bool) (sets : List (Option SetLinks)) (s position t : ℕ) (set : SetLinks) → s < 16 → position ≡ via_of size (get_or used 0 false) (get_or used 1 false) s → t ≡ share_of size s
    → Some set ≡ get_or sets position None → link_over set t ≡ get_or (links_at size used sets) s None
link_found size used sets s position t set low via share there =
    let at : get_or sets (via_of size (get_or used 0 false) (get_or used 1 false) s) None ≡ Some set = ap (λ p. get_or sets p None) (sym via) ∙ sym there in
    ap (link_over set) share ∙ ap (option_and_then (λ set. link_over set (share_of size s))) (sym at) ∙ sym (link_is size used sets s low)

pub link_missing : (size : ℕ) (used : List Bool) (sets : List (Option SetLinks)) (s position : ℕ) → s < 16 → position ≡ via_of size (get_or used 0 false) (get_or used 1 false) s
    → None ≡ get_or sets position None → None ≡ get_or (links_at size used sets) s None
link_missing size used sets s position low via there =
    let at : get_or sets (via_of size (get_or used 0 false) (get_or used 1 false) s) None ≡ None = ap (λ p. get_or sets p None) (sym via) ∙ sym there in
    ap (option_and_then (λ set. link_over set (share_of size s))) (sym at) ∙ sym (link_is size used sets s low)

pub length-links_at : (size : ℕ) (used : List Bool) (sets : List (Option SetLinks)) → length (links_at size used sets) ≡ 16
unfolding links_at
length-links_at size used sets = refl

-- sixteen links that are equal one by one
pub same_links : (xs ys : List (Option LinkRef)) → length xs ≡ 16 → length ys ≡ 16 → ((k : ℕ) → k < 16 → get_or xs k None ≡ get_or ys k None) → xs ≡ ys
same_links xs ys sixteen also each =
    same_lists xs ys (sixteen ∙ sym also)
    (λ k d low. get_or_default xs k d None low ∙ each k (omega (arith, low, sixteen)) ∙ sym (get_or_default ys k d None (omega (arith, low, sixteen, also))))
