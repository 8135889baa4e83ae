-- A newest version is put before the seven newest of eight.
use Rattle.std.proofs.Common.{◌≡◌, ◌-◌, List, [], ◌∷◌, ◌++◌, sym, ap, ◌∙◌, length, map, take, drop, arith, get_or, slice_set, Bool, true, if◌then◌else◌, Option, Some}
use Rattle.std.proofs.lemmas.List.{drop_all, drop_more, take-map}
use Rattle.net_versions.specs.Versions.{VersionValue}
use Rattle.answers.specs.Changes.{Earlier, earlier}
use Rattle.desk_console.specs.Watch.{WatchValue, is_replaced, watched}

-- the last of eight, alone
last_alone : {X : Type 0} (xs : List X) (d : X) → length xs ≡ 8 → drop 7 xs ≡ get_or xs 7 d ∷ []
last_alone xs d len = drop_more xs 7 d (omega arith) ∙ ap (λ rest. get_or xs 7 d ∷ rest) (drop_all 8 xs (omega arith))

shifted : {X Y : Type 0} (f : X → Y) (x : X) (xs ys : List X) → length xs ≡ 8 → ys ≡ drop (length xs - 1) xs ++ take (length xs - 1) xs → map f (slice_set ys 0 x) ≡ f x ∷ take 7 (map f xs)
shifted f x xs ys len is = ap (λ list. map f (slice_set list 0 x)) (is ∙ ap (λ n. drop (n - 1) xs ++ take (n - 1) xs) len ∙ ap (λ last. last ++ take 7 xs) (last_alone xs x len)) ∙ ap (λ rest. f x ∷ rest) (sym (take-map f 7 xs))

abbrev pub watch_of : List (Option Earlier) → Bool → WatchValue
watch_of kept is_on = record { kept = kept; is_on = is_on }

-- what is kept then
pub kept_then : {X : Type 0} (f : X → Option Earlier) (x : X) (xs ys : List X) (is_on : Bool) (old new : VersionValue) → length xs ≡ 8 → ys ≡ drop (length xs - 1) xs ++ take (length xs - 1) xs → f x ≡ Some (earlier old) → true ≡ is_replaced old new → watch_of (map f (slice_set ys 0 x)) is_on ≡ watched (watch_of (map f xs) is_on) old new
kept_then f x xs ys is_on old new len is same replaced =
    ap (λ kept. watch_of kept is_on) (shifted f x xs ys len is ∙ ap (λ first. first ∷ take 7 (map f xs)) same)
    ∙ ap (λ (b : Bool). if b then watch_of (Some (earlier old) ∷ take 7 (map f xs)) is_on else watch_of (map f xs) is_on) replaced
