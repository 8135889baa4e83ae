-- The keys of a table.
use Rattle.std.proofs.Common.{◌≡◌, ℕ, Bool, true, false, cond, ◌&&◌, List, [], ◌∷◌, map, String, Global, string_bytes, nat_cmp, Option, Some, None, Ok, Err, IfOk, option_map, unwrap_or, refl, ap, sym, subst, ◌∙◌}
use Rattle.std.specs.BTreeMap.{is_at}
use Rattle.std.specs.Cmp.Lexicographic.{slice_cmp}
use Rattle.std.specs.List.{list_all}
use Rattle.std.specs.Map.{keys_of, lookup}
use Rattle.std.proofs.lemmas.List.Folds.{list_all-map}
use Rattle.toml.proofs.Views.{view-lookup}
use Rattle.toml.specs.Data.{Data, Items, no_items, as_array, get_member}
use Rattle.toml.specs.View.{members_view, items_of, items_view, view}
use Rattle.toml.specs.declared.value.Value.{Value}
use Rattle.tokens.specs.declared.marked.Format.{Format}
use Rattle.net_text.specs.Keys.{is_known, has_known_keys, list_of, is_text, text_of, texts_in, texts_from}
use Rattle.net_text.specs.declared.faults.Key.{Key}
use Rattle.net_text.specs.declared.faults.LoadFault.TheVariants.{BadKey}

pub known_keys : (format : Format) (es : List (String Global × Value)) → list_all (λ key. is_known format (string_bytes key)) (keys_of es) ≡ has_known_keys format (members_view es)
known_keys format [] = refl
known_keys format (e ∷ es) = ap (λ b. is_known format (string_bytes e.0) && b) (known_keys format es)

pub list_of_items : (ds : List Data) → list_of (items_of ds) ≡ ds
list_of_items [] = refl
list_of_items (d ∷ ds) = ap (λ l. d ∷ l) (list_of_items ds)

map_texts : (vs : List Value) → map text_of (map view vs) ≡ map (λ v. text_of (view v)) vs
map_texts [] = refl
map_texts (v ∷ vs) = ap (λ l. text_of (view v) ∷ l) (map_texts vs)

texts_read : (key : Key) (found : Option Items) (vs : List Value) → Some (items_view vs) ≡ found
    → texts_in key (option_map list_of found) ≡ cond (list_all (λ v. is_text (view v)) vs) (Ok (map (λ v. text_of (view v)) vs)) (Err (BadKey key))
texts_read key found vs e =
    ap (λ o. texts_in key (option_map list_of o)) (sym e) ∙ ap (λ ds. texts_in key (Some ds)) (list_of_items (map view vs))
    ∙ ap (λ b. cond b (Ok (map text_of (map view vs))) (Err (BadKey key))) (list_all-map is_text view vs)
    ∙ ap (λ ts. cond (list_all (λ v. is_text (view v)) vs) (Ok ts) (Err (BadKey key))) (map_texts vs)

pub texts_refused : (key : Key) (found : Option Items) (vs xs : List Value) (b : Bool) → Some (items_view vs) ≡ found → xs ≡ vs → b ≡ list_all (λ v. is_text (view v)) xs → b ≡ false
    → texts_in key (option_map list_of found) ≡ Err (BadKey key)
texts_refused key found vs xs b e same tested failed =
    texts_read key found vs e ∙ ap (λ t. cond t (Ok (map (λ v. text_of (view v)) vs)) (Err (BadKey key))) (ap (list_all (λ v. is_text (view v))) (sym same) ∙ sym tested ∙ failed)

pub texts_kept : (key : Key) (found : Option Items) (vs xs : List Value) (b : Bool) → Some (items_view vs) ≡ found → xs ≡ vs → b ≡ list_all (λ v. is_text (view v)) xs → b ≡ true
    → texts_in key (option_map list_of found) ≡ Ok (map (λ v. text_of (view v)) xs)
texts_kept key found vs xs b e same tested passed =
    texts_read key found vs e ∙ ap (λ t. cond t (Ok (map (λ v. text_of (view v)) vs)) (Err (BadKey key))) (ap (list_all (λ v. is_text (view v))) (sym same) ∙ sym tested ∙ passed)
    ∙ ap (λ ys. Ok (map (λ v. text_of (view v)) ys)) (sym same)

-- the texts of an array that is taken out of its value are those that the value has
elements : (key : Key) (found : Option Items) (vs : List Value) → items_view vs ≡ unwrap_or found no_items → IfOk (texts_in key (option_map list_of found)) (λ ts. map (λ v. text_of (view v)) vs ≡ ts)
elements key None vs kept = tt
elements key (Some ds) vs kept =
    subst (λ answer. IfOk answer (λ ts. map (λ v. text_of (view v)) vs ≡ ts)) (sym (texts_read key (Some ds) vs (ap Some kept)))
    (elim (list_all (λ v. is_text (view v)) vs) as (λ b. IfOk (cond b (Ok (map (λ v. text_of (view v)) vs)) (Err (BadKey key))) (λ ts. map (λ v. text_of (view v)) vs ≡ ts)) [ true ↦ refl | false ↦ tt ])

pub taken : (key : Key) (name : List ℕ) (es : List (String Global × Value)) (v : Value) (vs : List Value) → Some v ≡ lookup (is_at (λ x. slice_cmp nat_cmp name (string_bytes x))) es
    → items_view vs ≡ unwrap_or (as_array (view v)) no_items → IfOk (texts_from key (get_member name (members_view es))) (λ ts. map (λ w. text_of (view w)) vs ≡ ts)
taken key name es v vs found kept =
    subst (λ d. IfOk (texts_from key d) (λ ts. map (λ w. text_of (view w)) vs ≡ ts)) (ap (option_map view) found ∙ view-lookup name es) (elements key (as_array (view v)) vs kept)

pub none_taken : (key : Key) (name : List ℕ) (es : List (String Global × Value)) (vs : List Value) → None ≡ lookup (is_at (λ x. slice_cmp nat_cmp name (string_bytes x))) es
    → vs ≡ [] → IfOk (texts_from key (get_member name (members_view es))) (λ ts. map (λ w. text_of (view w)) vs ≡ ts)
none_taken key name es vs found empty =
    subst (λ d. IfOk (texts_from key d) (λ ts. map (λ w. text_of (view w)) vs ≡ ts)) (ap (option_map view) found ∙ view-lookup name es) (ap (map (λ w. text_of (view w))) empty)
