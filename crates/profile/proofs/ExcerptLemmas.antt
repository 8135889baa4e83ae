-- An excerpt gives the table of its source.
use Rattle.std.proofs.Common.{◌≡◌, ℕ, zero, suc, List, [], ◌∷◌, ◌++◌, Option, Some, None, All, map, cond, eqb, get_or, Bool, true, false, not, ◌&&◌, ◌||◌, refl, sym, ap, ◌∙◌, inl, inr, subst}
use Rattle.std.specs.Prelude.{find, filter, is_some, IsSome}
use Rattle.std.specs.List.{list_any, range_with_len}
use Rattle.std.specs.Option.{option_and_then, option_map_or, option_map}
use Rattle.std.proofs.lemmas.List.{append-nil}
use Rattle.std.proofs.lemmas.Option.{same_Some, slice_get-get_or}
use Rattle.std.proofs.lemmas.List.Elements.{All-weaker, All-map, filter-append}
use Rattle.std.proofs.lemmas.Bool.{or_left, or_right, or_cases, eqb-true, eq-eqb}
use Rattle.net_items.specs.declared.lists.Row.{Row}
use Rattle.route_choice.specs.declared.choices.Choice.{Choice}
use Rattle.net_items.specs.declared.items.LinkSet.{LinkSet}
use Rattle.profile.specs.declared.tables.LinkRef.{LinkRef}
use Rattle.profile.specs.declared.tables.Message.{Message}
use Rattle.profile.specs.declared.tables.RowState.{RowState}
use Rattle.link_sets.specs.Availability.{set_available, connected}
use Rattle.net_items.specs.Lookups.{set_between, joins, is_via}
use Rattle.sls_share.specs.Share.{link_for, share_of}
use Rattle.route_choice.specs.Routes.{direct}
use Rattle.profile.specs.Status.{Source, source_row, offer, offers, mate_offer, choice, status}
use Rattle.profile.specs.Local.{message, is_member}
use Rattle.profile.specs.Valid.{IsVia, IsValidRow, IsValidSource}
use Rattle.profile.specs.Reads.{is_planned_transfer, reads, is_flagged_at, excerpt_of, with_sets}
use Rattle.profile.proofs.ReadLemmas.{GivesSame}
use Rattle.profile.specs.Whole.{size_of, carrier, link_between, link_of, messages_of, state_of, scratch}
use Rattle.link_sets.specs.Neighbours.{all_codes, neighbours}
use Rattle.link_sets.proofs.ListLemmas.{map_same, and_first, and_both, and_second, any_weaker}
use Rattle.profile.proofs.UnfoldingLemmas.{row_valid, choice_same}
use Rattle.profile.proofs.ChoiceLemmas.{choose_cases, direct_member}
use Rattle.profile.proofs.SettledLemmas.{planned_there, mate_offer_is}
use Rattle.profile.proofs.ReadLemmas.{find-filter, each_via, choice_given, status_given}
use Rattle.profile.proofs.PlacingLemmas.{row_at_place}
use Rattle.profile.proofs.CertificateLemmas.{rows_same}

-- an element that is found makes a test true that it passes
pub any_found : {X : Type 0} (p q : X → Bool) (xs : List X) (x : X) → find p xs ≡ Some x → q x ≡ true → list_any q xs ≡ true
any_found p q [] x e passes = cc
any_found p q (y ∷ ys) x e passes = go (p y) refl (any_found p q ys x)
  where
    go : (b : Bool) → p y ≡ b → (find p ys ≡ Some x → q x ≡ true → list_any q ys ≡ true) → (q y || list_any q ys) ≡ true
    go true t rec =
        let here : Some y ≡ Some x = rw t at e in
        let same : y ≡ x = cc in or_left (q y) (list_any q ys) (ap q same ∙ passes)
    go false t rec = or_right (q y) (list_any q ys) (rec (rw t at e) passes)

pub filter_agree : {X : Type 0} (p q : X → Bool) → ((x : X) → p x ≡ q x) → (xs : List X) → filter p xs ≡ filter q xs
filter_agree p q same [] = refl
filter_agree p q same (x ∷ xs) = let here = same x in let rest = filter_agree p q same xs in rw (here, rest) refl

pub filter_none : {X : Type 0} (p : X → Bool) (xs : List X) → list_any p xs ≡ false → filter p xs ≡ []
filter_none p [] e = refl
filter_none p (x ∷ xs) e = go (p x) refl (filter_none p xs)
  where
    go : (b : Bool) → p x ≡ b → (list_any p xs ≡ false → filter p xs ≡ []) → cond (p x) (x ∷ filter p xs) (filter p xs) ≡ []
    go true t rec = let both : true ≡ false = rw t at e in cc
    go false t rec = rw t (rec (rw t at e))

-- what stands in a place of the members is a member
pub member_there : (members : List (Option ℕ)) (position z : ℕ) → get_or members position None ≡ Some z → list_any (λ m. option_map_or (λ v. eqb v z) m false) members ≡ true
member_there [] position z e = cc
member_there (m ∷ ms) zero z e = or_left (option_map_or (λ v. eqb v z) m false) (list_any (λ m. option_map_or (λ v. eqb v z) m false) ms) (ap (λ (o : Option ℕ). option_map_or (λ v. eqb v z) o false) e ∙ eq-eqb z z refl)
member_there (m ∷ ms) (suc position) z e = or_right (option_map_or (λ v. eqb v z) m false) (list_any (λ m. option_map_or (λ v. eqb v z) m false) ms) (member_there ms position z e)

module _ (src : Source) where
  -- a set between a row's point and a via is read
  pub reads_via : (row : Row) (z : ℕ) (set : LinkSet) → source_row src row.point ≡ Some row → is_via row z ≡ true → joins row.point z set ≡ true → reads src set ≡ true
  reads_via row z set planned via joined =
      or_right (is_planned_transfer src set.a || is_planned_transfer src set.b)
      (list_any (λ row. list_any (λ vias. list_any (λ via. joins row.point via set) vias) row.classes) src.rows)
      (any_found (λ r. eqb r.point row.point) (λ row. list_any (λ vias. list_any (λ via. joins row.point via set) vias) row.classes) src.rows row planned
      (any_weaker (λ vias. list_any (λ v. eqb v z) vias) (λ vias. list_any (λ via. joins row.point via set) vias) row.classes
      (λ vias. any_weaker (λ v. eqb v z) (λ via. joins row.point via set) vias (λ v t. ap (λ w. joins row.point w set) (eqb-true v z t) ∙ joined)) via))

  -- a set with an end at a transfer point with a row is read
  pub reads_transfer : (y z : ℕ) (set : LinkSet) → is_planned_transfer src y ≡ true → joins y z set ≡ true → reads src set ≡ true
  reads_transfer y z set transfer joined =
      or_left (is_planned_transfer src set.a || is_planned_transfer src set.b)
      (list_any (λ row. list_any (λ vias. list_any (λ via. joins row.point via set) vias) row.classes) src.rows)
      (elim (or_cases (eqb set.a y && eqb set.b z) (eqb set.a z && eqb set.b y) joined) [
        | inl h ↦ or_left (is_planned_transfer src set.a) (is_planned_transfer src set.b) (ap (is_planned_transfer src) (eqb-true set.a y (and_first (eqb set.a y) (eqb set.b z) h)) ∙ transfer)
        | inr h ↦ or_right (is_planned_transfer src set.a) (is_planned_transfer src set.b) (ap (is_planned_transfer src) (eqb-true set.b y (and_second (eqb set.a z) (eqb set.b y) h)) ∙ transfer)
      ])

  pub between_via : (row : Row) (z : ℕ) → source_row src row.point ≡ Some row → is_via row z ≡ true → set_between (excerpt_of src).sets row.point z ≡ set_between src.sets row.point z
  between_via row z planned via = find-filter (joins row.point z) (reads src) src.sets (λ set j. reads_via row z set planned via j)

  pub between_transfer : (y z : ℕ) → is_planned_transfer src y ≡ true → set_between (excerpt_of src).sets y z ≡ set_between src.sets y z
  between_transfer y z transfer = find-filter (joins y z) (reads src) src.sets (λ set j. reads_transfer y z set transfer j)

  connected_by : (y z : ℕ) → set_between (excerpt_of src).sets y z ≡ set_between src.sets y z → connected src.sets y z ≡ connected (excerpt_of src).sets y z
  connected_by y z e = ap (λ (o : Option LinkSet). option_map_or set_available o false) (sym e)

  planned_transfer : (row : Row) → source_row src row.point ≡ Some row → src.is_stp row.point ≡ true → is_planned_transfer src row.point ≡ true
  planned_transfer row planned stp = and_both (src.is_stp row.point) (is_some (source_row src row.point)) stp (ap (λ (o : Option Row). is_some o) planned)

  kind_kept : (y : ℕ) (row : Row) → source_row src y ≡ Some row → is_planned_transfer src y ≡ src.is_stp y
  kind_kept y row planned = go (src.is_stp y) refl
    where
      go : (b : Bool) → src.is_stp y ≡ b → is_planned_transfer src y ≡ src.is_stp y
      go true e = let some : is_some (source_row src y) ≡ true = ap (λ (o : Option Row). is_some o) planned in rw (e, some) refl
      go false e = rw e refl

  mate_kept : (row : Row) → source_row src row.point ≡ Some row → row.mate ≡ true → (excerpt_of src).mate_of row.point ≡ src.mate_of row.point
  mate_kept row planned flag = rw (planned, flag) refl

  mate_told : (y m : ℕ) → (excerpt_of src).mate_of y ≡ Some m → (is_flagged_at src y ≡ true) × (src.mate_of y ≡ Some m)
  mate_told y m e = go (is_flagged_at src y) refl
    where
      go : (b : Bool) → is_flagged_at src y ≡ b → (is_flagged_at src y ≡ true) × (src.mate_of y ≡ Some m)
      go true t = (t, rw t at e)
      go false t = let none : None ≡ Some m = rw t at e in cc

  module _ (valid : IsValidSource src) where
    pub excerpt_same : GivesSame src (excerpt_of src)
    excerpt_same = record {
      dest = refl;
      rows = refl;
      tfr = refl;
      mates = λ row planned flag. sym (mate_kept row planned flag);
      over_vias = λ y z row planned via. connected_by row.point z (between_via row z (planned_there src valid y row planned) via);
      over_mates = λ row mate planned flag paired.
          connected_by row.point mate.point (between_transfer row.point mate.point (planned_transfer row planned ((row_valid src valid row.point row planned).1.flagged flag).transfers));
    }

    via_there : (row : Row) → All (All (λ z. is_via row z ≡ true)) row.classes
    via_there row = each_via (λ z. is_via row z ≡ true) row.classes (λ z e. e)

    flagged_row : (y : ℕ) → is_flagged_at src y ≡ true → (row : Row) × (source_row src y ≡ Some row) × (row.mate ≡ true)
    flagged_row y e = go (source_row src y) refl
      where
        go : (o : Option Row) → source_row src y ≡ o → (row : Row) × (source_row src y ≡ Some row) × (row.mate ≡ true)
        go None n = let no_row : false ≡ true = rw n at e in cc
        go (Some row) n = let flag : row.mate ≡ true = rw n at e in (row, n, flag)

    via_kept : (row : Row) (z : ℕ) → source_row src row.point ≡ Some row → is_via row z ≡ true → IsVia src row z → IsVia (excerpt_of src) row z
    via_kept row z planned via is = record {
      joined = subst (λ (o : Option LinkSet). IsSome o) (sym (between_via row z planned via)) is.joined;
      leads = elim is.leads [
        | inl e ↦ inl e
        | inr low ↦ inr (record { transfers = kind_kept z low.below low.planned ∙ low.transfers; below = low.below; planned = low.planned; lower = low.lower })
      ];
      not_mate = λ e. is.not_mate (mate_told row.point z e).1;
    }

    row_kept : (row : Row) → source_row src row.point ≡ Some row → IsValidRow src row → IsValidRow (excerpt_of src) row
    row_kept row planned ok = record {
      apart = ok.apart;
      coded = ok.coded;
      ranked = ok.ranked;
      topped = ok.topped;
      vias = λ k d low i e l. via_kept row _ planned (via_there row k d low i e l) (ok.vias k d low i e l);
      flagged = λ flag.
          let has = ok.flagged flag in
          record {
            transfers = kind_kept row.point row planned ∙ has.transfers;
            mate = has.mate;
            paired = mate_kept row planned flag ∙ has.paired;
            planned = has.planned;
            same_rank = has.same_rank;
            joined = subst (λ (o : Option LinkSet). IsSome o) (sym (between_transfer row.point has.mate.point (planned_transfer row planned has.transfers))) has.joined;
          };
      few = ok.few;
      small = ok.small;
      led = ok.led;
    }

    -- the excerpt of a valid source is valid
    pub excerpt_valid : IsValidSource (excerpt_of src)
    excerpt_valid = record {
      rows = λ k d low.
          let planned = row_at_place src valid k (get_or src.rows k d) (slice_get-get_or src.rows k d low) in
          row_kept (get_or src.rows k d) planned (valid.rows k d low);
      once = valid.once;
      mates = λ p q r pq qr. valid.mates p q r (mate_told p q pq).1 (mate_told q r qr).1;
      mates_transfer = λ p q pq.
          let told = mate_told p q pq in
          let found = flagged_row p told.0 in
          let at = row_valid src valid p found.0 found.1 in
          let has = at.1.flagged found.2 in
          let same : q ≡ has.mate.point = same_Some q has.mate.point (sym told.1 ∙ ap src.mate_of (sym at.0) ∙ has.paired) in
          let there : source_row src q ≡ Some has.mate = ap (source_row src) same ∙ has.planned in
          kind_kept q has.mate there ∙ valid.mates_transfer p q told.1;
    }

    -- the choices of the rows are the same
    pub excerpt_choice : (row : Row) → source_row src row.point ≡ Some row → choice (excerpt_of src) row ≡ choice src row
    excerpt_choice row planned =
        choice_given src (excerpt_of src) valid excerpt_same (status (excerpt_of src)) row planned
        ∙ choice_same src valid (status (excerpt_of src)) (status src) row (row_valid src valid row.point row planned).1
        (record { agree = λ z low. status_given src (excerpt_of src) valid excerpt_same excerpt_valid z })

    -- the set to a member is read
    between_member : (row : Row) (z : ℕ) → source_row src row.point ≡ Some row → is_member z (choice src row) ≡ true → set_between (excerpt_of src).sets row.point z ≡ set_between src.sets row.point z
    between_member row z planned member =
        elim (choose_cases src.tfr (offers src (status src) row) (mate_offer src (status src) row)) [
          | inl w ↦
              let has = mate_offer_is src valid row (λ mate. direct src.tfr (offers src (status src) mate)) w.0 (row_valid src valid row.point row planned).1 w.1 in
              between_transfer row.point z (planned_transfer row planned has.0.transfers)
          | inr e ↦
              between_via row z planned
              (direct_member (λ v. is_via row v ≡ true) src.tfr (offers src (status src) row) z
              (All-map (All (λ o. is_via row o.via ≡ true)) (map (offer src (status src) row.point)) row.classes
              (All-weaker (All (λ v. is_via row v ≡ true)) (λ vias. All (λ o. is_via row o.via ≡ true) (map (offer src (status src) row.point) vias))
              (λ vias each. All-map (λ o. is_via row o.via ≡ true) (offer src (status src) row.point) vias each)
              row.classes (via_there row)))
              (subst (λ (k : Choice). is_member z k ≡ true) e member))
        ]

    links_kept : (row : Row) (s : ℕ) → source_row src row.point ≡ Some row → link_of (excerpt_of src) row (choice src row) s ≡ link_of src row (choice src row) s
    links_kept row s planned = go (carrier row (choice src row) s) refl
      where
        go : (o : Option ℕ) → carrier row (choice src row) s ≡ o
            → option_and_then (λ z. link_between (excerpt_of src).sets row.point z (share_of (size_of row (choice src row).class) s)) (carrier row (choice src row) s)
            ≡ option_and_then (λ z. link_between src.sets row.point z (share_of (size_of row (choice src row).class) s)) (carrier row (choice src row) s)
        go None e = rw e refl
        go (Some z) e =
            let same = between_member row z planned (member_there (choice src row).members _ z e) in
            rw e (ap (λ (o : Option LinkSet). option_and_then (λ set. option_map (λ slc. record { id = set.id; slc = slc }) (link_for set.links (share_of (size_of row (choice src row).class) s))) o) same)

    messages_kept : (row : Row) → source_row src row.point ≡ Some row → messages_of (excerpt_of src) row (choice src row) ≡ messages_of src row (choice src row)
    messages_kept row planned = go (src.is_stp row.point) refl
      where
        go : (b : Bool) → src.is_stp row.point ≡ b → messages_of (excerpt_of src) row (choice src row) ≡ messages_of src row (choice src row)
        go false e = let kind : is_planned_transfer src row.point ≡ false = kind_kept row.point row planned ∙ e in rw (kind, e) refl
        go true e =
            let kind : is_planned_transfer src row.point ≡ true = planned_transfer row planned e in
            let near : neighbours (excerpt_of src).sets row.point ≡ neighbours src.sets row.point
            = filter_agree (connected (excerpt_of src).sets row.point) (connected src.sets row.point) (λ z. sym (connected_by row.point z (between_transfer row.point z kind))) all_codes in
            rw (kind, e) (ap (λ (l : List ℕ). map (λ z. record { kind = message (choice src row) z; to = z }) (filter (λ z. not (eqb z src.dest)) l)) near)

    -- the excerpt gives the same table
    pub excerpt_scratch : scratch (excerpt_of src) ≡ scratch src
    excerpt_scratch =
        ap (λ (rows : List RowState). record { dest = src.dest; rows = rows })
        (rows_same src valid (λ row. state_of (excerpt_of src) row (choice (excerpt_of src) row)) (λ row. state_of src row (choice src row))
        (λ row planned. ap (state_of (excerpt_of src) row) (excerpt_choice row planned) ∙ state_kept row planned))
      where
        state_kept : (row : Row) → source_row src row.point ≡ Some row → state_of (excerpt_of src) row (choice src row) ≡ state_of src row (choice src row)
        state_kept row planned =
            let links : map (link_of (excerpt_of src) row (choice src row)) (range_with_len 0 16) ≡ map (link_of src row (choice src row)) (range_with_len 0 16)
            = map_same (link_of (excerpt_of src) row (choice src row)) (link_of src row (choice src row)) (range_with_len 0 16) (λ k d low. links_kept row _ planned) in
            ap (λ (l : List (Option LinkRef)). record { point = row.point; choice = choice src row; links = l; messages = messages_of (excerpt_of src) row (choice src row) }) links
            ∙ ap (λ (m : List Message). record { point = row.point; choice = choice src row; links = map (link_of src row (choice src row)) (range_with_len 0 16); messages = m }) (messages_kept row planned)

-- sets that aren't read leave the excerpt as it is
pub excerpt_keeps : (src : Source) (front old new back : List LinkSet) → src.sets ≡ front ++ old ++ back → list_any (reads src) old ≡ false → list_any (reads src) new ≡ false
    → excerpt_of (with_sets src (front ++ new ++ back)) ≡ excerpt_of src
excerpt_keeps src front old new back is old_unread new_unread =
    ap (λ (sets : List LinkSet). record { dest = src.dest; rows = src.rows; sets = sets; is_stp = is_planned_transfer src; mate_of = (excerpt_of src).mate_of; tfr = src.tfr })
    (without new new_unread ∙ sym (without old old_unread) ∙ ap (filter (reads src)) (sym is))
  where
    without : (sets : List LinkSet) → list_any (reads src) sets ≡ false → filter (reads src) (front ++ sets ++ back) ≡ filter (reads src) front ++ filter (reads src) back
    without sets unread =
        filter-append (reads src) (front ++ sets) back
        ∙ ap (λ (l : List LinkSet). l ++ filter (reads src) back)
        (filter-append (reads src) front sets ∙ ap (λ (l : List LinkSet). filter (reads src) front ++ l) (filter_none (reads src) sets unread) ∙ append-nil (filter (reads src) front))
