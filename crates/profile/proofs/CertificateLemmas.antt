-- A table is its own answer exactly if it is the table from scratch.
use Rattle.std.proofs.Common.{◌≡◌, ◌≢◌, ℕ, zero, suc, ◌+◌, ◌<◌, ◌≤◌, List, [], ◌∷◌, Option, Some, None, All, map, cond, eqb, get_or, Bool, true, false, not, ◌&&◌, ◌||◌, refl, sym, ap, ◌∙◌, arith, inl, inr}
use Rattle.std.specs.Prelude.{find, filter}
use Rattle.std.specs.List.{range_with_len}
use Rattle.std.specs.Option.{option_map, option_map_or, option_and_then}
use Rattle.std.proofs.lemmas.List.Elements.{All-weaker}
use Rattle.std.proofs.lemmas.Option.{slice_get-get_or}
use Rattle.std.proofs.lemmas.Bool.{eqb-true, eqb-false, ne_eqb}
use Rattle.route_choice.specs.declared.choices.Far.{Far}
use Rattle.route_choice.specs.declared.choices.Far.TheVariants.{Allowed, Prohibited}
use Rattle.net_items.specs.declared.lists.Row.{Row}
use Rattle.route_choice.specs.declared.choices.Choice.{Choice}
use Rattle.net_items.specs.declared.items.LinkSet.{LinkSet}
use Rattle.profile.specs.declared.tables.Message.{Message}
use Rattle.profile.specs.declared.tables.RowState.{RowState}
use Rattle.profile.specs.declared.tables.Table.{Table}
use Rattle.link_sets.specs.Availability.{set_available, connected}
use Rattle.net_items.specs.Lookups.{joins}
use Rattle.route_choice.specs.Routes.{no_choice, choose}
use Rattle.profile.specs.Status.{Source, source_row, offer, offers, mate_row, over_mate, choice}
use Rattle.profile.specs.Local.{message, reading}
use Rattle.profile.proofs.LocalLemmas.{heard, far_heard, local_choice, IsScratch}
use Rattle.profile.specs.Valid.{IsVia, IsLower, IsValidRow, IsValidSource}
use Rattle.link_sets.specs.Neighbours.{all_codes, code_count, neighbours}
use Rattle.profile.specs.Whole.{messages_of, state_of, scratch, heard_in, heard_from, choice_heard, IsSettledTable}
use Rattle.link_sets.proofs.ListLemmas.{map_same}
use Rattle.profile.proofs.ReadLemmas.{find-filter}
use Rattle.profile.proofs.UnfoldingLemmas.{row_valid, mate_row_has}
use Rattle.profile.proofs.SettledLemmas.{planned_there, settled_scratch, scratch_settled}
use Rattle.profile.proofs.PlacingLemmas.{row_at_place}

pub find-map : {X Y : Type 0} (p : Y → Bool) (q : X → Bool) (g : X → Y) → ((x : X) → p (g x) ≡ q x) → (xs : List X) → find p (map g xs) ≡ option_map g (find q xs)
find-map p q g same [] = refl
find-map p q g same (x ∷ xs) = go (q x) refl (find-map p q g same xs)
  where
    go : (b : Bool) → q x ≡ b → find p (map g xs) ≡ option_map g (find q xs) → cond (p (g x)) (Some (g x)) (find p (map g xs)) ≡ option_map g (cond (q x) (Some x) (find q xs))
    go true e rec = let t : p (g x) ≡ true = same x ∙ e in rw (t, e) refl
    go false e rec = let f : p (g x) ≡ false = same x ∙ e in rw (f, e) rec

pub find_in_range : (a n y : ℕ) → a ≤ y → y < a + n → find (λ z. eqb z y) (range_with_len a n) ≡ Some y
find_in_range a zero y low high = absurd (omega arith)
find_in_range a (suc n) y low high = go (eqb a y) refl (λ l h. find_in_range (a + 1) n y l h)
  where
    go : (b : Bool) → eqb a y ≡ b → (a + 1 ≤ y → y < a + 1 + n → find (λ z. eqb z y) (range_with_len (a + 1) n) ≡ Some y) → cond (eqb a y) (Some a) (find (λ z. eqb z y) (range_with_len (a + 1) n)) ≡ Some y
    go true e rec = rw e (ap Some (eqb-true a y e))
    go false e rec = rw e (rec (omega (arith, low, eqb-false a y e)) (omega arith))

pub below_count : (y : ℕ) → y < 16384 → y < 0 + code_count
unfolding code_count
below_count y low = omega arith

pub code_found : (y : ℕ) → y < 16384 → find (λ z. eqb z y) all_codes ≡ Some y
code_found y low = find_in_range 0 code_count y (omega arith) (below_count y low)

-- two points are joined from either side
pub find_agree : {X : Type 0} (p q : X → Bool) → ((x : X) → p x ≡ q x) → (xs : List X) → find p xs ≡ find q xs
find_agree p q same [] = refl
find_agree p q same (x ∷ xs) = let here = same x in let rest = find_agree p q same xs in rw (here, rest) refl

pub connected_back : (sets : List LinkSet) (y z : ℕ) → connected sets y z ≡ connected sets z y
connected_back sets y z = ap (λ (o : Option LinkSet). option_map_or set_available o false) (find_agree (joins y z) (joins z y) (λ s. or_swap (eqb s.a y && eqb s.b z) (eqb s.a z && eqb s.b y)) sets)
  where
    or_swap : (a b : Bool) → (a || b) ≡ (b || a)
    or_swap true true = refl
    or_swap true false = refl
    or_swap false true = refl
    or_swap false false = refl

module _ (src : Source) where
  -- what a list of messages says to a neighbour is the message in force
  pub heard_in_messages : (row : Row) (c : Choice) (y : ℕ) → src.is_stp row.point ≡ true → y ≢ src.dest → y < 16384 → connected src.sets row.point y ≡ true → heard_in (messages_of src row c) y ≡ heard c y
  heard_in_messages row c y stp apart coded joined =
      let to : ℕ → Message = λ z. record { kind = message c z; to = z } in
      let apart_of : ℕ → Bool = λ z. not (eqb z src.dest) in
      let found : find (λ z. eqb z y) (filter apart_of (neighbours src.sets row.point)) ≡ Some y
      = find-filter (λ z. eqb z y) apart_of (neighbours src.sets row.point) (λ z e. (let f : eqb z src.dest ≡ false = ne_eqb z src.dest (λ d. apart (sym (eqb-true z y e) ∙ d)) in rw f refl))
      ∙ find-filter (λ z. eqb z y) (connected src.sets row.point) all_codes (λ z e. ap (connected src.sets row.point) (eqb-true z y e) ∙ joined)
      ∙ code_found y coded in
      let message_found : find (λ m. eqb m.to y) (map to (filter apart_of (neighbours src.sets row.point))) ≡ Some (to y)
      = find-map (λ m. eqb m.to y) (λ z. eqb z y) to (λ z. refl) (filter apart_of (neighbours src.sets row.point)) ∙ ap (option_map to) found in
      rw stp (ap (λ (o : Option Message). option_map_or (λ m. reading m.kind) o Prohibited) message_found)

  -- the choices that a table holds
  abbrev pub entries_of : Table → ℕ → Choice
  entries_of table y = option_map_or (λ state. state.choice) (find (λ state. eqb state.point y) table.rows) no_choice

  module _ (valid : IsValidSource src) (table : Table) (c : Row → Choice) (made : table.rows ≡ map (λ row. state_of src row (c row)) src.rows) where
    pub state_found : (y : ℕ) (row : Row) → source_row src y ≡ Some row → find (λ state. eqb state.point y) table.rows ≡ Some (state_of src row (c row))
    state_found y row e =
        ap (find (λ (state : RowState). eqb state.point y)) made
        ∙ find-map (λ (state : RowState). eqb state.point y) (λ (r : Row). eqb r.point y) (λ r. state_of src r (c r)) (λ r. refl) src.rows
        ∙ ap (option_map (λ r. state_of src r (c r))) e

    pub entry_is : (y : ℕ) (row : Row) → source_row src y ≡ Some row → entries_of table y ≡ c row
    entry_is y row e = ap (λ (o : Option RowState). option_map_or (λ state. state.choice) o no_choice) (state_found y row e)

    -- what is heard of a neighbour from the table is what its choice says
    pub heard_from_is : (row below : Row) (z : ℕ) → IsValidRow src row → source_row src z ≡ Some below → src.is_stp z ≡ true → connected src.sets row.point z ≡ true → heard_from table row.point z ≡ heard (entries_of table z) row.point
    heard_from_is row below z ok planned stp joined =
        let at : below.point ≡ z = (row_valid src valid z below planned).0 in
        let back : connected src.sets below.point row.point ≡ true = ap (λ w. connected src.sets w row.point) at ∙ sym (connected_back src.sets row.point z) ∙ joined in
        ap (λ (o : Option RowState). option_map_or (λ state. heard_in state.messages row.point) o Prohibited) (state_found z below planned)
        ∙ heard_in_messages below (c below) row.point (ap src.is_stp at ∙ stp) ok.apart ok.coded back
        ∙ ap (λ (k : Choice). heard k row.point) (sym (entry_is z below planned))

    -- a row's choice by what it hears from the table is the local one
    pub choice_heard_is : (row : Row) → source_row src row.point ≡ Some row → IsValidRow src row → choice_heard src table row ≡ local_choice src (entries_of table) row
    choice_heard_is row planned ok = rw vias (ap (choose src.tfr (offers src (far_heard src (entries_of table) row.point) row)) (go (mate_row src row) refl))
      where
        told : ℕ → Far
        told z = cond (eqb z src.dest) Allowed (heard_from table row.point z)

        one : (z : ℕ) → IsVia src row z → offer src told row.point z ≡ offer src (far_heard src (entries_of table) row.point) row.point z
        one z via = split (connected src.sets row.point z) refl (eqb z src.dest) refl
          where
            lower : connected src.sets row.point z ≡ true → eqb z src.dest ≡ false → IsLower src row z → heard_from table row.point z ≡ heard (entries_of table z) row.point
            lower joined t low = heard_from_is row low.below z ok low.planned low.transfers joined

            split : (b : Bool) → connected src.sets row.point z ≡ b → (t : Bool) → eqb z src.dest ≡ t → offer src told row.point z ≡ offer src (far_heard src (entries_of table) row.point) row.point z
            split false j t e = rw j refl
            split true j true e = rw (j, e) refl
            split true j false e =
                let same : heard_from table row.point z ≡ heard (entries_of table z) row.point
                = elim via.leads [ inl d ↦ absurd (eqb-false z src.dest e d) | inr low ↦ lower j e low ] in
                rw (j, e) (ap (λ (f : Far). record { via = z; far = f }) same)

        vias : offers src told row ≡ offers src (far_heard src (entries_of table) row.point) row
        vias = map_same (map (offer src told row.point)) (map (offer src (far_heard src (entries_of table) row.point) row.point)) row.classes
            (All-weaker (All (IsVia src row)) (λ vias. map (offer src told row.point) vias ≡ map (offer src (far_heard src (entries_of table) row.point) row.point) vias)
            (λ vias each. map_same (offer src told row.point) (offer src (far_heard src (entries_of table) row.point) row.point) vias
            (All-weaker (IsVia src row) (λ z. offer src told row.point z ≡ offer src (far_heard src (entries_of table) row.point) row.point z) one vias each))
            row.classes ok.vias)

        over : (mate : Row) → source_row src mate.point ≡ Some mate → src.is_stp mate.point ≡ true → over_mate src row mate (heard_from table row.point mate.point) ≡ over_mate src row mate (heard (entries_of table mate.point) row.point)
        over mate planned stp = split (connected src.sets row.point mate.point) refl
          where
            split : (b : Bool) → connected src.sets row.point mate.point ≡ b → over_mate src row mate (heard_from table row.point mate.point) ≡ over_mate src row mate (heard (entries_of table mate.point) row.point)
            split false j = rw j refl
            split true j = ap (over_mate src row mate) (heard_from_is row mate mate.point ok planned stp j)

        go : (o : Option Row) → mate_row src row ≡ o
            → option_and_then (λ mate. over_mate src row mate (heard_from table row.point mate.point)) (mate_row src row)
            ≡ option_and_then (λ mate. over_mate src row mate (heard (entries_of table mate.point) row.point)) (mate_row src row)
        go None e = rw e refl
        go (Some mate) e =
            let h = mate_row_has src valid row mate ok e in
            let is : mate_row src row ≡ Some h.0.mate = e ∙ ap Some (sym h.1) in
            rw is (over h.0.mate h.0.planned (valid.mates_transfer row.point h.0.mate.point h.0.paired))

  -- rows that agree make the same list, if each row of the plan is found at its point
  pub rows_same : IsValidSource src → (f g : Row → RowState) → ((row : Row) → source_row src row.point ≡ Some row → f row ≡ g row) → map f src.rows ≡ map g src.rows
  rows_same valid f g same = map_same f g src.rows (λ k d low. same _ (row_at_place src valid k (get_or src.rows k d) (slice_get-get_or src.rows k d low)))

  -- THE CERTIFICATE of a whole table
  pub settled_table : IsValidSource src → (table : Table) → IsSettledTable src table → table ≡ scratch src
  settled_table valid table settled =
      let made : table.rows ≡ map (λ row. state_of src row (choice_heard src table row)) src.rows = ap (λ (t : Table). t.rows) settled in
      let right : IsScratch src (entries_of table) = settled_scratch src valid (entries_of table) (λ y row e.
      let there = planned_there src valid y row e in
      entry_is valid table (choice_heard src table) made y row e
      ∙ choice_heard_is valid table (choice_heard src table) made row there (row_valid src valid y row e).1) in
      settled
      ∙ ap (λ (rows : List RowState). record { dest = src.dest; rows = rows })
      (rows_same valid (λ row. state_of src row (choice_heard src table row)) (λ row. state_of src row (choice src row))
      (λ row there. ap (state_of src row) (sym (entry_is valid table (choice_heard src table) made row.point row there) ∙ right row.point row there)))

  pub scratch_table : IsValidSource src → IsSettledTable src (scratch src)
  scratch_table valid =
      let right : IsScratch src (entries_of (scratch src)) = λ y row e. entry_is valid (scratch src) (choice src) refl y row e in
      ap (λ (rows : List RowState). record { dest = src.dest; rows = rows })
      (rows_same valid (λ row. state_of src row (choice src row)) (λ row. state_of src row (choice_heard src (scratch src) row))
      (λ row there.
      let ok = (row_valid src valid row.point row there).1 in
      ap (state_of src row)
      (sym (right row.point row there) ∙ scratch_settled src valid (entries_of (scratch src)) right row.point row there
      ∙ sym (choice_heard_is valid (scratch src) (choice src) refl row there ok))))
