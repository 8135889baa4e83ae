-- What a version keeps leads a trace as the profile does.
use Rattle.std.proofs.Common.{◌≡◌, ℕ, zero, suc, List, [], ◌∷◌, Option, Some, None, Bool, true, false, cond, eqb, map, ◌*◌, refl, sym, ap, ◌∙◌, subst}
use Rattle.std.specs.Prelude.{Result, Ok, Err}
use Rattle.std.specs.Option.{option_map, option_map_or, option_and_then}
use Rattle.net_items.specs.declared.items.Plan.{Plan}
use Rattle.net_items.specs.declared.lists.Row.{Row}
use Rattle.net_items.specs.Keyed.{at_key}
use Rattle.net_items.specs.Lookups.{plan_at, row_at}
use Rattle.net_data.specs.Network.{Network}
use Rattle.route_choice.specs.declared.choices.Choice.{Choice}
use Rattle.profile.specs.declared.hops.Hop.{Hop}
use Rattle.profile.specs.declared.hops.Trace.{Trace}
use Rattle.profile.specs.declared.tables.RowState.{RowState}
use Rattle.profile.specs.Status.{Source, source_rank, source_row, choice}
use Rattle.profile.specs.Traces.{hop_of, hops_along}
use Rattle.profile.specs.Whole.{carrier, link_of, scratch, state_of}
use Rattle.profile.proofs.CertificateLemmas.{find-map}
use Rattle.excerpts.specs.Excerpt.{ExcerptValue, excerpt_at, excerpt_in, network_source}
use Rattle.excerpts.proofs.SourceLemmas.{row_point_is}
use Rattle.transfer_state.specs.Routing.{ChoiceRow, ChoiceTable, choices_of, hop_by}
use Rattle.net_versions.specs.Versions.{VersionValue, IsSettledVersion, settled_tables}
use Rattle.path_trace.specs.declared.faults.TraceFault.{TraceFault}
use Rattle.path_trace.specs.declared.faults.TraceFault.TheVariants.{NoPlan, NoRow}
use Rattle.path_trace.specs.Traces.{IsTraceAnswer, choice_kept, hop_kept, rows_kept, trace_at, trace_by, trace_kept, trace_kept_by}

-- the hops after a next one
abbrev after : (f : ℕ → Option Hop) (dest n : ℕ) → Option Hop → Option (List Hop)
after f dest n next = option_and_then (λ (hop : Hop). option_map (λ rest. hop ∷ rest) (hops_along f dest n hop.to)) next

-- hops by the same next ones are the same
along_same : (f g : ℕ → Option Hop) → ((y : ℕ) → f y ≡ g y) → (dest n y : ℕ) → hops_along f dest n y ≡ hops_along g dest n y
unfolding hops_along
along_same f g same dest zero y = refl
along_same f g same dest (suc n) y = go (along_same f g same dest n) (eqb y dest)
  where
    each : ((z : ℕ) → hops_along f dest n z ≡ hops_along g dest n z) → (o : Option Hop) → after f dest n o ≡ after g dest n o
    each rest None = refl
    each rest (Some hop) = ap (option_map (λ hops. hop ∷ hops)) (rest hop.to)

    go : ((z : ℕ) → hops_along f dest n z ≡ hops_along g dest n z) → (b : Bool) → cond b (Some []) (after f dest n (f y)) ≡ cond b (Some []) (after g dest n (g y))
    go rest true = refl
    go rest false = each rest (f y) ∙ ap (after g dest n) (same y)

-- the choice of a row
abbrev chosen : Source → Row → ChoiceRow
chosen src row = record { point = row.point; choice = choice src row }

rows_of_scratch : (src : Source) (rows : List Row) → map {B = ChoiceRow} (λ (s : RowState). record { point = s.point; choice = s.choice }) (map (λ row. state_of src row (choice src row)) rows) ≡ map (chosen src) rows
rows_of_scratch src [] = refl
rows_of_scratch src (row ∷ rows) = ap (λ (rest : List ChoiceRow). chosen src row ∷ rest) (rows_of_scratch src rows)

module _ (src : Source) where
  -- the choices of the table from scratch are those of its rows
  choice_there : (y : ℕ) → choice_kept (choices_of (scratch src)).rows y ≡ option_map (choice src) (source_row src y)
  choice_there y =
      ap (λ (rows : List ChoiceRow). choice_kept rows y) (rows_of_scratch src src.rows)
      ∙ ap (option_map (λ (r : ChoiceRow). r.choice)) (find-map (λ (r : ChoiceRow). eqb r.point y) (λ (r : Row). eqb r.point y) (chosen src) (λ r. refl) src.rows)
      ∙ twice (source_row src y)
    where
      twice : (o : Option Row) → option_map (λ (r : ChoiceRow). r.choice) (option_map (chosen src) o) ≡ option_map (choice src) o
      twice None = refl
      twice (Some row) = refl

  hop_there : (y s : ℕ) → hop_kept src (choices_of (scratch src)).rows y s ≡ hop_of src y s
  hop_there y s =
      ap (λ (o : Option Choice). option_and_then (λ row. option_and_then (λ c. hop_by src row c s) o) (source_row src y)) (choice_there y)
      ∙ go (source_row src y) refl
    where
      body : ℕ → Row → Option Hop
      body from row = option_and_then (λ z. option_map (λ link. record { from = from; link = link; to = z }) (link_of src row (choice src row) s)) (carrier row (choice src row) s)

      go : (o : Option Row) → source_row src y ≡ o → option_and_then (λ row. option_and_then (λ c. hop_by src row c s) (option_map (choice src) o)) o ≡ option_and_then (λ row. body y row) o
      go None e = refl
      go (Some row) e = ap (λ from. body from row) (row_point_is src.rows y row e)

-- what is kept of a destination is the table of its plan
rows_there : (net : Network) (x : ℕ) (plan : Plan) → plan_at net.plans x ≡ Some plan
    → option_map_or (λ (t : ChoiceTable). t.rows) (at_key (λ (t : ChoiceTable). t.dest) x (settled_tables net)) [] ≡ (choices_of (scratch (network_source net plan))).rows
rows_there net x plan at =
    ap (λ (o : Option ChoiceTable). option_map_or (λ (t : ChoiceTable). t.rows) o [])
    (find-map (λ (t : ChoiceTable). eqb t.dest x) (λ (p : Plan). eqb p.dest x) (λ (p : Plan). choices_of (scratch (network_source net p))) (λ p. refl) net.plans ∙ ap (option_map (λ (p : Plan). choices_of (scratch (network_source net p)))) at)

-- the trace by what is kept is the profile's
pub kept_is : (v : VersionValue) → IsSettledVersion v → (y x s : ℕ) → trace_kept v y x s ≡ trace_at v.network y x s
kept_is v settled y x s = go (plan_at v.network.plans x) refl
  where
    net : Network
    net = v.network

    go : (o : Option Plan) → plan_at net.plans x ≡ o
        → option_map_or (λ plan. trace_kept_by (record { network = net; plan = plan }) (rows_kept v x) y s) o (Err NoPlan) ≡ option_map_or (λ plan. option_map_or (λ row. Ok (hops_along (λ z. hop_of (network_source net plan) z s) plan.dest (2 * source_rank (network_source net plan) y) y)) (row_at plan.rows y) (Err NoRow)) o (Err NoPlan)
    go None at = refl
    go (Some plan) at =
        let src : Source = network_source net plan in
        let rows : rows_kept v x ≡ (choices_of (scratch src)).rows = ap (λ (ts : List ChoiceTable). option_map_or (λ (t : ChoiceTable). t.rows) (at_key (λ (t : ChoiceTable). t.dest) x ts) []) settled ∙ rows_there net x plan at in
        ap (λ (kept : List ChoiceRow). trace_kept_by (record { network = net; plan = plan }) kept y s) rows
        ∙ ap (λ (hops : Option (List Hop)). option_map_or (λ row. Ok hops) (row_at plan.rows y) (Err NoRow))
        (along_same (λ z. hop_kept src (choices_of (scratch src)).rows z s) (λ z. hop_of src z s) (λ z. hop_there src z s) src.dest (2 * source_rank src y) y)

-- the trace by the excerpt of a destination is the one that there is
trace_there : (net : Network) (y x s : ℕ) (e : ExcerptValue) → Some e ≡ excerpt_at net x → trace_by e y s ≡ trace_at net y x s
trace_there net y x s e = go (plan_at net.plans x)
  where
    go : (o : Option Plan) → Some e ≡ option_map (excerpt_in net) o → trace_by e y s ≡ option_map_or (λ plan. trace_by (excerpt_in net plan) y s) o (Err NoPlan)
    go None at = absurd (cc)
    go (Some plan) at = let same : e ≡ excerpt_in net plan = cc in ap (λ (f : ExcerptValue). trace_by f y s) same

-- an answer by the excerpt of a destination is one by what the version keeps
pub answered : (v : VersionValue) → IsSettledVersion v → (y x s : ℕ) (e : ExcerptValue) (result : Result Trace TraceFault) → Some e ≡ excerpt_at v.network x → IsTraceAnswer (trace_by e y s) result → IsTraceAnswer (trace_kept v y x s) result
answered v settled y x s e result at = subst (λ t. IsTraceAnswer t result) (trace_there v.network y x s e at ∙ sym (kept_is v settled y x s))

-- without an excerpt there is no trace by what the version keeps
pub unanswered : (v : VersionValue) (y x s : ℕ) → None ≡ excerpt_at v.network x → trace_kept v y x s ≡ Err NoPlan
unanswered v y x s = go (plan_at v.network.plans x)
  where
    go : (o : Option Plan) → None ≡ option_map (excerpt_in v.network) o → option_map_or (λ plan. trace_kept_by (excerpt_in v.network plan) (rows_kept v x) y s) o (Err NoPlan) ≡ Err NoPlan
    go None at = refl
    go (Some plan) at = absurd (cc)
