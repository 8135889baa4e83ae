-- The excerpt of a plan is the source that the profile takes out of the network's.
use Rattle.std.proofs.Common.{◌≡◌, ℕ, Bool, true, false, ◌&&◌, eqb, Option, Some, None, is_some, List, [], ◌∷◌, map, cond, refl, ap, sym, ◌∙◌, subst}
use Rattle.std.specs.Prelude.{filter, Ok}
use Rattle.std.specs.Option.{option_map, option_map_or, option_and_then}
use Rattle.std.proofs.lemmas.Bool.{eqb-true}
use Rattle.std.proofs.lemmas.List.Elements.{All-from_recursion}
use mathlib.Core.Path.{fun_ext}
use Rattle.net_items.specs.declared.items.Kind.TheVariants.{Sep}
use Rattle.net_items.specs.declared.items.Point.{Point}
use Rattle.net_items.specs.declared.items.Plan.{Plan}
use Rattle.net_items.specs.declared.lists.Row.{Row}
use Rattle.net_items.specs.Lookups.{point_at, is_stp, kind_is_stp, mate_of, row_at, plan_at}
use Rattle.net_data.specs.Network.{Network}
use Rattle.net_data.specs.Valid.{IsValid as IsValidNet}
use Rattle.profile.specs.Status.{Source}
use Rattle.profile.specs.Reads.{is_planned_transfer, is_flagged_at, reads}
use Rattle.profile.specs.Reads.{excerpt_of as source_excerpt}
use Rattle.profile.specs.Valid.{HasFewLinks, HasLinksInOrder}
use Rattle.profile.specs.Whole.{scratch}
use Rattle.profile.proofs.CertificateLemmas.{find-map}
use Rattle.profile.proofs.ExcerptLemmas.{excerpt_scratch}
use Rattle.excerpts.specs.Excerpt.{point_kind, row_point, network_source, source_of, ExcerptValue, content_in, content_of, content_source, excerpt_at, excerpt_in, IsExcerptAnswer, IsRight}
use Rattle.excerpts.proofs.SourceLemmas.{source_valid, sets_few, sets_ordered, row_point_is, plan_right}

-- the destination of the plan that is found
plan_dest : (plans : List Plan) (dest : ℕ) (plan : Plan) → plan_at plans dest ≡ Some plan → plan.dest ≡ dest
plan_dest [] dest plan at = cc
plan_dest (p ∷ ps) dest plan at = go (eqb p.dest dest) refl (plan_dest ps dest plan)
  where
    go : (b : Bool) → eqb p.dest dest ≡ b → (plan_at ps dest ≡ Some plan → plan.dest ≡ dest) → plan.dest ≡ dest
    go true t rec = let here : Some p ≡ Some plan = rw t at at in let same : p ≡ plan = cc in ap (λ (q : Plan). q.dest) (sym same) ∙ eqb-true p.dest dest t
    go false t rec = rec (rw t at at)

module _ (net : Network) (plan : Plan) where
  abbrev src : Source
  src = network_source net plan

  -- the point of a row among the points of rows
  point_is : (y : ℕ) → point_at (map (row_point net.points) plan.rows) y ≡ option_map (row_point net.points) (row_at plan.rows y)
  point_is y = find-map (λ (p : Point). eqb p.code y) (λ (r : Row). eqb r.point y) (row_point net.points) (λ r. refl) plan.rows

  kind_stp : (o : Option Point) → kind_is_stp (option_map_or (λ (p : Point). p.kind) o Sep) ≡ option_map_or (λ (p : Point). kind_is_stp p.kind) o false
  kind_stp None = refl
  kind_stp (Some p) = refl

  and_true : (b : Bool) → b ≡ (b && true)
  and_true true = refl
  and_true false = refl

  and_false : (b : Bool) → false ≡ (b && false)
  and_false true = refl
  and_false false = refl

  -- the transfer points among the points of rows are those with a row
  stp_at : (y : ℕ) (o : Option Row) → row_at plan.rows y ≡ o → option_map_or (λ (p : Point). kind_is_stp p.kind) (option_map (row_point net.points) o) false ≡ (is_stp net.points y && is_some o)
  stp_at y None at = and_false (is_stp net.points y)
  stp_at y (Some r) at =
      subst (λ n. kind_is_stp (point_kind net.points r.point) ≡ is_stp net.points n) (row_point_is plan.rows y r at) (kind_stp (point_at net.points r.point)) ∙ and_true (is_stp net.points y)

  stp_is : (y : ℕ) → is_stp (map (row_point net.points) plan.rows) y ≡ is_planned_transfer src y
  stp_is y = ap (λ (o : Option Point). option_map_or (λ (p : Point). kind_is_stp p.kind) o false) (point_is y) ∙ stp_at y (row_at plan.rows y) refl

  -- the mates among the points of rows are those of flagged rows
  mate_at : (y : ℕ) (o : Option Row) → row_at plan.rows y ≡ o → option_and_then (λ (p : Point). p.mate) (option_map (row_point net.points) o) ≡ cond (option_map_or (λ (r : Row). r.mate) o false) (mate_of net.points y) None
  mate_at y None at = refl
  mate_at y (Some r) at = subst (λ n. cond r.mate (mate_of net.points r.point) None ≡ cond r.mate (mate_of net.points n) None) (row_point_is plan.rows y r at) refl

  mate_is : (y : ℕ) → mate_of (map (row_point net.points) plan.rows) y ≡ cond (is_flagged_at src y) (src.mate_of y) None
  mate_is y = ap (λ (o : Option Point). option_and_then (λ (p : Point). p.mate) o) (point_is y) ∙ mate_at y (row_at plan.rows y) refl

  -- what is read, as a source, is the excerpt of the source
  pub source_is : content_source (content_in net plan) ≡ source_excerpt src
  source_is =
      let stps : is_stp (map (row_point net.points) plan.rows) ≡ is_planned_transfer src = fun_ext stp_is in
      let mates : mate_of (map (row_point net.points) plan.rows) ≡ (λ y. cond (is_flagged_at src y) (src.mate_of y) None) = fun_ext mate_is in
      let build : (ℕ → Bool) → (ℕ → Option ℕ) → Source = λ stp mate. record { dest = plan.dest; rows = plan.rows; sets = filter (reads src) net.sets; is_stp = stp; mate_of = mate; tfr = net.tfr } in
      ap (λ stp. build stp (mate_of (map (row_point net.points) plan.rows))) stps ∙ ap (build (is_planned_transfer src)) mates

-- a network and its plan of a destination are right
pub extract_right : (net : Network) → IsValidNet net → (dest : ℕ) (plan : Plan) → plan_at net.plans dest ≡ Some plan → IsRight (record { network = net; plan = plan })
extract_right net v dest plan at =
    let right = plan_right net v dest plan at in
    record {
      network = v;
      planned = subst (λ n. plan_at net.plans n ≡ Some plan) (sym (plan_dest net.plans dest plan at)) at;
      valid = source_valid net v plan right;
      few = All-from_recursion HasFewLinks net.sets (sets_few net v);
      ordered = All-from_recursion HasLinksInOrder net.sets (sets_ordered net v);
      points_rise = v.points_rise;
      rows_rise = right.rows_rise;
    }

-- the excerpt of a destination that is handed out is the one that is there
pub answer_is : (x e : ExcerptValue) → IsRight x → IsExcerptAnswer (excerpt_at x.network x.plan.dest) (Ok e) → e ≡ x
answer_is x e right answer = go (excerpt_at x.network x.plan.dest) (ap (option_map (excerpt_in x.network)) right.planned) answer
  where
    go : (o : Option ExcerptValue) → o ≡ Some x → IsExcerptAnswer o (Ok e) → e ≡ x
    go None there answer = absurd (cc)
    go (Some y) there answer = let same : y ≡ x = cc in answer ∙ same

-- the table of what is read alone is that of the network
pub table_alone : (x : ExcerptValue) → IsRight x → scratch (content_source (content_of x)) ≡ scratch (source_of x)
table_alone x right = ap scratch (source_is x.network x.plan) ∙ excerpt_scratch (source_of x) right.valid

-- those that read the same have the same table
pub table_equal : (x y : ExcerptValue) → IsRight x → IsRight y → content_of x ≡ content_of y → scratch (source_of x) ≡ scratch (source_of y)
table_equal x y one other same = sym (table_alone x one) ∙ (ap (λ c. scratch (content_source c)) same ∙ table_alone y other)
