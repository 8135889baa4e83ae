-- Ranks that are given to plans one after the other.
use Rattle.std.proofs.Common.{◌≡◌, ℕ, ◌+◌, ◌-◌, ◌<◌, List, [], ◌∷◌, ◌++◌, length, map, get_or, take, drop, ap, sym, ◌∙◌, append-nil, append_assoc}
use Rattle.std.proofs.lemmas.List.{take_more, take-append-drop, map-append}
use Rattle.std.proofs.lemmas.Grind.{flat_map-append}
use Rattle.net_items.specs.declared.items.Plan.{Plan}
use Rattle.plan_ranks.specs.declared.given.RowRank.{RowRank}
use Rattle.net_sheets.specs.About.{plan_ranks, ranks_of}
use Rattle.net_sheets.specs.Events.{unranked}
use Rattle.net_sheets.proofs.PlanLemmas.{rest_from}

-- the ranks of one more plan
pub ranks_more : (done more : List Plan) (p : Plan) (rest later ranks : List RowRank) (n : ℕ) → ranks_of done ++ rest ≡ ranks → more ≡ done ++ p ∷ [] → plan_ranks p ≡ take n rest → later ≡ take (length rest - n) (drop n rest)
    → ranks_of more ++ later ≡ ranks
ranks_more done more p rest later ranks n before e one after =
    ap (λ ps. ranks_of ps ++ later) e
    ∙ ap (λ rs. rs ++ later) (flat_map-append plan_ranks done (p ∷ []) ∙ ap (λ rs. ranks_of done ++ rs) (append-nil (plan_ranks p)))
    ∙ append_assoc (ranks_of done) (plan_ranks p) later
    ∙ ap (λ rs. ranks_of done ++ rs) (ap (λ rs. rs ++ later) one ∙ ap (λ rs. take n rest ++ rs) (after ∙ rest_from n rest) ∙ take-append-drop n rest)
    ∙ before

-- one more plan is the old one but for its ranks
pub same_more : (done more plans : List Plan) (p : Plan) (i : ℕ) (d : Plan) → i < length plans → map unranked done ≡ map unranked (take i plans) → more ≡ done ++ p ∷ [] → unranked p ≡ unranked (get_or plans i d)
    → map unranked more ≡ map unranked (take (i + 1) plans)
same_more done more plans p i d here before e one =
    ap (map unranked) e ∙ map-append unranked done (p ∷ []) ∙ ap (λ ps. ps ++ unranked p ∷ []) before ∙ ap (λ q. map unranked (take i plans) ++ q ∷ []) one
    ∙ sym (ap (map unranked) (take_more plans i d here) ∙ map-append unranked (take i plans) (get_or plans i d ∷ []))
