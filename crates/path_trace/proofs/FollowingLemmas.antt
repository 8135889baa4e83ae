-- The hops of a trace, one after the other.
use Rattle.std.proofs.Common.{◌≡◌, ℕ, zero, suc, ◌-◌, ◌++◌, List, [], ◌∷◌, Option, Some, None, false, eqb, refl, sym, ap, ◌∙◌, append_assoc, append-nil, arith}
use Rattle.std.specs.Option.{option_map, option_and_then}
use Rattle.profile.specs.declared.hops.Hop.{Hop}
use Rattle.profile.specs.Status.{Source}
use Rattle.profile.specs.Traces.{hops_along, hops_within, hop_of}
use Rattle.profile.proofs.HopLemmas.{hops_end}

-- those hops before others
abbrev pub after : List Hop → Option (List Hop) → Option (List Hop)
after hops rest = option_map (λ others. hops ++ others) rest

-- no hops before others are those
pub after_none : (rest : Option (List Hop)) → after [] rest ≡ rest
after_none None = refl
after_none (Some hops) = refl

-- those hops before none
pub after_all : (hops : List Hop) (all : List Hop) → all ≡ hops → Some all ≡ after hops (Some [])
after_all hops all is = ap Some (is ∙ sym (append-nil hops))

-- one hop more before others
after_more : (hops : List Hop) (hop : Hop) (rest : Option (List Hop)) → after (hops ++ hop ∷ []) rest ≡ after hops (option_map (λ others. hop ∷ others) rest)
after_more hops hop None = refl
after_more hops hop (Some others) = ap Some (append_assoc hops (hop ∷ []) others)

module _ (src : Source) where
  -- what follows a hop, before others
  abbrev next : ℕ → ℕ → Option Hop → Option (List Hop)
  next n s o = option_and_then (λ (hop : Hop). option_map (λ rest. hop ∷ rest) (hops_within src n hop.to s)) o

  -- the hops of a point that isn't the destination are its hop and those that follow
  hops_by : (n y s : ℕ) → eqb y src.dest ≡ false → hops_within src (suc n) y s ≡ next n s (hop_of src y s)
  unfolding hops_along
  hops_by n y s e = rw e refl

  -- with no hop there are none
  pub stopped : (n y s : ℕ) → eqb y src.dest ≡ false → hop_of src y s ≡ None → hops_within src n y s ≡ None
  stopped zero y s e none = hops_end src y s e
  stopped (suc n) y s e none = hops_by n y s e ∙ ap (next n s) none

  -- a hop more leaves one less to go
  pub one_more : (hops : List Hop) (left y s : ℕ) (hop : Hop) → eqb y src.dest ≡ false → (left ≡ 0 → ⊥) → hop_of src y s ≡ Some hop → after (hops ++ hop ∷ []) (hops_within src (left - 1) hop.to s) ≡ after hops (hops_within src left y s)
  one_more hops zero y s hop e some there = absurd (some refl)
  one_more hops (suc n) y s hop e some there =
      let back : suc n - 1 ≡ n = omega arith in
      ap (λ k. after (hops ++ hop ∷ []) (hops_within src k hop.to s)) back
      ∙ after_more hops hop (hops_within src n hop.to s)
      ∙ ap (after hops) (sym (hops_by n y s e ∙ ap (next n s) there))
