-- What is accepted stays so, whatever of it is published.
use Rattle.std.proofs.Common.{◌≡◌, ℕ, ◌-◌, ◌≤◌, Option, Some, None, refl, sym, ap, ◌∙◌, subst, length, take, drop, arith, length-drop}
use Rattle.std.proofs.lemmas.List.{take-append-drop}
use Rattle.net_data.specs.Edits.{replay}
use Rattle.desk_core.specs.Desk.{DeskValue, OpenTarget, accepted}
use Rattle.desk_core.specs.Runs.{IsSteadyDesk, IsTargetAhead}
use Rattle.desk_core.proofs.ReplayLemmas.{replay-append}
use Rattle.desk_console.specs.Syncing.{HasKept, without_target}
use Rattle.desk_core.specs.Steps.{published_to}

-- nothing is lost of a desk that stays
pub kept_itself : (s : DeskValue) → HasKept s s
kept_itself s = record { accepted = refl; net = refl; lasts = refl; spare = refl }

-- one after the other
kept_then : (a b c : DeskValue) → HasKept a b → HasKept b c → HasKept a c
kept_then a b c first second = record {
  accepted = second.accepted ∙ first.accepted;
  net = second.net ∙ first.net;
  lasts = second.lasts ∙ first.lasts;
  spare = second.spare ∙ first.spare;
}

-- where the accepted events up to a number are published
kept_published : (s : DeskValue) (number : ℕ) → s.published.number ≤ number → number ≤ accepted s → HasKept s (published_to s number)
kept_published s number after within =
    let k : ℕ = number - s.published.number in
    let len : length (drop k s.pending) ≡ length s.pending - k = length-drop k s.pending in
    record {
      accepted = omega arith;
      net = sym (replay-append s.published.network (take k s.pending) (drop k s.pending)) ∙ ap (replay s.published.network) (take-append-drop k s.pending);
      lasts = refl;
      spare = refl;
    }

-- where the open target is published
kept_without : (s : DeskValue) → IsSteadyDesk s → HasKept s (without_target s)
kept_without s steady = go s.target steady.ahead
  where
    go : (o : Option OpenTarget) → IsTargetAhead (record s { target = o }) → HasKept s (without_target (record s { target = o }))
    go None steady = record { accepted = refl; net = refl; lasts = refl; spare = refl }
    go (Some t) steady = kept_published s t.number steady.0 steady.1

-- and more is done
pub kept_over : (old mid new : DeskValue) → IsSteadyDesk old → mid ≡ without_target old → HasKept mid new → HasKept old new
kept_over old mid new steady is kept = kept_then old mid new (subst (λ (s : DeskValue). HasKept old s) (sym is) (kept_without old steady)) kept
