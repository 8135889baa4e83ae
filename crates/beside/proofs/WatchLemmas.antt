-- What is told of what moved, by the numbers and networks of versions.
use Rattle.std.proofs.Common.{◌≡◌, ℕ, ◌-◌, ◌==◌, ◌&&◌, not, ◌∷◌, Option, Some, None, refl, sym, ap, ◌∙◌, take}
use Rattle.std.specs.Prelude.{if◌then◌else◌}
use Rattle.net_data.specs.Network.{Network}
use Rattle.net_versions.specs.Versions.{VersionValue}
use Rattle.script_words.specs.declared.moves.Moves.{Moves}
use Rattle.script_words.specs.declared.moves.Moves.TheVariants as moves
use Rattle.answers.specs.Changes.{Earlier, changes_answer, moved_since}
use Rattle.answers.specs.declared.answer.Answer.{Answer}
use Rattle.answers.specs.declared.answer.Answer.TheVariants as answer
use Rattle.answers.specs.declared.answer.Moved.{Moved}
use Rattle.answers.specs.declared.answer.Reason.TheVariants as reason
use Rattle.desk_console.specs.Console.{ConsoleValue}
use Rattle.desk_console.specs.Watch.{WatchValue, changes_told, kept_at, newest, notice, told_since, watched}
use Rattle.desk_console.specs.Syncing.{synced}
use Rattle.beside.specs.Beside.{BesideValue, KeepsSynced}

-- the last `sync` told what is published in line, and the same is kept for `changes`
abbrev pub IsShown : BesideValue → ConsoleValue → Type 0
IsShown b c = (b.synced.number ≡ c.desk.published.number) × (b.synced.network ≡ c.desk.published.network) × (b.watch ≡ c.watch)

-- what is told by the numbers and networks of versions
abbrev pub watch_by : WatchValue → ℕ → Network → ℕ → WatchValue
watch_by w m old n = if not (n == m) then record w { kept = Some (record { number = m; network = old }) ∷ take 7 w.kept } else w

abbrev pub notice_by : WatchValue → ℕ → Network → ℕ → Network → Option Moved
notice_by w m old n new = if w.is_on && not (n == m) then Some (moved_since moves.All (newest (watch_by w m old n)) new) else None

abbrev pub since_by : Moves → Option Earlier → ℕ → Network → Answer
since_by which None number net = answer.Refused reason.NotKept
since_by which (Some old) number net = changes_answer which (Some old) number net

abbrev pub told_by : WatchValue → Moves → Option ℕ → ℕ → Network → Answer
told_by w which None number net = changes_answer which (newest w) number net
told_by w which (Some n) number net = since_by which (kept_at w n) number net

module _ (w x : WatchValue) (old other new next : VersionValue) where
  pub watch_same : w ≡ x → old.number ≡ other.number → old.network ≡ other.network → new.number ≡ next.number → watched w old new ≡ watched x other next
  watch_same same number network later =
      ap (λ (q : WatchValue). watch_by q old.number old.network new.number) same ∙ ap (λ (k : ℕ). watch_by x k old.network new.number) number
      ∙ ap (λ (net : Network). watch_by x other.number net new.number) network ∙ ap (watch_by x other.number other.network) later

  pub notice_same : w ≡ x → old.number ≡ other.number → old.network ≡ other.network → new.number ≡ next.number → new.network ≡ next.network → notice w old new ≡ notice x other next
  notice_same same number network later left =
      ap (λ (q : WatchValue). notice_by q old.number old.network new.number new.network) same ∙ ap (λ (k : ℕ). notice_by x k old.network new.number new.network) number
      ∙ ap (λ (net : Network). notice_by x other.number net new.number new.network) network ∙ ap (λ (k : ℕ). notice_by x other.number other.network k new.network) later
      ∙ ap (notice_by x other.number other.network next.number) left

pub since_is : (which : Moves) (e : Option Earlier) (version : VersionValue) → told_since which e version ≡ since_by which e version.number version.network
since_is which None version = refl
since_is which (Some old) version = refl

pub told_is : (w : WatchValue) (which : Moves) (since : Option ℕ) (version : VersionValue) → changes_told w which since version ≡ told_by w which since version.number version.network
told_is w which None version = refl
told_is w which (Some n) version = since_is which (kept_at w n) version

pub told_alike : (w x : WatchValue) (which : Moves) (since : Option ℕ) (old other : VersionValue) → w ≡ x → old.number ≡ other.number → old.network ≡ other.network
    → changes_told w which since old ≡ changes_told x which since other
told_alike w x which since old other same number network =
    told_is w which since old ∙ ap (λ (q : WatchValue). told_by q which since old.number old.network) same ∙ ap (λ (k : ℕ). told_by x which since k old.network) number
    ∙ ap (told_by x which since other.number) network ∙ sym (told_is x which since other)

pub shown_still : (b new : BesideValue) (c end : ConsoleValue) → IsShown b c → KeepsSynced b new → end.desk.published ≡ c.desk.published → end.watch ≡ c.watch → IsShown new end
shown_still b new c end shown kept published watch = (
  ap (λ (v : VersionValue). v.number) kept.0 ∙ shown.0 ∙ ap (λ (v : VersionValue). v.number) (sym published),
  ap (λ (v : VersionValue). v.network) kept.0 ∙ shown.1 ∙ ap (λ (v : VersionValue). v.network) (sym published),
  kept.1 ∙ shown.2 ∙ sym watch,
)
