-- What stands at a hub after a run: versions of their numbers, as the profile gives them from scratch.
use Rattle.std.proofs.Common.{◌≡◌, ℕ, ◌+◌, List, [], ◌∷◌, ◌++◌, Option, Some, None, Result, Ok, Err, refl, sym, ap, ◌∙◌, subst, length, arith, length-append, append-nil}
use Rattle.net_data.specs.declared.events.Event.{Event}
use Rattle.net_data.specs.Network.{Network}
use Rattle.net_versions.specs.Versions.{VersionValue, settled_version}
use Rattle.work_units.specs.declared.replies.Refusal.{Refusal}
use Rattle.desk_core.specs.declared.steps.Step.{Step}
use Rattle.desk_core.specs.declared.steps.Step.TheVariants as step
use Rattle.desk_core.specs.declared.steps.Reply.{Reply}
use Rattle.desk_core.specs.declared.steps.Reply.TheVariants as reply
use Rattle.desk_core.specs.Desk.{DeskValue, new_desk}
use Rattle.desk_core.specs.Steps.{IsNext, IsReply, Publishes, publish_refusal, with_version}
use Rattle.desk_core.specs.Runs.{IsRunOf, IsSteadyDesk, Steps, accepted_by}
use Rattle.desk_core.proofs.RunLemmas.{right_after, run_none, run_one, run_then}
use Rattle.versions.specs.Chains.{ChainPrefixValue, EndsWith, IsChain}
use Rattle.versions.specs.Hubs.{IsHub, with_next}
use Rattle.versions.specs.Working.{AreWorks, IsOfWorker, IsWorkedOn, Works, shown_after}
use Rattle.versions.specs.declared.state.DeskAndChain.{DeskAndChain}
use Rattle.versions.proofs.ChainLemmas.{goes_on}
use Rattle.versions.proofs.EventLemmas.{shown_by}
use Rattle.versions.proofs.KeptLemmas.{abandoned, gave, next_follows, opened, took}
use Rattle.histories.specs.Right.{AreRight, IsRightAt}
use Rattle.histories.proofs.CountLemmas.{Counts, are_grown, published_right, pushed_right, run_counts}

-- ---- a desk and its chain

-- some steps led from a start to this desk and accepted these events, and the chain of its published versions, each the one of its number, ends with the last
pub record Keeps (start : DeskValue) (es : List Event) (s : DeskAndChain) : Type 0 where
  pub came : IsRunOf start es s.desk
  pub are : AreRight start es None s.shown.chain
  pub is_chain : IsChain s.shown.chain
  pub ends : EndsWith s.shown.chain s.desk.published

-- the chain ends as it did
pub ends_same : (s t : DeskAndChain) → EndsWith s.shown.chain s.desk.published → t.shown ≡ s.shown → t.desk.published ≡ s.desk.published → EndsWith t.shown.chain t.desk.published
ends_same s t ends shown published =
    subst (λ (x : ChainPrefixValue). EndsWith x.chain t.desk.published) (sym shown) (subst (EndsWith s.shown.chain) (sym published) ends)

module _ (start : DeskValue) (steady : IsSteadyDesk start) (es : List Event) where
  -- the desk goes on, and nothing is published
  pub keeps_stay : (more : List Event) (s t : DeskAndChain) → Keeps start es s → IsRunOf s.desk more t.desk → t.shown ≡ s.shown → EndsWith t.shown.chain t.desk.published → Keeps start (es ++ more) t
  keeps_stay more s t h run shown ends = record {
    came = run_then start s.desk t.desk es more h.came run;
    are = subst (λ (x : ChainPrefixValue). AreRight start (es ++ more) None x.chain) (sym shown) (are_grown start es more None s.shown.chain h.are);
    is_chain = subst (λ (x : ChainPrefixValue). IsChain x.chain) (sym shown) h.is_chain;
    ends = ends;
  }

  -- a step that accepts nothing
  pub still : (s t : DeskAndChain) (one : Step) (answer : Reply) → Keeps start es s → Steps s.desk one answer t.desk → accepted_by one answer ≡ [] → t.shown ≡ s.shown → EndsWith t.shown.chain t.desk.published → Keeps start es t
  still s t one answer h made none shown ends =
      let run : IsRunOf s.desk [] t.desk = subst (λ (l : List Event). IsRunOf s.desk l t.desk) none (run_one s.desk t.desk one answer made) in
      subst (λ (l : List Event). Keeps start l t) (append-nil es) (keeps_stay [] s t h run shown ends)

  -- such a desk and chain are a hub's
  keeps_hub : (s : DeskAndChain) → Keeps start es s → IsHub s.shown.book s None
  keeps_hub s h = record { own = refl; is_chain = h.is_chain; ends = h.ends; is_ahead = tt }

  -- the version of the target is published
  adds : (s t : DeskAndChain) (number : ℕ) (version : VersionValue) → Keeps start es s → Steps s.desk step.Publish (reply.Publish (Ok number)) t.desk → IsNext s.desk version → t.desk ≡ with_version s.desk version
      → t.shown ≡ with_next s.shown t.desk.published → Keeps start es t
  adds s t number version h made next is shown =
      let came : IsRunOf start es t.desk =
      subst (λ (l : List Event). IsRunOf start l t.desk) (append-nil es) (run_then start s.desk t.desk es [] h.came (run_one s.desk t.desk step.Publish (reply.Publish (Ok number)) made)) in
      let published : t.desk.published ≡ version = ap (λ (x : DeskValue). x.published) is in
      let before : Counts start es s.desk = run_counts start s.desk es steady h.came in
      let after : Counts start es t.desk = run_counts start t.desk es steady came in
      let count = after.count in
      let longer : length (start.pending ++ es) ≡ length start.pending + length es = length-append start.pending es in
      let chain : t.shown.chain ≡ s.shown.chain ++ t.desk.published ∷ [] = ap (λ (x : ChainPrefixValue). x.chain) shown in
      let split : s.shown.chain ≡ h.ends.0 ++ s.desk.published ∷ [] = h.ends.1 in
      let at : IsRightAt start es (Some s.desk.published.number) t.desk.published =
      record { right = published_right start steady es s.desk t.desk h.came number made; within = omega arith } in
      let are : AreRight start es None ((h.ends.0 ++ s.desk.published ∷ []) ++ t.desk.published ∷ []) =
      pushed_right start es None h.ends.0 s.desk.published t.desk.published (subst (AreRight start es None) split h.are) at in
      record {
        came = came;
        are = subst (AreRight start es None) (sym (chain ∙ ap (λ (c : List VersionValue). c ++ t.desk.published ∷ []) split)) are;
        is_chain = subst IsChain (sym (chain ∙ ap (λ (v : VersionValue). s.shown.chain ++ v ∷ []) published))
            (goes_on s.shown.chain h.ends.0 s.desk.published version h.is_chain split (next_follows s.desk version before.steady next));
        ends = (s.shown.chain, chain);
      }

  -- a publication
  publishes : (s t : DeskAndChain) (result : Result ℕ Refusal) → Keeps start es s → Publishes s.desk result t.desk → t.shown ≡ shown_after (reply.Publish result) t.desk.published s.shown → Keeps start es t
  publishes s t result h is = go (publish_refusal s.desk) result is is
    where
      Changes : ℕ → DeskValue → Type 0
      Changes number after = (version : VersionValue) × IsNext s.desk version × (number ≡ version.number) × (after ≡ with_version s.desk version)

      refused : (e : Refusal) → t.desk ≡ s.desk → Publishes s.desk (Err e) t.desk → t.shown ≡ s.shown → Keeps start es t
      refused e same made shown = still s t step.Publish (reply.Publish (Err e)) h (Err e, refl, made) refl shown (ends_same s t h.ends shown (ap (λ (x : DeskValue). x.published) same))

      go : (o : Option Refusal) (result : Result ℕ Refusal) → IsReply o Changes s.desk result t.desk → Publishes s.desk result t.desk → t.shown ≡ shown_after (reply.Publish result) t.desk.published s.shown → Keeps start es t
      go (Some refusal) (Ok number) is made shown = absurd (cc (is.0))
      go (Some refusal) (Err e) is made shown = refused e is.1 made shown
      go None (Ok number) is made shown = adds s t number is.0 h (Ok number, refl, made) is.1 is.3 shown
      go None (Err e) is made shown = refused e is.1 made shown

  -- a step of a worker
  keeps_step : (s t : DeskAndChain) (one : Step) (answer : Reply) → Keeps start es s → Works s one answer t → Keeps start es t
  keeps_step s t one answer h is = go one is.of_worker is.made
    where
      go : (one : Step) → IsOfWorker one → Steps s.desk one answer t.desk → Keeps start es t
      go (step.Post collector seq event) of made = absurd of
      go step.Open of made =
          let shown : t.shown ≡ s.shown = shown_by s t answer (reply.Open made.0) is.shown made.1 in
          still s t step.Open answer h made refl shown (opened s.shown.book s t None (keeps_hub s h) made.0 shown made.2).ends
      go step.Take of made =
          let shown : t.shown ≡ s.shown = shown_by s t answer (reply.Take made.0) is.shown made.1 in
          still s t step.Take answer h made refl shown (took s.shown.book s t None (keeps_hub s h) made.0 shown made.2).ends
      go (step.Give work) of made =
          let shown : t.shown ≡ s.shown = shown_by s t answer (reply.Give made.0) is.shown made.1 in
          still s t (step.Give work) answer h made refl shown (gave s.shown.book s t None (keeps_hub s h) work made.0 shown made.2).ends
      go (step.Abandon version dest) of made =
          let shown : t.shown ≡ s.shown = shown_by s t answer (reply.Abandon made.0) is.shown made.1 in
          still s t (step.Abandon version dest) answer h made refl shown (abandoned s.shown.book s t None (keeps_hub s h) version dest made.0 shown made.2).ends
      go step.Publish of made = publishes s t made.0 h made.2 (shown_by s t answer (reply.Publish made.0) is.shown made.1)

  keeps_steps : (steps : List Step) (replies : List Reply) (s t : DeskAndChain) → Keeps start es s → AreWorks s steps replies t → Keeps start es t
  keeps_steps [] [] s t h are = subst (Keeps start es) (sym are) h
  keeps_steps [] (r ∷ rs) s t h are = absurd are
  keeps_steps (x ∷ xs) [] s t h are = absurd are
  keeps_steps (x ∷ xs) (r ∷ rs) s t h are = keeps_steps xs rs are.0 t (keeps_step s are.0 x r h are.1) are.2

  pub keeps_worked : (s t : DeskAndChain) → Keeps start es s → IsWorkedOn s t → Keeps start es t
  keeps_worked s t h worked = keeps_steps worked.0 worked.1 s t h worked.2

-- ---- a start

-- a new desk is steady
pub new_is_steady : (start : Network) → IsSteadyDesk (new_desk start)
new_is_steady start = record { ahead = tt; version = refl }

-- a hub over a new desk, whose version 0 alone is published
pub keeps_opened : (start : Network) (s : DeskAndChain) → s.desk ≡ new_desk start → s.shown.chain ≡ settled_version 0 [] start ∷ [] → Keeps (new_desk start) [] s
keeps_opened start s desk shown =
    let first : DeskValue = new_desk start in
    let at : IsRightAt first [] None (settled_version 0 [] start) = record { right = right_after first (new_is_steady start) [] [] first refl; within = omega arith } in
    let are : AreRight first [] None (settled_version 0 [] start ∷ []) = (at, tt) in
    record {
      came = subst (IsRunOf first []) (sym desk) (run_none first);
      are = subst (AreRight first [] None) (sym shown) are;
      is_chain = subst IsChain (sym shown) tt;
      ends = ([], shown ∙ ap (λ (d : DeskValue). d.published ∷ []) (sym desk));
    }
