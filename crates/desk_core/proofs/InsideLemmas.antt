-- What a desk keeps is kept by a post, an opening, a change of tasks and a publication.
use Rattle.std.proofs.Common.{◌≡◌, ℕ, ◌+◌, ◌-◌, ◌^◌, ◌<◌, ◌≤◌, Bool, true, false, ◌||◌, List, [], ◌∷◌, ◌++◌, Option, Some, None, refl, sym, ap, ◌∙◌, subst, length, take, drop, arith, length-append, length-drop}
use Rattle.std.proofs.Math.ListN.{length-set}
use Rattle.std.proofs.Math.Seq.{take-length}
use Rattle.std.proofs.lemmas.List.{take-append-drop, take-append-le, drop-append-le}
use Rattle.std.specs.Option.{MatchOption, option_map}
use Rattle.net_data.specs.declared.events.Event.{Event}
use Rattle.net_data.specs.Network.{Network}
use Rattle.net_data.specs.Valid.{IsValid}
use Rattle.net_data.specs.Edits.{changed, refusal_of, replay}
use Rattle.excerpts.specs.Excerpt.{content_at}
use Rattle.dirty_sets.specs.Touch.{IsTouchIndex, touches}
use Rattle.dirty_sets.specs.Marks.{Marked, IsClear, IsNoted}
use Rattle.dirty_sets.specs.Waiting.{Task}
use Rattle.dirty_sets.proofs.UntouchedLemmas.{law}
use Rattle.net_versions.specs.Versions.{VersionValue}
use Rattle.desk_core.specs.Desk.{DeskValue, OpenTarget, accepted, touched_by, next_version}
use Rattle.desk_core.specs.Steps.{with_post, with_target, with_tasks, with_version}
use Rattle.desk_core.specs.Targets.{TargetValue}
use Rattle.desk_core.specs.Inside.{IsInside, IsOpenAhead, IsSameMarked, count, fixed, since}
use Rattle.desk_core.proofs.ReplayLemmas.{replay-append, replay-push, touched_by-push}

or_false : (a b : Bool) → (a || b) ≡ false → (a ≡ false) × (b ≡ false)
or_false true b e = absurd (cc)
or_false false b e = (refl, e)

module _ (s : DeskValue) (latest : Network) (marked : Marked) (opened : Option TargetValue) (i : IsInside s latest marked opened) where
  -- the fixed network has no more than the accepted events
  few_fixed : (o : Option TargetValue) → IsOpenAhead s o → count s o ≤ length s.pending
  few_fixed None ahead = omega arith
  few_fixed (Some t) ahead = let within = ahead.within in let after = ahead.after in omega arith

  fixed_is : (o : Option TargetValue) → IsOpenAhead s o → fixed s o ≡ replay s.published.network (take (count s o) s.pending)
  fixed_is None ahead = refl
  fixed_is (Some t) ahead = ahead.network

  -- the network now is the fixed one after the events since
  pub latest_since : replay (fixed s opened) (since s opened) ≡ latest
  latest_since =
      ap (λ n. replay n (since s opened)) (fixed_is opened i.ahead)
      ∙ sym (replay-append s.published.network (take (count s opened) s.pending) (drop (count s opened) s.pending))
      ∙ ap (replay s.published.network) (take-append-drop (count s opened) s.pending)
      ∙ sym i.is_now

  -- ---- a post

  module _ (collector seq : ℕ) (event : Event) where
    abbrev after : DeskValue
    after = with_post s collector seq event

    ahead_after : (o : Option TargetValue) → IsOpenAhead s o → IsOpenAhead after o
    ahead_after None ahead = tt
    ahead_after (Some t) ahead =
        let within = ahead.within in let low = ahead.after in
        record {
          after = ahead.after;
          within = let more : length (s.pending ++ event ∷ []) ≡ length s.pending + 1 = length-append s.pending (event ∷ []) in omega arith;
          network = ahead.network ∙ ap (replay s.published.network) (sym (take-append-le (t.number - s.published.number) s.pending (event ∷ []) (omega arith)));
        }

    since_after : (o : Option TargetValue) → IsOpenAhead s o → since after o ≡ since s o ++ event ∷ []
    since_after None ahead = refl
    since_after (Some t) ahead = drop-append-le (t.number - s.published.number) s.pending (event ∷ []) (few_fixed (Some t) ahead)

    fixed_after : (o : Option TargetValue) → fixed after o ≡ fixed s o
    fixed_after None = refl
    fixed_after (Some t) = refl

    pub inside_post : (marked' : Marked) (latest' : Network) → IsValid latest → refusal_of latest event ≡ None → length s.pending < 65536 → accepted s + 1 < 2 ^ 64
        → latest' ≡ changed latest event → IsNoted latest event marked marked' → IsInside after latest' marked' opened
    inside_post marked' latest' valid edit few counted now noted =
        let more : length (s.pending ++ event ∷ []) ≡ length s.pending + 1 = length-append s.pending (event ∷ []) in
        record {
          is_now = now ∙ ap (λ n. changed n event) i.is_now ∙ sym (replay-push s.published.network s.pending event);
          few = omega arith;
          counted = omega arith;
          collectors = length-set s.lasts collector _ ∙ i.collectors;
          ahead = ahead_after opened i.ahead;
          index = subst (λ n. IsTouchIndex n marked'.index) (sym now) noted.index;
          since = λ x low.
              noted.touched x low
              ∙ ap (λ b. b || touches latest event x) (i.since x low)
              ∙ ap (λ n. touched_by (fixed s opened) (since s opened) x || touches n event x) (sym latest_since)
              ∙ sym (touched_by-push (fixed s opened) (since s opened) event x)
              ∙ ap (λ es. touched_by (fixed s opened) es x) (sym (since_after opened i.ahead))
              ∙ ap (λ n. touched_by n (since after opened) x) (sym (fixed_after opened));
          kept = λ x low clear.
              let parts = or_false (marked.touched x) (touches latest event x) (sym (noted.touched x low) ∙ clear) in
              ap (λ n. content_at n x) now ∙ law latest event x valid edit parts.1 ∙ i.kept x low parts.0 ∙ ap (λ n. content_at n x) (sym (fixed_after opened));
        }

  -- ---- a refused post may have made room

  pub inside_same : (marked' : Marked) → IsSameMarked marked marked' → IsInside s latest marked' opened
  inside_same marked' same = record {
    is_now = i.is_now;
    few = i.few;
    counted = i.counted;
    collectors = i.collectors;
    ahead = i.ahead;
    index = record { planned = same.planned ∙ i.index.planned; reads = λ x id low. ap (λ f. f x id) same.reads ∙ i.index.reads x id low };
    since = λ x low. ap (λ f. f x) same.touched ∙ i.since x low;
    kept = λ x low clear. i.kept x low (ap (λ f. f x) (sym same.touched) ∙ clear);
  }

-- ---- an opening

pub inside_open : (s : DeskValue) (latest : Network) (marked marked' : Marked) (tasks : List Task) → IsInside s latest marked None → marked'.index ≡ marked.index → IsClear marked'
    → IsInside (with_target s) latest marked' (Some (record { number = accepted s; network = latest; tasks = tasks }))
inside_open s latest marked marked' tasks i same clear =
    let all : accepted s - s.published.number ≡ length s.pending = omega arith in
    record {
      is_now = i.is_now;
      few = i.few;
      counted = i.counted;
      collectors = i.collectors;
      ahead = record {
        after = omega arith;
        within = omega arith;
        network = i.is_now ∙ ap (replay s.published.network) (sym (ap (λ k. take k s.pending) all ∙ take-length s.pending));
      };
      index = subst (IsTouchIndex latest) (sym same) i.index;
      since = λ x low. clear x low ∙ ap (λ es. touched_by latest es x) (sym (ap (λ k. drop k s.pending) all ∙ drop_all s.pending));
      kept = λ x low off. refl;
    }
  where
    drop_all : {X : Type 0} (xs : List X) → drop (length xs) xs ≡ []
    drop_all [] = refl
    drop_all (x ∷ xs) = drop_all xs

-- ---- other tasks

pub inside_tasks : (s : DeskValue) (latest : Network) (marked : Marked) (t : TargetValue) (tasks : List Task) (change : List Task → List Task) → IsInside s latest marked (Some t)
    → IsInside (with_tasks s change) latest marked (Some (record t { tasks = tasks }))
inside_tasks s latest marked t tasks change i = record {
  is_now = i.is_now;
  few = i.few;
  counted = i.counted;
  collectors = i.collectors;
  ahead = record { after = i.ahead.after; within = i.ahead.within; network = i.ahead.network };
  index = i.index;
  since = i.since;
  kept = i.kept;
}

-- ---- a publication

pub inside_version : (s : DeskValue) (latest : Network) (marked : Marked) (t : TargetValue) (version : VersionValue) → IsInside s latest marked (Some t) → version ≡ next_version s t.number
    → IsInside (with_version s version) latest marked None
inside_version s latest marked t version i is =
    let number : version.number ≡ t.number = ap (λ (v : VersionValue). v.number) is in
    let network : version.network ≡ t.network = ap (λ (v : VersionValue). v.network) is ∙ sym i.ahead.network in
    let dropped : drop (version.number - s.published.number) s.pending ≡ since s (Some t) = ap (λ n. drop (n - s.published.number) s.pending) number in
    let left : length (drop (version.number - s.published.number) s.pending) ≡ length s.pending - (version.number - s.published.number) = length-drop (version.number - s.published.number) s.pending in
    let after = i.ahead.after in let within = i.ahead.within in let few = i.few in let counted = i.counted in
    record {
      is_now = sym (latest_since s latest marked (Some t) i) ∙ ap (λ n. replay n (since s (Some t))) (sym network) ∙ ap (replay version.network) (sym dropped);
      few = omega arith;
      counted = omega arith;
      collectors = i.collectors;
      ahead = tt;
      index = i.index;
      since = λ x low. i.since x low ∙ ap (λ n. touched_by n (since s (Some t)) x) (sym network) ∙ ap (λ es. touched_by version.network es x) (sym dropped);
      kept = λ x low off. i.kept x low off ∙ ap (λ n. content_at n x) (sym network);
    }

-- ---- the same version and events

pub inside_alike : (s s' : DeskValue) (latest : Network) (marked : Marked) (opened : Option TargetValue) → s'.published ≡ s.published → s'.pending ≡ s.pending → length s'.lasts ≡ 256
    → IsInside s latest marked opened → IsInside s' latest marked opened
inside_alike s s' latest marked opened published pending collectors i =
    subst (λ v. IsInside (with_both v s'.pending) latest marked opened) (sym published) (subst (λ es. IsInside (with_both s.published es) latest marked opened) (sym pending) (record {
      is_now = i.is_now;
      few = i.few;
      counted = i.counted;
      collectors = collectors;
      ahead = ahead opened i.ahead;
      index = i.index;
      since = i.since;
      kept = i.kept;
    }))
  where
    with_both : VersionValue → List Event → DeskValue
    with_both v es = record { published = v; pending = es; lasts = s'.lasts; target = s'.target; spare = s'.spare }

    ahead : (o : Option TargetValue) → IsOpenAhead s o → IsOpenAhead (with_both s.published s.pending) o
    ahead None a = tt
    ahead (Some t) a = record { after = a.after; within = a.within; network = a.network }

-- what the open target keeps
pub steady_is : (s : DeskValue) (latest : Network) (marked : Marked) (opened : Option TargetValue) → IsInside s latest marked opened
    → MatchOption (option_map (λ (t : TargetValue). record { number = t.number; tasks = t.tasks }) opened) (Unit {0}) (λ (t : OpenTarget). (s.published.number ≤ t.number) × (t.number ≤ accepted s))
steady_is s latest marked opened i = go opened i.ahead
  where
    go : (o : Option TargetValue) → IsOpenAhead s o → MatchOption (option_map (λ (t : TargetValue). record { number = t.number; tasks = t.tasks }) o) (Unit {0}) (λ (t : OpenTarget). (s.published.number ≤ t.number) × (t.number ≤ accepted s))
    go None a = tt
    go (Some t) a = (a.after, a.within)

-- a publication, whatever the open target
pub inside_next : (s : DeskValue) (latest : Network) (marked : Marked) (opened : Option TargetValue) (version : VersionValue) → IsInside s latest marked opened
    → MatchOption (option_map (λ (t : TargetValue). record { number = t.number; tasks = t.tasks }) opened) ⊥ (λ (t : OpenTarget). version ≡ next_version s t.number)
    → IsInside (with_version s version) latest marked None
inside_next s latest marked None version i next = absurd next
inside_next s latest marked (Some t) version i next = inside_version s latest marked t version i next
