-- Sessions in a list, one after the other.
use Rattle.std.proofs.Common.{◌≡◌, ℕ, ◌+◌, ◌-◌, ◌<◌, zero, suc, List, [], ◌∷◌, ◌++◌, Option, Some, Result, Ok, Err, refl, sym, ap, ◌∙◌, subst, length, arith, length-append}
use Rattle.std.specs.Prelude.{◌⊎◌, OnOk, slice_index_or}
use Rattle.std.proofs.Common.{⊎_elim}
use lib.ListN.{get_or-append}
use lib.Seq.{get_or-append_seam}
use Rattle.atomic_table.specs.Seated.{TableId}
use Rattle.net_data.specs.Network.{Network}
use Rattle.answers.specs.declared.answer.Answer.{Answer}
use Rattle.desk_core.specs.Desk.{DeskValue, net_now}
use Rattle.seats.specs.declared.rule.Sight.{Sight}
use Rattle.versions.specs.declared.state.DeskAndChain.{DeskAndChain}
use Rattle.versions.specs.Authors.{authored_in}
use Rattle.histories.specs.Histories.{AreOfSeats, IsEnded, IsOpening}
use Rattle.beside.specs.Beside.{StartsBeside, newcomer}
use Rattle.serving.specs.declared.channels.Channel.{Channel}
use Rattle.serving.specs.declared.channels.SessionEnd.{SessionEnd}
use Rattle.serving.specs.Served.{IsServed, IsSessionOf}
use Rattle.serving.specs.Sittings.{AreEnded, AreSat, AreSeated, AreSeatedTo, IsEndOf, IsEndedTo, IsSat, SeatsLast, SittingValue, Sits, seat_at, unbegun}
use Rattle.serving.proofs.SessionLemmas.{session_told}

pub on_ok_to : {T F : Type 0} (r : Result T F) (P Q : Type 0) → (P → Q) → OnOk r P → OnOk r Q
on_ok_to (Ok t) P Q f h = f h
on_ok_to (Err e) P Q f h = tt

module _ {A : Type 0} where
  pub front_at : (xs ys : List A) (j : ℕ) (d : A) → j < length xs → slice_index_or (xs ++ ys) j d ≡ slice_index_or xs j d
  front_at xs ys j d low = get_or-append xs ys d j low

  pub last_at : (xs : List A) (x d : A) → slice_index_or (xs ++ x ∷ []) (length xs) d ≡ x
  last_at xs x d = get_or-append_seam xs x [] d

  pub longer : (xs : List A) (x : A) → length (xs ++ x ∷ []) ≡ length xs + 1
  longer xs x = length-append xs (x ∷ [])

-- a place of a list that has one item more
place : (n j : ℕ) → j < n + 1 → (j < n) ⊎ (j ≡ n)
place n j low = grind arith

-- an item of a list that has one
some_item : {A : Type 0} (xs : List A) → 0 < length xs → A
some_item [] low = absurd (omega arith)
some_item (x ∷ xs) low = x

-- one session more is seated
pub seated_step : {R W T : Type 0} (m : ℕ) (table : TableId) (state : DeskAndChain) (all left rest : List (Channel R W T)) (old new : List (SittingValue R W T)) → AreSeatedTo (m + 1) table state all left old
    → SeatsLast (newcomer (seat_at table state m) state) left rest old new → AreSeatedTo m table state all rest new
seated_step {R} {W} {T} m table state all left rest old new h s =
    let long : length left ≡ length rest + 1 = ap length s.last ∙ longer rest s.channel in
    let more : length new ≡ length old + 1 = ap length s.added ∙ longer old (unbegun (newcomer (seat_at table state m) state) s.channel) in
    let had = h.count in
    let both = h.both in
    let count : length rest ≡ m = omega arith in
    record {
      count = count;
      both = omega arith;
      front = λ j c d low.
          let low_left : j < length rest = omega arith in
          let low_more : j < m + 1 = omega arith in
          sym (front_at rest (s.channel ∷ []) j c low_left) ∙ ap (λ (l : List (Channel R W T)). slice_index_or l j c) (sym s.last) ∙ h.front j c d low_more;
      each = λ j d c low. ⊎_elim
          (λ (less : j < length old). ap (λ (l : List (SittingValue R W T)). slice_index_or l j d) s.added ∙ front_at old (unbegun (newcomer (seat_at table state m) state) s.channel ∷ []) j d less ∙ h.each j d c less)
          (λ (is : j ≡ length old).
          let at : length all - 1 - j ≡ m = omega arith in
          let channel : slice_index_or all m c ≡ s.channel =
          sym (h.front m c c (omega arith)) ∙ ap (λ (l : List (Channel R W T)). slice_index_or l m c) s.last ∙ ap (λ n. slice_index_or (rest ++ s.channel ∷ []) n c) (sym count) ∙ last_at rest s.channel c in
          ap (λ (l : List (SittingValue R W T)). slice_index_or l j d) s.added
          ∙ ap (λ n. slice_index_or (old ++ unbegun (newcomer (seat_at table state m) state) s.channel ∷ []) n d) is
          ∙ last_at old (unbegun (newcomer (seat_at table state m) state) s.channel) d
          ∙ (λ i. unbegun (newcomer (seat_at table state (sym at i)) state) ((sym channel ∙ ap (λ n. slice_index_or all n c) (sym at)) i)))
          (place (length old) j (subst (λ n. j < n) more low));
    }

-- all are seated
pub seated_all : {R W T : Type 0} (table : TableId) (state : DeskAndChain) (all left : List (Channel R W T)) (sittings : List (SittingValue R W T)) → AreSeatedTo 0 table state all left sittings → AreSeated table state all sittings
seated_all table state all left sittings h =
    let both = h.both in
    let same : length sittings ≡ length all = omega arith in
    (same, (λ j d c low. h.each j d c (omega arith)))

-- ---- the end

module _ {R W T : Type 0} (remaining : R → Option (List ℕ)) (contents : W → Option (List ℕ)) (tells : T → Answer → List ℕ → Type 0) where
  starts : (start : Network) (table : TableId) (state : DeskAndChain) (me : ℕ) → IsOpening start state → StartsBeside start (newcomer (seat_at table state me) state)
  starts start table state me opening = record {
    seat = refl;
    desk = opening.desk;
    shown = opening.chain;
    seen = opening.chain;
    synced = ap (λ (d : DeskValue). d.published) opening.desk;
    watch = refl;
  }

  module _ (start : Network) (table : TableId) (first state : DeskAndChain) (seats : ℕ) (log : List (Sight DeskAndChain)) (channels : List (Channel R W T)) (sittings sat : List (SittingValue R W T)) (ends : List (SessionEnd R W))
      (opening : IsOpening start first) (seated : AreSeated table first channels sittings) (ran : AreSat remaining contents tells seats sittings sat) (ended : AreEnded seats log state sat ends) (count : length channels ≡ seats) where
    -- the session of a number
    told : (i : ℕ) (c : Channel R W T) (e : SessionEnd R W) → i < length channels
        → IsSessionOf remaining contents tells start seats (authored_in log) state.shown.chain i (slice_index_or channels i c) (slice_index_or ends i e) × IsEnded start seats log state
    told i c e low =
        let n : ℕ = length channels in
        let j : ℕ = n - 1 - i in
        let d : SittingValue R W T = unbegun (newcomer (seat_at table first i) first) c in
        let long = seated.0 in
        let long_sat = ran.0 in
        let j_low : j < n = omega arith in
        let back : n - 1 - j ≡ i = omega arith in
        let channel : Channel R W T = slice_index_or channels i c in
        let sitting : slice_index_or sittings j d ≡ unbegun (newcomer (seat_at table first i) first) channel =
        seated.1 j d c j_low ∙ (λ k. unbegun (newcomer (seat_at table first (back k)) first) (slice_index_or channels (back k) c)) in
        let was : IsSat remaining contents tells seats (newcomer (seat_at table first i) first) (slice_index_or sittings j d) (slice_index_or sat j d) =
        ran.1 j d (newcomer (seat_at table first i) first) (omega arith) (ap (λ (s : SittingValue R W T). s.visitor) sitting) in
        let end : IsEndOf seats log state (slice_index_or sat (length sat - 1 - i) d) (slice_index_or ends i e) = ended.1 i d e (omega arith) in
        let at : length sat - 1 - i ≡ j = omega arith in
        let end_at : IsEndOf seats log state (slice_index_or sat j d) (slice_index_or ends i e) = subst (λ k. IsEndOf seats log state (slice_index_or sat k d) (slice_index_or ends i e)) at end in
        let explained = end_at.seat was.seat was.guest in
        let sits = subst
        (λ (s : SittingValue R W T). Sits (tells s.telling) seats s.rules (newcomer (seat_at table first i) first) (remaining s.reader) (remaining (slice_index_or sat j d).reader) (contents s.writer) (contents (slice_index_or sat j d).writer)
        (slice_index_or sat j d).fault (slice_index_or sat j d).lines was.seat) sitting was.sits in
        let one = session_told (tells channel.telling) start seats channel.rules (newcomer (seat_at table first i) first) _ _ _ _ _ _ was.seat (starts start table first i opening) sits log state explained.0 explained.1 in (
          subst (λ (x : SessionEnd R W). IsSessionOf remaining contents tells start seats (authored_in log) state.shown.chain i channel x) (sym end_at.is) one.0,
          one.1,
        )

    pub served : 0 < seats → (net : Option Network) → ((after : Network) → net ≡ Some after → after ≡ net_now state.desk) → IsServed remaining contents tells start channels ends net
    served some net after =
        let long = seated.0 in
        let long_sat = ran.0 in
        let long_ends = ended.0 in
        let end : IsEnded start seats log state = (told 0 (some_item channels (omega arith)) (some_item ends (omega arith)) (omega arith)).1 in
        record {
          all = authored_in log;
          shown = state.shown.chain;
          history = record { authors = subst (λ n. AreOfSeats n (authored_in log)) (sym count) end.authors; right = end.right };
          each_one = omega arith;
          told = λ i c e low. subst (λ n. IsSessionOf remaining contents tells start n (authored_in log) state.shown.chain i (slice_index_or channels i c) (slice_index_or ends i e)) (sym count) (told i c e low).0;
          network = λ it is. after it is ∙ end.network;
        }

-- ---- sessions that ended

-- one more
pub ended_step : {R W T : Type 0} (seats : ℕ) (log : List (Sight DeskAndChain)) (state : DeskAndChain) (all left rest : List (SittingValue R W T)) (old new : List (SessionEnd R W)) (s : SittingValue R W T) (e : SessionEnd R W)
    → IsEndedTo seats log state all left old → left ≡ rest ++ s ∷ [] → new ≡ old ++ e ∷ [] → IsEndOf seats log state s e → IsEndedTo seats log state all rest new
ended_step {R} {W} {T} seats log state all left rest old new s e h is added one =
    let long : length left ≡ length rest + 1 = ap length is ∙ longer rest s in
    let more : length new ≡ length old + 1 = ap length added ∙ longer old e in
    let both = h.both in
    record {
      both = omega arith;
      front = λ j d low.
          sym (front_at rest (s ∷ []) j d low) ∙ ap (λ (l : List (SittingValue R W T)). slice_index_or l j d) (sym is) ∙ h.front j d (omega arith);
      each = λ i d x low. ⊎_elim
          (λ (less : i < length old).
          subst (IsEndOf seats log state (slice_index_or all (length all - 1 - i) d)) (sym (ap (λ (l : List (SessionEnd R W)). slice_index_or l i x) added ∙ front_at old (e ∷ []) i x less)) (h.each i d x less))
          (λ (same : i ≡ length old).
          let at : length all - 1 - i ≡ length rest = omega arith in
          let sitting : slice_index_or all (length all - 1 - i) d ≡ s =
          ap (λ n. slice_index_or all n d) at ∙ sym (h.front (length rest) d (omega arith)) ∙ ap (λ (l : List (SittingValue R W T)). slice_index_or l (length rest) d) is ∙ last_at rest s d in
          let end : slice_index_or new i x ≡ e =
          ap (λ (l : List (SessionEnd R W)). slice_index_or l i x) added ∙ ap (λ n. slice_index_or (old ++ e ∷ []) n x) same ∙ last_at old e x in
          subst (λ (p : SittingValue R W T × SessionEnd R W). IsEndOf seats log state p.0 p.1) (λ k. (sym sitting k, sym end k)) one)
          (place (length old) i (subst (λ n. i < n) more low));
    }
