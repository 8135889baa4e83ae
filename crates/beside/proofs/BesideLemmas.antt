-- What the script's thread finds and leaves.
use Rattle.std.proofs.Common.{◌≡◌, ◌≢◌, append_assoc, append-nil, ℕ, ◌+◌, ◌-◌, ◌^◌, ◌==◌, arith, inl, inr, false, List, [], ◌∷◌, ◌++◌, refl, sym, ap, subst, ◌∙◌, ne_eqb, Option, Some, None, Result, Ok, Err}
use Rattle.std.specs.Prelude.{IfOk, OnOk, true}
use Rattle.work_units.specs.declared.replies.Refusal.TheVariants.{EndOfNumbers}
use Rattle.answers.specs.Replies.{posted_answer, refused}
use Rattle.answers.specs.declared.answer.Answer.{Answer}
use Rattle.desk_console.specs.Watch.{WatchValue}
use Rattle.std.proofs.lemmas.Bool.Decides.{nat_tests}
use Rattle.net_data.specs.declared.events.Event.{Event}
use Rattle.net_data.specs.Network.{Network}
use Rattle.net_versions.specs.Versions.{VersionValue, settled_version}
use Rattle.desk_core.specs.Desk.{DeskValue, accepted, new_desk}
use Rattle.desk_core.specs.Steps.{last_of, Posts}
use Rattle.desk_console.specs.Console.{ConsoleValue}
use Rattle.desk_console.specs.Does.{Calls, PostsAfter, PostsNext, Tells}
use Rattle.desk_console.specs.Watch.{unwatched}
use Rattle.seats.specs.Minutes.{SeatValue, sight}
use Rattle.versions.specs.Book.{no_table}
use Rattle.versions.specs.Hubs.{PairValue}
use Rattle.versions.specs.Authors.{authored_in, counts_of}
use Rattle.versions.specs.Working.{Comes, ComesAndDoes, IsWorkedOn, leaving, left_at}
use Rattle.versions.proofs.SeatLemmas.{alone, came_last, did_last}
use Rattle.versions.specs.declared.state.DeskAndChain.{DeskAndChain}
use mathlib.Core.List.{IsPrefix}
use Rattle.sessions.specs.Run.{Ran}
use Rattle.sessions.specs.declared.faults.Fault.{Fault}
use Rattle.sessions.specs.declared.faults.Fault.TheVariants.{OutOfMemory}
use Rattle.sessions.proofs.RunLemmas.{ran_nothing}
use Rattle.beside.specs.Beside.{BesideValue, CommandsBeside, CountsSeats, DoesAt, DoesThere, Finds, KeepsSynced, LeavesBeside, Looks, StartsBeside, Visits, VisitsAt, at_console, newcomer}
use Rattle.beside.specs.Runs.{IsFresh, RanBeside}
use Rattle.beside.specs.Seats.{Came, StaysSeated}

-- a script's thread that has just come to a new hub
pub opens_fresh : (net : Network) (pair : PairValue) (b : BesideValue) → IsFresh net pair → (seat : SeatValue DeskAndChain) → seat.saw ≡ sight 0 pair.state ∷ [] → b ≡ newcomer seat pair.state → StartsBeside net b
opens_fresh net pair b fresh seat saw same =
    let chain : pair.state.shown.chain ≡ settled_version 0 [] net ∷ [] = fresh.chain ∙ ap (λ (d : DeskValue). d.published ∷ []) fresh.desk in
    subst (StartsBeside net) (sym same) (record { seat = saw; desk = fresh.desk; shown = chain; seen = chain; synced = ap (λ (d : DeskValue). d.published) fresh.desk; watch = refl })

-- the hub at a start over a network
abbrev first_left : Network → DeskAndChain
first_left net = record {
  desk = new_desk net;
  shown = record { book = record { number = 0; log_name = 0; cells_name = 0 }; chain = settled_version 0 [] net ∷ [] };
}

-- a start over a network
abbrev pub first_beside : Network → BesideValue
first_beside net = record {
  seat = record { table = no_table; me = 0; saw = sight 0 (first_left net) ∷ [] };
  left = record {
    desk = new_desk net;
    shown = record { book = record { number = 0; log_name = 0; cells_name = 0 }; chain = settled_version 0 [] net ∷ [] };
  };
  seen = settled_version 0 [] net ∷ [];
  synced = settled_version 0 [] net;
  watch = unwatched;
}

pub opens_first : (net : Network) → StartsBeside net (first_beside net)
opens_first net = record { seat = refl; desk = refl; shown = refl; seen = refl; synced = refl; watch = refl }

-- a call at the hub that was found
pub some_there : (seats : ℕ) {F : Type 0} (r : Result Answer F) (Done : ConsoleValue → Answer → ConsoleValue → Type 0) (old : BesideValue) (found : DeskAndChain) (new : BesideValue)
    → IfOk r (λ a. DoesAt seats Done old found a new) → IfOk r (λ a. DoesThere seats Done old a new)
some_there seats (Ok a) Done old found new h = (found, h)
some_there seats (Err e) Done old found new h = tt

-- a collector's next post
pub posted_next : (seats : ℕ) {F : Type 0} (r : Result Answer F) (collector : ℕ) (event : Event) (old : BesideValue) (found : DeskAndChain) (new : BesideValue) (last : ℕ)
    → last ≡ (last_of found.desk collector).seq → last ≢ 2 ^ 64 - 1
    → IfOk r (λ a. DoesAt seats (Calls (λ s. Posts s collector (last + 1) event) posted_answer) old found a new) → IfOk r (λ a. DoesAt seats (PostsNext collector event) old found a new)
posted_next seats (Ok a) collector event old found new last e less h =
    let off : ((last_of found.desk collector).seq == 2 ^ 64 - 1) ≡ false = ne_eqb (last_of found.desk collector).seq (2 ^ 64 - 1) (λ same. less (e ∙ same)) in
    let calls = subst (λ n. Calls (λ s. Posts s collector (n + 1) event) posted_answer (at_console found.desk) a (at_console new.left.desk)) e h.done in record {
      finds = h.finds;
      leaves = h.leaves;
      shown = h.shown;
      told = h.told;
      kept = h.kept;
      done = subst (λ b. PostsAfter b collector event (at_console found.desk) a (at_console new.left.desk)) (sym off) calls;
    }
posted_next seats (Err e) collector event old found new last is less h = tt

-- chains that begin with one another
pub prefix_then : {A : Type 0} (xs ys zs : List A) → IsPrefix xs ys → IsPrefix ys zs → IsPrefix xs zs
prefix_then xs ys zs p q = (p.0 ++ q.0, sym (append_assoc xs p.0 q.0) ∙ (ap (λ w. w ++ q.0) p.1 ∙ q.1))

-- a look after others
pub looks_later : (first old new : BesideValue) (version : VersionValue) → old.seat ≡ first.seat → old.left ≡ first.left → IsPrefix first.seen old.seen → Looks old version new → Looks first version new
looks_later first old new version seat same begins is = record {
  seat = is.seat ∙ seat;
  left = is.left ∙ same;
  seen = prefix_then first.seen old.seen new.seen begins is.seen;
  is_chain = is.is_chain;
  ends = is.ends;
}

-- a run from a new hub
pub ran_fresh : (Tells : Answer → List ℕ → Type 0) (net : Network) (pair : PairValue) (unread left held holds : Option (List ℕ)) (fault : Option Fault) (lines : ℕ) (back : Option Network) → IsFresh net pair → (seat : SeatValue DeskAndChain) → seat.saw ≡ sight 0 pair.state ∷ []
    → Ran Tells (CommandsBeside 1) (LeavesBeside 1) (Unit {0}) (newcomer seat pair.state) unread left held holds fault lines back → RanBeside Tells net unread left held holds fault lines back
ran_fresh Tells net pair unread left held holds fault lines back fresh seat saw ran = record {
  start = newcomer seat pair.state;
  opens = opens_fresh net pair _ fresh seat saw refl;
  ran = ran;
}

-- no hub could be made
pub ran_unopened : (Tells : Answer → List ℕ → Type 0) (net : Network) (unread held : Option (List ℕ)) (fault : Option Fault) (lines : ℕ) (back : Option Network) → lines ≡ 0 → fault ≡ Some OutOfMemory → back ≡ None
    → RanBeside Tells net unread unread held held fault lines back
ran_unopened Tells net unread held fault lines back zero some none = record {
  start = first_beside net;
  opens = opens_first net;
  ran = ran_nothing Tells (CommandsBeside 1) (LeavesBeside 1) (Unit {0}) (first_beside net) unread held OutOfMemory fault lines back tt zero some none;
}

-- what who comes finds
abbrev pub finds_by : (seats : ℕ) (old : BesideValue) (found : DeskAndChain) (there : SeatValue DeskAndChain) → left_at old.seat.saw ≡ old.left → Comes seats old.seat found there → IsPrefix old.seen found.shown.chain → Finds seats old found
finds_by seats old found there left comes seen = record {
  there = there;
  comes = comes;
  worked = λ one. subst (λ s. IsWorkedOn s found) left (alone seats old.seat found there one comes);
  seen = seen;
}

-- who came and changed nothing is told what it found
pub visited : (seats : ℕ) (Done : ConsoleValue → Answer → ConsoleValue → Type 0) (old : BesideValue) (found : DeskAndChain) (a : Answer) (new : BesideValue)
    → VisitsAt seats old found new → Done (at_console found.desk) a (at_console found.desk) → DoesAt seats Done old found a new
visited seats Done old found a new is done = record {
  finds = is.0;
  leaves = inl (ap (λ (b : BesideValue). b.seat) is.1, ap (λ (b : BesideValue). b.left) is.1);
  shown = ap (λ (b : BesideValue). b.left.shown) is.1;
  told = ap (λ (b : BesideValue). b.seen) is.1;
  kept = (ap (λ (b : BesideValue). b.synced) is.1, ap (λ (b : BesideValue). b.watch) is.1);
  done = subst (λ (s : DeskAndChain). Done (at_console found.desk) a (at_console s.desk)) (sym (ap (λ (b : BesideValue). b.left) is.1)) done;
}

-- who came and posted
pub posted : (seats : ℕ) (Done : ConsoleValue → Answer → ConsoleValue → Type 0) (old : BesideValue) (found left : DeskAndChain) (a : Answer) (new : BesideValue) → left_at old.seat.saw ≡ old.left
    → ComesAndDoes seats old.seat found left new.seat → new.left ≡ left_at new.seat.saw → IsPrefix old.seen found.shown.chain → left.shown ≡ found.shown → new.seen ≡ found.shown.chain → KeepsSynced old new
    → Done (at_console found.desk) a (at_console left.desk) → DoesAt seats Done old found a new
posted seats Done old found left a new at came there seen shown told kept done =
    let last : new.left ≡ left = there ∙ did_last seats old.seat found left new.seat came in record {
      finds = finds_by seats old found came.0 at came.1 seen;
      leaves = inr (came.2 ∙ ap (leaving came.0) (sym last));
      shown = ap (λ (s : DeskAndChain). s.shown) last ∙ shown;
      told = told;
      kept = kept;
      done = subst (λ (s : DeskAndChain). Done (at_console found.desk) a (at_console s.desk)) (sym last) done;
    }

-- so many events are accepted at the hub that was found, or left
pub came_count : (seats : ℕ) (old : SeatValue DeskAndChain) (found : DeskAndChain) (new : SeatValue DeskAndChain) → Comes seats old found new → accepted found.desk ≡ accepted (left_at new.saw).desk
came_count seats old found new comes = sym (ap (λ (s : DeskAndChain). accepted s.desk) (came_last seats old found new comes))

pub did_count : (seats : ℕ) (old : SeatValue DeskAndChain) (found left : DeskAndChain) (new : SeatValue DeskAndChain) → ComesAndDoes seats old found left new → accepted left.desk ≡ accepted (left_at new.saw).desk
did_count seats old found left new came = sym (ap (λ (s : DeskAndChain). accepted s.desk) (did_last seats old found left new came))

-- a value as who came has it
abbrev pub beside_of : SeatValue DeskAndChain → List VersionValue → VersionValue → WatchValue → BesideValue
beside_of seat seen synced watch = record { seat = seat; left = left_at seat.saw; seen = seen; synced = synced; watch = watch }

-- who comes and is told what is published
pub visit_found : {F : Type 0} (r : Result (Unit {0}) F) (seats : ℕ) (seat there : SeatValue DeskAndChain) (seen chain : List VersionValue) (synced : VersionValue) (watch : WatchValue) (found : DeskAndChain) → Comes seats seat found there
    → OnOk r ((chain ≡ found.shown.chain) × IsPrefix seen chain)
    → OnOk r (VisitsAt seats (beside_of seat seen synced watch) found (beside_of there chain synced watch))
visit_found (Ok x) seats seat there seen chain synced watch found comes told = (
  finds_by seats (beside_of seat seen synced watch) found there refl comes (subst (IsPrefix seen) told.0 told.1),
  (λ i. record { seat = there; left = came_last seats seat found there comes i; seen = told.0 i; synced = synced; watch = watch }),
)
visit_found (Err e) seats seat there seen chain synced watch found comes told = tt

-- who comes to the hub, however it finds it
pub came_somewhere : {F : Type 0} (r : Result (Unit {0}) F) (seats : ℕ) (old : BesideValue) (found : DeskAndChain) (new : BesideValue) → OnOk r (VisitsAt seats old found new) → OnOk r (Visits seats old new)
came_somewhere (Ok x) seats old found new is = (found, is)
came_somewhere (Err e) seats old found new is = tt

-- who comes, and is told the counts of the seats
pub counts_somewhere : {T F : Type 0} (r : Result T F) (items : T → List ℕ) (seats : ℕ) (old : BesideValue) (found : DeskAndChain) (new : BesideValue) → IfOk r (λ counts. VisitsAt seats old found new)
    → IfOk r (λ counts. items counts ≡ counts_of seats (authored_in new.seat.saw)) → IfOk r (λ counts. CountsSeats seats old (items counts) new)
counts_somewhere (Ok x) items seats old found new is counts = ((found, is), counts)
counts_somewhere (Err e) items seats old found new is counts = tt

-- who came, and stays then
pub came_stays : (seats : ℕ) (old there new : BesideValue) → Came seats old there → StaysSeated there new → Came seats old new
came_stays seats old there new came stays = record {
  found = came.found;
  comes = subst (Comes seats old.seat came.found) (sym stays.seat) came.comes;
  seen = prefix_then old.seen there.seen new.seen came.seen stays.seen;
}

pub each_ok : {T F : Type 0} (r : Result T F) (P Q : T → Type 0) → ((t : T) → P t → Q t) → IfOk r P → IfOk r Q
each_ok (Ok t) P Q f h = f t h
each_ok (Err e) P Q f h = tt

-- a collector has no next post
pub refused_next : (seats : ℕ) {F : Type 0} (r : Result Answer F) (collector : ℕ) (event : Event) (old : BesideValue) (found : DeskAndChain) (new : BesideValue) (last : ℕ)
    → last ≡ (last_of found.desk collector).seq → last ≡ 2 ^ 64 - 1
    → IfOk r (λ a. DoesAt seats (Tells (refused EndOfNumbers)) old found a new) → IfOk r (λ a. DoesAt seats (PostsNext collector event) old found a new)
refused_next seats (Ok a) collector event old found new last e full h =
    let on : ((last_of found.desk collector).seq == 2 ^ 64 - 1) ≡ true = eqb_same (last_of found.desk collector).seq (2 ^ 64 - 1) (sym e ∙ full) in record {
      finds = h.finds;
      leaves = h.leaves;
      shown = h.shown;
      told = h.told;
      kept = h.kept;
      done = subst (λ b. PostsAfter b collector event (at_console found.desk) a (at_console new.left.desk)) (sym on) h.done;
    }
  where
    eqb_same : (a b : ℕ) → a ≡ b → (a == b) ≡ true
    eqb_same a b same = grind (arith, nat_tests)
refused_next seats (Err e) collector event old found new last is full h = tt
