use Rattle.std.proofs.Common.{◌≡◌, ℕ, None, Some, Ok, Err, false, eqb, List, length, ap, sym, ◌∙◌, subst, rules}
use Rattle.std.specs.Arc.{arc_value}
use Rattle.std.specs.Option.{option_map}
use Rattle.dirty_sets.specs.Touched.{marks_of}
use Rattle.dirty_sets.specs.Waiting.{Task, all_waiting, waiting}
use Rattle.work_units.specs.declared.replies.Opened.{Opened}
use Rattle.work_units.specs.declared.replies.Refusal.TheVariants.{OutOfMemory}
use Rattle.desk_core.specs.Desk.{DeskValue, accepted, to_settle}
use Rattle.desk_core.specs.Steps.{Opens, with_target}
use Rattle.desk_core.specs.Targets.{TargetValue}
use Rattle.desk_core.specs.Inside.{IsInside}
use Rattle.desk_core.proofs.OpeningLemmas.{is_none, opens_is, opens_not, to_settle_marked, waiting_all}
use Rattle.desk_core.proofs.desk.Desk.open.Goals as goal

pub returns-in-Ok : goal.returns-in-Ok
returns-in-Ok c =
    let s : DeskValue = record {
      published = arc_value c.self.inside.published;
      pending = c.self.inside.pending.items;
      lasts = c.self.inside.lasts.items;
      target = option_map (λ (t : TargetValue). record { number = t.number; tasks = t.tasks }) c.self.inside.target;
      spare = c.self.inside.spare;
    } in
    let none : c.self.inside.target ≡ None = is_none c.self.inside.target (sym c.is_some.ensures ∙ c.if-is_some.false) in
    let nothing : s.target ≡ None = ap (option_map (λ (t : TargetValue). record { number = t.number; tasks = t.tasks })) none in
    let inside : IsInside s c.self.inside.latest (marks_of c.self.inside.touched) None = subst (λ o. IsInside s c.self.inside.latest (marks_of c.self.inside.touched) o) none c.self.invariant.inside in
    let settle = to_settle_marked s c.self.inside.latest (marks_of c.self.inside.touched) c.all-touched.result inside c.validity.ensures c.all-touched.ensures in
    let some : eqb (length s.pending) 0 ≡ false = ap (λ n. eqb n 0) (sym c.self.inside.pending.ok.0) ∙ sym c.is_empty.ensures ∙ c.if-is_empty.false in
    let number : c.accepted-number.result ≡ accepted s = c.accepted-number.ensures ∙ ap accepted (sym c.self.view_is) in
    let tasks : c.in-Ok.target.tasks ≡ all_waiting (to_settle s) = ap (λ (t : TargetValue). t.tasks) c.in-Ok.ensures ∙ ap all_waiting settle in
    let target : c.in-Ok.target.number ≡ accepted s = ap (λ (t : TargetValue). t.number) c.in-Ok.ensures ∙ number in
    let answer : Opened = record { target = c.accepted-number.result; waiting = c.waiting.result } in
    let is : answer ≡ record { target = accepted s; waiting = length (to_settle s) }
    = ap (λ n. record { target = n; waiting = c.waiting.result }) number
    ∙ ap (λ w. record { target = accepted s; waiting = w }) (c.waiting.ensures ∙ ap (λ (ts : List Task). length (waiting ts)) tasks ∙ ap (length {A = ℕ}) (waiting_all (to_settle s))) in
    let new : DeskValue = record s { target = Some (record { number = c.in-Ok.target.number; tasks = c.in-Ok.target.tasks }) } in
    let left : new ≡ with_target s
    = ap (λ n. record s { target = Some (record { number = n; tasks = c.in-Ok.target.tasks }) }) target
    ∙ ap (λ (ts : List Task). record s { target = Some (record { number = accepted s; tasks = ts }) }) tasks in
    subst (λ (q : DeskValue). Opens q (Ok answer) new) c.self.view_is (opens_is s new answer nothing some is left)

pub returns-then-is_empty : goal.returns-then-is_empty
returns-then-is_empty c = search rules

pub returns-in-Err : goal.returns-in-Err
returns-in-Err c =
    let s : DeskValue = record {
      published = arc_value c.self.inside.published;
      pending = c.self.inside.pending.items;
      lasts = c.self.inside.lasts.items;
      target = option_map (λ (t : TargetValue). record { number = t.number; tasks = t.tasks }) c.self.inside.target;
      spare = c.self.inside.spare;
    } in
    let none : s.target ≡ None = ap (option_map (λ (t : TargetValue). record { number = t.number; tasks = t.tasks })) (is_none c.self.inside.target (sym c.is_some.ensures ∙ c.if-is_some.false)) in
    let some : eqb (length s.pending) 0 ≡ false = ap (λ n. eqb n 0) (sym c.self.inside.pending.ok.0) ∙ sym c.is_empty.ensures ∙ c.if-is_empty.false in
    subst (λ (q : DeskValue). Opens q (Err OutOfMemory) q) c.self.view_is (opens_not s none some)
