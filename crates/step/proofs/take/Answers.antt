-- `step::take` meets its contract. Assumes nothing.
use Rattle.std.proofs.Common.{Bool, List, ap, arith, cond, get_or, length, ltb, not, refl, rules, set, subst, sym, ℕ, ◌%◌, ◌&&◌, ◌∙◌, ◌≡◌, ◌≤◌, Option}
use borrow.Author.Tests.{lt-leb}
use Rattle.base.proofs.Choice.{passed, and_false}
use Rattle.records.specs.Sets.{Set, set_by}
use Rattle.records.specs.declared.Layout.{Layout}
use Rattle.machine.specs.Held.{memory_of, known_of, held_of}
use Rattle.machine.specs.Machine.{actor, unmarked}
use Rattle.machine.specs.Maps.{Held, outcome, advanced}
use Rattle.machine.specs.declared.Choice.{Choice}
use Rattle.machine.specs.declared.Machine.{Machine}
use Rattle.machine.specs.declared.Outcome.{Outcome}
use Rattle.machine.specs.declared.Outcome.TheVariants.{NotPermitted}
use Rattle.step.specs.Acting.{marks_settled}
use Rattle.step.specs.Step.{has_room, on_taken}
use Rattle.step.proofs.Steps.{Told, quiet-held, loud_held}
use Rattle.step.proofs.Taken.{taken_so, left, can, came_so, had_room, stays}
use Rattle.step.proofs.take.Goals as goal

pub returns-then-layout-gt-THREADS : goal.returns-then-layout-gt-THREADS
returns-then-layout-gt-THREADS c =
    let a = c.args in
    record {
      came = sym (passed _ _ (and_false (ltb a.filled (length a.values.now)) (and_false (ltb a.filled (length a.addresses.now)) (lt-leb _ _ c.if-layout-gt-THREADS.true))));
      holds = refl;
      more = omega arith;
    }

pub returns-then-not-quiet : goal.returns-then-not-quiet
returns-then-not-quiet c =
    let bytes_of : List ℕ = c.args.set.now in
    let layout_of : Layout = c.args.layout in
    let set_of_lem : Set = set_by bytes_of layout_of in
    let machine_of : Machine = c.args.m in
    let addresses_of : List ℕ = c.args.addresses.now in
    let values_of : List ℕ = c.args.values.now in
    let filled_of : ℕ = c.args.filled in
    let choice_of : Choice = c.args.choice in
    let held_of_lem : Held = held_of machine_of addresses_of values_of filled_of in
    let few : layout_of.threads ≤ 4 = omega (arith, c.if-layout-gt-THREADS.false) in
    let memory_of_lem : ℕ → ℕ = memory_of addresses_of values_of filled_of in
    let known_of_lem : ℕ → Bool = known_of addresses_of filled_of in
    let later_of : ℕ → ℕ = memory_of c.advance-s.new.addresses c.advance-s.new.values c.advance-s.result.filled in
    let knows_of : ℕ → Bool = known_of c.advance-s.new.addresses c.advance-s.result.filled in
    let told : Told set_of_lem machine_of memory_of_lem known_of_lem choice_of few (can bytes_of layout_of machine_of addresses_of values_of filled_of choice_of few) (actor choice_of % 4) filled_of c.advance-s.result later_of knows_of = subst (λ (u : ℕ). Told set_of_lem machine_of memory_of_lem known_of_lem choice_of few
    (can bytes_of layout_of machine_of addresses_of values_of filled_of choice_of few) (u % 4) filled_of c.advance-s.result later_of knows_of)
    c.actor-t.ensures c.advance-s.ensures in
    let came : c.advance-s.result.outcome ≡ cond (has_room layout_of.threads (length addresses_of) (length values_of) filled_of) (outcome set_of_lem held_of_lem choice_of) NotPermitted = came_so bytes_of layout_of machine_of addresses_of values_of filled_of choice_of few c.advance-s.result later_of knows_of told in
    let t = taken_so c.is_taken.ensures c.if-is_taken.true in
    let roomed : can bytes_of layout_of machine_of addresses_of values_of filled_of choice_of few ≡ (ltb (actor choice_of) layout_of.threads && not machine_of.ended) = had_room bytes_of layout_of machine_of addresses_of values_of filled_of choice_of few c.advance-s.result later_of knows_of told t in
    let taken_holds : advanced set_of_lem held_of_lem choice_of ≡ on_taken c.advance-s.result.outcome (advanced set_of_lem held_of_lem choice_of) held_of_lem = sym (ap (λ (o : Outcome). on_taken o (advanced set_of_lem held_of_lem choice_of) held_of_lem) t) in
    let four-threads : length machine_of.threads ≡ 4 = search rules in
    let m = machine_of in
    let u = c.actor-t in
    let marks = c.marks_after-settled in
    let n : Machine = record { threads = set m.threads (u.result % 4) c.advance-s.result.thread; marks = marks.result; ended = c.ended_after.result; code = c.code_after.result } in
    record {
      came = came;
      holds = (loud_held set_of_lem m memory_of_lem known_of_lem choice_of few told roomed t n
          (ap (λ (k : ℕ). set m.threads (k % 4) c.advance-s.result.thread) u.ensures) four-threads
          (marks.ensures ∙ ap {B = ℕ → Option ℕ} (λ (k : ℕ). cond (ltb k 4) (marks_settled set_of_lem (λ v. get_or m.marks v unmarked) k c.advance-s.result.statement) (λ v. get_or m.marks v unmarked)) u.ensures)
          c.ended_after.ensures
          c.code_after.ensures) ∙ taken_holds;
      more = c.advance-s.ensures.more;
    }

pub returns-else-not-quiet : goal.returns-else-not-quiet
returns-else-not-quiet c =
    let bytes_of : List ℕ = c.args.set.now in
    let layout_of : Layout = c.args.layout in
    let set_of_lem : Set = set_by bytes_of layout_of in
    let machine_of : Machine = c.args.m in
    let addresses_of : List ℕ = c.args.addresses.now in
    let values_of : List ℕ = c.args.values.now in
    let filled_of : ℕ = c.args.filled in
    let choice_of : Choice = c.args.choice in
    let held_of_lem : Held = held_of machine_of addresses_of values_of filled_of in
    let few : layout_of.threads ≤ 4 = omega (arith, c.if-layout-gt-THREADS.false) in
    let memory_of_lem : ℕ → ℕ = memory_of addresses_of values_of filled_of in
    let known_of_lem : ℕ → Bool = known_of addresses_of filled_of in
    let later_of : ℕ → ℕ = memory_of c.advance-s.new.addresses c.advance-s.new.values c.advance-s.result.filled in
    let knows_of : ℕ → Bool = known_of c.advance-s.new.addresses c.advance-s.result.filled in
    let told : Told set_of_lem machine_of memory_of_lem known_of_lem choice_of few (can bytes_of layout_of machine_of addresses_of values_of filled_of choice_of few) (actor choice_of % 4) filled_of c.advance-s.result later_of knows_of = subst (λ (u : ℕ). Told set_of_lem machine_of memory_of_lem known_of_lem choice_of few
    (can bytes_of layout_of machine_of addresses_of values_of filled_of choice_of few) (u % 4) filled_of c.advance-s.result later_of knows_of)
    c.actor-t.ensures c.advance-s.ensures in
    let came : c.advance-s.result.outcome ≡ cond (has_room layout_of.threads (length addresses_of) (length values_of) filled_of) (outcome set_of_lem held_of_lem choice_of) NotPermitted = came_so bytes_of layout_of machine_of addresses_of values_of filled_of choice_of few c.advance-s.result later_of knows_of told in
    let t = taken_so c.is_taken.ensures c.if-is_taken.true in
    let roomed : can bytes_of layout_of machine_of addresses_of values_of filled_of choice_of few ≡ (ltb (actor choice_of) layout_of.threads && not machine_of.ended) = had_room bytes_of layout_of machine_of addresses_of values_of filled_of choice_of few c.advance-s.result later_of knows_of told t in
    let taken_holds : advanced set_of_lem held_of_lem choice_of ≡ on_taken c.advance-s.result.outcome (advanced set_of_lem held_of_lem choice_of) held_of_lem = sym (ap (λ (o : Outcome). on_taken o (advanced set_of_lem held_of_lem choice_of) held_of_lem) t) in
    let four-threads : length machine_of.threads ≡ 4 = search rules in
    let four-marks : length machine_of.marks ≡ 4 = search rules in
    let m = machine_of in
    let u = c.actor-t in
    let n : Machine = record { threads = set m.threads (u.result % 4) c.advance-s.result.thread; marks = m.marks; ended = m.ended; code = m.code } in
    record {
      came = came;
      holds = (quiet-held set_of_lem m memory_of_lem known_of_lem choice_of few told roomed t n
          (ap (λ (k : ℕ). set m.threads (k % 4) c.advance-s.result.thread) u.ensures) four-threads refl refl refl four-marks (sym c.quiet.ensures ∙ c.if-not-quiet.false)) ∙ taken_holds;
      more = c.advance-s.ensures.more;
    }

pub returns : goal.returns
returns c =
    let bytes_of : List ℕ = c.args.set.now in
    let layout_of : Layout = c.args.layout in
    let set_of_lem : Set = set_by bytes_of layout_of in
    let machine_of : Machine = c.args.m in
    let addresses_of : List ℕ = c.args.addresses.now in
    let values_of : List ℕ = c.args.values.now in
    let filled_of : ℕ = c.args.filled in
    let choice_of : Choice = c.args.choice in
    let held_of_lem : Held = held_of machine_of addresses_of values_of filled_of in
    let few : layout_of.threads ≤ 4 = omega (arith, c.if-layout-gt-THREADS.false) in
    let memory_of_lem : ℕ → ℕ = memory_of addresses_of values_of filled_of in
    let known_of_lem : ℕ → Bool = known_of addresses_of filled_of in
    let later_of : ℕ → ℕ = memory_of c.advance-s.new.addresses c.advance-s.new.values c.advance-s.result.filled in
    let knows_of : ℕ → Bool = known_of c.advance-s.new.addresses c.advance-s.result.filled in
    let told : Told set_of_lem machine_of memory_of_lem known_of_lem choice_of few (can bytes_of layout_of machine_of addresses_of values_of filled_of choice_of few) (actor choice_of % 4) filled_of c.advance-s.result later_of knows_of = subst (λ (u : ℕ). Told set_of_lem machine_of memory_of_lem known_of_lem choice_of few
    (can bytes_of layout_of machine_of addresses_of values_of filled_of choice_of few) (u % 4) filled_of c.advance-s.result later_of knows_of)
    c.actor-t.ensures c.advance-s.ensures in
    let came : c.advance-s.result.outcome ≡ cond (has_room layout_of.threads (length addresses_of) (length values_of) filled_of) (outcome set_of_lem held_of_lem choice_of) NotPermitted = came_so bytes_of layout_of machine_of addresses_of values_of filled_of choice_of few c.advance-s.result later_of knows_of told in
    let no = sym c.is_taken.ensures ∙ c.if-is_taken.false in
    record {
      came = came;
      holds = stays bytes_of layout_of machine_of addresses_of values_of filled_of choice_of few c.advance-s.result later_of knows_of told no ∙ sym (left c.advance-s.result.outcome _ _ no);
      more = c.advance-s.ensures.more;
    }
