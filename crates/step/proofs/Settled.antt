-- The state after a step, as the code puts it together. Assumes nothing.
use Rattle.std.specs.Prelude.{Option, Some, is_some}
use Prim.Native.Nat.{ℕ, zero, suc, ◌≤◌, ◌<◌}
use native.Mathlib.Omega.{arith}
use mathlib.Core.Path.{◌≡◌, refl, ap, ap₂, sym, ◌∙◌, fun_ext, subst⁻¹}
use mathlib.Core.List.{List, []}
use mathlib.Core.Bool.{Bool, true, false, cond, not, ◌&&◌, ◌||◌}
use borrow.Author.Tests.{eq-eqb, not-true}
use lib.Dec.{eqb, ltb}
use lib.ListN.{length, get_or, get_or-eq_default}
use Rattle.base.proofs.Below.{every-not}
use Rattle.base.proofs.Choice.{chosen, passed, and_left, and_right, and_false, or_left, or_right, or_no, clash}
use Rattle.base.specs.Below.{every}
use Rattle.records.specs.Instructions.{CHECK, EXIT}
use Rattle.records.specs.Sets.{Set}
use Rattle.records.specs.declared.Statement.{Statement}
use Rattle.machine.proofs.Permitted.{permitted-is}
use Rattle.machine.specs.Held.{state_of, memory_of, known_of, permitted_by, cells_of}
use Rattle.machine.specs.Maps.{knows_all, outcome}
use Rattle.machine.specs.Machine.{State, actor, reads, unmarked, fresh, with_pc, next_pc, row, flushed, executed, current, opened, cleared, waiting, written, memory_after, acted, leaves_mark, step, checkpoint_of}
use Rattle.machine.specs.Traces.{shown}
use Rattle.machine.specs.declared.Choice.{Choice}
use Rattle.machine.specs.declared.Choice.TheVariants.{Execute, Flush}
use Rattle.machine.specs.declared.Machine.{Machine}
use Rattle.machine.specs.declared.Outcome.{Outcome}
use Rattle.machine.specs.declared.Outcome.TheVariants.{Taken, NotPermitted, Lacking}
use Rattle.machine.specs.declared.Read.{Read}
use Rattle.machine.specs.declared.Thread.{Thread}
use Rattle.step.specs.Acting.{marks_settled, threads_settled, waits, thread_by, thread_from, Operands, statement_by, written_by, reads_by, outcome_by, quiet, not_taken, Advances, on_permitted}
use Rattle.step.specs.Step.{on_taken}
use Rattle.step.specs.declared.acting.Stepped.{Stepped}

module _ (S : Set) (marks : ℕ → Option ℕ) (t : ℕ) (i : Statement) where
  abbrev is_check : Bool
  is_check = eqb i.number CHECK

  pub marks-cleared : is_check ≡ false → cleared S marks ≡ marks_settled S marks t i
  marks-cleared e = fun_ext (λ u. sym (passed _ _ (and_false (eqb u t) e)))

  pub marks-left : is_check ≡ true →
      (λ u. cond (eqb u t) (Some i.argument) (cleared S marks u)) ≡ marks_settled S marks t i
  marks-left e = fun_ext (λ u. sym (ap (λ (b : Bool). cond (b && eqb u t) (Some i.argument) (cleared S marks u)) e))

-- where no thread is marked, the marks stay
pub unmarked-stay : (S : Set) (marks : List (Option ℕ)) → length marks ≡ 4 →
    ((is_some (get_or marks 0 unmarked)) || (is_some (get_or marks 1 unmarked)) || (is_some (get_or marks 2 unmarked)) || (is_some (get_or marks 3 unmarked))) ≡ false →
    (λ u. get_or marks u unmarked) ≡ cleared S (λ u. get_or marks u unmarked)
unfolding cleared
unmarked-stay S marks n e = fun_ext (λ u. sym (passed _ _ (and_false (opened S (λ v. get_or marks v unmarked) (checkpoint_of (get_or marks u unmarked))) (off u))))
  where
    on : ℕ → Bool
    on u = (is_some (get_or marks u unmarked))

    off : (u : ℕ) → on u ≡ false
    off zero = or_left (on 0) (on 1) (or_left (on 0 || on 1) (on 2) (or_left (on 0 || on 1 || on 2) (on 3) e))
    off (suc zero) = or_right (on 0) (on 1) (or_left (on 0 || on 1) (on 2) (or_left (on 0 || on 1 || on 2) (on 3) e))
    off (suc (suc zero)) = or_right (on 0 || on 1) (on 2) (or_left (on 0 || on 1 || on 2) (on 3) e)
    off (suc (suc (suc zero))) = or_right (on 0 || on 1 || on 2) (on 3) e
    off (suc (suc (suc (suc u)))) =
        let h : length marks ≤ suc (suc (suc (suc u))) = omega arith in
        ap (λ (m : Option ℕ). (is_some m)) (get_or-eq_default marks unmarked h)

-- ---- a step by the acting thread alone

-- its registers, from what its choice takes, are those of the machine's step
pub acted-from : (S : Set) (s : State) (c : Choice) (x : Thread) (i : Statement) (a w : ℕ) → x ≡ s.threads (actor c) → Operands S s c i a w → thread_from c i a w x ≡ acted S s c
unfolding acted executed
acted-from S s (Execute t) x i a w e o =
    let y = s.threads t in
    ap (λ (z : Thread). with_pc (next_pc i z) (row i.number i.argument a w z)) e
    ∙ ap₂ (λ (b v : ℕ). with_pc (next_pc i y) (row i.number i.argument b v y)) o.1 o.2
    ∙ ap (λ (j : Statement). executed j s.memory y) o.0
acted-from S s (Flush t) x i a w e o = ap flushed e

-- a set of this statement alone, and a state of these registers alone
abbrev pub set_with : Statement → Set
set_with i = record { threads = 0; count = λ t. 0; statement = λ t p. i }

abbrev pub state_with : Thread → (ℕ → ℕ) → State
state_with x memory = record { threads = λ t. x; marks = λ t. unmarked; memory = memory; ended = false; code = 0 }

module _ (S : Set) (m : Machine) (memory : ℕ → ℕ) where
  abbrev pub acting_in : Choice → Thread
  acting_in c = get_or m.threads (actor c) fresh

  pub written-by : (c : Choice) → written S (state_of m memory) c ≡ written_by c (statement_by S c (acting_in c)) (acting_in c) memory
  unfolding written
  written-by (Execute t) = refl
  written-by (Flush t) = refl

  pub reads-by : (c : Choice) → reads S (state_of m memory) c ≡ reads_by c (statement_by S c (acting_in c)) (acting_in c) memory
  unfolding reads
  reads-by (Execute t) = refl
  reads-by (Flush t) = refl

  pub shown_by : (c : Choice) → shown S (state_of m memory) c ≡ statement_by S c (acting_in c)
  unfolding shown
  shown_by (Execute t) = refl
  shown_by (Flush t) = refl

  allowed-by : (c : Choice) (waiting : Bool) → permitted_by c (current S (state_of m memory) (actor c)) (acting_in c) waiting ≡ permitted_by c (statement_by S c (acting_in c)) (acting_in c) waiting
  allowed-by (Execute t) w = refl
  allowed-by (Flush t) w = refl

  turned : (ended there permitted_by : Bool) → (not ended && (there && permitted_by)) ≡ (there && not ended && permitted_by)
  turned true true permitted_by = refl
  turned true false permitted_by = refl
  turned false true permitted_by = refl
  turned false false permitted_by = refl

  pub outcome-by : (known : ℕ → Bool) (c : Choice) →
      outcome S (record { state = state_of m memory; known = known }) c
      ≡ outcome_by (ltb (actor c) S.threads && not m.ended) c (statement_by S c (acting_in c)) (acting_in c) (waits S (λ u. get_or m.marks u unmarked) (get_or m.marks (actor c) unmarked)) memory known
  unfolding outcome waiting
  outcome-by known c =
      let w = waits S (λ u. get_or m.marks u unmarked) (get_or m.marks (actor c) unmarked) in
      ap₂ (λ (b : Bool) (cells : List ℕ). cond b (cond (knows_all known cells) Taken Lacking) NotPermitted)
      (ap (λ (b : Bool). not m.ended && b) (permitted-is S (state_of m memory) c ∙ ap (λ (b : Bool). ltb (actor c) S.threads && b) (allowed-by c w))
      ∙ turned m.ended (ltb (actor c) S.threads) (permitted_by c (statement_by S c (acting_in c)) (acting_in c) w))
      (reads-by c)

  -- the state by what the acting thread's choice does
  abbrev pub state_by : ℕ → Thread → Statement → (ℕ → Option ℕ) → (ℕ → ℕ) → State
  state_by t y i marks mem = record {
    threads = threads_settled (λ u. get_or m.threads u fresh) t y;
    marks = marks;
    memory = mem;
    ended = m.ended || eqb i.number EXIT || every S.threads (λ u. (threads_settled (λ v. get_or m.threads v fresh) t y u).halted);
    code = cond (eqb i.number EXIT) i.argument m.code;
  }

  step_by : (c : Choice) →
      let y = thread_by c (statement_by S c (acting_in c)) (acting_in c) memory in
      let i = statement_by S c (acting_in c) in
      state_by (actor c) y i (marks_settled S (λ u. get_or m.marks u unmarked) (actor c) i) (memory_after (written S (state_of m memory) c) memory) ≡ step S (state_of m memory) c
  unfolding step acted leaves_mark
  step_by (Execute t) = refl
  step_by (Flush t) = refl

  pub stepped : (c : Choice) (y : Thread) (i : Statement) (mem : ℕ → ℕ) →
      y ≡ thread_by c (statement_by S c (acting_in c)) (acting_in c) memory →
      i ≡ statement_by S c (acting_in c) →
      mem ≡ memory_after (written S (state_of m memory) c) memory →
      state_by (actor c) y i (marks_settled S (λ u. get_or m.marks u unmarked) (actor c) i) mem ≡ step S (state_of m memory) c
  stepped c y i mem p q s =
      ap (λ (j : Statement). state_by (actor c) y j (marks_settled S (λ u. get_or m.marks u unmarked) (actor c) j) mem) q
      ∙ ap₂ (λ (z : Thread) (k : ℕ → ℕ). state_by (actor c) z (statement_by S c (acting_in c)) (marks_settled S (λ u. get_or m.marks u unmarked) (actor c) (statement_by S c (acting_in c))) k) p s
      ∙ step_by c

  -- a step that changes neither marks nor end
  pub quiet-state : (t : ℕ) (y : Thread) (i : Statement) (mem : ℕ → ℕ) → length m.marks ≡ 4 → t < S.threads → quiet (λ u. get_or m.marks u unmarked) i y ≡ true →
      record { threads = threads_settled (λ u. get_or m.threads u fresh) t y; marks = λ u. get_or m.marks u unmarked; memory = mem; ended = m.ended; code = m.code }
      ≡ state_by t y i (marks_settled S (λ u. get_or m.marks u unmarked) t i) mem
  quiet-state t y i mem n l q =
      let marks : ℕ → Option ℕ = λ u. get_or m.marks u unmarked in
      let marked = (is_some (marks 0)) || (is_some (marks 1)) || (is_some (marks 2)) || (is_some (marks 3)) in
      let checks = eqb i.number CHECK in
      let exits = eqb i.number EXIT in
      let p = and_left (not marked && not y.halted && not checks) (not exits) q in
      let noexit = not-true exits (and_right (not marked && not y.halted && not checks) (not exits) q) in
      let nocheck = not-true checks (and_right (not marked && not y.halted) (not checks) p) in
      let r = and_left (not marked && not y.halted) (not checks) p in
      let halts = every-not (λ u. (threads_settled (λ v. get_or m.threads v fresh) t y u).halted) S.threads t l
      (ap (λ (z : Thread). z.halted) (chosen y (get_or m.threads t fresh) (eq-eqb t t refl)) ∙ not-true y.halted (and_right (not marked) (not y.halted) r)) in
      λ k. record {
        threads = threads_settled (λ u. get_or m.threads u fresh) t y;
        marks = (unmarked-stay S m.marks n (not-true marked (and_left (not marked) (not y.halted) r)) ∙ marks-cleared S marks t i nocheck) k;
        memory = mem;
        ended = sym (ap₂ (λ (a b : Bool). m.ended || a || b) noexit halts ∙ or_no (m.ended || false) ∙ or_no m.ended) k;
        code = sym (passed i.argument m.code noexit) k;
      }

-- ---- a step that is not taken

module _ (can : Bool) (c : Choice) (i : Statement) (x : Thread) (waiting : Bool) (addresses values : List ℕ) (filled : ℕ) (r : Stepped) where
  pub unmoved : (o : Outcome) (j : Statement) (read : Read) → on_taken o false true ≡ true → r ≡ not_taken o j filled read → j ≡ i →
      cells_of read ≡ on_permitted o (reads_by c i x (memory_of addresses values filled)) [] →
      o ≡ outcome_by can c i x waiting (memory_of addresses values filled) (known_of addresses filled) →
      Advances can c i x waiting (memory_of addresses values filled) (known_of addresses filled) filled r (memory_of addresses values r.filled) (known_of addresses r.filled)
  unmoved o j read n e s cells q =
      subst⁻¹ (λ (z : Stepped). Advances can c i x waiting (memory_of addresses values filled) (known_of addresses filled) filled z (memory_of addresses values z.filled) (known_of addresses z.filled)) e (go o n cells q)
    where
      go : (o : Outcome) → on_taken o false true ≡ true → cells_of read ≡ on_permitted o (reads_by c i x (memory_of addresses values filled)) [] →
          o ≡ outcome_by can c i x waiting (memory_of addresses values filled) (known_of addresses filled) →
          Advances can c i x waiting (memory_of addresses values filled) (known_of addresses filled) filled (not_taken o j filled read) (memory_of addresses values filled) (known_of addresses filled)
      go Taken n cells q = clash n refl
      go NotPermitted n cells q = record { came = q; stated = s; thread = refl; memory-is = refl; known_is = refl; wrote = refl; read = cells; more = omega arith }
      go Lacking n cells q = record { came = q; stated = s; thread = refl; memory-is = refl; known_is = refl; wrote = refl; read = cells; more = omega arith }
