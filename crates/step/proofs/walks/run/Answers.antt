-- `step::walks::run` meets its contract. Assumes nothing.
use Rattle.std.proofs.Common.{Bool, List, Option, Some, None, Result, Ok, Err, MatchResult, ap, append-nil, ap₂, arith, cond, get_or, length, length-set, length-take-le, ltb, not, refl, rules, set, subst, sym, take, true, ℕ, ◌%◌, ◌&&◌, ◌||◌, eqb, ◌*◌, ◌++◌, ◌+◌, ◌-◌, ◌<◌, ◌∙◌, ◌≡◌, ◌≤◌}
use mathlib.Core.Path.{subst⁻¹}
use Rattle.base.specs.Bytes.{placed}
use Rattle.base.specs.Below.{every}
use Rattle.records.specs.Instructions.{EXIT}
use Rattle.records.specs.Sets.{Set, set_by}
use Rattle.records.specs.declared.Layout.{Layout}
use Rattle.records.specs.declared.refusals.Refusal.{Refusal}
use Rattle.records.specs.declared.refusals.Refused.{Refused}
use Rattle.machine.specs.Held.{state_of, memory_of, known_of, known_in, held_of, cells_of}
use Rattle.machine.specs.Machine.{State, fresh, unmarked, no_write, actor, step, written, reads}
use Rattle.machine.specs.Maps.{Held, outcome, advanced, ran}
use Rattle.machine.specs.Runs.{end_of}
use Rattle.machine.specs.Traces.{step_bytes, trace_step, trace, step_length}
use Rattle.machine.specs.declared.Choice.{Choice}
use Rattle.machine.specs.declared.Machine.{Machine}
use Rattle.machine.specs.declared.Outcome.{Outcome}
use Rattle.machine.specs.declared.Outcome.TheVariants.{Taken}
use Rattle.machine.specs.declared.Run.{Run}
use Rattle.records.specs.declared.Cell.{Cell}
use Rattle.step.specs.Acting.{can_step, quiet, marks_settled}
use Rattle.step.specs.Runs.{unknown, refused_by, answered, Lacks, StopsAt, Begins}
use Rattle.step.specs.Step.{on_taken}
use Rattle.step.specs.Walks.{step_refusal, on_refusal, walked, walked_lacks, choices_from}
use Rattle.step.specs.declared.Stopped.{Stopped}
use Rattle.step.specs.declared.acting.Stepped.{Stepped}
use Rattle.step.proofs.Steps.{stands, rest, walked_next, Told, refused_so, shown-bytes, acting, wrote_so, quiet-held, loud_held, has_room_lem, end_is, trace-more, lacks-next, came-out, lacks-cell}
use Rattle.step.proofs.Stops.{names-lacking}
use Rattle.step.proofs.Cells.{prefix_known}
use Rattle.step.proofs.walks.run.Invariants.{Running}
use Rattle.step.proofs.walks.run.Goals.{then-not-quiet, else-not-quiet}
use Rattle.step.proofs.walks.run.Goals as goal

-- ---- a turn, once it is judged: choice c of thread t gave r, its record is b, and `agreed` says whether it agrees

module _ (setbytes : List ℕ) (layout : Layout) (choice : ℕ → Choice) (agrees : ℕ → List ℕ → Bool) (count : ℕ) (h₀ : Held) (bytes : List ℕ) (m : Machine) (addresses values : List ℕ) (filled : ℕ) (w : Option Cell) (i : ℕ)
    (few : layout.threads ≤ 4) (goes : i < count)
    (inv : Running (set_by setbytes layout) choice agrees count h₀ bytes m addresses values filled w i)
    (c : Choice) (chose : c ≡ choice i) (t : ℕ) (t-is : t ≡ actor c) (at : ℕ) (at-is : at ≡ t % 4) (r : Stepped) (adr val : List ℕ)
    (answer : Told (set_by setbytes layout) m (memory_of addresses values filled) (known_of addresses filled) c few (can_step layout m.ended (length addresses) (length values) filled c) at filled r (memory_of adr val r.filled) (known_of adr r.filled))
    (b : List ℕ) (b-is : b ≡ step_bytes t r.statement (get_or m.threads at fresh) w)
    (agreed : Bool) (agreed-is : agreed ≡ agrees i b) where
  abbrev S : Set
  S = set_by setbytes layout

  abbrev memory : ℕ → ℕ
  memory = memory_of addresses values filled

  abbrev known : ℕ → Bool
  known = known_of addresses filled

  abbrev held : Held
  held = record { state = state_of m memory; known = known }

  abbrev can : Bool
  can = can_step layout m.ended (length addresses) (length values) filled c

  abbrev later : ℕ → ℕ
  later = memory_of adr val r.filled

  abbrev knows : ℕ → Bool
  knows = known_of adr r.filled

  room : can ≡ (ltb (actor c) layout.threads && not m.ended)
  room = has_room_lem layout m.ended (length addresses) (length values) filled c (omega (arith, goes, inv.addresses-fit)) (omega (arith, goes, inv.values-fit))

  slot-is : at ≡ actor c % 4
  slot-is = at-is ∙ ap (λ (u : ℕ). u % 4) t-is

  told : Told S m memory known c few can (actor c % 4) filled r later knows
  told = subst (λ (u : ℕ). Told S m memory known c few can u filled r later knows) slot-is answer

  bytes-at : b ≡ step_bytes (actor c) r.statement (get_or m.threads (actor c % 4) fresh) w
  bytes-at = b-is ∙ ap₂ (λ (u k : ℕ). step_bytes u r.statement (get_or m.threads k fresh) w) t-is slot-is

  refused-as : step_refusal r.outcome agreed ≡ step_refusal (outcome S held c) (agrees i (trace_step S held.state w c))
  refused-as =
      ap (step_refusal r.outcome) (agreed-is ∙ ap (agrees i) bytes-at)
      ∙ refused_so S m memory known c few told room (agrees i) w

  abbrev rest_of : Result Run Refused
  rest_of = rest S choice agrees held w i c chose (count - i - 1)

  judged : walked S choice agrees h₀ no_write 0 count ≡ on_refusal (step_refusal r.outcome agreed) i rest_of
  judged =
      inv.answers
      ∙ walked_next S choice agrees held w i c chose (count - i) (omega arith)
      ∙ ap (λ (k : Option Refusal). on_refusal k i rest_of) (sym refused-as)

  abbrev lacks_of : ℕ
  lacks_of = walked_lacks S choice (advanced S held c) (i + 1) (count - i - 1)

  lacked : walked_lacks S choice h₀ 0 count ≡ on_taken r.outcome lacks_of (unknown known (reads S held.state c))
  lacked =
      inv.lacks
      ∙ lacks-next S choice agrees held w i c chose (count - i) (omega arith)
      ∙ ap (λ (o : Outcome). on_taken o lacks_of (unknown known (reads S held.state c))) (sym (came-out S m memory known c few told room))

  abbrev Judged : Result (Unit {0}) Stopped → Type 0
  Judged v = MatchResult v (λ _. step_refusal r.outcome agreed ≡ None) (StopsAt (step_refusal r.outcome agreed) i (unknown (known_in (take r.filled adr)) (cells_of r.read)))

  module _ (verdict : Result (Unit {0}) Stopped) (verdict-so : Judged verdict) where
    -- ---- where it is refused

    module _ (stopped : Stopped) (fits : r.filled ≤ length adr) (verdict-is : verdict ≡ Err stopped) where
      stops : StopsAt (step_refusal r.outcome agreed) i (unknown (known_in (take r.filled adr)) (cells_of r.read)) stopped
      stops = subst Judged verdict-is verdict-so

      refused : Err (refused_by stopped) ≡ walked S choice agrees h₀ no_write 0 count
      refused = go (step_refusal r.outcome agreed) stops ∙ sym judged
        where
          go : (o : Option Refusal) → StopsAt o i (unknown (known_in (take r.filled adr)) (cells_of r.read)) stopped → Err (refused_by stopped) ≡ on_refusal o i rest_of
          go None s = absurd s
          go (Some refusal) s = ap (λ (z : Refused). Err z) s.refused

      names : Lacks (Err stopped) (walked_lacks S choice h₀ 0 count)
      names =
          names-lacking i (walked_lacks S choice h₀ 0 count) r.outcome agreed _ stopped stops (λ o.
          ap (λ (k : ℕ → Bool). unknown k (cells_of r.read)) (prefix_known adr val r.filled fits)
          ∙ lacks-cell S m memory known c few told room o
          ∙ sym (lacked ∙ ap (λ (z : Outcome). on_taken z lacks_of (unknown known (reads S held.state c))) o))

    -- ---- where it is not refused

    module _ (u : Unit {0}) (verdict-is : verdict ≡ Ok u) (bytes' : List ℕ) (placed-is : bytes' ≡ placed bytes (step_length * i) b) (long : length bytes' ≡ length bytes)
        (long-adr : length adr ≡ length addresses) (long-val : length val ≡ length values) where
      stood : step_refusal r.outcome agreed ≡ None
      stood = subst Judged verdict-is verdict-so

      taken : r.outcome ≡ Taken
      taken = stands r.outcome agreed stood

      acts : actor c < layout.threads
      acts = acting S m memory known c few told room taken

      -- the trace so far has one step more
      traced-on : step_length * count ≤ length bytes' →
          trace S h₀.state no_write (choices_from choice 0 count)
          ≡ take (step_length * (i + 1)) bytes' ++ trace S (step S held.state c) (written S held.state c) (choices_from choice (i + 1) (count - i - 1))
      traced-on fits =
          inv.traces (omega (arith, fits, long))
          ∙ trace-more S choice agrees held w i c chose (count - i) (omega arith) bytes (omega (arith, fits, long, goes))
          ∙ ap (λ (bs : List ℕ). take (step_length * (i + 1)) bs ++ trace S (step S held.state c) (written S held.state c) (choices_from choice (i + 1) (count - i - 1)))
          (sym (placed-is ∙ ap (placed bytes (step_length * i)) (bytes-at ∙ shown-bytes S m memory known c few told room acts w)))

      -- the loop goes on with a machine that the step made
      goes_on : (m' : Machine) → length m'.threads ≡ 4 → length m'.marks ≡ 4 → record { state = state_of m' later; known = knows } ≡ advanced S held c →
          Running S choice agrees count h₀ bytes' m' adr val r.filled r.wrote (i + 1)
      unfolding advanced
      goes_on m' threads marks h =
          let more = told.more in
          let v = wrote_so S m memory known c few told room taken in
          let left : count - i - 1 ≡ count - (i + 1) = omega arith in
          record {
            addresses-fit = omega (arith, inv.addresses-fit, long-adr, more);
            values-fit = omega (arith, inv.values-fit, long-val, more);
            answers =
                judged ∙ ap (λ (k : Option Refusal). on_refusal k i rest_of) stood
                ∙ ap₂ (λ (k : Held) (z : Option Cell). walked S choice agrees k z (i + 1) (count - i - 1)) (sym h) (sym v)
                ∙ ap (walked S choice agrees (held_of m' adr val r.filled) r.wrote (i + 1)) left;
            lacks =
                lacked ∙ ap (λ (o : Outcome). on_taken o lacks_of (unknown known (reads S held.state c))) taken
                ∙ ap₂ (λ (k : Held) (n : ℕ). walked_lacks S choice k (i + 1) n) (sym h) left;
            traces = λ f.
                traced-on f
                ∙ ap₂ (λ (s : State) (z : Option Cell). take (step_length * (i + 1)) bytes' ++ trace S s z (choices_from choice (i + 1) (count - i - 1))) (ap (λ (k : Held). k.state) (sym h)) (sym v)
                ∙ ap (λ (n : ℕ). take (step_length * (i + 1)) bytes' ++ trace S (state_of m' later) r.wrote (choices_from choice (i + 1) n)) left;
            threads = threads;
            marks = marks;
          }

      -- either with marks and end as they were
      goes-quietly : quiet (λ u. get_or m.marks u unmarked) r.statement r.thread ≡ true →
          Running S choice agrees count h₀ bytes' (record { threads = set m.threads at r.thread; marks = m.marks; ended = m.ended; code = m.code }) adr val r.filled r.wrote (i + 1)
      goes-quietly q =
          let m' : Machine = record { threads = set m.threads at r.thread; marks = m.marks; ended = m.ended; code = m.code } in
          goes_on m' (length-set m.threads at r.thread ∙ inv.threads) inv.marks
          (quiet-held S m memory known c few told room taken m' (ap (λ (u : ℕ). set m.threads u r.thread) slot-is) inv.threads refl refl refl inv.marks q)

      -- or with those made anew
      goes-loudly : (marks : List (Option ℕ)) (ended : Bool) (code : ℕ) → length marks ≡ 4 →
          (λ u. get_or marks u unmarked) ≡ cond (ltb t 4) (marks_settled S (λ v. get_or m.marks v unmarked) t r.statement) (λ v. get_or m.marks v unmarked) →
          ended ≡ (m.ended || eqb r.statement.number EXIT || every layout.threads (λ u. (get_or (set m.threads at r.thread) u fresh).halted)) →
          code ≡ cond (eqb r.statement.number EXIT) r.statement.argument m.code →
          Running S choice agrees count h₀ bytes' (record { threads = set m.threads at r.thread; marks = marks; ended = ended; code = code }) adr val r.filled r.wrote (i + 1)
      goes-loudly marks ended code four marks-are ended-is code-is =
          let m' : Machine = record { threads = set m.threads at r.thread; marks = marks; ended = ended; code = code } in
          goes_on m' (length-set m.threads at r.thread ∙ inv.threads) four
          (loud_held S m memory known c few told room taken m' (ap (λ (u : ℕ). set m.threads u r.thread) slot-is) inv.threads
          (marks-are ∙ ap {B = ℕ → Option ℕ} (λ (u : ℕ). cond (ltb u 4) (marks_settled S (λ v. get_or m.marks v unmarked) u r.statement) (λ v. get_or m.marks v unmarked)) t-is)
          ended-is
          code-is)

-- what a run gives that is stopped
stopped-so : (answer : Result Run Refused) (cell : ℕ) (P : Type 0) (tr bytes : List ℕ) (r : Result Run Stopped) (stopped : Stopped) → r ≡ Err stopped →
    Err (refused_by stopped) ≡ answer → Lacks (Err stopped) cell → (answered r ≡ answer) × Lacks r cell × (P → Begins r tr bytes)
stopped-so answer cell P tr bytes r stopped e refusing naming =
    subst⁻¹ (λ (z : Result Run Stopped). (answered z ≡ answer) × Lacks z cell × (P → Begins z tr bytes)) e (refusing, naming, λ p. tt)

pub returns-in_err-judge : goal.returns-in_err-judge
returns-in_err-judge g c =
    let a = c.args in
    let l = c.loop-step in
    let goes : l.step < g.T.Steps.count a.steps.now = omega (arith, c.loop-step-test.true, c.count-count.ensures) in
    let stopped = c.in_err-judge.field-0.0 in
    let fits : c.advance-s.result.filled ≤ length c.advance-s.new.addresses = omega (arith, goes, l.invariant.addresses-fit, c.advance-s.auto.addresses, c.advance-s.ensures.more) in
    stopped-so _ _ _ _ _ c.from_residual.result stopped (search rules)
    (refused a.set.now a.layout (g.T.Steps.choice a.steps.now) (g.T.Steps.agrees a.steps.now) (g.T.Steps.count a.steps.now) (held_of a.first a.addresses.now a.values.now a.cells)
    l.trace l.m l.addresses l.values l.filled l.wrote l.step c.requires.0 goes l.invariant
    c.choice-choice.result c.choice-choice.ensures c.actor-t.result c.actor-t.ensures c.from-at.result c.from-at.ensures c.advance-s.result c.advance-s.new.addresses c.advance-s.new.values c.advance-s.ensures
    c.step_bytes-bytes.result c.step_bytes-bytes.ensures c.agrees-agreed.result c.agrees-agreed.ensures c.judge.result c.judge.ensures stopped fits c.in_err-judge.was)
    (names a.set.now a.layout (g.T.Steps.choice a.steps.now) (g.T.Steps.agrees a.steps.now) (g.T.Steps.count a.steps.now) (held_of a.first a.addresses.now a.values.now a.cells)
    l.trace l.m l.addresses l.values l.filled l.wrote l.step c.requires.0 goes l.invariant
    c.choice-choice.result c.choice-choice.ensures c.actor-t.result c.actor-t.ensures c.from-at.result c.from-at.ensures c.advance-s.result c.advance-s.new.addresses c.advance-s.new.values c.advance-s.ensures
    c.step_bytes-bytes.result c.step_bytes-bytes.ensures c.agrees-agreed.result c.agrees-agreed.ensures c.judge.result c.judge.ensures stopped fits c.in_err-judge.was)

pub loop-step-preserved : goal.loop-step-preserved
loop-step-preserved g c =
    let a = c.args in
    let l = c.loop-step in
    let goes : l.step < g.T.Steps.count a.steps.now = omega (arith, c.loop-step-test.true, c.count-count.ensures) in
    let k = c.advance-s.auto in
    let Next : Machine → Type 0 = λ m.
    Running (set_by a.set.now a.layout) (g.T.Steps.choice a.steps.now) (g.T.Steps.agrees a.steps.now) (g.T.Steps.count a.steps.now) (held_of a.first a.addresses.now a.values.now a.cells) c.place.new.out
    m c.advance-s.new.addresses c.advance-s.new.values c.advance-s.result.filled c.advance-s.result.wrote (l.step + 1) in
    elim c.if-not-quiet.branch [
      | then-not-quiet w ↦
          let four : length w.marks_after-after.result ≡ 4 = search rules in
          subst⁻¹ Next w.m-is
          (goes-loudly a.set.now a.layout (g.T.Steps.choice a.steps.now) (g.T.Steps.agrees a.steps.now) (g.T.Steps.count a.steps.now) (held_of a.first a.addresses.now a.values.now a.cells)
          l.trace l.m l.addresses l.values l.filled l.wrote l.step c.requires.0 goes l.invariant
          c.choice-choice.result c.choice-choice.ensures c.actor-t.result c.actor-t.ensures c.from-at.result c.from-at.ensures c.advance-s.result c.advance-s.new.addresses c.advance-s.new.values c.advance-s.ensures
          c.step_bytes-bytes.result c.step_bytes-bytes.ensures c.agrees-agreed.result c.agrees-agreed.ensures c.judge.result c.judge.ensures c.in_ok-judge.field-0 c.in_ok-judge.was c.place.new.out c.place.ensures c.place.auto.out k.addresses k.values
          w.marks_after-after.result w.ended_after.result w.code_after.result four w.marks_after-after.ensures w.ended_after.ensures w.code_after.ensures)
      | else-not-quiet w ↦
          subst⁻¹ Next w.m-is
          (goes-quietly a.set.now a.layout (g.T.Steps.choice a.steps.now) (g.T.Steps.agrees a.steps.now) (g.T.Steps.count a.steps.now) (held_of a.first a.addresses.now a.values.now a.cells)
          l.trace l.m l.addresses l.values l.filled l.wrote l.step c.requires.0 goes l.invariant
          c.choice-choice.result c.choice-choice.ensures c.actor-t.result c.actor-t.ensures c.from-at.result c.from-at.ensures c.advance-s.result c.advance-s.new.addresses c.advance-s.new.values c.advance-s.ensures
          c.step_bytes-bytes.result c.step_bytes-bytes.ensures c.agrees-agreed.result c.agrees-agreed.ensures c.judge.result c.judge.ensures c.in_ok-judge.field-0 c.in_ok-judge.was c.place.new.out c.place.ensures c.place.auto.out k.addresses k.values (sym c.quiet.ensures ∙ w.if-not-quiet.false))
    ]

-- where all steps are taken the rest is the end, and the bytes so far are the trace
at_end : (S : Set) (choice : ℕ → Choice) (agrees : ℕ → List ℕ → Bool) (count : ℕ) (h₀ : Held) (bytes : List ℕ) (m : Machine) (addresses values : List ℕ) (filled : ℕ) (w : Option Cell) (i : ℕ) →
    Running S choice agrees count h₀ bytes m addresses values filled w i → i ≡ count →
    (walked S choice agrees h₀ no_write 0 count ≡ ran count (end_of S (state_of m (memory_of addresses values filled))))
    × (step_length * count ≤ length bytes → let tr = trace S h₀.state no_write (choices_from choice 0 count) in take (length tr) bytes ≡ tr)
unfolding walked trace choices_from
at_end S choice agrees count h₀ bytes m addresses values filled w i inv e =
    let z : count - i ≡ 0 = omega arith in (
      inv.answers ∙ ap (walked S choice agrees (held_of m addresses values filled) w i) z ∙ ap (λ (n : ℕ). ran n (end_of S (state_of m (memory_of addresses values filled)))) e,
      λ fits.
          let q = inv.traces fits ∙ ap (λ (n : ℕ). take (step_length * i) bytes ++ trace S (state_of m (memory_of addresses values filled)) w (choices_from choice i n)) z ∙ append-nil (take (step_length * i) bytes) in
          ap (λ (n : ℕ). take n bytes) (ap length q ∙ length-take-le (step_length * i) bytes (omega (arith, fits))) ∙ sym q,
    )

pub returns : goal.returns
returns g c =
    let a = c.args in
    let l = c.loop-step in
    let n = c.count-count.ensures in
    let whole : l.step ≡ g.T.Steps.count a.steps.now = omega (arith, c.loop-step-test.false, l.auto.step-end, n) in
    let S = set_by a.set.now a.layout in
    let last = at_end S (g.T.Steps.choice a.steps.now) (g.T.Steps.agrees a.steps.now) (g.T.Steps.count a.steps.now) (held_of a.first a.addresses.now a.values.now a.cells) l.trace l.m l.addresses l.values l.filled l.wrote l.step l.invariant whole in
    let memory = memory_of l.addresses l.values l.filled in (
      ap₂ ran n (c.end_of-end.ensures memory ∙ end_is a.layout S (state_of l.m memory) c.requires.0) ∙ sym last.0,
      tt,
      λ fits. last.1 (omega (arith, fits, l.auto.trace)),
    )
