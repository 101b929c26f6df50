-- Demand 2 for runs (specs/Runs.antt states it): to replay a trace is to follow the run that its steps show.
-- Assumes nothing.
use Prim.Native.Nat.{ℕ, zero, suc, ◌*◌, ◌/◌, ◌%◌, ◌≤◌, ◌<◌}
use mathlib.Core.Path.{◌≡◌, refl, ap, ap₂, sym, ◌∙◌}
use mathlib.Core.Bool.{true, cond, ◌&&◌}
use mathlib.Core.List.{List, [], ◌∷◌, ◌++◌}
use native.Mathlib.Omega.{arith}
use Rattle.std.specs.Prelude.{Result, Option}
use lib.Dec.{eqb, ltb, leb}
use lib.ListN.{length, take, drop, length-drop, take-append-drop}
use borrow.Author.Tests.{ltb-false, le-ltb, eqb-true, eq-eqb, leb-true, le-leb}
use Rattle.base.specs.Bytes.{same}
use Rattle.base.proofs.Choice.{chosen, passed, and_true, and_left, and_right}
use Rattle.records.specs.Maps.{map_accepted, map_value, run_cells}
use Rattle.records.specs.Sets.{Set, set_of, set_accepted, WellFormedSet}
use Rattle.machine.specs.Machine.{State, start, actor, step, written, no_write}
use Rattle.machine.specs.Runs.{choices, takes, is_run}
use Rattle.machine.specs.Maps.{Held, begin, outcome, advanced, on_outcome, follow, retrace, ran, refused_at}
use Rattle.machine.specs.Traces.{trace_step, trace, step_choice, step_length}
use Rattle.machine.specs.declared.Run.{Run}
use Rattle.records.specs.declared.refusals.Refusal.TheVariants.{NotPermitted, Differs}
use Rattle.records.specs.declared.refusals.Refused.{Refused}
use Rattle.machine.specs.declared.Choice.{Choice}
use Rattle.machine.specs.declared.Choice.TheVariants.{Execute, Flush}
use Rattle.machine.specs.declared.End.{End}
use Rattle.records.specs.declared.Cell.{Cell}
use Rattle.base.proofs.Bytes.{same_self, same_equal}
use Rattle.records.proofs.Sets.{well-formed}
use Rattle.machine.proofs.Runs.{ran-after, ran_where, ran-taken}
use Rattle.machine.proofs.Runs.{Inside, inside-start, inside-step, takes-actor, run-first, run-rest}
use Rattle.machine.proofs.Runs.{schedule_of, schedule, schedule-choices, choices-schedule, length-choices, length-schedule}
use Rattle.machine.proofs.Runs.{AllTaken, taken-takes, taken-run, follow-ran}
use Rattle.machine.proofs.Runs.{length-trace, take-trace, drop-trace, step_choice-trace, step_choices, length-step_choices, step_choices-trace}
use Rattle.simulation.specs.Simulation.{simulated, limited, schedule_trace}
use Rattle.replay.specs.Replay.{replayed, limited_trace}
use Rattle.claims.specs.Runs.{AreBytes, Simulates, ReplayAcceptsWhatSimulationWrites, OneSchedule, SimulationRuns}

-- ---- replay and the run that a trace shows

-- one step of a trace, its choice taken to be c
abbrev retrace_by : Set → Held → Option Cell → ℕ → ℕ → List ℕ → Choice → Result Run Refused
retrace_by S h w i n bytes c =
    cond (takes S h.state c)
    (cond (same (take step_length bytes) (trace_step S h.state w c))
    (on_outcome (outcome S h c) i (retrace S (advanced S h c) (written S h.state c) (suc i) n (drop step_length bytes)))
    (refused_at Differs i))
    (refused_at NotPermitted i)

-- to retrace a run's own trace is to follow the run
pub retrace-trace : (S : Set) (h : Held) (w : Option Cell) (i : ℕ) (run : List Choice) → WellFormedSet S → Inside S h.state.threads →
    AllTaken S h run → retrace S h w i (length run) (trace S h.state w run) ≡ follow S h i run
unfolding retrace follow advanced
retrace-trace S h w i [] well inside taken = refl
retrace-trace S h w i (c ∷ run) well inside taken =
    let bytes = trace S h.state w (c ∷ run) in
    let own = trace_step S h.state w c in
    let t = taken-takes S h c taken.0 in
    ap (retrace_by S h w i (length run) bytes) (step_choice-trace S h.state w c run well inside t)
    ∙ chosen _ _ t
    ∙ chosen _ _ (ap (λ (b : List ℕ). same b own) (take-trace S h.state w c run) ∙ same_self own)
    ∙ ap (on_outcome (outcome S h c) i)
    (ap (retrace S (advanced S h c) (written S h.state c) (suc i) (length run)) (drop-trace S h.state w c run)
    ∙ retrace-trace S (advanced S h c) (written S h.state c) (suc i) run well (inside-step S well h.state c inside) taken.1)

none_left : (bytes : List ℕ) → length bytes ≡ 0 → bytes ≡ []
none_left [] e = refl
none_left (b ∷ bytes) e = absurd (omega arith)

-- what is retraced to an end is the trace of the run that its steps show, and that run is followed to that end
pub retrace-ran : (S : Set) (h : Held) (w : Option Cell) (i n : ℕ) (bytes : List ℕ) (m : ℕ) (e : End) → length bytes ≡ step_length * n →
    retrace S h w i n bytes ≡ ran m e →
    (follow S h i (step_choices n bytes) ≡ ran m e) × (bytes ≡ trace S h.state w (step_choices n bytes))
unfolding retrace follow advanced step_choices trace
retrace-ran S h w i zero bytes m e l p = (p, none_left bytes (omega arith))
retrace-ran S h w i (suc n) bytes m e l p =
    let c = step_choice bytes in
    let (t, p₁) = ran_where (takes S h.state c) _ p in
    let (s, p₂) = ran_where (same (take step_length bytes) (trace_step S h.state w c)) _ p₁ in
    let (o, p₃) = ran-taken (outcome S h c) i p₂ in
    let l₁ : length (drop step_length bytes) ≡ step_length * n = simp length-drop (omega arith) in
    let (f, q) = retrace-ran S (advanced S h c) (written S h.state c) (suc i) n (drop step_length bytes) m e l₁ p₃ in (
      ap (λ x. on_outcome x i (follow S (advanced S h c) (suc i) (step_choices n (drop step_length bytes)))) o ∙ f,
      sym (take-append-drop step_length bytes) ∙ ap₂ ◌++◌ (same_equal (take step_length bytes) (trace_step S h.state w c) s) q,
    )

-- ---- calls that are not refused

-- the set and the map are accepted, and the schedule's choices are followed over the map, n steps to the end e
pub record SimulatedTo (set map schedule : List ℕ) (n : ℕ) (e : End) : Type 0 where
  pub accepted : (set_accepted set && map_accepted run_cells map) ≡ true
  pub few : length schedule ≤ 64
  pub followed : follow (set_of set) (begin map) 0 (choices schedule) ≡ ran n e

pub simulated-ran : (set map schedule : List ℕ) (room n : ℕ) (e : End) → simulated set map schedule room ≡ ran n e →
    SimulatedTo set map schedule n e
unfolding simulated limited
simulated-ran set map schedule room n e p =
    let (a, p₁) = ran_where (set_accepted set && map_accepted run_cells map) _ p in
    let (b, p₂) = ran-after (ltb 64 (length schedule)) _ p₁ in
    let (c, p₃) = ran-after (ltb room (step_length * length schedule)) _ p₂ in
    record { accepted = a; few = ltb-false 64 (length schedule) b; followed = p₃ }

pub ran-simulated : (set map schedule : List ℕ) (n : ℕ) (e : End) → SimulatedTo set map schedule n e →
    simulated set map schedule (step_length * length schedule) ≡ ran n e
unfolding simulated limited
ran-simulated set map schedule n e s =
    chosen _ _ s.accepted
    ∙ passed _ _ (le-ltb 64 (length schedule) s.few)
    ∙ passed _ _ (le-ltb (step_length * length schedule) (step_length * length schedule) (omega arith))
    ∙ s.followed

-- the set and the map are accepted, and the whole records of a trace are retraced over the map, n steps to the end e
pub record ReplayedTo (set map bytes : List ℕ) (n : ℕ) (e : End) : Type 0 where
  pub accepted : (set_accepted set && map_accepted run_cells map) ≡ true
  pub whole : length bytes ≡ step_length * (length bytes / step_length)
  pub few : length bytes / step_length ≤ 64
  pub retraced : retrace (set_of set) (begin map) no_write 0 (length bytes / step_length) bytes ≡ ran n e

pub replayed-ran : (set map bytes : List ℕ) (n : ℕ) (e : End) → replayed set map bytes ≡ ran n e → ReplayedTo set map bytes n e
unfolding replayed limited_trace
replayed-ran set map bytes n e p =
    let (a, p₁) = ran_where (set_accepted set && map_accepted run_cells map) _ p in
    let (b, p₂) = ran_where (eqb (length bytes % step_length) 0 && leb (length bytes / step_length) 64) _ p₁ in
    let z = eqb-true (length bytes % step_length) 0 (and_left (eqb (length bytes % step_length) 0) (leb (length bytes / step_length) 64) b) in
    let few = leb-true (length bytes / step_length) 64 (and_right (eqb (length bytes % step_length) 0) (leb (length bytes / step_length) 64) b) in
    record { accepted = a; whole = omega arith; few = few; retraced = p₂ }

pub ran-replayed : (set map bytes : List ℕ) (n : ℕ) (e : End) → ReplayedTo set map bytes n e → replayed set map bytes ≡ ran n e
unfolding replayed limited_trace
ran-replayed set map bytes n e r =
    let whole = r.whole in
    chosen _ _ r.accepted
    ∙ chosen _ _ (and_true (eq-eqb (length bytes % step_length) 0 (omega arith)) (le-leb (length bytes / step_length) 64 r.few))
    ∙ r.retraced

-- a run's schedule is made of bytes
pub schedule-bytes : (S : Set) (s : State) (run : List Choice) → S.threads ≤ 128 → is_run S s run ≡ true → AreBytes (schedule run)
unfolding schedule
schedule-bytes S s [] h e = tt
schedule-bytes S s (c ∷ run) h e =
    (byte c (takes-actor S s c (run-first S s c run e)), schedule-bytes S (step S s c) run h (run-rest S s c run e))
  where
    byte : (c : Choice) → actor c < S.threads → schedule_of c < 256
    byte (Execute t) l = omega arith
    byte (Flush t) l = omega arith

-- ---- the claims

pub simulation_runs : SimulationRuns
unfolding begin
simulation_runs set map schedule room n e p =
    let f = follow-ran (set_of set) (begin map) 0 (choices schedule) n e (simulated-ran set map schedule room n e p).followed in
    record {
      run = taken-run (set_of set) (begin map) (choices schedule) f.taken;
      steps = f.steps ∙ omega (arith, length-choices schedule);
      end = f.end;
    }

well-set : (set map : List ℕ) → (set_accepted set && map_accepted run_cells map) ≡ true → WellFormedSet (set_of set)
well-set set map a = well-formed set (and_left (set_accepted set) (map_accepted run_cells map) a)

-- simulation's trace shows its schedule
schedule-shown : (set map bytes : List ℕ) (n : ℕ) (e : End) (out : List ℕ) → Simulates set map bytes n e out →
    bytes ≡ schedule (step_choices n out)
unfolding schedule_trace
schedule-shown set map bytes n e out s =
    let S = set_of set in
    let sim = simulated-ran set map bytes (step_length * length bytes) n e s.answer in
    let well = well-set set map sim.accepted in
    let r = simulation_runs set map bytes (step_length * length bytes) n e s.answer in
    let shown = step_choices-trace S (start (map_value map)) no_write (choices bytes) well (inside-start S well (map_value map)) r.run in
    sym (schedule-choices bytes)
    ∙ ap schedule (sym shown ∙ ap₂ step_choices (length-choices bytes ∙ sym r.steps) s.writes)

pub one-schedule : OneSchedule
one-schedule set map first second out n e b c s t =
    schedule-shown set map first n e out s ∙ sym (schedule-shown set map second n e out t)

-- what replay accepts, simulation writes; what simulation writes, replay accepts
simulation_writes : (set map bytes : List ℕ) (n : ℕ) (e : End) → replayed set map bytes ≡ ran n e →
    (schedule : List ℕ) × AreBytes schedule × Simulates set map schedule n e bytes
unfolding begin schedule_trace
simulation_writes set map bytes n e p =
    let S = set_of set in
    let r = replayed-ran set map bytes n e p in
    let well = well-set set map r.accepted in
    let run = step_choices (length bytes / step_length) bytes in
    let (f, t) = retrace-ran S (begin map) no_write 0 (length bytes / step_length) bytes n e r.whole r.retraced in
    let four = well.four_threads in
    let q = taken-run S (begin map) run (follow-ran S (begin map) 0 run n e f).taken in
    let back = choices-schedule S (start (map_value map)) run (omega arith) q in
    let few = r.few in (
      schedule run,
      schedule-bytes S (start (map_value map)) run (omega arith) q,
      record {
        answer = ran-simulated set map (schedule run) n e (record {
          accepted = r.accepted;
          few = omega (arith, length-schedule run, length-step_choices (length bytes / step_length) bytes);
          followed = ap (follow S (begin map) 0) back ∙ f;
        });
        writes = ap (trace S (start (map_value map)) no_write) back ∙ sym t;
      },
    )

replay_accepts : (set map bytes schedule : List ℕ) (n : ℕ) (e : End) → Simulates set map schedule n e bytes →
    replayed set map bytes ≡ ran n e
unfolding begin schedule_trace
replay_accepts set map bytes schedule n e s =
    let S = set_of set in
    let sim = simulated-ran set map schedule (step_length * length schedule) n e s.answer in
    let well = well-set set map sim.accepted in
    let run = choices schedule in
    let taken = (follow-ran S (begin map) 0 run n e sim.followed).taken in
    let long : length bytes ≡ step_length * length run = ap length (sym s.writes) ∙ length-trace S (start (map_value map)) no_write run in
    let steps : length bytes / step_length ≡ length run = omega arith in
    let few = sim.few in
    ran-replayed set map bytes n e (record {
      accepted = sim.accepted;
      whole = omega arith;
      few = omega (arith, length-choices schedule);
      retraced = ap₂ (retrace S (begin map) no_write 0) steps (sym s.writes)
          ∙ retrace-trace S (begin map) no_write 0 run well (inside-start S well (map_value map)) taken
          ∙ sim.followed;
    })

pub replay_accepts_what_simulation_writes : ReplayAcceptsWhatSimulationWrites
replay_accepts_what_simulation_writes set map bytes n e =
    (simulation_writes set map bytes n e, λ w. replay_accepts set map bytes w.0 n e w.2)
