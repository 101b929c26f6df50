-- Laws of runs: each thread stands at one of its statements, what a run followed over a map amounts to, and what schedules and traces
-- show of their runs. Assumes nothing.
use Prim.Native.Nat.{ℕ, zero, suc, ◌+◌, ◌-◌, ◌*◌, ◌≤◌, ◌<◌}
use mathlib.Core.Path.{◌≡◌, refl, ap, ap₂, sym, ◌∙◌, subst, subst⁻¹}
use mathlib.Core.Bool.{Bool, true, false, cond, not, ◌||◌}
use mathlib.Core.List.{List, [], ◌∷◌, ◌++◌}
use native.Mathlib.Omega.{arith}
use native.Mathlib.Decide.{dec_lt}
use Rattle.std.specs.Prelude.{Result, Ok, Err, Option}
use lib.Dec.{eqb, ltb}
use lib.ListN.{length, take, drop, length-append}
use lib.Seq.{take_at, drop_at, get_or-take}
use borrow.Author.Tests.{ltb-true, ltb-false, lt-ltb, le-ltb, eqb-true, ne_eqb}
use Rattle.base.proofs.Choice.{chosen, passed, and_true, and_left, and_right, clash}
use Rattle.records.specs.Instructions.{JMP, JZ, JNZ, JS, JNS, JNZNS, HALT, EXIT, instructions, is_jump, is_last}
use Rattle.records.specs.Sets.{Set, WellFormedSet}
use Rattle.records.specs.declared.refusals.Refused.{Refused}
use Rattle.machine.specs.Machine.{State, start, current, jumps, next_pc, executed, permitted, actor, acted, written, reads, step}
use Rattle.machine.specs.Runs.{flush_byte, choice_of, choices, takes, is_run, after, end_of}
use Rattle.machine.specs.Maps.{Held, knows_all, outcome, advanced, ran, refused_at, on_outcome, follow}
use Rattle.machine.specs.Traces.{bit, shown, step_bytes, trace_step, trace, step_choice, step_length}
use Rattle.machine.specs.declared.Choice.{Choice}
use Rattle.machine.specs.declared.Choice.TheVariants.{Execute, Flush}
use Rattle.machine.specs.declared.End.{End}
use Rattle.machine.specs.declared.Outcome.{Outcome}
use Rattle.machine.specs.declared.Outcome.TheVariants.{Taken, NotPermitted, Lacking}
use Rattle.machine.specs.declared.Run.{Run}
use Rattle.machine.specs.declared.Thread.{Thread}
use Rattle.records.specs.declared.Cell.{Cell}

-- ---- answers

-- no answer is both a refusal and a run
pub refused-ran : {A : Type 0} {r : Refused} {run : Run} → Err r ≡ Ok run → A
refused-ran p = cc

-- answers that are the same are of one run
pub same_run : {a b : Run} → ran a.steps a.end ≡ ran b.steps b.end → a ≡ b
same_run p = cc

-- refusals that are the same are of one refusal and place
pub same_refused : {r s : Refused} → refused_at r.refusal r.place ≡ refused_at s.refusal s.place → r ≡ s
same_refused p = cc

-- what ran was refused by no test before it
pub ran-after : (b : Bool) (r : Refused) {run : Run} {rest : Result Run Refused} → cond b (Err r) rest ≡ Ok run → (b ≡ false) × (rest ≡ Ok run)
ran-after true r p = refused-ran p
ran-after false r p = (refl, p)

pub ran_where : (b : Bool) (r : Refused) {run : Run} {rest : Result Run Refused} → cond b rest (Err r) ≡ Ok run → (b ≡ true) × (rest ≡ Ok run)
ran_where true r p = (refl, p)
ran_where false r p = refused-ran p

pub ran-taken : (o : Outcome) (i : ℕ) {run : Run} {rest : Result Run Refused} → on_outcome o i rest ≡ Ok run → (o ≡ Taken) × (rest ≡ Ok run)
ran-taken Taken i p = (refl, p)
ran-taken NotPermitted i p = refused-ran p
ran-taken Lacking i p = refused-ran p

-- ---- each thread stands at one of its statements

abbrev pub Inside : Set → (ℕ → Thread) → Type 0
Inside S threads = (t : ℕ) → t < S.threads → (threads t).pc < S.count t

-- what jumps is a jump
pub jumps-jump : (n accu : ℕ) → jumps n accu ≡ true → is_jump n ≡ true
unfolding jumps
jumps-jump n accu = go (eqb n JMP) (eqb n JZ) (eqb n JNZ) (eqb n JS) (eqb n JNS) (eqb n JNZNS) _ _ _ _ _
  where
    go : (a b c d e f v w x y z : Bool) → cond a true (cond b v (cond c w (cond d x (cond e y (cond f z false))))) ≡ true
        → (a || b || c || d || e || f) ≡ true
    go true b c d e f v w x y z h = refl
    go false true c d e f v w x y z h = refl
    go false false true d e f v w x y z h = refl
    go false false false true e f v w x y z h = refl
    go false false false false true f v w x y z h = refl
    go false false false false false true v w x y z h = refl
    go false false false false false false v w x y z h = h

-- HALT, EXIT and what is no instruction stay at their pc
abbrev stays : ℕ → Bool
stays n = eqb n HALT || eqb n EXIT || not (ltb n instructions)

-- what may end a thread never goes to pc + 1
last-jumps : (n accu : ℕ) → is_last n ≡ true → stays n ≡ false → jumps n accu ≡ true
unfolding jumps
last-jumps n accu = go (eqb n EXIT) (eqb n JMP) (eqb n HALT) (not (ltb n instructions)) _
  where
    go : (a b c d r : Bool) → (a || b || c) ≡ true → (c || a || d) ≡ false → cond b true r ≡ true
    go a true c d r h k = refl
    go true false true d r h k = clash refl k
    go true false false d r h k = clash refl k
    go false false true d r h k = clash refl k
    go false false false d r h k = clash h refl

module _ (S : Set) (well : WellFormedSet S) where
  next-inside : (t : ℕ) (x : Thread) → t < S.threads → x.pc < S.count t → next_pc (S.statement t x.pc) x < S.count t
  unfolding next_pc
  next-inside t x h k = go (stays n) refl (jumps n x.accu) refl (dec_lt (suc x.pc) (S.count t))
    where
      n : ℕ
      n = (S.statement t x.pc).number

      within : {p : ℕ} → next_pc (S.statement t x.pc) x ≡ p → p < S.count t → next_pc (S.statement t x.pc) x < S.count t
      within e l = omega arith

      at_last : S.count t ≤ suc x.pc → is_last n ≡ true
      at_last l =
          let e : S.count t - 1 ≡ x.pc = omega arith in
          subst (λ (p : ℕ). is_last (S.statement t p).number ≡ true) e (well.lasts t h)

      go : (a : Bool) → stays n ≡ a → (b : Bool) → jumps n x.accu ≡ b → Dec (suc x.pc < S.count t)
          → next_pc (S.statement t x.pc) x < S.count t
      go true e b f d = within (chosen _ _ e) k
      go false e true f d = within (passed _ _ e ∙ chosen _ _ f) (well.targets t x.pc k (jumps-jump n x.accu f))
      go false e false f (yes l) = within (passed _ _ e ∙ passed _ _ f) l
      go false e false f (no l) = clash (last-jumps n x.accu (at_last (omega arith)) e) f

  acted-inside : (s : State) (c : Choice) → Inside S s.threads → actor c < S.threads → (acted S s c).pc < S.count (actor c)
  unfolding acted executed
  acted-inside s (Execute t) inside h = next-inside t (s.threads t) h (inside t h)
  acted-inside s (Flush t) inside h = inside t h

  -- a step keeps every thread at one of its statements, whatever the choice
  pub inside-step : (s : State) (c : Choice) → Inside S s.threads → Inside S (step S s c).threads
  unfolding step
  inside-step s c inside t h = go (eqb t (actor c)) refl
    where
      go : (b : Bool) → eqb t (actor c) ≡ b → (cond (eqb t (actor c)) (acted S s c) (s.threads t)).pc < S.count t
      go true e =
          let q = eqb-true t (actor c) e in
          let l = acted-inside s c inside (subst (λ (u : ℕ). u < S.threads) q h) in
          subst⁻¹ (λ (x : Thread). x.pc < S.count t) (chosen _ _ e) (subst⁻¹ (λ (u : ℕ). (acted S s c).pc < S.count u) q l)
      go false e = subst⁻¹ (λ (x : Thread). x.pc < S.count t) (passed _ _ e) (inside t h)

  -- so does a run, from the start on
  pub inside-start : (first : ℕ → ℕ) → Inside S (start first).threads
  inside-start first t h = well.some_statement t h

  pub inside-after : (s : State) (run : List Choice) → Inside S s.threads → Inside S (after S s run).threads
  unfolding after
  inside-after s [] inside = inside
  inside-after s (c ∷ run) inside = inside-after (step S s c) run (inside-step s c inside)

  -- the statement that a thread executes is one of the twenty
  pub number-inside : (s : State) (t : ℕ) → Inside S s.threads → t < S.threads → (current S s t).number < instructions
  number-inside s t inside h = well.numbers t (s.threads t).pc (inside t h)

-- ---- runs

module _ (S : Set) (s : State) where
  -- only a thread of the set acts
  pub permitted-actor : (c : Choice) → permitted S s c ≡ true → actor c < S.threads
  unfolding permitted
  permitted-actor (Execute t) e = ltb-true t S.threads (and_left _ _ (and_left _ _ (and_left _ _ e)))
  permitted-actor (Flush t) e = ltb-true t S.threads (and_left _ _ e)

  pub takes-actor : (c : Choice) → takes S s c ≡ true → actor c < S.threads
  takes-actor c e = permitted-actor c (and_right (not s.ended) (permitted S s c) e)

  -- a run's first choice, and the rest of it
  pub run-first : (c : Choice) (run : List Choice) → is_run S s (c ∷ run) ≡ true → takes S s c ≡ true
  unfolding is_run
  run-first c run e = and_left (takes S s c) (is_run S (step S s c) run) e

  pub run-rest : (c : Choice) (run : List Choice) → is_run S s (c ∷ run) ≡ true → is_run S (step S s c) run ≡ true
  unfolding is_run
  run-rest c run e = and_right (takes S s c) (is_run S (step S s c) run) e

-- ---- schedules

-- the schedule byte of a choice
abbrev pub schedule_of : Choice → ℕ
schedule_of (Execute t) = t
schedule_of (Flush t) = flush_byte + t

-- the schedule of a run
unfoldable pub schedule : List Choice → List ℕ
schedule [] = []
schedule (c ∷ run) = schedule_of c ∷ schedule run

-- a choice and its byte give each other back
pub choice_of_schedule_of : (c : Choice) → actor c < flush_byte → choice_of (schedule_of c) ≡ c
unfolding choice_of
choice_of_schedule_of (Execute t) h = chosen _ _ (lt-ltb t flush_byte h)
choice_of_schedule_of (Flush t) h = passed _ _ (le-ltb (flush_byte + t) flush_byte (omega arith)) ∙ ap Flush (omega arith)

pub schedule_of_choice_of : (k : ℕ) → schedule_of (choice_of k) ≡ k
unfolding choice_of
schedule_of_choice_of k = go (ltb k flush_byte) refl
  where
    go : (b : Bool) → ltb k flush_byte ≡ b → schedule_of (cond (ltb k flush_byte) (Execute k) (Flush (k - flush_byte))) ≡ k
    go true e = ap schedule_of (chosen _ _ e)
    go false e = let l = ltb-false k flush_byte e in ap schedule_of (passed _ _ e) ∙ omega arith

-- a run and its schedule give each other back
pub schedule-choices : (bytes : List ℕ) → schedule (choices bytes) ≡ bytes
unfolding schedule choices
schedule-choices [] = refl
schedule-choices (k ∷ bytes) = ap₂ ◌∷◌ (schedule_of_choice_of k) (schedule-choices bytes)

pub choices-schedule : (S : Set) (s : State) (run : List Choice) → S.threads ≤ flush_byte → is_run S s run ≡ true → choices (schedule run) ≡ run
unfolding schedule choices
choices-schedule S s [] h e = refl
choices-schedule S s (c ∷ run) h e =
    let l = takes-actor S s c (run-first S s c run e) in
    ap₂ ◌∷◌ (choice_of_schedule_of c (omega arith)) (choices-schedule S (step S s c) run h (run-rest S s c run e))

pub length-choices : (bytes : List ℕ) → length (choices bytes) ≡ length bytes
unfolding choices
length-choices [] = refl
length-choices (k ∷ bytes) = ap suc (length-choices bytes)

-- one byte more
pub choices-more : (bytes : List ℕ) (k : ℕ) → choices (bytes ++ (k ∷ [])) ≡ choices bytes ++ (choice_of k ∷ [])
unfolding choices
choices-more [] k = refl
choices-more (b ∷ bytes) k = ap (λ (run : List Choice). choice_of b ∷ run) (choices-more bytes k)

pub length-schedule : (run : List Choice) → length (schedule run) ≡ length run
unfolding schedule
length-schedule [] = refl
length-schedule (c ∷ run) = ap suc (length-schedule run)

-- ---- runs over a map

-- each choice of a run can be taken and reads known cells alone
abbrev pub AllTaken : Set → Held → List Choice → Type 0
AllTaken S h [] = Unit {0}
AllTaken S h (c ∷ run) = (outcome S h c ≡ Taken) × AllTaken S (advanced S h c) run

module _ (S : Set) (h : Held) (c : Choice) where
  pub outcome-taken : takes S h.state c ≡ true → knows_all h.known (reads S h.state c) ≡ true → outcome S h c ≡ Taken
  unfolding outcome
  outcome-taken e f = chosen _ _ e ∙ chosen _ _ f

  pub taken-takes : outcome S h c ≡ Taken → takes S h.state c ≡ true
  unfolding outcome
  taken-takes = go (takes S h.state c) (knows_all h.known (reads S h.state c))
    where
      go : (a b : Bool) → cond a (cond b Taken Lacking) NotPermitted ≡ Taken → a ≡ true
      go true b e = refl
      go false b e = cc

  pub taken-knows : outcome S h c ≡ Taken → knows_all h.known (reads S h.state c) ≡ true
  unfolding outcome
  taken-knows = go (takes S h.state c) (knows_all h.known (reads S h.state c))
    where
      go : (a b : Bool) → cond a (cond b Taken Lacking) NotPermitted ≡ Taken → b ≡ true
      go a true e = refl
      go true false e = cc
      go false false e = cc

-- what is taken is a run of the machine
pub taken-run : (S : Set) (h : Held) (run : List Choice) → AllTaken S h run → is_run S h.state run ≡ true
unfolding is_run advanced
taken-run S h [] taken = refl
taken-run S h (c ∷ run) taken = and_true (taken-takes S h c taken.0) (taken-run S (advanced S h c) run taken.1)

-- a run followed from step i on to n steps and the end e
pub record Followed (S : Set) (h : Held) (i : ℕ) (run : List Choice) (n : ℕ) (e : End) : Type 0 where
  pub taken : AllTaken S h run
  pub steps : n ≡ i + length run
  pub end : e ≡ end_of S (after S h.state run)

-- a run is followed to its end exactly if all of it is taken
pub follow-taken : (S : Set) (h : Held) (i : ℕ) (run : List Choice) → AllTaken S h run →
    follow S h i run ≡ ran (i + length run) (end_of S (after S h.state run))
unfolding follow after advanced
follow-taken S h i [] taken = ap (λ (n : ℕ). ran n (end_of S h.state)) (omega arith)
follow-taken S h i (c ∷ run) taken =
    ap (λ (o : Outcome). on_outcome o i (follow S (advanced S h c) (suc i) run)) taken.0
    ∙ follow-taken S (advanced S h c) (suc i) run taken.1
    ∙ ap (λ (n : ℕ). ran n (end_of S (after S (step S h.state c) run))) (omega arith)

pub follow-ran : (S : Set) (h : Held) (i : ℕ) (run : List Choice) (n : ℕ) (e : End) → follow S h i run ≡ ran n e → Followed S h i run n e
unfolding follow after advanced
follow-ran S h i [] n e p =
    let q = same_run p in
    record { taken = tt; steps = let k : i ≡ n = ap (λ (r : Run). r.steps) q in omega arith; end = ap (λ (r : Run). r.end) (sym q) }
follow-ran S h i (c ∷ run) n e p =
    let (o, r) = ran-taken (outcome S h c) i p in
    let f = follow-ran S (advanced S h c) (suc i) run n e r in
    record { taken = (o, f.taken); steps = f.steps ∙ omega arith; end = f.end }

-- ---- traces

pub length-trace_step : (S : Set) (s : State) (w : Option Cell) (c : Choice) → length (trace_step S s w c) ≡ step_length
unfolding trace_step step_bytes
length-trace_step S s w c = refl

pub length-trace : (S : Set) (s : State) (w : Option Cell) (run : List Choice) → length (trace S s w run) ≡ step_length * length run
unfolding trace
length-trace S s w [] = omega arith
length-trace S s w (c ∷ run) =
    length-append (trace_step S s w c) (trace S (step S s c) (written S s c) run)
    ∙ omega (arith, length-trace_step S s w c, length-trace S (step S s c) (written S s c) run)

-- a trace's first step, and what follows it
module _ (S : Set) (s : State) (w : Option Cell) (c : Choice) where
  pub take-trace : (run : List Choice) → take step_length (trace S s w (c ∷ run)) ≡ trace_step S s w c
  unfolding trace
  take-trace run = take_at (trace_step S s w c) (trace S (step S s c) (written S s c) run) step_length (length-trace_step S s w c)

  pub drop-trace : (run : List Choice) → drop step_length (trace S s w (c ∷ run)) ≡ trace S (step S s c) (written S s c) run
  unfolding trace
  drop-trace run = drop_at (trace_step S s w c) (trace S (step S s c) (written S s c) run) step_length (length-trace_step S s w c)

-- the choice of a step is read from its own record alone
pub step_choice-take : (bytes : List ℕ) → step_choice (take step_length bytes) ≡ step_choice bytes
unfolding step_choice
step_choice-take bytes =
    ap₂ (λ (n t : ℕ). cond (eqb n instructions) (Flush t) (Execute t))
    (get_or-take step_length bytes 1 0 (omega arith)) (get_or-take step_length bytes 0 0 (omega arith))

module _ (S : Set) (s : State) (w : Option Cell) where
  -- a step's record shows its choice
  pub step_choice_execute : (t : ℕ) → (current S s t).number < instructions → step_choice (trace_step S s w (Execute t)) ≡ Execute t
  unfolding step_choice trace_step step_bytes shown
  step_choice_execute t h = passed _ _ (ne_eqb (current S s t).number instructions (omega arith))

  pub step_choice-flush : (t : ℕ) → step_choice (trace_step S s w (Flush t)) ≡ Flush t
  unfolding step_choice trace_step step_bytes shown
  step_choice-flush t = refl

  pub step_choice-trace_step : (c : Choice) → WellFormedSet S → Inside S s.threads → takes S s c ≡ true → step_choice (trace_step S s w c) ≡ c
  step_choice-trace_step (Execute t) well inside e = step_choice_execute t (number-inside S well s t inside (takes-actor S s (Execute t) e))
  step_choice-trace_step (Flush t) well inside e = step_choice-flush t

  pub step_choice-trace : (c : Choice) (run : List Choice) → WellFormedSet S → Inside S s.threads → takes S s c ≡ true →
      step_choice (trace S s w (c ∷ run)) ≡ c
  step_choice-trace c run well inside e =
      sym (step_choice-take (trace S s w (c ∷ run))) ∙ ap step_choice (take-trace S s w c run) ∙ step_choice-trace_step c well inside e

-- the choices that the first n steps of a trace show
unfoldable pub step_choices : ℕ → List ℕ → List Choice
step_choices zero bytes = []
step_choices (suc n) bytes = step_choice bytes ∷ step_choices n (drop step_length bytes)

pub length-step_choices : (n : ℕ) (bytes : List ℕ) → length (step_choices n bytes) ≡ n
unfolding step_choices
length-step_choices zero bytes = refl
length-step_choices (suc n) bytes = ap suc (length-step_choices n (drop step_length bytes))

-- a run's trace shows its choices
pub step_choices-trace : (S : Set) (s : State) (w : Option Cell) (run : List Choice) → WellFormedSet S → Inside S s.threads →
    is_run S s run ≡ true → step_choices (length run) (trace S s w run) ≡ run
unfolding step_choices
step_choices-trace S s w [] well inside e = refl
step_choices-trace S s w (c ∷ run) well inside e =
    ap₂ ◌∷◌ (step_choice-trace S s w c run well inside (run-first S s c run e))
    (ap (step_choices (length run)) (drop-trace S s w c run)
    ∙ step_choices-trace S (step S s c) (written S s c) run well (inside-step S well s c inside) (run-rest S s c run e))

-- a step that lacks a cell can be taken, and reads one that is not known
module _ (S : Set) (h : Held) (c : Choice) where
  pub lacking_takes : outcome S h c ≡ Lacking → takes S h.state c ≡ true
  unfolding outcome
  lacking_takes = go (takes S h.state c) (knows_all h.known (reads S h.state c))
    where
      go : (a b : Bool) → cond a (cond b Taken Lacking) NotPermitted ≡ Lacking → a ≡ true
      go true b e = refl
      go false b e = cc

  pub lacking_knows : outcome S h c ≡ Lacking → knows_all h.known (reads S h.state c) ≡ false
  unfolding outcome
  lacking_knows = go (takes S h.state c) (knows_all h.known (reads S h.state c))
    where
      go : (a b : Bool) → cond a (cond b Taken Lacking) NotPermitted ≡ Lacking → b ≡ false
      go a false e = refl
      go true true e = cc
      go false true e = cc

-- one that is not permitted cannot
pub not-permitted-takes : (S : Set) (h : Held) (c : Choice) → outcome S h c ≡ NotPermitted → takes S h.state c ≡ false
unfolding outcome
not-permitted-takes S h c = go (takes S h.state c) (knows_all h.known (reads S h.state c))
  where
    go : (a b : Bool) → cond a (cond b Taken Lacking) NotPermitted ≡ NotPermitted → a ≡ false
    go false b e = refl
    go true true e = cc
    go true false e = cc

-- a bit as a number is 1 where it holds
pub bit_is : (b : Bool) → eqb (bit b) 1 ≡ b
bit_is true = refl
bit_is false = refl
