-- One turn of the loop: what the definitions say of the next step, and what the step's answer makes of the machine. Assumes nothing.
use Prim.Native.Nat.{ℕ, zero, suc, ◌+◌, ◌-◌, ◌*◌, ◌%◌, ◌≤◌, ◌<◌}
use mathlib.Core.Path.{◌≡◌, refl, ap, ap₂, sym, subst, ◌∙◌}
use mathlib.Core.Bool.{Bool, true, false, cond, not, ◌&&◌, ◌||◌}
use mathlib.Core.List.{List, [], ◌∷◌, ◌++◌, append_assoc}
use native.Mathlib.Numerals.{add-one}
use Rattle.std.specs.Prelude.{Option, None, Result}
use native.Mathlib.Omega.{arith}
use borrow.Author.Tests.{le-leb, lt-ltb, ltb-true}
use lib.Dec.{eqb, leb, ltb}
use lib.ListN.{length, get_or, set, take, drop}
use lib.Seq.{drop-cons}
use Rattle.base.specs.Below.{every}
use Rattle.base.specs.Bytes.{placed}
use Rattle.base.proofs.Bytes.{take-placed}
use Rattle.base.proofs.Choice.{chosen, and_true}
use Rattle.records.specs.Instructions.{EXIT}
use Rattle.records.specs.Maps.{cells, address_at, value_at, holds, content}
use Rattle.records.specs.Sets.{Set}
use Rattle.records.specs.declared.Layout.{Layout}
use Rattle.records.specs.declared.Statement.{Statement}
use Rattle.records.specs.declared.refusals.Refused.{Refused}
use Rattle.machine.proofs.Four.{stored}
use Rattle.machine.proofs.Runs.{length-trace_step, takes-actor, taken-takes, lacking_takes}
use Rattle.step.proofs.Settled.{outcome-by, written-by, shown_by, state_by, stepped, quiet-state, reads-by}
use Rattle.machine.specs.Held.{state_of, memory_of, known_of, held_of, cells_of}
use Rattle.step.specs.Acting.{can_step, waits, statement_by, thread_by, written_by, reads_by, outcome_by, quiet, marks_settled, threads_settled, Advances, on_permitted}
use Rattle.step.specs.Step.{on_taken}
use Rattle.machine.specs.Machine.{State, fresh, unmarked, actor, start, step, written, no_write, memory_after, reads}
use Rattle.machine.specs.Maps.{Held, begin, outcome, advanced, known_after}
use Rattle.machine.specs.Runs.{choice_of, choices, some_permitted, end_of}
use Rattle.machine.specs.Traces.{step_bytes, trace_step, trace, step_length}
use Rattle.machine.specs.declared.Choice.{Choice}
use Rattle.machine.specs.declared.Machine.{Machine}
use Rattle.machine.specs.declared.Outcome.{Outcome}
use Rattle.machine.specs.declared.Outcome.TheVariants.{Taken, NotPermitted, Lacking}
use Rattle.step.specs.declared.acting.Stepped.{Stepped}
use Rattle.machine.specs.declared.Run.{Run}
use Rattle.machine.specs.declared.Thread.{Thread}
use Rattle.records.specs.declared.Cell.{Cell}
use Rattle.machine.specs.declared.End.TheVariants.{Code, Stuck, Open}
use Rattle.step.specs.Ends.{end_for}
use Rattle.step.specs.Runs.{unknown}
use Rattle.step.specs.Walks.{step_refusal, on_refusal, walked, walked_lacks, choices_from}

-- ---- refusals

-- a step that is not refused is taken
pub stands : (o : Outcome) (agreed : Bool) → step_refusal o agreed ≡ None → o ≡ Taken
stands Taken agreed e = refl
stands NotPermitted agreed e = cc
stands Lacking true e = cc
stands Lacking false e = cc

-- ---- the next step

module _ (S : Set) (choice : ℕ → Choice) (agrees : ℕ → List ℕ → Bool) (h : Held) (w : Option Cell) (i : ℕ) (c : Choice) (e : c ≡ choice i) where
  abbrev pub rest : ℕ → Result Run Refused
  rest n = walked S choice agrees (advanced S h c) (written S h.state c) (i + 1) n

  pub walked_next : (n : ℕ) → 0 < n →
      walked S choice agrees h w i n ≡ on_refusal (step_refusal (outcome S h c) (agrees i (trace_step S h.state w c))) i (rest (n - 1))
  unfolding walked
  walked_next zero l = absurd (omega arith)
  walked_next (suc n) l = let m : suc n - 1 ≡ n = omega arith in rw (e, add-one, m) refl

  pub lacks-next : (n : ℕ) → 0 < n →
      walked_lacks S choice h i n ≡ on_taken (outcome S h c) (walked_lacks S choice (advanced S h c) (i + 1) (n - 1)) (unknown h.known (reads S h.state c))
  unfolding walked_lacks
  lacks-next zero l = absurd (omega arith)
  lacks-next (suc n) l = let m : suc n - 1 ≡ n = omega arith in rw (e, add-one, m) refl

  choices-next : (n : ℕ) → 0 < n → choices_from choice i n ≡ c ∷ choices_from choice (i + 1) (n - 1)
  unfolding choices_from
  choices-next zero l = absurd (omega arith)
  choices-next (suc n) l = let m : suc n - 1 ≡ n = omega arith in rw (e, add-one, m) refl

  -- the trace so far, with one step more
  pub trace-more : (n : ℕ) → 0 < n → (bytes : List ℕ) → step_length * i + step_length ≤ length bytes →
      take (step_length * i) bytes ++ trace S h.state w (choices_from choice i n)
      ≡ take (step_length * (i + 1)) (placed bytes (step_length * i) (trace_step S h.state w c))
      ++ trace S (step S h.state c) (written S h.state c) (choices_from choice (i + 1) (n - 1))
  unfolding trace
  trace-more n l bytes g =
      let long = length-trace_step S h.state w c in
      let m : step_length * i + length (trace_step S h.state w c) ≡ step_length * (i + 1) = omega arith in
      let later = trace S (step S h.state c) (written S h.state c) (choices_from choice (i + 1) (n - 1)) in
      ap (λ (run : List Choice). take (step_length * i) bytes ++ trace S h.state w run) (choices-next n l)
      ∙ sym (append_assoc (take (step_length * i) bytes) (trace_step S h.state w c) later)
      ∙ ap (λ (t : List ℕ). t ++ later)
      (sym (take-placed bytes (step_length * i) (trace_step S h.state w c) (omega arith)) ∙ ap (λ (k : ℕ). take k (placed bytes (step_length * i) (trace_step S h.state w c))) m)

-- ---- a step that was made: the acting thread is found by its number modulo 4

module _ (S : Set) (m : Machine) (memory : ℕ → ℕ) (known : ℕ → Bool) (c : Choice) (few : S.threads ≤ 4) where
  abbrev pub slot : ℕ
  slot = actor c % 4

  abbrev marks_of : ℕ → Option ℕ
  marks_of u = get_or m.marks u unmarked

  abbrev pub held : Held
  held = record { state = state_of m memory; known = known }

  -- what the step is told of thread number k
  abbrev pub Told : Bool → ℕ → ℕ → Stepped → (ℕ → ℕ) → (ℕ → Bool) → Type 0
  Told can k filled r later knows =
      Advances can c (statement_by S c (get_or m.threads k fresh)) (get_or m.threads k fresh) (waits S marks_of (get_or m.marks k unmarked)) memory known filled r later knows

  there : ltb (actor c) S.threads ≡ true → slot ≡ actor c
  there l = let t = ltb-true (actor c) S.threads l in omega (arith, t, few)

  pub slot_is : actor c < S.threads → slot ≡ actor c
  slot_is l = omega (arith, l, few)

  by-slot : (l live : Bool) → (l ≡ true → slot ≡ actor c) →
      outcome_by (l && live) c (statement_by S c (get_or m.threads slot fresh)) (get_or m.threads slot fresh) (waits S marks_of (get_or m.marks slot unmarked)) memory known
      ≡ outcome_by (l && live) c (statement_by S c (get_or m.threads (actor c) fresh)) (get_or m.threads (actor c) fresh) (waits S marks_of (get_or m.marks (actor c) unmarked)) memory known
  by-slot true live e = ap (λ (k : ℕ). outcome_by live c (statement_by S c (get_or m.threads k fresh)) (get_or m.threads k fresh) (waits S marks_of (get_or m.marks k unmarked)) memory known) (e refl)
  by-slot false live e = refl

  module _ {can : Bool} {filled : ℕ} {r : Stepped} {later : ℕ → ℕ} {knows : ℕ → Bool} (a : Told can slot filled r later knows) (room : can ≡ (ltb (actor c) S.threads && not m.ended)) where
    pub came-out : r.outcome ≡ outcome S held c
    came-out =
        a.came
        ∙ ap (λ (b : Bool). outcome_by b c (statement_by S c (get_or m.threads slot fresh)) (get_or m.threads slot fresh) (waits S marks_of (get_or m.marks slot unmarked)) memory known) room
        ∙ by-slot (ltb (actor c) S.threads) (not m.ended) there ∙ sym (outcome-by S m memory known c)

    -- the bytes of a step that a thread makes are its trace step's
    pub shown-bytes : actor c < S.threads → (w : Option Cell) → step_bytes (actor c) r.statement (get_or m.threads slot fresh) w ≡ trace_step S (state_of m memory) w c
    unfolding trace_step
    shown-bytes l w =
        ap (λ (j : Statement). step_bytes (actor c) j (get_or m.threads slot fresh) w) a.stated
        ∙ ap (λ (k : ℕ). step_bytes (actor c) (statement_by S c (get_or m.threads k fresh)) (get_or m.threads k fresh) w) (slot_is l)
        ∙ ap (λ (j : Statement). step_bytes (actor c) j (get_or m.threads (actor c) fresh) w) (sym (shown_by S m memory c))

    -- so the refusal is the definition's
    pub refused_so : (agreed : List ℕ → Bool) (w : Option Cell) →
        step_refusal r.outcome (agreed (step_bytes (actor c) r.statement (get_or m.threads slot fresh) w)) ≡ step_refusal (outcome S held c) (agreed (trace_step S (state_of m memory) w c))
    refused_so agreed w = go (ltb (actor c) S.threads) refl
      where
        go : (l : Bool) → ltb (actor c) S.threads ≡ l →
            step_refusal r.outcome (agreed (step_bytes (actor c) r.statement (get_or m.threads slot fresh) w)) ≡ step_refusal (outcome S held c) (agreed (trace_step S (state_of m memory) w c))
        go true e = ap₂ (λ (o : Outcome) (bytes : List ℕ). step_refusal o (agreed bytes)) came-out (shown-bytes (ltb-true _ _ e) w)
        go false e =
            let no : outcome S held c ≡ NotPermitted = outcome-by S m memory known c
            ∙ ap (λ (b : Bool). outcome_by (b && not m.ended) c (statement_by S c (get_or m.threads (actor c) fresh)) (get_or m.threads (actor c) fresh) (waits S marks_of (get_or m.marks (actor c) unmarked)) memory known) e in
            ap (λ (o : Outcome). step_refusal o (agreed (step_bytes (actor c) r.statement (get_or m.threads slot fresh) w))) (came-out ∙ no)
            ∙ sym (ap (λ (o : Outcome). step_refusal o (agreed (trace_step S (state_of m memory) w c))) no)

    pub lacking_acts : r.outcome ≡ Lacking → actor c < S.threads
    lacking_acts e = takes-actor S (state_of m memory) c (lacking_takes S held c (sym came-out ∙ e))

    -- the cell that it lacks
    pub lacks-cell : r.outcome ≡ Lacking → unknown knows (cells_of r.read) ≡ unknown known (reads S (state_of m memory) c)
    lacks-cell e =
        let told = subst (λ (k : ℕ). Told can k filled r later knows) (slot_is (lacking_acts e)) a in
        let cells = told.read ∙ ap (λ (o : Outcome). on_permitted o (reads_by c (statement_by S c (get_or m.threads (actor c) fresh)) (get_or m.threads (actor c) fresh) memory) []) e ∙ sym (reads-by S m memory c) in
        ap₂ {C = ℕ} unknown (told.known_is ∙ ap {B = ℕ → Bool} (λ (o : Outcome). on_taken o (known_after (written_by c (statement_by S c (get_or m.threads (actor c) fresh)) (get_or m.threads (actor c) fresh) memory) known) known) e) cells

    -- ---- where it was taken

    module _ (t : r.outcome ≡ Taken) where
      pub acting : actor c < S.threads
      acting = takes-actor S (state_of m memory) c (taken-takes S held c (sym came-out ∙ t))

      told : Told can (actor c) filled r later knows
      told = subst (λ (k : ℕ). Told can k filled r later knows) (slot_is acting) a

      abbrev acted : Thread
      acted = get_or m.threads (actor c) fresh

      abbrev stated : Statement
      stated = statement_by S c acted

      pub wrote_so : r.wrote ≡ written S (state_of m memory) c
      wrote_so = told.wrote ∙ ap (λ (o : Outcome). on_taken o (written_by c stated acted memory) no_write) t ∙ sym (written-by S m memory c)

      later-is : later ≡ memory_after (written S (state_of m memory) c) memory
      later-is =
          told.memory-is ∙ ap {B = ℕ → ℕ} (λ (o : Outcome). on_taken o (memory_after (written_by c stated acted memory) memory) memory) t
          ∙ ap {B = ℕ → ℕ} (λ (z : Option Cell). memory_after z memory) (sym (written-by S m memory c))

      knows-is : knows ≡ known_after (written S (state_of m memory) c) known
      knows-is =
          told.known_is ∙ ap {B = ℕ → Bool} (λ (o : Outcome). on_taken o (known_after (written_by c stated acted memory) known) known) t
          ∙ ap {B = ℕ → Bool} (λ (z : Option Cell). known_after z known) (sym (written-by S m memory c))

      state-is : state_by S m memory (actor c) r.thread r.statement (marks_settled S marks_of (actor c) r.statement) later ≡ step S (state_of m memory) c
      state-is = stepped S m memory c r.thread r.statement later (told.thread ∙ ap (λ (o : Outcome). on_taken o (thread_by c stated acted memory) fresh) t) told.stated later-is

      module _ (n : Machine) (threads : n.threads ≡ set m.threads slot r.thread) (four-threads : length m.threads ≡ 4) where
        threads_are_lem : (λ u. get_or n.threads u fresh) ≡ threads_settled (λ u. get_or m.threads u fresh) (actor c) r.thread
        threads_are_lem =
            ap {B = ℕ → Thread} (λ (ts : List Thread) (u : ℕ). get_or ts u fresh) (threads ∙ ap (λ (k : ℕ). set m.threads k r.thread) (slot_is acting))
            ∙ stored m.threads (actor c) r.thread fresh (omega (arith, acting, few, four-threads))

        settled : state_of n later ≡ state_by S m memory (actor c) r.thread r.statement (marks_settled S marks_of (actor c) r.statement) later →
            record { state = state_of n later; known = knows } ≡ advanced S held c
        unfolding advanced
        settled e k = record { state = (e ∙ state-is) k; known = knows-is k }

        -- marks and end stay
        pub quiet-held : n.marks ≡ m.marks → n.ended ≡ m.ended → n.code ≡ m.code → length m.marks ≡ 4 → quiet marks_of r.statement r.thread ≡ true →
            record { state = state_of n later; known = knows } ≡ advanced S held c
        quiet-held marks ended code four-marks q =
            settled ((λ k. record {
              threads = threads_are_lem k;
              marks = λ u. get_or (marks k) u unmarked;
              memory = later;
              ended = ended k;
              code = code k;
            }) ∙ quiet-state S m memory (actor c) r.thread r.statement later four-marks acting q)

        -- they are made anew
        pub loud_held : (λ u. get_or n.marks u unmarked) ≡ cond (ltb (actor c) 4) (marks_settled S marks_of (actor c) r.statement) marks_of →
            n.ended ≡ (m.ended || eqb r.statement.number EXIT || every S.threads (λ u. (get_or n.threads u fresh).halted)) →
            n.code ≡ cond (eqb r.statement.number EXIT) r.statement.argument m.code →
            record { state = state_of n later; known = knows } ≡ advanced S held c
        loud_held marks ended code =
            settled (λ k. record {
              threads = threads_are_lem k;
              marks = (marks ∙ chosen _ _ (lt-ltb (actor c) 4 (omega (arith, acting, few)))) k;
              memory = later;
              ended = (ended ∙ ap (λ (f : ℕ → Thread). m.ended || eqb r.statement.number EXIT || every S.threads (λ u. (f u).halted)) threads_are_lem) k;
              code = code k;
            })

-- the arrays have room
pub has_room_lem : (layout : Layout) (ended : Bool) (addresses values filled : ℕ) (c : Choice) → filled < addresses → filled < values →
    can_step layout ended addresses values filled c ≡ (ltb (actor c) layout.threads && not ended)
has_room_lem layout ended addresses values filled c p q = ap (λ (b : Bool). b && ltb (actor c) layout.threads && not ended) (and_true (lt-ltb _ _ p) (lt-ltb _ _ q))

-- the end of a run on a layout of at most four threads
pub end_is : (layout : Layout) (S : Set) (s : State) → layout.threads ≤ 4 → end_for layout S s ≡ end_of S s
unfolding end_of
end_is layout S s p = ap (λ (b : Bool). cond s.ended (Code s.code) (cond (b && some_permitted S s) Open Stuck)) (le-leb _ _ p)

-- ---- a schedule's next step

module _ (S : Set) (schedule : List ℕ) (i : ℕ) (l : i < length schedule) where
  pub next-choice : choices (drop i schedule) ≡ choice_of (get_or schedule i 0) ∷ choices (drop (i + 1) schedule)
  unfolding choices
  next-choice = ap choices (drop-cons schedule i 0 l) ∙ rw add-one

-- ---- the start over a map

pub begun : (map : List ℕ) (m : Machine) (addresses values : List ℕ) (r : ℕ) → ((memory : ℕ → ℕ) → state_of m memory ≡ start memory) →
    memory_of addresses values r ≡ content (address_at map) (value_at map) r → known_of addresses r ≡ holds (address_at map) r → r ≡ cells map →
    held_of m addresses values r ≡ begin map
unfolding begin
begun map m addresses values r f p q e k = record {
  state = (f (memory_of addresses values r) ∙ ap start (p ∙ ap (content (address_at map) (value_at map)) e)) k;
  known = (q ∙ ap (holds (address_at map)) e) k;
}

-- all of the map's cells are there
pub all-cells : (n a v r : ℕ) → r ≡ cond (leb n a && leb n v) n 0 → n ≤ a → n ≤ v → r ≡ n
all-cells n a v r e p q = e ∙ chosen _ _ (and_true (le-leb n a p) (le-leb n v q))
