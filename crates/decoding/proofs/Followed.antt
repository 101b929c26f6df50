-- A run over a memory that is known in part: where the cells first read are known, every step is the run's own. Assumes nothing.
use Rattle.std.specs.Prelude.{Option}
use Prim.Native.Nat.{ℕ}
use mathlib.Core.Path.{◌≡◌, refl, ap, ap₂, sym, subst⁻¹, ◌∙◌}
use mathlib.Core.Bool.{Bool, true, false, cond, not, ◌&&◌, ◌||◌}
use mathlib.Core.List.{List, [], ◌∷◌, ◌++◌}
use lib.Dec.{eqb}
use borrow.Author.Tests.{eq-eqb}
use Rattle.base.proofs.Choice.{and_true, and_left, and_right, or_true, or_right_true, clash}
use Rattle.records.specs.Instructions.{CAS, is_memory}
use Rattle.records.specs.Sets.{Set}
use Rattle.records.specs.declared.Statement.{Statement}
use Rattle.machine.specs.Machine.{State, current, permitted, acted, leaves_mark, wrote, no_write, written, memory_after, exits, all_halted, reads, step, cell_of}
use Rattle.machine.specs.Machine.{forwards, address, takes_word, word_taken, reads_argument, reads_address, cells_read, row, next_pc, with_pc, executed, cas_matches}
use Rattle.machine.specs.Maps.{Held, knows_all, known_after, advanced}
use Rattle.machine.specs.Runs.{takes, is_run, after}
use Rattle.machine.specs.Traces.{shown, trace_step, trace}
use Rattle.machine.specs.declared.Choice.{Choice}
use Rattle.machine.specs.declared.Choice.TheVariants.{Execute, Flush}
use Rattle.machine.specs.declared.Thread.{Thread}
use Rattle.records.specs.declared.Cell.{Cell}
use Rattle.machine.proofs.Loads.{knows-cells}
use Rattle.machine.proofs.Runs.{AllTaken, outcome-taken, run-first, run-rest}
use Rattle.encoding.specs.Checkpoints.{member}
use Rattle.decoding.specs.Decodings.{writes, reads_first}

-- ---- one statement

-- what is read is the same wherever it is read at all
same_address : (memory indirect forwarded : Bool) (value argument p q : ℕ) → ((memory && indirect && not forwarded) ≡ true → p ≡ q) →
    cond memory (cond indirect (cond forwarded value p) argument) 0 ≡ cond memory (cond indirect (cond forwarded value q) argument) 0
same_address true true true value argument p q f = refl
same_address true true false value argument p q f = f refl
same_address true false forwarded value argument p q f = refl
same_address false indirect forwarded value argument p q f = refl

same_word : (takes_it swaps forwarded : Bool) (value p q : ℕ) → ((takes_it && (swaps || not forwarded)) ≡ true → p ≡ q) →
    cond takes_it (cond swaps p (cond forwarded value p)) 0 ≡ cond takes_it (cond swaps q (cond forwarded value q)) 0
same_word true true forwarded value p q f = f refl
same_word true false true value p q f = refl
same_word true false false value p q f = f refl
same_word false swaps forwarded value p q f = refl

or_when : (b c : Bool) → (not b || c) ≡ true → b ≡ true → c ≡ true
or_when true c e f = e
or_when false c e f = clash f refl

module _ (i : Statement) (x : Thread) (partial memory : ℕ → ℕ) (known : ℕ → Bool) (agrees : (a : ℕ) → known a ≡ true → partial a ≡ memory a)
    (knows : knows_all known (cells_read i x memory) ≡ true) where
  abbrev argument_known : Bool
  argument_known = not (reads_argument i x) || known i.argument

  abbrev address_known : Bool
  address_known = not (reads_address i x (address i x memory)) || known (address i x memory)

  both-known : (argument_known && address_known) ≡ true
  both-known = sym (knows-cells i x memory known) ∙ knows

  pub address_same : address i x partial ≡ address i x memory
  unfolding address
  address_same = same_address (is_memory i.number) (eqb i.mode 1) (forwards x i.argument) x.val i.argument
      (partial i.argument) (memory i.argument)
      (λ e. agrees i.argument (or_when (reads_argument i x) (known i.argument) (and_left argument_known address_known both-known) e))

  word-at-same : (a : ℕ) → a ≡ address i x memory →
      cond (takes_word i.number) (cond (eqb i.number CAS) (partial a) (cond (forwards x a) x.val (partial a))) 0
      ≡ cond (takes_word i.number) (cond (eqb i.number CAS) (memory a) (cond (forwards x a) x.val (memory a))) 0
  word-at-same a q = same_word (takes_word i.number) (eqb i.number CAS) (forwards x a) x.val (partial a) (memory a)
      (λ e. agrees a (ap known q ∙ or_when (reads_address i x (address i x memory)) (known (address i x memory)) (and_right argument_known address_known both-known)
      (ap (reads_address i x) (sym q) ∙ e)))

  pub word_same : word_taken i x partial ≡ word_taken i x memory
  unfolding word_taken
  word_same =
      ap (λ (a : ℕ). cond (takes_word i.number) (cond (eqb i.number CAS) (partial a) (cond (forwards x a) x.val (partial a))) 0) address_same
      ∙ word-at-same (address i x memory) refl

  pub cells_same : cells_read i x partial ≡ cells_read i x memory
  unfolding cells_read
  cells_same z =
      cond (reads_argument i x) (i.argument ∷ []) []
      ++ cond (reads_address i x (address_same z)) (address_same z ∷ []) []

  pub executed-same : executed i partial x ≡ executed i memory x
  unfolding executed
  executed-same z = with_pc (next_pc i x) (row i.number i.argument (address_same z) (word_same z) x)

  pub matches-same : cas_matches i x partial ≡ cas_matches i x memory
  unfolding cas_matches
  matches-same z = eqb i.number CAS && eqb (word_same z) x.mem

-- ---- one step

-- a state with another memory
abbrev pub with_memory : (ℕ → ℕ) → State → State
with_memory m s = record { threads = s.threads; marks = s.marks; memory = m; ended = s.ended; code = s.code }

module _ (S : Set) (s : State) (m : ℕ → ℕ) where
  pub takes_same : (c : Choice) → takes S (with_memory m s) c ≡ takes S s c
  unfolding permitted
  takes_same (Execute t) = refl
  takes_same (Flush t) = refl

  traced-same : (w : Option Cell) (c : Choice) → trace_step S (with_memory m s) w c ≡ trace_step S s w c
  unfolding trace_step shown
  traced-same w (Execute t) = refl
  traced-same w (Flush t) = refl

  module _ (known : ℕ → Bool) (agrees : (a : ℕ) → known a ≡ true → m a ≡ s.memory a) where
    pub reads_same : (c : Choice) → knows_all known (reads S s c) ≡ true → reads S (with_memory m s) c ≡ reads S s c
    unfolding reads
    reads_same (Execute t) k = cells_same (current S s t) (s.threads t) m s.memory known agrees k
    reads_same (Flush t) k = refl

    pub written_same : (c : Choice) → knows_all known (reads S s c) ≡ true → written S (with_memory m s) c ≡ written S s c
    unfolding written reads
    written_same (Execute t) k =
        let matches = matches-same (current S s t) (s.threads t) m s.memory known agrees k in
        let at = address_same (current S s t) (s.threads t) m s.memory known agrees k in
        λ z. cond (matches z) (wrote (at z) (s.threads t).accu) no_write
    written_same (Flush t) k = refl

    acted-same : (c : Choice) → knows_all known (reads S s c) ≡ true → acted S (with_memory m s) c ≡ acted S s c
    unfolding acted reads
    acted-same (Execute t) k = executed-same (current S s t) (s.threads t) m s.memory known agrees k
    acted-same (Flush t) k = refl

    pub step_same : (c : Choice) → knows_all known (reads S s c) ≡ true →
        step S (with_memory m s) c ≡ with_memory (memory_after (written S s c) m) (step S s c)
    unfolding step leaves_mark
    step_same (Execute t) k =
        let registers = acted-same (Execute t) k in
        let writing = written_same (Execute t) k in
        λ z. record {
          threads = λ u. cond (eqb u t) (registers z) (s.threads u);
          marks = (step S s (Execute t)).marks;
          memory = memory_after (writing z) m;
          ended = s.ended || exits S s (Execute t) || all_halted S (λ u. cond (eqb u t) (registers z) (s.threads u));
          code = (step S s (Execute t)).code;
        }
    step_same (Flush t) k =
        let registers = acted-same (Flush t) k in
        let writing = written_same (Flush t) k in
        λ z. record {
          threads = λ u. cond (eqb u t) (registers z) (s.threads u);
          marks = (step S s (Flush t)).marks;
          memory = memory_after (writing z) m;
          ended = s.ended || exits S s (Flush t) || all_halted S (λ u. cond (eqb u t) (registers z) (s.threads u));
          code = (step S s (Flush t)).code;
        }

-- ---- a run

-- a state whose memory is known in part
abbrev pub held_part : (ℕ → ℕ) → (ℕ → Bool) → State → Held
held_part m known s = record { state = with_memory m s; known = known }

-- the run is followed there with the same trace, and comes to the same end
pub record Along (S : Set) (s : State) (m : ℕ → ℕ) (known : ℕ → Bool) (w : Option Cell) (run : List Choice) : Type 0 where
  pub taken : AllTaken S (held_part m known s) run
  pub traced : trace S (with_memory m s) w run ≡ trace S s w run
  pub ended_same : (after S (with_memory m s) run).ended ≡ (after S s run).ended
  pub code_same : (after S (with_memory m s) run).code ≡ (after S s run).code

knows-members : (known : ℕ → Bool) (xs : List ℕ) → ((a : ℕ) → member a xs ≡ true → known a ≡ true) → knows_all known xs ≡ true
unfolding member
knows-members known [] f = refl
knows-members known (x ∷ xs) f =
    and_true (f x (or_true (member x xs) (eq-eqb x x refl))) (knows-members known xs (λ a e. f a (or_right_true (eqb a x) e)))

module _ (S : Set) where
  module _ (s : State) (m : ℕ → ℕ) (known : ℕ → Bool) (c : Choice) (run : List Choice)
      (agrees : (a : ℕ) → known a ≡ true → m a ≡ s.memory a) (first : (a : ℕ) → reads_first S s (c ∷ run) a ≡ true → known a ≡ true) where
    knows_reads : knows_all known (reads S s c) ≡ true
    unfolding reads_first
    knows_reads = knows-members known (reads S s c) (λ a e. first a (or_true (not (writes (written S s c) a) && reads_first S (step S s c) run a) e))

    agrees_after : (a : ℕ) → known_after (written S s c) known a ≡ true → memory_after (written S s c) m a ≡ (step S s c).memory a
    unfolding step
    agrees_after a = go (writes (written S s c) a)
      where
        go : (b : Bool) → (b || known a) ≡ true → cond b (cell_of (written S s c)).value (m a) ≡ cond b (cell_of (written S s c)).value (s.memory a)
        go true e = refl
        go false e = agrees a e

    first-after : (a : ℕ) → reads_first S (step S s c) run a ≡ true → known_after (written S s c) known a ≡ true
    unfolding reads_first
    first-after a e = go (writes (written S s c) a) refl
      where
        go : (b : Bool) → writes (written S s c) a ≡ b → (writes (written S s c) a || known a) ≡ true
        go true f = or_true (known a) f
        go false f = or_right_true (writes (written S s c) a) (first a (or_right_true (member a (reads S s c)) (and_true (ap not f) e)))

  pub along : (s : State) (m : ℕ → ℕ) (known : ℕ → Bool) (w : Option Cell) (run : List Choice) → is_run S s run ≡ true →
      ((a : ℕ) → known a ≡ true → m a ≡ s.memory a) → ((a : ℕ) → reads_first S s run a ≡ true → known a ≡ true) → Along S s m known w run
  unfolding trace after advanced
  along s m known w [] r agrees first = record { taken = tt; traced = refl; ended_same = refl; code_same = refl }
  along s m known w (c ∷ run) r agrees first =
      let k = knows_reads s m known c run agrees first in
      let later = memory_after (written S s c) m in
      let rest = along (step S s c) later (known_after (written S s c) known) (written S s c) run (run-rest S s c run r)
      (agrees_after s m known c run agrees first) (first-after s m known c run agrees first) in
      let stepped = step_same S s m known agrees c k in
      let writing = written_same S s m known agrees c k in
      record {
        taken = (
          outcome-taken S (held_part m known s) c (takes_same S s m c ∙ run-first S s c run r) (ap (knows_all known) (reads_same S s m known agrees c k) ∙ k),
          subst⁻¹ (λ (h : Held). AllTaken S h run) (λ z. record { state = stepped z; known = known_after (writing z) known }) rest.taken,
        );
        traced =
            ap₂ (λ (bytes more : List ℕ). bytes ++ more) (traced-same S s m w c)
            (ap₂ (λ (t : State) (v : Option Cell). trace S t v run) stepped writing ∙ rest.traced);
        ended_same = ap (λ (t : State). (after S t run).ended) stepped ∙ rest.ended_same;
        code_same = ap (λ (t : State). (after S t run).code) stepped ∙ rest.code_same;
      }
