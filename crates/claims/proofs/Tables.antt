-- Demand 3, what a table means (specs/Tables.antt states it). Assumes nothing.
use Prim.Native.Nat.{ℕ, ◌<◌}
use mathlib.Core.Path.{◌≡◌, refl, ap, sym, fun_ext, subst⁻¹, ◌∙◌}
use mathlib.Core.Bool.{Bool, true}
use mathlib.Core.List.{List}
use mathlib.Core.Logic.{◌↔◌}
use native.Mathlib.Omega.{arith}
use borrow.Author.Tests.{eqb-true, eq-eqb, le-ltb}
use Rattle.base.specs.Below.{every}
use Rattle.base.proofs.Below.{every-at, every-all}
use Rattle.base.proofs.Choice.{passed}
use Rattle.records.specs.Maps.{cells, address_at, value_at, map_accepted}
use Rattle.records.specs.Sets.{Set, count_of, set_of, set_accepted}
use Rattle.records.proofs.Sets.{well-formed}
use Rattle.machine.specs.Machine.{start}
use Rattle.machine.specs.Runs.{after}
use Rattle.machine.specs.declared.Choice.{Choice}
use Rattle.table.specs.Values.{Assignment, satisfies}
use Rattle.encoding.specs.Assignments.{bits_of, assignment_of}
use Rattle.encoding.specs.Checkpoints.{checkpoints}
use Rattle.encoding.specs.Encodings.{table_of}
use Rattle.encoding.proofs.Assigned.{bits_inside, bits-apart, stands_in, stands-out}
use Rattle.encoding.proofs.Failing.{Failing, Stands, last-exits, last-ends}
use Rattle.encoding.proofs.Listed.{complete}
use Rattle.encoding.proofs.Marks.{Beyond}
use Rattle.encoding.proofs.Meant.{agrees_at, meant}
use Rattle.encoding.proofs.Tests.{same_tests}
use Rattle.claims.specs.Tables.{Agrees, Fails, Failure, IsAssignment, Satisfying, SatisfiableExactly, OneToOne, TableMeansTheProgram, AssignmentsMatchRuns}

-- ---- failing runs

module _ (S : Set) (bound : ℕ) (memory : ℕ → ℕ) (run : List Choice) where
  module _ (cs : List ℕ) (g : Assignment) where
    fails_in : Fails S bound memory run → Failing S cs g bound (start memory) run
    fails_in fails = record {
      permitted = fails.permitted;
      bounded = fails.bounded;
      ends = subst⁻¹ (λ (r : List Choice). (after S (start memory) r).ended ≡ true) fails.last (last-ends S (start memory) fails.before fails.thread fails.exit);
      fails = fails.code;
    }

    fails-out : Failing S cs g bound (start memory) run → Fails S bound memory run
    fails-out failing =
        let r = last-exits S (start memory) run (λ e. refl) refl failing.permitted failing.fails in
        record {
          permitted = failing.permitted;
          bounded = failing.bounded;
          before = r.0;
          thread = r.1.0;
          last = r.1.1.0;
          exit = r.1.1.1;
          code = failing.fails;
        }

-- ---- agreeing with the map

module _ (S : Set) (cs : List ℕ) (g : Assignment) (map : List ℕ) where
  agrees_in : Agrees map g.first → every (cells map) (agrees_at S cs g map) ≡ true
  agrees_in f = every-all (agrees_at S cs g map) (cells map) (λ j h. eq-eqb (g.first (address_at map j)) (value_at map j) (f j h))

  agrees-out : every (cells map) (agrees_at S cs g map) ≡ true → Agrees map g.first
  agrees-out e j h = eqb-true (g.first (address_at map j)) (value_at map j) (every-at (agrees_at S cs g map) (cells map) j e h)

-- ---- a set, a map and a bound

set_beyond : (set : List ℕ) → Beyond (set_of set)
set_beyond set t p h = passed _ _ (le-ltb p (count_of set t) h)

module _ (set map : List ℕ) (bound : ℕ) (accepted : set_accepted set ≡ true) where
  abbrev S : Set
  S = set_of set

  abbrev cs : List ℕ
  cs = checkpoints S

  table-meant : (g : Assignment) → (satisfies g (table_of set map bound) ≡ true) ↔
      ((every (cells map) (agrees_at S cs g map) ≡ true) × ((run : List Choice) × (Failing S cs g bound (start g.first) run × Stands S cs g 0 bound run)))
  unfolding table_of
  table-meant g = meant S cs g map bound (well-formed set accepted) (set_beyond set) (complete S)

  -- a failing run's bits lie among the table's
  bits_are : (memory : ℕ → ℕ) (run : List Choice) → Fails S bound memory run → (k kind t : ℕ) → bits_of run k kind t ≡ true →
      (k < bound) × ((kind < 2) × (t < S.threads))
  bits_are memory run fails k kind t e =
      let r = bits_inside S (start memory) run fails.permitted k kind t e in
      (omega (arith, r.0, fails.bounded), r.1)

  assignment_of_lem : (memory : ℕ → ℕ) (run : List Choice) → Failure set map bound memory run → Satisfying set map bound (assignment_of memory run)
  assignment_of_lem memory run failure =
      let g = assignment_of memory run in
      record {
        is_assignment = record { bits = bits_are memory run failure.fails; is_memory = failure.is_memory };
        satisfied = (table-meant g).1 (agrees_in S cs g map failure.agrees, (run, (fails_in S bound memory run cs g failure.fails, stands_in S cs g bound run (λ k kind t. refl))));
      }

  -- bits that stand for a failing run, and lie among the table's, are that run's
  own_bits : (g : Assignment) → IsAssignment S.threads bound g → (run : List Choice) → Fails S bound g.first run → Stands S cs g 0 bound run → g ≡ assignment_of g.first run
  own_bits g is_assignment run fails stands =
      ap (λ (bits : ℕ → ℕ → ℕ → Bool). record { choice = bits; first = g.first }) (fun_ext (λ k. fun_ext (λ kind. fun_ext (λ t. here k kind t))))
    where
      here : (k kind t : ℕ) → g.choice k kind t ≡ bits_of run k kind t
      here k kind t = same_tests (g.choice k kind t) (bits_of run k kind t)
          (λ e. let r = is_assignment.bits k kind t e in sym (stands-out S cs g bound run stands k kind t r.0 r.1.0 r.1.1) ∙ e)
          (λ e. let r = bits_are g.first run fails k kind t e in stands-out S cs g bound run stands k kind t r.0 r.1.0 r.1.1 ∙ e)

  pair_of : (g : Assignment) → Satisfying set map bound g → (run : List Choice) × ((g ≡ assignment_of g.first run) × Failure set map bound g.first run)
  pair_of g satisfying =
      let r = (table-meant g).0 satisfying.satisfied in
      let run = r.1.0 in
      let fails = fails-out S bound g.first run cs g r.1.1.0 in (
        run,
        (
          own_bits g satisfying.is_assignment run fails r.1.1.1,
          record {
            is_memory = satisfying.is_assignment.is_memory;
            agrees = agrees-out S cs g map r.0;
            fails = fails;
          },
        ),
      )

  one-to-one : OneToOne set map bound
  one-to-one = record {
    assignment = assignment_of_lem;
    pair = pair_of;
    apart = λ memory other run another f h e.
        (ap (λ (g : Assignment). g.first) e, bits-apart run another (λ k kind t. ap (λ (g : Assignment). g.choice k kind t) e));
  }

  exactly : SatisfiableExactly set map bound
  exactly = (
    λ w. let r = pair_of w.0 w.1 in (w.0.first, (r.0, r.1.1)),
    λ w. (assignment_of w.0 w.1.0, assignment_of_lem w.0 w.1.0 w.1.1),
  )

pub table_means_the_program : TableMeansTheProgram
table_means_the_program set map bound accepted map_accepted low high = exactly set map bound accepted

pub assignments_match_runs : AssignmentsMatchRuns
assignments_match_runs set map bound accepted map_accepted low high = one-to-one set map bound accepted
