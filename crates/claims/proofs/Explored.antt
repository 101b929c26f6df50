-- From an exploration of all runs of at most n steps to the table of a set and a map: where it meets no code other than 0, no
-- assignment satisfies the table. Assumes nothing.
use Prim.Native.Nat.{ℕ, zero, suc, ◌≤◌, ◌<◌}
use mathlib.Core.Path.{◌≡◌, refl, ap, sym, fun_ext, subst⁻¹, ◌∙◌}
use mathlib.Core.Bool.{Bool, true, false, cond, ◌&&◌}
use mathlib.Core.List.{List, [], ◌∷◌}
use native.Mathlib.Omega.{arith}
use lib.Dec.{eqb}
use lib.ListN.{length}
use borrow.Author.Tests.{eqb-true, ltb-true}
use Rattle.base.specs.Below.{every}
use Rattle.base.proofs.Below.{every-at, least-passes}
use Rattle.base.proofs.Choice.{chosen, passed, and_left, and_right}
use Rattle.records.specs.Maps.{cells, address_at, value_at, cell_at, mapped, map_value}
use Rattle.records.specs.Sets.{Set, set_of}
use Rattle.machine.specs.Machine.{State, start, actor, step}
use Rattle.machine.specs.Runs.{takes, is_run, after}
use Rattle.machine.specs.declared.Choice.{Choice}
use Rattle.machine.specs.declared.Choice.TheVariants.{Execute, Flush}
use Rattle.machine.proofs.Runs.{takes-actor, run-first, run-rest}
use Rattle.claims.specs.Cases.{Accepted, Unsatisfiable}
use Rattle.claims.specs.Tables.{Agrees}
use Rattle.claims.proofs.Tables.{table_means_the_program}

-- no run of at most n steps from s has a code other than 0; only choices that can be taken are followed
unfoldable pub explored : Set → ℕ → State → Bool
explored S zero s = eqb s.code 0
explored S (suc n) s =
    eqb s.code 0 && every S.threads (λ t.
    elim (takes S s (Execute t)) [ true ↦ explored S n (step S s (Execute t)) | false ↦ true ]
    && elim (takes S s (Flush t)) [ true ↦ explored S n (step S s (Flush t)) | false ↦ true ])

-- what is explored where a choice is taken
abbrev follows : Set → ℕ → State → Choice → Bool
follows S n s c = elim (takes S s c) [ true ↦ explored S n (step S s c) | false ↦ true ]

explored-here : (S : Set) (n : ℕ) (s : State) → explored S n s ≡ true → s.code ≡ 0
unfolding explored
explored-here S zero s h = eqb-true s.code 0 h
explored-here S (suc n) s h = eqb-true s.code 0 (and_left (eqb s.code 0) _ h)

follows_of : (S : Set) (n : ℕ) (s : State) (c : Choice) → actor c < S.threads → explored S (suc n) s ≡ true → follows S n s c ≡ true
unfolding explored
follows_of S n s (Execute t) l h =
    and_left (follows S n s (Execute t)) (follows S n s (Flush t))
    (every-at (λ u. follows S n s (Execute u) && follows S n s (Flush u)) S.threads t (and_right (eqb s.code 0) _ h) l)
follows_of S n s (Flush t) l h =
    and_right (follows S n s (Execute t)) (follows S n s (Flush t))
    (every-at (λ u. follows S n s (Execute u) && follows S n s (Flush u)) S.threads t (and_right (eqb s.code 0) _ h) l)

explored-step : (S : Set) (n : ℕ) (s : State) (c : Choice) → takes S s c ≡ true → explored S (suc n) s ≡ true → explored S n (step S s c) ≡ true
explored-step S n s c e h =
    sym (ap (λ (b : Bool). elim b [ true ↦ explored S n (step S s c) | false ↦ true ]) e)
    ∙ follows_of S n s c (takes-actor S s c e) h

explored-run : (S : Set) (n : ℕ) (s : State) (run : List Choice) → explored S n s ≡ true → is_run S s run ≡ true → length run ≤ n → (after S s run).code ≡ 0
unfolding after
explored-run S n s [] h r l = explored-here S n s h
explored-run S zero s (c ∷ run) h r l = absurd (omega arith)
explored-run S (suc n) s (c ∷ run) h r l =
    explored-run S n (step S s c) run (explored-step S n s c (run-first S s c run r) h) (run-rest S s c run r) (omega arith)

-- a memory with the map's cells over it
abbrev pub mapped_over : List ℕ → (ℕ → ℕ) → ℕ → ℕ
mapped_over map memory a = cond (mapped map a) (map_value map a) (memory a)

-- a memory that agrees with the map has the map's cells
pub agrees-over : (map : List ℕ) (memory : ℕ → ℕ) → Agrees map memory → memory ≡ mapped_over map memory
agrees-over map memory agrees = fun_ext (λ a. go a (mapped map a) refl)
  where
    go : (a : ℕ) (b : Bool) → mapped map a ≡ b → memory a ≡ mapped_over map memory a
    go a true e =
        let j = cell_at (address_at map) (cells map) a in
        let l : j < cells map = ltb-true j (cells map) e in
        ap memory (sym (eqb-true (address_at map j) a (least-passes (λ k. eqb (address_at map k) a) (cells map) l)))
        ∙ agrees j l ∙ sym (chosen (map_value map a) (memory a) e ∙ chosen (value_at map j) 0 e)
    go a false e = sym (passed (map_value map a) (memory a) e)

-- no assignment satisfies the table of a bound that the exploration reaches, from every first memory that agrees with the map
pub unsatisfiable : (set map : List ℕ) (n bound : ℕ) → Accepted set map →
    ((memory : ℕ → ℕ) → explored (set_of set) n (start (mapped_over map memory)) ≡ true) →
    1 ≤ bound → bound ≤ 64 → bound ≤ n → Unsatisfiable set map bound
unsatisfiable set map n bound accepted all low high reaches g satisfying =
    let w = (table_means_the_program set map bound accepted.accepted_set accepted.accepted_map low high).0 (g, satisfying) in
    let memory = w.0 in
    let failure = w.1.1 in
    failure.fails.code
    (explored-run (set_of set) n (start memory) w.1.0
    (subst⁻¹ (λ (m : ℕ → ℕ). explored (set_of set) n (start m) ≡ true) (agrees-over map memory failure.agrees) (all memory))
    failure.fails.permitted
    (omega (arith, failure.fails.bounded, reaches)))
