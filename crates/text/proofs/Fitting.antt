-- Laws of the tests before records are written. Assumes nothing.
use Prim.Native.Nat.{ℕ, zero, suc, ◌*◌, ◌≤◌, ◌<◌}
use mathlib.Core.Path.{◌≡◌, refl, ap, sym, ◌∙◌}
use mathlib.Core.List.{List, [], ◌∷◌}
use mathlib.Core.Bool.{Bool, true, false, cond, not}
use native.Mathlib.Omega.{arith}
use native.Mathlib.Decide.{dec_lt}
use lib.Dec.{leb}
use lib.ListN.{length, get_or, take, get_or-eq_default}
use borrow.Author.Tests.{leb-true, le-leb}
use Rattle.base.proofs.Choice.{chosen, passed, and_left, and_right, and_true, clash}
use Rattle.records.specs.declared.Cell.{Cell}
use Rattle.text.specs.Answers.{threads_fit, statements_fit, labels_fit, checkpoints_fit, map_fits, refused}
use Rattle.text.specs.Readings.{threads_kept, ThreadsStand, threads_judged, checked}
use Rattle.text.specs.Records.{set_bytes, statements}
use Rattle.text.specs.Sections.{Threads}
use Rattle.std.specs.Prelude.{Result, Ok, Err, is_ok}
use Rattle.std.specs.List.{list_all}
use Rattle.records.specs.Refusals.{of_call}
use Rattle.records.specs.declared.refusals.Refusal.{Refusal}
use Rattle.records.specs.declared.refusals.Refusal.TheVariants.{Threads as ByThreads, Statements as ByStatements, Label as ByLabel, Checkpoints as ByCheckpoints, Map as ByMap}
use Rattle.records.specs.declared.refusals.Refused.{Refused}
use Rattle.text.specs.declared.Counts.{Counts}
use Rattle.text.specs.declared.Reading.{Reading}

-- no thread has more than 32 statements
pub four-few : (counts : List ℕ) → length counts ≡ 4 → list_all (λ n. leb n 32) counts ≡ true → (t : ℕ) → get_or counts t 0 ≤ 32
four-few counts four e t = elim (dec_lt t 4) [
  | yes h ↦ leb-true (get_or counts t 0) 32 (all-at (λ n. leb n 32) counts t e (omega (arith, four)))
  | no h ↦ (let o = get_or-eq_default counts 0 {n = t} (omega (arith, four)) in omega (arith, o))
]
  where
    all-at : (test : ℕ → Bool) (xs : List ℕ) (i : ℕ) → list_all test xs ≡ true → i < length xs → test (get_or xs i 0) ≡ true
    all-at test [] i e h = absurd (omega arith)
    all-at test (x ∷ xs) zero e h = and_left (test x) (list_all test xs) e
    all-at test (x ∷ xs) (suc i) e h = all-at test xs i (and_right (test x) (list_all test xs) e) (omega arith)

pub few-four : (counts : List ℕ) → ((t : ℕ) → get_or counts t 0 ≤ 32) → list_all (λ n. leb n 32) counts ≡ true
few-four [] f = refl
few-four (n ∷ ns) f = and_true (le-leb n 32 (f 0)) (few-four ns (λ t. f (suc t)))

-- ---- the checks of the whole text in order

module _ (T : Threads) (cs : List Cell) where
  -- 7 and 8
  late : Result Counts Refused
  late = cond (not (checkpoints_fit (set_bytes T))) (refused ByCheckpoints) (cond (not (map_fits cs)) (refused ByMap) (Ok (record { statements = statements T; cells = length cs })))

  early : Result (Unit {0}) Refusal → Result Counts Refused → Result Counts Refused
  early (Ok x) next = next
  early (Err refusal) next = refused refusal

  checked-is : checked T cs ≡ early (threads_judged T) late
  unfolding checked early late
  checked-is = go (threads_fit T) (statements_fit T) (labels_fit T)
    where
      go : (a b c : Bool) → cond (not a) (refused ByThreads) (cond (not b) (refused ByStatements) (cond (not c) (refused ByLabel) late))
          ≡ early (cond a (cond b (cond c (Ok tt) (Err ByLabel)) (Err ByStatements)) (Err ByThreads)) late
      go true true true = refl
      go true true false = refl
      go true false c = refl
      go false b c = refl

  pub checked-early : (refusal : Refusal) → threads_judged T ≡ Err refusal → Err (of_call refusal) ≡ checked T cs
  unfolding early
  checked-early refusal e = sym (checked-is ∙ ap (λ (j : Result (Unit {0}) Refusal). early j late) e)

  module _ (u : Unit {0}) (e : threads_judged T ≡ Ok u) where
    checked-late : checked T cs ≡ late
    unfolding early
    checked-late = checked-is ∙ ap (λ (j : Result (Unit {0}) Refusal). early j late) e

    pub checked_seven : checkpoints_fit (set_bytes T) ≡ false → refused ByCheckpoints ≡ checked T cs
    unfolding late
    checked_seven f = sym (checked-late ∙ chosen _ _ (ap not f))

    pub checked_eight : checkpoints_fit (set_bytes T) ≡ true → map_fits cs ≡ false → refused ByMap ≡ checked T cs
    unfolding late
    checked_eight f g = sym (checked-late ∙ passed _ _ (ap not f) ∙ chosen _ _ (ap not g))

    pub checked-read : checkpoints_fit (set_bytes T) ≡ true → map_fits cs ≡ true → (counts : Counts) → counts.statements ≡ statements T → counts.cells ≡ length cs → Ok counts ≡ checked T cs
    unfolding late
    checked-read f g counts n m = (λ i. Ok (record { statements = n i; cells = m i })) ∙ sym (checked-late ∙ passed _ _ (ap not f) ∙ passed _ _ (ap not g))

-- the records written from what is kept are those of the threads it stands for
pub assembled : (r : Reading) (draft : List ℕ) (T : Threads) (set : List ℕ) (n : ℕ) (fit : Bool) → ThreadsStand r draft T → r.fits ≡ true →
    (n ≡ statements (threads_kept r draft)) × (n ≤ 128) × (take (8 * n) set ≡ set_bytes (threads_kept r draft)) → length set ≡ 1024 →
    (8 * n ≤ length set → fit ≡ checkpoints_fit (take (8 * n) set)) →
    (checkpoints_fit (set_bytes T) ≡ fit) × (take (8 * n) set ≡ set_bytes T) × (n ≡ statements T)
assembled r draft T set n fit st fits w full check =
    let e = st.kept fits in
    let bytes = w.2 ∙ ap set_bytes (sym e) in
    (ap checkpoints_fit (sym bytes) ∙ sym (check (omega (arith, w.1, full))), bytes, w.0 ∙ ap statements (sym e))

-- what row 8 answers tells
pub fits_eight : (b : Bool) (r : Result (Unit {0}) Refusal) (refusal : Refusal) → r ≡ cond b (Ok tt) (Err ByMap) → r ≡ Err refusal → (refusal ≡ ByMap) × (b ≡ false)
fits_eight true r refusal e f = clash {b = true} refl (ap is_ok (sym e ∙ f))
fits_eight false r refusal e f = (of refusal ByMap (sym f ∙ e), refl)
  where
    of : (a b : Refusal) → ◌≡◌ {A = Result (Unit {0}) Refusal} (Err a) (Err b) → a ≡ b
    of a b q = cc

pub fits_read : (b : Bool) (r : Result (Unit {0}) Refusal) (u : Unit {0}) → r ≡ cond b (Ok tt) (Err ByMap) → r ≡ Ok u → b ≡ true
fits_read true r u e f = refl
fits_read false r u e f = clash {b = true} refl (ap is_ok (sym f ∙ e))
