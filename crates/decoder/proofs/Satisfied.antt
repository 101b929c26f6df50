-- Past 11 a model is accepted exactly if its assignment satisfies. Assumes nothing.
use Prim.Native.Nat.{ℕ, suc, ◌+◌, ◌*◌, ◌≤◌, ◌<◌}
use mathlib.Core.Path.{◌≡◌, refl, ap, sym, ◌∙◌}
use mathlib.Core.Bool.{Bool, true, false, not, cond, ◌&&◌}
use mathlib.Core.List.{List, [], ◌∷◌}
use native.Mathlib.Omega.{arith}
use borrow.Author.Tests.{lt-ltb, le-ltb, le-leb}
use lib.Dec.{ltb}
use lib.ListN.{length}
use Rattle.base.proofs.Choice.{chosen, passed, and_true}
use Rattle.records.specs.Maps.{map_accepted, set_cells}
use Rattle.records.specs.Sets.{set_of, set_accepted}
use Rattle.table.specs.Values.{Assignment, Value, as_bit, is_demand, met, satisfies, values_of}
use Rattle.table.specs.declared.Formula.{Formula}
use Rattle.encoding.specs.Encodings.{table_of}
use Rattle.decoding.specs.Models.{model_fits, assigned, first_false}
use Rattle.std.specs.Prelude.{Ok, Err}
use Rattle.decoder.specs.Answers.{false_record, unsatisfied, judged, model_answer, check_answer}

-- a record is found exactly where not all is met
found_unmet : (values : ℕ → Value) (table : List Formula) (n : ℕ) → ltb (first_false values n table) (n + length table) ≡ not (met values table)
unfolding first_false met
found_unmet values [] n = le-ltb n (n + 0) (omega arith)
found_unmet values (f ∷ table) n =
    let e : n + suc (length table) ≡ suc n + length table = omega arith in
    go (is_demand f.operation) (as_bit (values f.a)) (ap (ltb (first_false values (suc n) table)) e ∙ found_unmet values table (suc n))
  where
    go : (d b : Bool) → ltb (first_false values (suc n) table) (n + suc (length table)) ≡ not (met values table) →
        ltb (cond (d && not b) n (first_false values (suc n) table)) (n + suc (length table)) ≡ not (cond d b true && met values table)
    go true true h = h
    go true false h = lt-ltb n (n + suc (length table)) (omega arith)
    go false b h = h

-- the answer past 11, by whether the assignment satisfies
pub judged-satisfies : (g : Assignment) (table : List Formula) →
    judged (false_record g table) (length table) ≡ cond (satisfies g table) (Ok (tt {0})) (Err (unsatisfied (false_record g table)))
unfolding satisfies
judged-satisfies g table =
    let e : 0 + length table ≡ length table = omega arith in
    ap (λ (b : Bool). cond b (Err (unsatisfied (false_record g table))) (Ok (tt {0})))
    (ap (ltb (false_record g table)) (sym e) ∙ found_unmet (values_of g table) table 0)
    ∙ turned (met (values_of g table) table)
  where
    turned : (b : Bool) → cond (not b) (Err (unsatisfied (false_record g table))) (Ok (tt {0})) ≡ cond b (Ok (tt {0})) (Err (unsatisfied (false_record g table)))
    turned true = refl
    turned false = refl

-- the whole call, once nothing before 16 refuses
pub check-satisfies : (set map : List ℕ) (bound : ℕ) (model : List ℕ) (room : ℕ) →
    set_accepted set ≡ true → map_accepted set_cells map ≡ true → 0 < bound → bound ≤ 64 →
    model_fits (set_of set).threads bound model ≡ true → 32 * length (table_of set map bound) ≤ room →
    check_answer set map bound model room
    ≡ cond (satisfies (assigned (set_of set).threads bound model) (table_of set map bound)) (Ok (tt {0}))
    (Err (unsatisfied (false_record (assigned (set_of set).threads bound model) (table_of set map bound))))
unfolding check_answer model_answer
check-satisfies set map bound model room a m some few fits h =
    chosen _ _ (and_true a m) ∙ (chosen _ _ (and_true (lt-ltb 0 bound some) (le-leb bound 64 few)) ∙ (chosen _ _ fits
    ∙ (passed _ _ (le-ltb room (32 * length (table_of set map bound)) h)
    ∙ judged-satisfies (assigned (set_of set).threads bound model) (table_of set map bound))))
