-- How the model check looks up one cell, change request 2026-04: "It goes back over the memories behind that read, each at most once". Statements
-- alone; proofs/Lookups.antt proves them. Assumes nothing.
use Rattle.std.specs.Prelude.{ℕ, suc, ◌≤◌, ◌<◌, ◌≡◌, cond, List, ◌⊎◌, eqb, length, get_or}
use Rattle.table.specs.Formulas.{FIRST, IF, READ, WRITE}
use Rattle.table.specs.Values.{Assignment, as_word, values_of}
use Rattle.table.specs.declared.Formula.{Formula}
use Rattle.encoding.specs.Encodings.{table_of}
use Rattle.evaluation.specs.Evaluations.{record_at, cell_back, memories_back, AtTurn}
use Rattle.claims.specs.Runs.{AreBytes}
use Rattle.claims.specs.Tables.{ForAccepted}

-- ---- one look-up

-- of the cell at address x, among records and the words of their values
module _ (first : ℕ → ℕ) (formulas : ℕ → Formula) (values : ℕ → ℕ) (x : ℕ) where
  -- It goes from memory m to the next one, which lies behind m: m is a write at another address, into that memory, or an if that chooses it.
  abbrev pub Passes : (m next : ℕ) → Type 0
  Passes m next =
      (((formulas m).operation ≡ WRITE) × ((values (formulas m).b ≡ x → ⊥) × (next ≡ (formulas m).a)))
      ⊎ (((formulas m).operation ≡ IF) × (next ≡ cond (eqb (values (formulas m).a) 1) (formulas m).b (formulas m).c))

  -- It ends at memory m with the cell: m is a write at this address, of that value, or first memory, which has that cell.
  abbrev pub Ends : (m cell : ℕ) → Type 0
  Ends m cell =
      (((formulas m).operation ≡ WRITE) × ((values (formulas m).b ≡ x) × (cell ≡ values (formulas m).c)))
      ⊎ (((formulas m).operation ≡ FIRST) × (cell ≡ first x))

  -- It starts at memory m, goes on from each memory visited to the next, and ends at the last with the cell.
  pub record LooksBack (m cell : ℕ) (visited : List ℕ) : Type 0 where
    pub some : 0 < length visited
    pub starts : get_or visited 0 0 ≡ m
    pub passes : (k : ℕ) → suc k < length visited → Passes (get_or visited k 0) (get_or visited (suc k) 0)
    pub ends : (k : ℕ) → suc k ≡ length visited → Ends (get_or visited k 0) cell
    -- the visited memories strictly fall
    pub falls : (j k : ℕ) → j < k → k < length visited → get_or visited k 0 < get_or visited j 0
    -- each is visited once
    pub once : (j k : ℕ) → j < length visited → k < length visited → get_or visited j 0 ≡ get_or visited k 0 → j ≡ k

-- ---- the claim

-- the look-up for record i of a table: in the memory that is its operand a, at the value of its operand b
module _ (g : Assignment) (table : List Formula) (i : ℕ) (formulas : ℕ → Formula) (values : ℕ → ℕ) where
  abbrev pub address : ℕ
  address = values (record_at table i).b

  -- what the loop gives, and the memories that it looks at; it may look at as many as the table has records
  abbrev pub cell : ℕ
  cell = cell_back g.first formulas values (length table) (record_at table i).a address

  abbrev pub visited : List ℕ
  visited = memories_back formulas values (length table) (record_at table i).a address

  -- The loop goes so, in no more turns than the bound has steps, and what it gives is the record's value.
  pub record ReadsBack (bound : ℕ) : Type 0 where
    pub looks_back : LooksBack g.first formulas values address (record_at table i).a cell visited
    pub few : length visited ≤ bound
    pub value : as_word (values_of g table i) ≡ cell

-- for each read record at its turn, under every assignment, that of each model among them
abbrev pub LooksBackOnce : Type 0
LooksBackOnce = ForAccepted (λ set map bound. AreBytes set → AreBytes map →
    (g : Assignment) (i : ℕ) (formulas : ℕ → Formula) (values : ℕ → ℕ) → (record_at (table_of set map bound) i).operation ≡ READ →
    AtTurn g (table_of set map bound) i formulas values → ReadsBack g (table_of set map bound) i formulas values bound)
