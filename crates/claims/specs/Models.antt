-- Demand 3 in full, as one claim about whole runs. Its first two sentences are those of Tables.antt; then: "Each model accepted for F decodes to the
-- trace and the step count of its own run and to the map document 01 names, with no other cell; over that map the trace replays to that run's code
-- and step count. The traces that these models decode to are exactly those of at most K steps that replay to a code other than 0 over some map of at
-- most 256 cells that contains S's map." Statements alone; proofs/Models.antt proves them. Assumes nothing.
use Rattle.std.specs.Prelude.{ℕ, ◌≤◌, ◌≡◌, true, ◌||◌, List, ◌↔◌, length}
use Rattle.records.specs.Maps.{map_accepted, mapped, map_value}
use Rattle.records.specs.Sets.{set_of}
use Rattle.machine.specs.Machine.{start}
use Rattle.machine.specs.Maps.{ran}
use Rattle.machine.specs.Runs.{after}
use Rattle.machine.specs.declared.End.TheVariants.{Code}
use Rattle.replay.specs.Replay.{replayed}
use Rattle.table.specs.Values.{Assignment, satisfies}
use Rattle.encoding.specs.Assignments.{assignment_of}
use Rattle.encoding.specs.Encodings.{table_of}
use Rattle.decoding.specs.Decodings.{run_of, reads_first, decoded_trace, decoded_map}
use Rattle.decoding.specs.Models.{model_fits, assigned}
use Rattle.claims.specs.Runs.{AreBytes}
use Rattle.claims.specs.Tables.{Failure, ForAccepted, SatisfiableExactly, OneToOne}

-- Past 11 a model is accepted exactly if its assignment satisfies.
pub record AcceptedModel (set map : List ℕ) (bound : ℕ) (model : List ℕ) : Type 0 where
  pub bytes : AreBytes model
  pub fits : model_fits (set_of set).threads bound model ≡ true
  pub satisfied : satisfies (assigned (set_of set).threads bound model) (table_of set map bound) ≡ true

-- another map contains a map: it has its cells, with their values
abbrev pub Contains : (other map : List ℕ) → Type 0
Contains other map = (a : ℕ) → mapped map a ≡ true → (mapped other a ≡ true) × (map_value other a ≡ map_value map a)

-- what an assignment decodes to
pub record Decodes (set map : List ℕ) (bound : ℕ) (g : Assignment) : Type 0 where
  -- its own run: the one that it stands for, which fails
  pub own_run : g ≡ assignment_of g.first (run_of (set_of set).threads bound g)
  pub fails : Failure set map bound g.first (run_of (set_of set).threads bound g)
  -- the map document 01 names, with no other cell
  pub accepted : map_accepted 256 (decoded_map set map bound g) ≡ true
  pub cells_are : (a : ℕ) → mapped (decoded_map set map bound g) a
      ≡ (mapped map a || reads_first (set_of set) (start g.first) (run_of (set_of set).threads bound g) a)
  pub values_are : (a : ℕ) → mapped (decoded_map set map bound g) a ≡ true → map_value (decoded_map set map bound g) a ≡ g.first a
  -- over that map the trace replays to that run's code and step count
  pub replays : replayed set (decoded_map set map bound g) (decoded_trace set bound g)
      ≡ ran (length (run_of (set_of set).threads bound g)) (Code (after (set_of set) (start g.first) (run_of (set_of set).threads bound g)).code)

-- a trace of at most so many steps that replays to a code other than 0 over some map of at most 256 cells that contains the set's
pub record ReplaysToFailure (set map : List ℕ) (bound : ℕ) (trace : List ℕ) : Type 0 where
  pub other : List ℕ
  pub bytes : AreBytes other
  pub accepted : map_accepted 256 other ≡ true
  pub contains : Contains other map
  pub steps : ℕ
  pub code : ℕ
  pub bounded : steps ≤ bound
  pub failing : code ≡ 0 → ⊥
  pub replays : replayed set other trace ≡ ran steps (Code code)

-- the traces that accepted models decode to
pub record DecodedFromModel (set map : List ℕ) (bound : ℕ) (trace : List ℕ) : Type 0 where
  pub model : List ℕ
  pub accepted_model : AcceptedModel set map bound model
  pub trace_is : decoded_trace set bound (assigned (set_of set).threads bound model) ≡ trace

-- Demand 3 of one set, map and bound.
pub record Meaning (set map : List ℕ) (bound : ℕ) : Type 0 where
  pub satisfiable : SatisfiableExactly set map bound
  pub one_to_one : OneToOne set map bound
  pub decodes : (model : List ℕ) → AcceptedModel set map bound model → Decodes set map bound (assigned (set_of set).threads bound model)
  pub exactly : (trace : List ℕ) → DecodedFromModel set map bound trace ↔ ReplaysToFailure set map bound trace

-- for every accepted set with its map, their records being bytes, and every bound from 1 to 64
abbrev pub DemandThree : Type 0
DemandThree = ForAccepted (λ set map bound. AreBytes set → AreBytes map → Meaning set map bound)
