-- Values of a table by their links: those without links, and those whose links the statements of a thread give. This serves the code; no call's
-- promise needs it. Assumes nothing.
use Rattle.std.specs.Prelude.{ℕ, ◌+◌, ◌<◌, ◌*◌, ◌≡◌, true, false, List}
use Rattle.records.specs.Sets.{Set}
use Rattle.encoding.specs.Slots.{kind_at, kind_number, kind_count, flag}
use Rattle.encoding.specs.Steps.{per_thread, before_thread, shape, link, links, kept}
use Rattle.encoder_slots.specs.Places.{of_statement}
use Rattle.encoder_chains.specs.Given.{given_by}
use Rattle.encoder_slots.specs.Pieces.{block_room}

-- the most records of a step: of the values of its kinds, and its constraint
abbrev pub step_room : ℕ
step_room = 36 * block_room + 2

-- the value of a kind for a and b is there, and has no links
pub record BareEntry (S : Set) (cs : List ℕ) (kind a b : ℕ) : Type 0 where
  pub linkless : links S cs 0 (kind_at kind) a b ≡ 0
  pub there : kept S cs 0 (shape (kind_at kind)) a b ≡ true
  pub known : kind < kind_count
  pub plain : of_statement kind ≡ false
  pub no_flag : kind ≡ kind_number flag → ⊥

-- the value of a kind for a and b has a link for each statement of thread t, that which the statement gives
pub record GivenEntry (S : Set) (cs : List ℕ) (kind a b t : ℕ) : Type 0 where
  pub linked : link S cs 0 (kind_at kind) a b ≡ given_by S kind t
  pub counted : links S cs 0 (kind_at kind) a b ≡ S.count t
  pub there : kept S cs 0 (shape (kind_at kind)) a b ≡ true
  pub known : kind < kind_count
  pub plain : of_statement kind ≡ false
  pub no_flag : kind ≡ kind_number flag → ⊥

-- a kind has one value for each thread, whose links the thread's statements give
pub record ByThread (S : Set) (cs : List ℕ) (kind : ℕ) : Type 0 where
  pub own : (t : ℕ) → GivenEntry S cs kind t 0 t
  pub each : shape (kind_at kind) ≡ per_thread

-- a kind has one value before the first thread, without links, and one after each thread, whose links its statements give
pub record AfterThread (S : Set) (cs : List ℕ) (kind : ℕ) : Type 0 where
  pub next : (b t : ℕ) → b ≡ t + 1 → GivenEntry S cs kind 0 b t
  pub before : shape (kind_at kind) ≡ before_thread
  pub first : BareEntry S cs kind 0 0
