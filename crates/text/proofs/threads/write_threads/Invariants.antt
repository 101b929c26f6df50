-- `text::threads::write_threads` meets its contract. Assumes nothing.
use Rattle.std.proofs.Common.{List, ℕ, length, take, ◌*◌, ◌≡◌, ◌≤◌}
use Rattle.text.specs.Records.{joined, thread_bytes, statements_before}
use Rattle.text.specs.Sections.{Threads}
use Rattle.text.specs.Drafts.{threads_in}
use Rattle.text.proofs.threads.write_threads.Given as goal

-- the first t threads are written, k statements
pub record Written (T : Threads) (t k : ℕ) (set initial : List ℕ) : Type 0 where
  pub few : k ≤ 32 * t
  pub size : length set ≡ length initial
  pub number : k ≡ statements_before T t
  pub bytes : take (8 * k) set ≡ joined t (thread_bytes T)

abbrev pub invariant-loop-t : goal.invariant-loop-t
invariant-loop-t l = Written (threads_in l.draft l.ended l.counts) l.t l.k l.set l.initial.set
