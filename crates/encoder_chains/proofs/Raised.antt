-- The chain of RAISED up to a CHECK that its list names. Assumes nothing.
use Rattle.set_index.specs.ListTables.{no_statement}
use Prim.Native.Nat.{ℕ, ◌≤◌, ◌<◌}
use mathlib.Core.Path.{◌≡◌}
use mathlib.Core.Bool.{true}
use mathlib.Core.List.{List}
use native.Mathlib.Omega.{arith}
use lib.ListN.{get_or}
use Rattle.base.proofs.Choice.{refuted, passed}
use Rattle.records.specs.Sets.{Set, most_statements}
use Rattle.machine.specs.Machine.{is_check}
use Rattle.encoding.specs.Slots.{Slot, Term, raised}
use Rattle.encoding.specs.Steps.{skip, link, chain}
use Rattle.encoder_slots.specs.Pieces.{WritesTree}
use Rattle.set_index.specs.Lists.{Leads}
use Rattle.encoder_chains.proofs.Trees.{chain-to}

-- the chain of RAISED, where statement `it` is the next CHECK to visit: it is written up to there, or whole
pub record Reached (S : Set) (cs : List ℕ) (t p : ℕ) (places : Slot → ℕ) (tree : Term) (start : List ℕ) (m : ℕ) (out : List ℕ) (n at it : ℕ) : Type 0 where
  pub there : it < no_statement → (it < S.count t) × (is_check S t (get_or cs p 0) it ≡ true) × WritesTree places (chain (link S cs 0 raised t p) it tree) start m out n at
  pub done : no_statement ≤ it → WritesTree places (chain (link S cs 0 raised t p) (S.count t) tree) start m out n at

pub reached : (S : Set) (cs : List ℕ) (t p : ℕ) → S.count t ≤ most_statements → (places : Slot → ℕ) (tree : Term) (start : List ℕ) (m : ℕ) (out : List ℕ) (n at it from : ℕ) →
    from ≤ it → from ≤ S.count t → Leads (λ x. x < S.count t) (is_check S t (get_or cs p 0)) it from →
    WritesTree places (chain (link S cs 0 raised t p) from tree) start m out n at → Reached S cs t p places tree start m out n at it
reached S cs t p few places tree start m out n at it from onward most l w = record {
  there = λ h. let b = l.belongs h in let i = b.0 in
      (b.0, b.1, chain-to places (link S cs 0 raised t p) tree start m out n at from it onward (λ (x : ℕ) (q : from ≤ x) (r : x < it). none x q (omega arith) r) w);
  done = λ (h : no_statement ≤ it).
      chain-to places (link S cs 0 raised t p) tree start m out n at from (S.count t) most (λ (x : ℕ) (q : from ≤ x) (r : x < S.count t). none x q r (omega arith)) w;
}
  where
    none : (x : ℕ) → from ≤ x → x < S.count t → x < it → link S cs 0 raised t p x ≡ skip
    none x q i r = passed _ _ (refuted (is_check S t (get_or cs p 0) x) (λ e. let b = l.soonest x i q e in omega arith))
