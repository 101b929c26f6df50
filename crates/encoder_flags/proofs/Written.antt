-- A flag's tree with its links as the code asks for them. Assumes nothing.
use Prim.Native.Nat.{ℕ, suc, ◌+◌, ◌≤◌, ◌<◌}
use mathlib.Core.Path.{◌≡◌, subst}
use mathlib.Core.Bool.{true, false}
use mathlib.Core.List.{List, []}
use native.Mathlib.Omega.{arith}
use lib.ListN.{get_or}
use borrow.Author.Tests.{ne_eqb}
use Rattle.records.specs.Sets.{Set, most_statements}
use Rattle.encoding.specs.Slots.{flag, Slot, Term}
use Rattle.encoding.specs.Steps.{Link as ChainLink, skip, linked, chain, base, leads}
use Rattle.encoder_slots.specs.Pieces.{WritesTree}
use Rattle.encoder_slots.proofs.Entries.{tree_of}
use Rattle.set_index.specs.Members.{names_target}
use Rattle.encoder_chains.proofs.Leads.{leads-elsewhere}
use Rattle.encoder_chains.proofs.Trees.{chain-none, chain_more, chain-to}
use Rattle.set_index.specs.ListTables.{JumpsOf, onward, next_jumps}
use Rattle.encoder_flags.specs.Named.{NamedFirst}
use Rattle.encoder_flags.proofs.Lists.{passed_over, named-later, named-next}

-- the chain of a flag, its links as the code asks for them
pub flag-chained : (S : Set) (cs : List ℕ) (k t j count : ℕ) → count ≡ S.count t → (places : Slot → ℕ) (out : List ℕ) (n : ℕ) (after : List ℕ) (m at : ℕ) →
    WritesTree places (chain (leads S [] 0 t j) count (base S cs k flag t j)) out n after m at → WritesTree places (tree_of S cs k flag t j) out n after m at
flag-chained S cs k t j count e places out n after m at w =
    subst (λ (i : ℕ). WritesTree places (chain (leads S [] 0 t j) i (base S cs k flag t j)) out n after m at) e w

-- no jump of a thread of `count` statements names j
module _ (places : Slot → ℕ) (S : Set) (t j count : ℕ) (inside : j < count) (names : (x : ℕ) → x < count → names_target (S.statement t x) j ≡ false) (tree : Term) (start : List ℕ) (m : ℕ) where
  abbrev leading : ℕ → ChainLink
  leading = leads S [] 0 t j

  elsewhere : (x : ℕ) → x < count → (suc x ≡ j → ⊥) → leading x ≡ skip
  elsewhere x p f = leads-elsewhere (S.statement t x) t j x (suc x) (names x p) (ne_eqb (suc x) j f)

  -- no statement stands before j
  pub none_lead : j ≡ 0 → (out : List ℕ) (n at : ℕ) → WritesTree places tree start m out n at → WritesTree places (chain leading count tree) start m out n at
  none_lead first out n at w =
      chain-to places leading tree start m out n at 0 count (omega arith)
      (λ (x : ℕ) (p : 0 ≤ x) (q : x < count). elsewhere x q (λ (e : suc x ≡ j). omega arith))
      (chain-none places leading tree start m out n at w)

  -- statement i stands before j: the others give no link
  pub before-leads : (i : ℕ) → i + 1 ≡ j → (out : List ℕ) (n at : ℕ) (out1 : List ℕ) (n1 at1 : ℕ) →
      (WritesTree places (chain leading i tree) start m out n at → WritesTree places (linked (leading i) (chain leading i tree)) start m out1 n1 at1) →
      WritesTree places tree start m out n at → WritesTree places (chain leading count tree) start m out1 n1 at1
  before-leads i next out n at out1 n1 at1 put w =
      chain-to places leading tree start m out1 n1 at1 (i + 1) count (omega arith)
      (λ (x : ℕ) (p : i + 1 ≤ x) (q : x < count). elsewhere x q (λ (e : suc x ≡ j). omega arith))
      (chain_more places leading tree start m out1 n1 at1 i
      (put (chain-to places leading tree start m out n at 0 i (omega arith)
      (λ (x : ℕ) (p : 0 ≤ x) (q : x < i). elsewhere x (omega arith) (λ (e : suc x ≡ j). omega arith))
      (chain-none places leading tree start m out n at w))))

-- ---- the links of the jumps that name j

-- the links of the statements before `low` are written, of those from `from` on and before `end`; `hit` is the jump to look for
pub record Reached (places : Slot → ℕ) (S : Set) (t j count from end : ℕ) (tree : Term) (start : List ℕ) (m hit : ℕ) (out : List ℕ) (n at : ℕ) : Type 0 where
  pub low : ℕ
  pub since : from ≤ low
  pub within : low ≤ end
  pub due : low ≤ hit
  pub soonest : NamedFirst S t count hit low j
  pub written : WritesTree places (chain (leads S [] 0 t j) low tree) start m out n at

-- j does not stand after one of the statements from `from` on and before `end`
module _ (places : Slot → ℕ) (S : Set) (t j : ℕ) (small : j < most_statements) (count from end : ℕ) (inside : end ≤ count) (apart : (x : ℕ) → from ≤ x → x < end → (j ≡ x + 1 → ⊥))
    (tree : Term) (start : List ℕ) (m hit : ℕ) (out : List ℕ) (n at : ℕ) (r : Reached places S t j count from end tree start m hit out n at) where
  -- the statements before `hit` give no link
  pub reached-to : (k : ℕ) → r.low ≤ k → k ≤ hit → k ≤ end → WritesTree places (chain (leads S [] 0 t j) k tree) start m out n at
  reached-to k ahead before most =
      chain-to places (leads S [] 0 t j) tree start m out n at r.low k ahead
      (λ (x : ℕ) (p : r.low ≤ x) (q : x < k). passed_over S t count j small hit r.low r.soonest x p (omega arith) (omega arith)
      (λ (e : suc x ≡ j). let s = r.since in apart x (omega arith) (omega arith) (omega arith)))
      r.written

  -- jump `hit` gives its link
  pub reached-more : hit < end → names_target (S.statement t hit) j ≡ true → (table : List ℕ) → JumpsOf S t count table → (next : ℕ) → hit < next →
      next ≡ onward hit (get_or table (next_jumps t + hit) 0) → (out1 : List ℕ) (n1 at1 : ℕ) →
      (WritesTree places (chain (leads S [] 0 t j) hit tree) start m out n at → WritesTree places (linked (leads S [] 0 t j hit) (chain (leads S [] 0 t j) hit tree)) start m out1 n1 at1) →
      Reached places S t j count from end tree start m next out1 n1 at1
  reached-more more names table w next greater is out1 n1 at1 put = record {
    low = hit + 1;
    since = (let s = r.since in let d = r.due in omega arith);
    within = omega arith;
    due = omega arith;
    soonest = named-next S t count j small table w hit next (omega arith) names is;
    written = chain_more places (leads S [] 0 t j) tree start m out1 n1 at1 hit (put (reached-to hit r.due (omega arith) (omega arith)));
  }

  -- no such jump is left
  pub reached-all : end ≤ hit → (WritesTree places (chain (leads S [] 0 t j) end tree) start m out n at) × (NamedFirst S t count hit end j)
  reached-all past = (reached-to end r.within past (omega arith), named-later S t count j small hit r.low end r.within r.soonest)
