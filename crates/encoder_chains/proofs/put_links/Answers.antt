-- `encoder_chains::put_links` meets its contract. Assumes nothing.
use Rattle.std.proofs.Common.{List, arith, refl, subst, ℕ, ◌∙◌, ◌+◌, ◌≡◌, ◌≤◌}
use Rattle.encoding.specs.Slots.{Slot, Term}
use Rattle.encoding.specs.Steps.{Link as ChainLink, chain}
use Rattle.encoder_slots.specs.Pieces.{WritesTree}
use Rattle.encoder_chains.proofs.Trees.{chain-none, chain_more}
use Rattle.table.specs.Repeats.{last_index}
use Rattle.encoder_chains.proofs.put_links.Goals as goal

pub loop-i-init : goal.loop-i-init
loop-i-init g c =
    let a = c.args in (
      omega arith,
      refl,
      λ (places : Slot → ℕ) (links : ℕ → ChainLink) (tree : Term) (start : List ℕ) (m : ℕ) few by w. chain-none places links tree start m a.out.now a.n a.base w,
    )

pub loop-i-preserved : goal.loop-i-preserved
loop-i-preserved g c =
    let a = c.args in
    let l = c.loop-i in
    let p = c.put_link-tree in
    let going = c.loop-i-test.true in
    let added = p.ensures.1 in (
      omega arith,
      p.auto.out ∙ l.invariant.1,
      λ (places : Slot → ℕ) (links : ℕ → ChainLink) (tree : Term) (start : List ℕ) (m : ℕ) (few : a.n + a.many ≤ last_index) by w.
          chain_more places links tree start m _ _ _ l.i
          (p.ensures.0 places (links l.i) (chain links l.i tree) start m (omega arith) (by l.i c.link.result going c.link.ensures) (l.invariant.2 places links tree start m few by w)),
    )

pub returns-clause-links : goal.returns-clause-links
returns-clause-links g c =
    let a = c.args in
    let l = c.loop-i in
    let end : l.i ≡ a.many = omega arith in
    λ (places : Slot → ℕ) (links : ℕ → ChainLink) (tree : Term) (start : List ℕ) (m : ℕ) few by w.
    subst (λ (i : ℕ). WritesTree places (chain links i tree) start m l.out l.tree.next l.tree.at) end (l.invariant.2 places links tree start m few by w)
