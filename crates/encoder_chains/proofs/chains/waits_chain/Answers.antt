-- `encoder_chains::chains::waits_chain` meets its contract. Assumes nothing.
use Rattle.std.proofs.Common.{rules, List, arith, length, subst, sym, ℕ, ◌+◌, ◌<◌, ◌≡◌, ◌≤◌}
use Rattle.records.specs.Sets.{Set}
use Rattle.encoding.specs.Slots.{Term, waits}
use Rattle.encoding.specs.Steps.{chain as chain_of, link}
use Rattle.encoder_slots.specs.Pieces.{WritesTree, Ready, chain_room}
use Rattle.encoder_slots.specs.Places.{place_of}
use Rattle.table.specs.Repeats.{last_index}
use Rattle.encoder_chains.proofs.chains.waits_chain.Goals as goal

pub returns : goal.returns
returns c =
    let a = c.args in
    let put = c.put_links in (
      λ (S : Set) (cs members : List ℕ) (tree : Term) (start : List ℕ) (m : ℕ) (e : length cs ≡ a.count) row (small : a.n + chain_room ≤ last_index) (ready : Ready S cs members a.table.now a.slots.now m) w.
          let links = link S cs 0 waits a.t 0 in
          let named = ready.by_name in
          let few = named.eight_points in
          subst (λ (k : ℕ). WritesTree (place_of a.slots.now) (chain_of links k tree) start m put.new.out put.result.next put.result.at) (sym e)
          (put.ensures.links (place_of a.slots.now) links tree start m (omega arith) (λ (p : ℕ) l (h : p < a.count) post. let column : p < length cs = omega arith in search rules) w),
      let r = put.ensures.room in omega arith,
    )
