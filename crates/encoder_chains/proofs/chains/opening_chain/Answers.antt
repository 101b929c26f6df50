-- `encoder_chains::chains::opening_chain` meets its contract. Assumes nothing.
use Rattle.std.proofs.Common.{rules, List, arith, subst, sym, ℕ, ◌+◌, ◌<◌, ◌≡◌, ◌≤◌}
use Rattle.records.specs.Sets.{Set}
use Rattle.encoding.specs.Slots.{Term, opening}
use Rattle.encoding.specs.Steps.{chain as chain_of, link}
use Rattle.encoder_slots.specs.Pieces.{WritesTree, Ready, chain_room}
use Rattle.encoder_slots.specs.Places.{place_of}
use Rattle.table.specs.Repeats.{last_index}
use Rattle.encoder_chains.proofs.chains.opening_chain.Goals as goal

pub returns : goal.returns
returns c =
    let a = c.args in
    let put = c.put_links in (
      λ (S : Set) (cs members : List ℕ) (tree : Term) (start : List ℕ) (m : ℕ) (e : S.threads ≡ a.threads) inside (small : a.n + chain_room ≤ last_index) (ready : Ready S cs members a.table.now a.slots.now m) w.
          let links = link S cs 0 opening 0 a.p in
          let named = ready.by_name in
          let few = named.four_threads in
          subst (λ (k : ℕ). WritesTree (place_of a.slots.now) (chain_of links k tree) start m put.new.out put.result.next put.result.at) (sym e)
          (put.ensures.links (place_of a.slots.now) links tree start m (omega arith) (λ (t : ℕ) l (h : t < a.threads) post. let row : t < S.threads = omega arith in search rules) w),
      let r = put.ensures.room in omega arith,
    )
