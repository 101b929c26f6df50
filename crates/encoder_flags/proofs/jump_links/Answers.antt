-- `encoder_flags::jump_links` meets its contract. Assumes nothing.
use Rattle.std.proofs.Common.{List, [], arith, subst, sym, ℕ, ◌+◌, ◌-◌, ◌<◌, ◌∙◌, ◌≡◌, ◌≤◌}
use Rattle.encoder_chains.proofs.Trees.{chain-none, chain_more}
use Rattle.encoder_slots.specs.Places.{place_of}
use Rattle.encoder_slots.proofs.Ready.{ready-jumps}
use Rattle.encoding.specs.Steps.{chain, leads}
use Rattle.encoding.specs.Slots.{Term}
use Rattle.records.specs.Sets.{Set}
use Rattle.set_index.specs.ListTables.{JumpsOf}
use Rattle.encoder_flags.specs.Named.{NamedFirst}
use Rattle.encoder_flags.proofs.Lists.{named_past, past_ahead}
use Rattle.table.specs.Repeats.{last_index}
use Rattle.encoder_flags.proofs.Lists.{read_on}
use Rattle.encoder_flags.proofs.jump_links.Goals as goal

pub returns-then-j-eq0 : goal.returns-then-j-eq0
returns-then-j-eq0 c =
    let heads : let a = c.args in (S : Set) → JumpsOf S a.t a.count a.lists.now → NamedFirst S a.t a.count c.first-hit.result 0 a.j = let a = c.args in
    let few = c.requires.1 in
    let inside = c.requires.2 in
    λ (S : Set) listed. subst (λ (it : ℕ). NamedFirst S a.t a.count it 0 a.j) (sym c.first-hit.ensures) (listed.heads a.j (omega arith)) in
    let a = c.args in
    let few = c.requires.1 in
    let inside = c.requires.2 in
    let all = c.named_links-all in
    let most = all.ensures.2 in
    let zero = c.if-j-eq0.true in (
      λ (S : Set) (cs members : List ℕ) (tree : Term) (start : List ℕ) (m : ℕ) row stands ready w.
          let listed = ready-jumps ready row stands in
          (all.ensures.0 S cs members tree start m a.j a.count 0 (omega arith) (omega arith) (omega arith) (omega arith)
          (λ (x : ℕ) (p : 0 ≤ x) (q : x < a.count) (e : a.j ≡ x + 1). omega arith) row stands ready (heads S listed)
          (chain-none (place_of a.slots.now) (leads S [] 0 a.t a.j) tree start m a.out.now a.n a.base w)).0,
      omega arith,
    )

pub returns : goal.returns
returns c =
    let heads : let a = c.args in (S : Set) → JumpsOf S a.t a.count a.lists.now → NamedFirst S a.t a.count c.first-hit.result 0 a.j = let a = c.args in
    let few = c.requires.1 in
    let inside = c.requires.2 in
    λ (S : Set) listed. subst (λ (it : ℕ). NamedFirst S a.t a.count it 0 a.j) (sym c.first-hit.ensures) (listed.heads a.j (omega arith)) in
    let a = c.args in
    let q = c.requires in
    let few = q.1 in
    let inside = q.2 in
    let small = q.3 in
    let later = c.named_links-later in
    let g = c.past-next in
    let p = c.put_link-tree in
    let link = c.leads-link in
    let s = c.statement_at-statement in
    let earlier = c.named_links-earlier in
    let due = earlier.ensures.1 in
    let most = earlier.ensures.2 in
    let one = p.ensures.1 in
    let rest = later.ensures.2 in
    let ahead = past_ahead (a.j - 1) earlier.result.hit g.result _ (omega arith) g.ensures.0 g.ensures.1 in
    let room : earlier.result.tree.next ≤ last_index = omega arith in (
      λ (S : Set) (cs members : List ℕ) (tree : Term) (start : List ℕ) (m : ℕ) row stands ready w.
          let listed = ready-jumps ready row stands in
          let places = place_of a.slots.now in
          let links = leads S [] 0 a.t a.j in
          let before = earlier.ensures.0 S cs members tree start m a.j a.count 0 (omega arith) (omega arith) (omega arith) (omega arith)
          (λ (x : ℕ) (l : 0 ≤ x) (r : x < a.j - 1) (e : a.j ≡ x + 1). omega arith) row stands ready (heads S listed)
          (chain-none places links tree start m a.out.now a.n a.base w) in
          (later.ensures.0 S cs members tree start m a.j a.count (a.j - 1 + 1) (omega arith) (omega arith) (omega arith) (omega arith)
          (λ (x : ℕ) (l : a.j - 1 + 1 ≤ x) (r : x < a.count) (e : a.j ≡ x + 1). omega arith) row stands ready
          (named_past S a.t a.count a.j (omega arith) few a.lists.now listed earlier.result.hit (a.j - 1) g.result (omega arith) due g.ensures.0 g.ensures.1 before.1)
          (chain_more places links tree start m _ _ _ (a.j - 1)
          (p.ensures.0 places (links (a.j - 1)) (chain links (a.j - 1) tree) start m room
          (link.ensures S (read_on a.set.now a.first s.ensures c.from.ensures ∙ sym (stands.statement_is (a.j - 1) (omega arith)))) before.0))).0,
      omega arith,
    )
