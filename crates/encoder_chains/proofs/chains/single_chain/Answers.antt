-- `encoder_chains::chains::single_chain` meets its contract. Assumes nothing.
use Rattle.std.proofs.Common.{inl, inr, rules, List, arith, subst, sym, ℕ, ◌+◌, ◌≡◌, ◌≤◌}
use Rattle.records.specs.Sets.{Set}
use Rattle.encoding.specs.Slots.{Term, kind_at}
use Rattle.encoding.specs.Steps.{chain as chain_of, link}
use Rattle.encoder_slots.specs.Kinds.{number_of}
use Rattle.encoder_slots.specs.Pieces.{WritesTree, chain_room}
use Rattle.encoder_slots.specs.Places.{place_of}
use Rattle.encoder_chains.proofs.Chained.{chained-below}
use Rattle.table.specs.Repeats.{last_index}
use Rattle.encoder_chains.proofs.chains.single_chain.Goals as goal

pub returns-in_default : goal.returns-in_default
returns-in_default g c = (
  λ S cs members lists tree start m e single small ready w.
      let below = chained-below (g.K.NamesKind.number c.args.kind) single in let past = c.in_default.ensures.1 in absurd (omega arith),
  omega arith,
)

pub returns-then-slots-ne-SIZE : goal.returns-then-slots-ne-SIZE
returns-then-slots-ne-SIZE g c = (
  λ (S : Set) cs members lists tree start m (e : S.threads ≡ c.args.threads) single small ready w.
      let few = ready.by_name.four_threads in elim c.then-slots-ne-SIZE.either [ inl h ↦ absurd (h ready.all_places) | inr h ↦ let q = h.1 in absurd (omega arith) ],
  omega arith,
)

pub returns : goal.returns
returns g c =
    let a = c.args in
    let put = c.put_links in
    let many = c.single_links in
    rw (sym c.in-Ok.ensures) (
      λ (S : Set) (cs members lists : List ℕ) (tree : Term) (start : List ℕ) (m : ℕ) e single (small : a.n + chain_room ≤ last_index) ready w.
          let links = link S cs 0 (kind_at (number_of c.in-Ok.kind)) 0 0 in
          subst (λ (k : ℕ). WritesTree (place_of a.slots.now) (chain_of links k tree) start m put.new.out put.result.next put.result.at) (many.ensures.chain S cs e single)
          (put.ensures.links (place_of a.slots.now) links tree start m (omega arith) (λ (i : ℕ) l h post. search rules) w),
      let r = put.ensures.room in omega arith,
    )
