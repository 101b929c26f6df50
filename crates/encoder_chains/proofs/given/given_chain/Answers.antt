-- `encoder_chains::given::given_chain` meets its contract. Assumes nothing.
use Rattle.std.proofs.Common.{List, arith, subst, sym, ℕ}
use Rattle.records.specs.Sets.{Set}
use Rattle.encoding.specs.Slots.{Term}
use Rattle.encoder_slots.specs.Kinds.{number_of}
use Rattle.encoder_slots.specs.Pieces.{WritesTree}
use Rattle.encoder_slots.specs.Places.{place_of}
use Rattle.encoder_chains.specs.Given.{given_by}
use Rattle.encoder_chains.proofs.Givers.{gives_chain, given-past}
use Rattle.encoder_chains.proofs.Trees.{chain-none, chain-to}
use Rattle.encoder_chains.proofs.given.given_chain.Goals as goal

pub returns-in_default : goal.returns-in_default
returns-in_default g c =
    let a = c.args in (
      λ (S : Set) (cs lists : List ℕ) (tree : Term) (start : List ℕ) (m : ℕ) row few ready w.
          let kind = g.K.NamesKind.number a.kind in
          let links = given_by S kind a.t in
          chain-to (place_of a.slots.now) links tree start m a.out.now a.n a.base 0 (S.count a.t) (omega arith)
          (λ (x : ℕ) p q. given-past kind a.t x (S.statement a.t x).number c.in_default.ensures.1)
          (chain-none (place_of a.slots.now) links tree start m a.out.now a.n a.base w),
      omega arith,
    )

pub returns-in-Some : goal.returns-in-Some
returns-in-Some g c =
    let a = c.args in
    let kind = number_of c.in-Ok.kind in
    let giver = c.in-Some.giver in
    let gives = c.in-Some.ensures in
    let put = c.giver_links in
    rw (sym c.in-Ok.ensures) (
      λ (S : Set) (cs lists : List ℕ) (tree : Term) (start : List ℕ) (m : ℕ) row few ready w.
          subst (λ (x : Term). WritesTree (place_of a.slots.now) x start m put.new.out put.result.next put.result.at)
          (gives_chain kind giver gives a.t S tree (S.count a.t))
          (put.ensures.0 S cs lists (gives.link a.t) tree start m row few ready (gives.places a.slots.now a.t) w),
      put.ensures.1,
    )

pub returns-in-None : goal.returns-in-None
returns-in-None g c =
    let a = c.args in
    rw (sym c.in-Ok.ensures) (
      λ (S : Set) (cs lists : List ℕ) (tree : Term) (start : List ℕ) (m : ℕ) row few ready w.
          let links = given_by S (number_of c.in-Ok.kind) a.t in
          chain-to (place_of a.slots.now) links tree start m a.out.now a.n a.base 0 (S.count a.t) (omega arith)
          (λ (x : ℕ) p q. c.in-None.ensures a.t x (S.statement a.t x).number)
          (chain-none (place_of a.slots.now) links tree start m a.out.now a.n a.base w),
      omega arith,
    )
