-- `encoder_chains::chains::raised_chain` meets its contract. Assumes nothing.
use Rattle.std.proofs.Common.{List, arith, get_or, refl, subst, sym, true, ℕ, ◌+◌, ◌<◌, ◌∙◌, ◌≤◌}
use Rattle.records.specs.Sets.{Set}
use Rattle.machine.specs.Machine.{is_check}
use Rattle.encoding.specs.Slots.{Term, slot, active, raised, bit_one}
use Rattle.encoding.specs.Steps.{only, link, chain}
use Rattle.encoder_slots.specs.Pieces.{Ready, chain_room}
use Rattle.encoder_slots.specs.Places.{place_of}
use Rattle.encoder_slots.proofs.Ready.{ready-thread}
use Rattle.set_index.specs.Lists.{Leads}
use Rattle.set_index.proofs.Making.{onward-after, onward-is}
use Rattle.encoder_chains.proofs.Raised.{reached}
use Rattle.encoder_chains.proofs.Leads.{if_placed}
use Rattle.encoder_chains.proofs.Trees.{chain-none, chain_more}
use Rattle.table.specs.Formulas.{bit_sort}
use Rattle.table.specs.Repeats.{last_index}
use Rattle.encoder_chains.proofs.chains.raised_chain.Goals as goal

pub returns-then-t-ge-THREADS : goal.returns-then-t-ge-THREADS
returns-then-t-ge-THREADS c =
    let a = c.args in
    (λ S cs members tree start m row column small ready w. let few = ready-thread ready row in absurd (omega arith), omega arith)

pub returns-then-slots-ne-SIZE : goal.returns-then-slots-ne-SIZE
returns-then-slots-ne-SIZE c =
    let a = c.args in
    (λ S cs members tree start m row column small ready w. absurd (c.if-slots-ne-SIZE.true ready.all_places), omega arith)

pub returns-then-table-ne-LENGTH : goal.returns-then-table-ne-LENGTH
returns-then-table-ne-LENGTH c =
    let a = c.args in
    (λ S cs members tree start m row column small ready w. absurd (c.if-table-ne-LENGTH.true ready.by_name.whole), omega arith)

pub loop-i-init : goal.loop-i-init
loop-i-init c =
    let a = c.args in
    let f = c.first-i in (
      omega arith,
      omega arith,
      refl,
      λ (S : Set) (cs members : List ℕ) (tree : Term) (start : List ℕ) (m : ℕ) row column small (ready : Ready S cs members a.table.now a.slots.now m) w.
          let k = ready.by_name in
          reached S cs a.t a.p (k.few_statements a.t row) (place_of a.slots.now) tree start m a.out.now a.n a.base f.result 0 (omega arith) (omega arith)
          (subst (λ (it : ℕ). Leads (λ x. x < S.count a.t) (is_check S a.t (get_or cs a.p 0)) it 0) (sym f.ensures) ((k.checks a.t row).heads a.p column))
          (chain-none (place_of a.slots.now) (link S cs 0 raised a.t a.p) tree start m a.out.now a.n a.base w),
    )

pub loop-i-smaller : goal.loop-i-smaller
loop-i-smaller c =
    let going = c.loop-i-test.true in
    let l = c.loop-i in
    let later : l.i < c.following-i.result = subst (λ (x : ℕ). l.i < x) (sym c.following-i.ensures) (onward-after l.i _ going) in
    omega arith

pub loop-i-preserved : goal.loop-i-preserved
loop-i-preserved c =
    let a = c.args in
    let l = c.loop-i in
    let going = c.loop-i-test.true in
    let b = c.bit_if-link in
    let p = c.put_link-tree in
    let f = c.following-i in
    let later : l.i < f.result = subst (λ (x : ℕ). l.i < x) (sym f.ensures) (onward-after l.i _ going) in
    let added = p.ensures.1 in (
      omega arith,
      omega arith,
      p.auto.out ∙ l.invariant.2,
      λ (S : Set) (cs members : List ℕ) (tree : Term) (start : List ℕ) (m : ℕ) row column (small : a.n + chain_room ≤ last_index) (ready : Ready S cs members a.table.now a.slots.now m) w.
          let k = ready.by_name in
          let places = place_of a.slots.now in
          let links = link S cs 0 raised a.t a.p in
          let r = (l.invariant.3 S cs members tree start m row column small ready w).there going in
          let inside = r.0 in
          let onward = (k.checks a.t row).onwards a.p l.i column r.0 r.1 in
          reached S cs a.t a.p (k.few_statements a.t row) places tree start m _ _ _ f.result (l.i + 1) (omega arith) (omega arith)
          (subst (λ (it : ℕ). Leads (λ x. x < S.count a.t) (is_check S a.t (get_or cs a.p 0)) it (l.i + 1)) (sym (f.ensures ∙ onward-is l.i _ onward)) ((k.checks a.t row).nexts a.p l.i column r.0 r.1))
          (chain_more places links tree start m _ _ _ l.i
          (p.ensures.0 places (links l.i) (chain links l.i tree) start m (omega arith)
          (b.ensures ∙ if_placed places {b = true} {d = is_check S a.t (get_or cs a.p 0) l.i} (sym r.1) bit_sort (slot active a.t l.i) (only bit_one)) r.2)),
    )

pub returns : goal.returns
returns c =
    let a = c.args in
    let l = c.loop-i in
    let past = c.loop-i-test.false in (
      λ (S : Set) (cs members : List ℕ) (tree : Term) (start : List ℕ) (m : ℕ) row column small ready w. (l.invariant.3 S cs members tree start m row column small ready w).done (omega arith),
      l.invariant.1,
    )
