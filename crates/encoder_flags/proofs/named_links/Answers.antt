-- `encoder_flags::named_links` meets its contract. Assumes nothing.
use Rattle.std.proofs.Common.{List, [], ap, arith, subst, sym, true, ℕ, ◌<◌, ◌∙◌, ◌≡◌, ◌≤◌}
use Rattle.set_index.specs.Members.{names_target}
use Rattle.encoder_slots.specs.Places.{place_of}
use Rattle.encoder_slots.proofs.Ready.{ready-jumps}
use Rattle.encoding.specs.Steps.{chain, leads}
use Rattle.encoding.specs.Slots.{Term}
use Rattle.records.specs.declared.Statement.{Statement}
use Rattle.records.specs.Sets.{Set}
use Rattle.set_index.proofs.Making.{onward-after}
use Rattle.encoder_flags.proofs.Written.{reached-more, reached-all}
use Rattle.table.specs.Repeats.{last_index}
use Rattle.encoder_flags.proofs.Lists.{read_on}
use Rattle.encoder_flags.proofs.named_links.Goals as goal

pub loop-i-preserved : goal.loop-i-preserved
loop-i-preserved c =
    let a = c.args in
    let q = c.requires in
    let few = q.1 in
    let l = c.loop-i in
    let going = c.loop-i-test.true in
    let s = c.statement_at-statement in
    let link = c.named-link in
    let p = c.put_link-tree in
    let f = c.following-i in
    let greater : l.i < f.result = subst (λ (x : ℕ). l.i < x) (sym f.ensures) (onward-after l.i _ (omega arith)) in
    let one = p.ensures.1 in
    let started = l.invariant.0 in
    let so_far = l.invariant.1 going in
    let room : l.tree.next ≤ last_index = let n = q.2 in omega arith in (
      omega arith,
      λ more. omega arith,
      omega arith,
      p.auto.out ∙ l.invariant.3,
      λ (S : Set) (cs members : List ℕ) (tree : Term) (start : List ℕ) (m j count from : ℕ) small due within inside apart row stands ready soonest w.
          let places = place_of a.slots.now in
          let links = leads S [] 0 a.t j in
          let r = l.invariant.4 S cs members tree start m j count from small due within inside apart row stands ready soonest w in
          let names : names_target (S.statement a.t l.i) j ≡ true = (r.soonest.belongs (omega arith)).1 in
          let after : from ≤ l.i = let x = r.since in let y = r.due in omega arith in
          reached-more places S a.t j small count from a.end inside apart tree start m l.i l.out l.tree.next l.tree.at r going names
          a.lists.now (ready-jumps ready row stands) f.result greater f.ensures _ _ _
          (p.ensures.0 places (links l.i) (chain links l.i tree) start m room
          (link.ensures S j (ap (λ (x : Statement). x.number) (read_on a.set.now a.first s.ensures c.from.ensures ∙ sym (stands.statement_is l.i (omega arith)))) names (apart l.i after going))),
    )

pub returns : goal.returns
returns c =
    let a = c.args in
    let l = c.loop-i in
    let past = c.loop-i-test.false in (
      λ (S : Set) (cs members : List ℕ) (tree : Term) (start : List ℕ) (m j count from : ℕ) small due within inside apart row stands ready soonest w.
          reached-all (place_of a.slots.now) S a.t j small count from a.end inside apart tree start m l.i l.out l.tree.next l.tree.at
          (l.invariant.4 S cs members tree start m j count from small due within inside apart row stands ready soonest w) past,
      past,
      l.invariant.2,
    )
