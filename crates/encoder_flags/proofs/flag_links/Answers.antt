-- `encoder_flags::flag_links` meets its contract. Assumes nothing.
use Rattle.std.proofs.Common.{List, [], ap, arith, get_or, sym, ℕ, ◌+◌, ◌-◌, ◌<◌, ◌∙◌, ◌≤◌}
use Rattle.encoder_flags.proofs.Lists.{jumps-unnamed}
use Rattle.encoder_flags.proofs.Written.{none_lead, before-leads}
use Rattle.encoder_slots.specs.Places.{place_of}
use Rattle.encoder_slots.proofs.Ready.{ready-jumps}
use Rattle.set_index.specs.ListTables.{first_jumps, no_statement}
use Rattle.encoding.specs.Steps.{chain, leads}
use Rattle.encoding.specs.Slots.{Term}
use Rattle.records.specs.declared.Statement.{Statement}
use Rattle.records.specs.Sets.{Set}
use Rattle.table.specs.Repeats.{last_index}
use Rattle.encoder_flags.proofs.Lists.{read_on}
use Rattle.encoder_flags.proofs.flag_links.Goals as goal

pub returns-then-j-gt0 : goal.returns-then-j-gt0
returns-then-j-gt0 c =
    let a = c.args in
    let q = c.requires in
    let p = c.put_link in
    let s = c.statement_at-statement in
    let one = p.ensures.1 in
    let within = q.2 in
    let small = q.3 in
    let few = q.1 in
    let jump = c.first.ensures in
    let left = c.if-first-lt-NONE.false in
    let room : a.n ≤ last_index = omega arith in (
      λ (S : Set) (cs members : List ℕ) (tree : Term) (start : List ℕ) (m : ℕ) row stands ready w.
          let unnamed = jumps-unnamed S a.t a.count a.j (omega arith) few a.lists.now (ready-jumps ready row stands) (λ (e : get_or a.lists.now (first_jumps a.t + a.j) 0 < no_statement). omega arith) in
          let places = place_of a.slots.now in
          let links = leads S [] 0 a.t a.j in
          before-leads places S a.t a.j a.count within unnamed tree start m (a.j - 1) (omega arith)
          a.out.now a.n a.base _ _ _
          (p.ensures.0 places (links (a.j - 1)) (chain links (a.j - 1) tree) start m room
          (c.follows-link.ensures S a.j (ap (λ (x : Statement). x.number) (read_on a.set.now a.first s.ensures c.from.ensures ∙ sym (stands.statement_is (a.j - 1) (omega arith)))) (omega arith)
          (unnamed (a.j - 1) (omega arith)))) w,
      omega arith,
    )

pub returns : goal.returns
returns c =
    let a = c.args in
    let q = c.requires in
    let few = q.1 in
    let within = q.2 in
    let jump = c.first.ensures in
    let left = c.if-first-lt-NONE.false in (
      λ (S : Set) (cs members : List ℕ) (tree : Term) (start : List ℕ) (m : ℕ) row stands ready w.
          let unnamed = jumps-unnamed S a.t a.count a.j (omega arith) few a.lists.now (ready-jumps ready row stands) (λ (e : get_or a.lists.now (first_jumps a.t + a.j) 0 < no_statement). omega arith) in
          none_lead (place_of a.slots.now) S a.t a.j a.count (omega arith) unnamed tree start m (omega arith)
          a.out.now a.n a.base w,
      omega arith,
    )
