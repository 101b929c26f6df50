-- `set_index::lists::make_thread` meets its contract. Assumes nothing.
use Rattle.std.proofs.Common.{arith, length, rules, ℕ, ◌*◌, ◌+◌, ◌<◌, ◌∙◌, ◌≡◌}
use Rattle.records.specs.Sets.{set_by}
use Rattle.set_index.specs.Points.{listed}
use Rattle.set_index.specs.Members.{Members}
use Rattle.set_index.specs.ListTables.{Made}
use Rattle.set_index.proofs.Counted.{listed-most}
use Rattle.set_index.proofs.Making.{made_more}
use Rattle.set_index.proofs.lists.make_thread.Goals as goal

pub returns : goal.returns
returns c =
    let a = c.args in
    let S = set_by a.set.now a.layout in
    let cs = listed a.points in
    let eight : length a.points.numbers ≡ 8 = search rules in
    let most = listed-most a.points eight in
    let first = rw c.from-checks.ensures at (rw c.from-row.ensures at c.list_members.ensures) in
    let then = rw c.from-row.ensures at c.list_members-2.ensures in (
      then.0 ∙ first.0,
      λ (row : a.t < 4) (members : Members S a.members.now) distinct (old : Made S cs a.t a.table.now).
          let whole = old.whole in
          let same = first.0 in
          let one = first.1 (omega arith) row members distinct (omega arith) (omega arith) (λ (p : ℕ) (h : p < length cs). old.no_checks a.t p (omega arith) row (omega arith)) in
          let two = then.1 (omega arith) row members distinct (omega arith) (omega arith)
          (λ (j : ℕ) (h : j < 32). one.others (160 + 32 * a.t + j) (λ i (k : 160 + 32 * a.t + j < 8 * a.t + length cs). omega arith) (λ i (k : 160 + 32 * a.t + j < 32 + 32 * a.t + 32). omega arith)
          ∙ old.no_jumps a.t j (omega arith) row h) in
          made_more S cs most members.few a.t row a.table.now _ _ old (then.0 ∙ first.0) one two,
    )
