-- `set_index::lists::list_members` meets its contract. Assumes nothing.
use Rattle.std.proofs.Common.{ap, arith, get_or, length, refl, subst, sym, ℕ, ◌+◌, ◌-◌, ◌<◌, ◌∙◌, ◌≡◌, ◌≤◌}
use Rattle.records.specs.Sets.{Set, set_by}
use Rattle.records.specs.declared.Statement.{Statement}
use Rattle.set_index.specs.Points.{listed}
use Rattle.records.specs.StatementRecords.{StandsFrom}
use Rattle.set_index.specs.Members.{Members, members_of, class_number}
use Rattle.records.proofs.StatementRecords.{stands_from}
use Rattle.set_index.proofs.StatementRecords.{member-stands}
use Rattle.set_index.proofs.Listed.{members-below}
use Rattle.set_index.specs.ListTables.{Listing}
use Rattle.set_index.proofs.Making.{listing_none, listing-all, listing-put}
use Rattle.set_index.proofs.Growing.{From}
use Rattle.set_index.proofs.lists.list_members.Goals as goal

pub loop-k-init : goal.loop-k-init
loop-k-init c =
    let a = c.args in
    let many-are = c.count_of-count.ensures.0 in (
      c.first-first.ensures.1,
      refl,
      λ (S : Set) kind row members known distinct apart room empty.
          let cs = listed a.points in
          let k = class_number a.class in
          let all : c.count_of-count.result ≡ c.count_of-count.result - 0 = omega arith in
          subst (λ (n : ℕ). Listing S cs k a.t (From S k a.t n) a.heads a.nexts a.table.now a.table.now) all
          (listing_none S cs k a.t a.heads a.nexts apart c.count_of-count.result (many-are S members kind row) a.table.now empty),
    )

pub loop-k-preserved : goal.loop-k-preserved
loop-k-preserved c =
    let a = c.args in
    let first = c.first-first in
    let count = c.count_of-count in
    let l = c.loop-k in
    let going = c.loop-k-test.true in
    let one = c.member-i in
    let s = c.statement_at-s in
    let list = c.list_of in
    let put_in = c.add.ensures in
    let cs = listed a.points in
    let k = class_number a.class in (
      l.invariant.0,
      put_in.length ∙ l.invariant.1,
      λ (S : Set) kind (row : a.t < 4) (members : Members S a.members.now) (known : StandsFrom S a.set.now a.t first.result (S.count a.t)) distinct apart room empty.
          let j = count.result - 1 - l.k in
          let few = members.few a.t row in
          let all = count.ensures.0 S members kind row in
          let there : j < length (members_of S k a.t) = omega arith in
          let x = get_or (members_of S k a.t) j 0 in
          let i-is : one.result ≡ x = one.ensures S members kind row there in
          let inside : x < 32 = let b = members-below S k a.t (S.count a.t) j there in omega arith in
          let read : s.result ≡ _ = rw c.from.ensures at s.ensures in
          let is : s.result ≡ S.statement a.t x = read ∙ sym (member-stands S a.set.now k a.t first.result j one.result known there i-is) in
          let argument_is : s.result.argument ≡ (S.statement a.t x).argument = ap (λ (y : Statement). y.argument) is in
          let old = l.invariant.2 S kind row members known distinct apart room empty in
          let wide : a.nexts + 32 ≤ length l.table = let same = l.invariant.1 in omega arith in
          let before : count.result - l.k ≡ j + 1 = omega arith in
          let after : j ≡ count.result - (l.k + 1) = omega arith in
          subst (λ (n : ℕ). Listing S cs k a.t (From S k a.t n) a.heads a.nexts a.table.now c.add.new.table) after
          (listing-put S cs k a.t a.heads a.nexts apart j (count.result - l.k) before there few a.table.now l.table old distinct wide list.result one.result s.result.argument
          c.add.new.table i-is argument_is (rw c.as_slice.ensures at list.ensures) put_in.added),
    )

pub returns : goal.returns
returns c =
    let a = c.args in
    let l = c.loop-k in
    let first = c.first-first in
    let S = set_by a.set.now a.layout in (
      l.invariant.1,
      λ kind row (members : Members S a.members.now) distinct apart room empty.
          let known = stands_from a.set.now a.layout a.t first.result (S.count a.t) first.ensures.0 (omega arith) in
          listing-all S (listed a.points) (class_number a.class) a.t a.heads a.nexts apart (c.count_of-count.result - l.k) (omega arith) a.table.now l.table
          (l.invariant.2 S kind row members known distinct apart room empty),
    )
