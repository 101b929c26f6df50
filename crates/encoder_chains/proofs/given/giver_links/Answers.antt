-- `encoder_chains::given::giver_links` meets its contract. Assumes nothing.
use Rattle.std.proofs.Common.{rules, List, ap, arith, get_or, length, subst, ℕ, ◌+◌, ◌<◌, ◌∙◌, ◌≡◌, ◌≤◌}
use Rattle.records.specs.Sets.{Set}
use Rattle.encoding.specs.Slots.{Term}
use Rattle.encoding.specs.Steps.{Link}
use Rattle.encoder_slots.specs.Kinds.{number_of}
use Rattle.encoder_slots.specs.Pieces.{WritesTree, Ready, chain_room}
use Rattle.encoder_slots.specs.Places.{place_of, place_from}
use Rattle.encoder_slots.proofs.Ready.{ready-thread}
use Rattle.encoder_chains.specs.Given.{effect_sort, effect_place}
use Rattle.encoder_chains.specs.Placed.{if_link, numbers_of}
use Rattle.set_index.specs.Members.{members_of, class_number}
use Rattle.set_index.proofs.ClassNumbers.{class-below}
use Rattle.set_index.proofs.Listed.{over, members-chain}
use Rattle.table.specs.Repeats.{last_index}
use Rattle.encoder_chains.proofs.given.giver_links.Goals as goal

pub returns : goal.returns
returns c =
    let a = c.args in
    let put = c.put_links in
    let count = c.count_of-many.ensures in (
      λ (S : Set) (cs lists : List ℕ) (links : ℕ → Link) (tree : Term) (start : List ℕ) (m : ℕ) row (small : a.n + chain_room ≤ last_index) (ready : Ready S cs a.members.now lists a.slots.now m) is w.
          let k = class_number a.giver.class in
          let ms = members_of S k a.t in
          let listed = ready.by_class in
          let within = ready-thread ready row in
          let many = count.0 S listed (class-below a.giver.class) within in
          let most = count.1 in
          subst (λ (x : Term). WritesTree (place_of a.slots.now) x start m put.new.out put.result.next put.result.at)
          (ap (over links tree ms) many ∙ members-chain links tree S k a.t (S.count a.t))
          (put.ensures.links (place_of a.slots.now) (λ (j : ℕ). links (get_or ms j 0)) tree start m (omega arith)
          (λ (j : ℕ) l (h : j < c.count_of-many.result) post.
          let inside : j < length ms = omega arith in
          let i = get_or ms j 0 in
          let given : numbers_of l ≡ if_link (effect_sort a.giver.effect) (place_from a.slots.now (number_of a.giver.test) a.t i 0) (effect_place a.giver.effect a.slots.now a.t i) = search rules in
          given ∙ is i) w),
      let r = put.ensures.room in let most = count.1 in omega arith,
    )
