-- `encoder::all_steps` meets its contract. Assumes nothing.
use Rattle.std.proofs.Common.{arith, refl, rules, ◌≡◌}
use Rattle.records.specs.Sets.{set_by}
use Rattle.table.specs.Programs.{upto}
use Rattle.encoding.specs.Slots.{code}
use Rattle.encoding.specs.Steps.{only, word0, step}
use Rattle.encoder_slots.specs.Places.{place_of}
use Rattle.set_index.specs.Points.{listed}
use Rattle.encoder_slots.proofs.Pieces.{program-below}
use Rattle.encoder.proofs.Repeating.{two-steps-room}
use Rattle.encoder.proofs.all_steps.Goals as goal

pub later_steps-requires : goal.later_steps-requires
later_steps-requires c =
    let a = c.args in
    let p = c.requires in
    let S = set_by a.set.now a.layout in
    let cs = listed a.points in
    let start = place_of a.slots.now in
    let f = c.few_steps-own in
    let two : c.min.result ≡ 2 = search rules in
    let w = rw two at f.ensures.0 in
    let few = f.ensures.1 in
    let next = w.stepped.next in
    let below = program-below (upto (step S cs) 2) start a.first p.0.below in (
      p.0.by_name.four_threads,
      omega arith,
      p.2,
      two-steps-room S cs start a.first f.result.next next p.0.below,
      few,
      (let e = w.code_is in let l = below (only code) in omega arith),
      (let e = w.word_zero_is in let l = below word0 in omega arith),
    )

pub returns-then-bound-le2 : goal.returns-then-bound-le2
returns-then-bound-le2 c =
    let all : c.min.result ≡ c.args.bound = search rules in
    let f = c.few_steps-own in
    let few = f.ensures.1 in
    (rw all at f.ensures.0, omega arith)

pub returns-else-bound-le2 : goal.returns-else-bound-le2
returns-else-bound-le2 c =
    let a = c.args in
    let p = c.requires in
    let l = c.later_steps.ensures in
    let two : c.min.result ≡ 2 = search rules in
    (l.0 (set_by a.set.now a.layout) (listed a.points) (place_of a.slots.now) a.out.now refl p.0.below p.3 (rw two at c.few_steps-own.ensures.0), l.1)
