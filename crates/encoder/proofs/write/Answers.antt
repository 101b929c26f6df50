-- `encoder::write` meets its contract. Assumes nothing.
use Rattle.std.proofs.Common.{[], arith, refl}
use Rattle.records.specs.Maps.{cells}
use Rattle.records.specs.Sets.{set_by}
use Rattle.table.specs.Programs.{upto}
use Rattle.encoding.specs.Slots.{word_one, argument}
use Rattle.encoding.specs.Steps.{block}
use Rattle.encoding.specs.Encodings.{map_demand, starting}
use Rattle.encoder_slots.proofs.Idle.{idle-none, idle-needs, idle-++, idle-upto, idle-block}
use Rattle.set_index.specs.Points.{listed}
use Rattle.encoder_slots.proofs.Ready.{ready-after}
use Rattle.encoder.proofs.Accepted.{ready-start}
use Rattle.encoder.proofs.Repeating.{encoded-ended, ended-room}
use Rattle.encoder.proofs.Sizes.{early}
use Rattle.encoder.proofs.write.Goals as goal

pub before_steps-first-requires : goal.before_steps-first-requires
before_steps-first-requires c =
    c.requires.1

pub all_steps-last-requires : goal.all_steps-last-requires
all_steps-last-requires c =
    let a = c.args in
    let p = c.requires in
    let S = set_by a.set.now a.layout in
    let cs = listed a.points in
    let members = c.make.ensures.1 refl (λ t h. p.0.few_statements t) in
    let lists = c.make-2.ensures.1 refl p.0.four_threads members p.4 in
    let start = ready-start members lists in
    let b = c.before_steps-first.ensures in
    let w = b.0 _ start in (
      ready-after (early S cs a.map.now) (idle-++ S (starting S cs) (upto (map_demand a.map.now) (cells a.map.now)) (idle-++ S (block S cs 0 word_one) (block S cs 0 argument) (idle-block S cs 0 word_one) (idle-block S cs 0 argument))
          (idle-upto S (map_demand a.map.now) (λ j. idle-needs S _ [] (idle-none S)) (cells a.map.now))) w start,
      (let l = b.1 in omega arith),
      p.2,
      ended-room S cs a.map.now a.bound a.table.now _ _ _ _ c.firsts.ensures w p.3,
    )

pub returns : goal.returns
returns c =
    let a = c.args in
    let S = set_by a.set.now a.layout in
    let cs = listed a.points in
    let p = c.requires in
    let members = c.make.ensures.1 refl (λ t h. p.0.few_statements t) in
    let lists = c.make-2.ensures.1 refl p.0.four_threads members p.4 in
    let e = c.all_steps-last.ensures.0 in
    encoded-ended S cs a.map.now a.bound a.table.now _ _ _ _ _ _ _ _ _ c.firsts.ensures (c.before_steps-first.ensures.0 _ (ready-start members lists)) e
    (c.goal.ensures _ e.code_is e.word_zero_is)
