-- `encoder::later_steps` meets its contract. Assumes nothing.
use Rattle.std.proofs.Common.{ap, ap₂, arith, length, refl, ℕ, ◌*◌, ◌-◌, ◌/◌, ◌∙◌}
use Rattle.table.specs.Repeats.{moved_by}
use Rattle.encoding.specs.Slots.{code}
use Rattle.encoding.specs.Steps.{only, word0}
use Rattle.encoder.proofs.Repeating.{two-steps_started, last-place, steps-room}
use Rattle.encoder.proofs.later_steps.Goals as goal

pub returns : goal.returns
returns c =
    let a = c.args in
    let p = c.requires in
    let d = ap₂ (λ (x y : ℕ). x * y) c.from.ensures c.from-2.ensures in
    let stride = (a.second.next - a.first) / 2 in (
      λ S cs start begun t low room w.
          let s = two-steps_started S cs start a.threads a.first a.second.next w.stepped.next t low in
          let place = last-place S cs start a.threads a.first stride s a.bound p.1 in
          record {
            stepped = c.repeated_steps.ensures.0 S cs start begun s (steps-room S cs start a.threads a.first stride s a.bound p.1 (length begun) room) w.stepped;
            code_is = c.further.ensures ∙ ap (λ (k : ℕ). moved_by a.first k a.second.code) d ∙ place (only code) refl a.second.code w.code_is;
            word_zero_is = c.further-2.ensures ∙ ap (λ (k : ℕ). moved_by a.first k a.second.zero) d ∙ place word0 refl a.second.zero w.word_zero_is;
          },
      let l = c.repeated_steps.ensures.1 in omega arith,
    )
