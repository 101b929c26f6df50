-- `encoder::few_steps` meets its contract. Assumes nothing.
use Rattle.std.proofs.Common.{ap, arith, ℕ, ◌∙◌}
use Rattle.encoding.specs.Slots.{Slot, code}
use Rattle.encoding.specs.Steps.{only, word0}
use Rattle.encoder.proofs.few_steps.Goals as goal

pub returns : goal.returns
returns c =
    let r = c.steps-next in
    let w = r.ensures.0 in
    let few = r.ensures.1 in
    let p = c.requires.1 in (
      record {
        stepped = record { written = w.written; next = w.next };
        code_is = c.place.ensures ∙ ap (λ (f : Slot → ℕ). f (only code)) w.places;
        word_zero_is = c.place-2.ensures ∙ ap (λ (f : Slot → ℕ). f word0) w.places;
      },
      omega arith,
    )
