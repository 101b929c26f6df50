-- `encoder_bases::choices::permit` meets its contract. Assumes nothing.
use Rattle.std.proofs.Common.{ap, le-ltb, lt-ltb, sym, ◌-◌, ◌∙◌}
use Rattle.base.proofs.Choice.{chosen, passed}
use Rattle.encoder_slots.specs.Places.{place_of}
use Rattle.encoder_slots.proofs.Stores.{place_unset, kept-no-row}
use Rattle.encoder_bases.proofs.choices.permit.Goals as goal

pub returns-then-j-t : goal.returns-then-j-t
returns-then-j-t c = c.place.ensures ∙ sym (ap (place_of c.args.slots.now) (chosen _ _ (lt-ltb _ _ (rw c.from-t.ensures at c.if-j-t.true))))

pub returns-then-i-lt-THREADS : goal.returns-then-i-lt-THREADS
returns-then-i-lt-THREADS c = (rw c.from-t.ensures at c.place-then-i-lt-THREADS.ensures) ∙ sym (ap (place_of c.args.slots.now) (passed _ _ (le-ltb _ _ (rw c.from-t.ensures at c.if-j-t.false))))

pub returns : goal.returns
returns c = let a = c.args in
    sym (ap (place_of a.slots.now) (passed _ _ (le-ltb _ _ (rw c.from-t.ensures at c.if-j-t.false))) ∙ place_unset a.slots.now 29 (a.j - a.threads) 0 0 (kept-no-row a.slots.now 29 (a.j - a.threads) 0 (rw c.from-t.ensures at c.if-i-lt-THREADS.false)))
