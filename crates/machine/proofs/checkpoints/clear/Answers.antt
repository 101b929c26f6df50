-- `machine::checkpoints::clear` meets its contract. Assumes nothing.
use Rattle.std.proofs.Common.{Bool, ap, cond, get_or, length, rules, sym, ℕ, ◌∙◌, ◌≡◌, Option, is_some}
use Rattle.machine.proofs.Four.{four}
use Rattle.base.proofs.Choice.{passed, and_false}
use Rattle.records.specs.Sets.{set_by}
use Rattle.machine.specs.Machine.{unmarked, cleared, opened, checkpoint_of}
use lib.ListN.{get_or-eq_default}
use Rattle.machine.proofs.checkpoints.clear.Goals as goal

pub returns : goal.returns
unfolding cleared
returns c =
    let n : length c.args.marks ≡ 4 = search rules in
    let a = c.args in
    let S = set_by a.set.now a.layout in
    let by : (u : ℕ) (b : Bool) → Option ℕ = λ u b. cond b unmarked (get_or a.marks u unmarked) in
    four _ _ _ _ unmarked (cleared S (λ t. get_or a.marks t unmarked))
    (c.kept.ensures ∙ ap (by 0) c.clears-a.ensures)
    (c.kept-2.ensures ∙ ap (by 1) c.clears_too-b.ensures)
    (c.kept-3.ensures ∙ ap (by 2) c.clears_too-c.ensures)
    (c.kept-4.ensures ∙ ap (by 3) c.clears_too-d.ensures)
    (λ t h. let e : get_or a.marks t unmarked ≡ unmarked = get_or-eq_default a.marks unmarked (rw n h) in
    sym (passed _ _ (and_false (opened S (λ u. get_or a.marks u unmarked) (checkpoint_of (get_or a.marks t unmarked))) (ap (λ (m : Option ℕ). (is_some m)) e)) ∙ e))
