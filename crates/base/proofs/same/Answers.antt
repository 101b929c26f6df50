-- `base::same` meets its contract. Assumes nothing.
use Rattle.std.proofs.Common.{ℕ, Bool, ◌&&◌, true, eqb, rules, tests, ◌∙◌}
use Rattle.std.proofs.lemmas.Iterator.{YieldsList-from_slice, YieldsList-from_zip}
use Rattle.std.proofs.lemmas.Iterator.Consumers.{fold_from_yields_List}
use Rattle.base.proofs.Bytes.{fold-same}
use Rattle.base.proofs.same.Goals as goal

pub returns-then-a-b : goal.returns-then-a-b
returns-then-a-b c =
    let a = c.args.a.now in
    let b = c.args.b.now in
    fold_from_yields_List _ (λ (all : Bool) (p : ℕ × ℕ). all && eqb p.0 p.1) true _ c.fold.ensures.ran
    (YieldsList-from_zip (YieldsList-from_slice a cc) (YieldsList-from_slice b cc))
    (λ a x b q k. search (rules, tests))
    ∙ fold-same true a b (search (rules, tests))
