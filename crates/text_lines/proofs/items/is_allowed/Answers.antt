-- `text_lines::items::is_allowed` meets its contract. Assumes nothing.
use Rattle.std.proofs.Common.{◌&&◌, true, rules, tests, ◌∙◌}
use Rattle.std.proofs.lemmas.Iterator.{YieldsList-from_slice}
use Rattle.std.proofs.lemmas.Iterator.Consumers.{fold_from_yields_List}
use Rattle.text_lines.specs.Characters.{allowed_byte}
use Rattle.text_lines.proofs.Runs.{fold-run}
use Rattle.text_lines.proofs.items.is_allowed.Goals as goal

pub returns : goal.returns
returns c =
    let l = c.args.l.now in
    fold_from_yields_List _ (λ all b. all && allowed_byte b) true _ c.fold.ensures.ran (YieldsList-from_slice l cc) (λ a x b q k. search (rules, tests)) ∙ fold-run allowed_byte l
