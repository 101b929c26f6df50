-- `encoder_chains::chains::single_links` meets its contract. Assumes nothing.
use Rattle.std.proofs.Common.{List, ap, sym, ℕ, ◌+◌, ◌∙◌}
use Rattle.encoder_chains.proofs.Chained.{chained-links}
use Rattle.encoding.specs.Steps.{links}
use Rattle.encoding.specs.Slots.{kinds, kind_at}
use Rattle.encoder_slots.specs.Kinds.{number_of}
use Rattle.encoder_slots.specs.declared.kinds.Kind.{Kind}
use Rattle.encoder_slots.specs.declared.kinds.Kind.TheVariants.{OnePermitted}
use Rattle.encoder_slots.proofs.Numbers.{same-number}
use Rattle.records.specs.Sets.{Set}
use Rattle.encoder_chains.proofs.chains.single_links.Goals as goal

pub returns-in-OnePermitted-clause-chain : goal.returns-in-OnePermitted-clause-chain
unfolding kinds
returns-in-OnePermitted-clause-chain c = λ (S : Set) (cs : List ℕ) e one.
    sym (ap (λ (k : Kind). links S cs 0 (kind_at (number_of k)) 0 0) c.in-OnePermitted.is ∙ ap (λ (x : ℕ). x + x) e)

pub returns-in_default-clause-chain : goal.returns-in_default-clause-chain
returns-in_default-clause-chain c = λ (S : Set) (cs : List ℕ) e one.
    let k = c.args.kind in sym (chained-links S cs (number_of k) one (λ p. c.in_default.not-OnePermitted (same-number k OnePermitted p)) ∙ e)
