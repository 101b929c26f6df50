-- The links of a class are those of the chain; past the last kind there is none. Assumes nothing.
use Rattle.std.proofs.Common.{◌≡◌, ◌≤◌, ◌<◌, ◌∙◌, ℕ, arith, eqb, false, ne_eqb, sym}
use Rattle.base.proofs.Choice.{passed}
use Rattle.records.specs.Sets.{Set}
use Rattle.encoding.specs.Slots.{Term, kind_count}
use Rattle.encoding.specs.Steps.{chain, skip}
use Rattle.encoder_chains.specs.Given.{Gives, given_link, given_by}
use Rattle.encoder_chains.specs.declared.given.Giver.{Giver}
use Rattle.set_index.specs.Members.{of_class, class_number}
use Rattle.set_index.proofs.Listed.{chain_same}

pub gives_chain : (kind : ℕ) (g : Giver) (gives : Gives kind g) (t : ℕ) (S : Set) (base : Term) (n : ℕ) →
    chain (of_class S (class_number g.class) t (gives.link t)) n base ≡ chain (given_by S kind t) n base
gives_chain kind g gives t S base n =
    chain_same (of_class S (class_number g.class) t (gives.link t)) (given_by S kind t) base n (λ (i : ℕ) h. sym (gives.inside t i (S.statement t i).number))

pub given-past : (kind t i n : ℕ) → kind_count ≤ kind → given_link kind t i n ≡ skip
given-past kind t i n h =
    let past : (m : ℕ) → m < kind_count → eqb kind m ≡ false = λ m q. ne_eqb kind m (λ e. omega arith) in
    passed _ _ (past 4 (omega arith)) ∙ passed _ _ (past 18 (omega arith)) ∙ passed _ _ (past 20 (omega arith)) ∙ passed _ _ (past 22 (omega arith))
    ∙ passed _ _ (past 23 (omega arith)) ∙ passed _ _ (past 25 (omega arith)) ∙ passed _ _ (past 26 (omega arith)) ∙ passed _ _ (past 27 (omega arith))
    ∙ passed _ _ (past 28 (omega arith)) ∙ passed _ _ (past 29 (omega arith)) ∙ passed _ _ (past 30 (omega arith))
