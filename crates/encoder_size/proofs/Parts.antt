-- What the code's parts of the closed form need: the ways that lead on. Assumes nothing.
use Prim.Native.Nat.{ℕ, suc, ◌+◌}
use mathlib.Core.Path.{◌≡◌, ◌∙◌}
use mathlib.Core.Bool.{true, false}
use Rattle.base.proofs.Choice.{chosen, passed}
use Rattle.encoding.specs.Steps.{is_conditional, is_one_way, rests}
use Rattle.encoder_size.specs.Sizes.{within, lead_records}

module _ (n target i count : ℕ) where
  pub leads_nowhere : rests n ≡ true → lead_records n target i count ≡ 0
  unfolding lead_records
  leads_nowhere r = chosen _ _ r

  pub leads-there : rests n ≡ false → is_one_way n target i ≡ true → lead_records n target i count ≡ within target count
  unfolding lead_records
  leads-there r o = passed _ _ r ∙ chosen _ _ o

  pub leads-both : rests n ≡ false → is_one_way n target i ≡ false → is_conditional n ≡ true → lead_records n target i count ≡ within target count + within (suc i) count
  unfolding lead_records
  leads-both r o d = passed _ _ r ∙ (passed _ _ o ∙ chosen _ _ d)

  pub leads-on : rests n ≡ false → is_one_way n target i ≡ false → is_conditional n ≡ false → lead_records n target i count ≡ within (suc i) count
  unfolding lead_records
  leads-on r o d = passed _ _ r ∙ (passed _ _ o ∙ passed _ _ d)
