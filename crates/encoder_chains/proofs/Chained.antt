-- The kinds of values that there is one of and that have links: which of them is left, and how many links it has. Assumes nothing.
use Prim.Native.Nat.{ℕ, ◌<◌}
use mathlib.Core.Path.{◌≡◌, refl, sym, subst}
use mathlib.Core.Bool.{true, ◌||◌}
use mathlib.Core.List.{List}
use native.Mathlib.Omega.{arith}
use lib.Dec.{eqb}
use borrow.Author.Tests.{eqb-true}
use Rattle.records.specs.Sets.{Set}
use Rattle.encoding.specs.Slots.{kinds, kind_at, kind_count, kind_number, flush_to, flush_value, halts, one_permitted}
use Rattle.encoding.specs.Steps.{links}
use Rattle.encoder_chains.specs.Chained.{chained}
use Rattle.base.proofs.Choice.{either}

-- what holds of each of the four
each : (P : ℕ → Type 0) → P (kind_number one_permitted) → P (kind_number flush_to) → P (kind_number flush_value) → P (kind_number halts) → (n : ℕ) → chained n ≡ true → P n
each P one two three four n e =
    either (eqb n (kind_number one_permitted) || eqb n (kind_number flush_to) || eqb n (kind_number flush_value)) (eqb n (kind_number halts)) e
    (λ e. either (eqb n (kind_number one_permitted) || eqb n (kind_number flush_to)) (eqb n (kind_number flush_value)) e
    (λ e. either (eqb n (kind_number one_permitted)) (eqb n (kind_number flush_to)) e (λ h. subst P (sym (eqb-true n (kind_number one_permitted) h)) one) (λ h. subst P (sym (eqb-true n (kind_number flush_to) h)) two))
    (λ h. subst P (sym (eqb-true n (kind_number flush_value) h)) three))
    (λ h. subst P (sym (eqb-true n (kind_number halts) h)) four)

-- each is a kind
pub chained-below : (n : ℕ) → chained n ≡ true → n < kind_count
chained-below = each (λ (n : ℕ). n < kind_count) (omega arith) (omega arith) (omega arith) (omega arith)

-- the last one
pub chained-last : (n : ℕ) → chained n ≡ true → (n ≡ kind_number one_permitted → ⊥) → (n ≡ kind_number flush_to → ⊥) → (n ≡ kind_number flush_value → ⊥) → n ≡ kind_number halts
chained-last =
    each (λ (n : ℕ). (n ≡ kind_number one_permitted → ⊥) → (n ≡ kind_number flush_to → ⊥) → (n ≡ kind_number flush_value → ⊥) → n ≡ kind_number halts)
    (λ p q r. absurd (p refl)) (λ p q r. absurd (q refl)) (λ p q r. absurd (r refl)) (λ p q r. refl)

-- all but the first have a link for each thread
pub chained-links : (S : Set) (cs : List ℕ) (n : ℕ) → chained n ≡ true → (n ≡ kind_number one_permitted → ⊥) → links S cs 0 (kind_at n) 0 0 ≡ S.threads
unfolding kinds
chained-links S cs =
    each (λ (n : ℕ). (n ≡ kind_number one_permitted → ⊥) → links S cs 0 (kind_at n) 0 0 ≡ S.threads)
    (λ r. absurd (r refl)) (λ r. refl) (λ r. refl) (λ r. refl)
