-- Laws of numbers in texts: 65,536 stands for every number above 65,535. Assumes nothing.
use Prim.Native.Nat.{ℕ, ◌+◌, ◌-◌, ◌*◌, ◌≤◌, ◌<◌, min}
use mathlib.Core.Bool.{Bool, true, false, cond, ◌&&◌}
use mathlib.Core.List.{List, [], ◌∷◌}
use Rattle.std.specs.Prelude.{Result, Err}
use mathlib.Core.Path.{◌≡◌, refl, ap, sym, ◌∙◌}
use native.Mathlib.Nat.{min-eq_left, min-eq_right, le_refl, le_trans}
use native.Mathlib.Numerals.{add-one}
use native.Mathlib.Omega.{arith}
use borrow.Author.Tests.{lt-ltb, ltb-true, ltb-false, leb-true}
use lib.Dec.{ltb, leb}
use lib.ListN.{length, get_or, drop}
use lib.Seq.{drop-cons, drop-length}
use Rattle.base.proofs.Choice.{chosen, passed, cond_both, and_left, or_true, or_right_true}
use Rattle.text_lines.specs.Characters.{is_digit, digits, only_blanks, past_digits, value_after}
use Rattle.text_lines.specs.Lines.{stated, cell_of, valued}
use Rattle.records.specs.declared.Cell.{Cell}
use Rattle.records.specs.declared.refusals.Refusal.{Refusal}
use Rattle.records.specs.declared.refusals.Refusal.TheVariants.{Malformed}

-- what does not tell numbers above 65,535 apart is the same of the number that stands for them
pub capped : {A : Type 0} (f : ℕ → A) → ((v : ℕ) → 65535 < v → f v ≡ f 65536) → (v : ℕ) → f (min v 65536) ≡ f v
capped f same v = go (ltb 65535 v) refl
  where
    go : (b : Bool) → ltb 65535 v ≡ b → f (min v 65536) ≡ f v
    go true e = ap f (min-eq_right (ltb-true 65535 v e)) ∙ sym (same v (ltb-true 65535 v e))
    go false e = let h : v ≤ 65535 = ltb-false 65535 v e in ap f (min-eq_left (omega arith))

-- a digit more does not make a number smaller
pub grown : (v : ℕ) (s : List ℕ) → v ≤ value_after v s
unfolding value_after
grown v [] = le_refl v
grown v (b ∷ s) = cond_both (λ (n : ℕ). v ≤ n) (is_digit b) (let h = grown (v * 10 + (b - 48)) s in omega (arith, h)) (le_refl v)

pub value-capped : (s : List ℕ) (v : ℕ) → min (value_after (min v 65536) s) 65536 ≡ min (value_after v s) 65536
value-capped s v = capped (λ (n : ℕ). min (value_after n s) 65536) (λ n h. min-eq_right (le_trans h (grown n s)) ∙ sym (min-eq_right (grown 65536 s))) v

-- The value of the digits from index i on goes on at a digit, and ends at another byte and at the end.
module _ (s : List ℕ) (i v : ℕ) where
  pub value_on : i < length s → is_digit (get_or s i 0) ≡ true → value_after v (drop i s) ≡ value_after (v * 10 + (get_or s i 0 - 48)) (drop (i + 1) s)
  unfolding value_after
  value_on h t = rw (add-one, drop-cons s i 0 h) (chosen _ _ t)

  pub value_stopped : i < length s → is_digit (get_or s i 0) ≡ false → value_after v (drop i s) ≡ v
  unfolding value_after
  value_stopped h t = rw (drop-cons s i 0 h) (passed _ _ t)

  pub value-ended : i ≡ length s → value_after v (drop i s) ≡ v
  unfolding value_after
  value-ended h = rw (h, drop-length)

pub digit_least : (b : ℕ) → is_digit b ≡ true → 48 ≤ b
digit_least b t = leb-true 48 b (and_left (leb 48 b) (leb b 57) t)

-- ---- numbers in statements and cells

pub stated-capped : (label : List ℕ) (number mode v : ℕ) → stated label number mode (min v 65536) ≡ stated label number mode v
unfolding stated
stated-capped label number mode v = capped (stated label number mode) (λ n h. chosen _ _ (lt-ltb 65535 n h)) v

pub cell-capped : (address v : ℕ) → cell_of address (min v 65536) ≡ cell_of address v
unfolding cell_of
cell-capped address v =
    capped (cell_of address)
    (λ n h. chosen _ _ (or_right_true (ltb 65535 address) (lt-ltb 65535 n h)) ∙ sym (chosen _ _ (or_right_true (ltb 65535 address) refl))) v

pub valued-capped : (s : List ℕ) (address : ℕ) → valued (min address 65536) s ≡ valued address s
unfolding valued cell_of
valued-capped s address =
    capped (λ (n : ℕ). valued n s)
    (λ n h. ap (λ (r : Result Cell Refusal). cond (ltb 0 (digits s) && only_blanks (past_digits s)) r (Err Malformed)) (chosen _ _ (or_true _ (lt-ltb 65535 n h)))) address
