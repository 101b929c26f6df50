-- The lists of the jumps that name each statement: what they say of the statements passed over. Assumes nothing.
use Prim.Native.Nat.{ℕ, suc, ◌+◌, ◌≤◌, ◌<◌}
use mathlib.Core.Path.{◌≡◌, ap, sym, ◌∙◌, subst}
use mathlib.Core.Bool.{true, false}
use mathlib.Core.List.{List, []}
use native.Mathlib.Omega.{arith}
use native.Mathlib.Decide.{dec_lt}
use lib.ListN.{get_or}
use borrow.Author.Tests.{ne_eqb}
use Rattle.base.proofs.Choice.{refuted}
use Rattle.records.specs.declared.Statement.{Statement}
use Rattle.records.specs.Sets.{Set, statement_at, most_statements}
use Rattle.encoding.specs.Steps.{skip, leads}
use Rattle.set_index.specs.Members.{names_target}
use Rattle.set_index.specs.ListTables.{JumpsOf, onward, first_jumps, next_jumps, no_statement}
use Rattle.set_index.proofs.Growing.{widened}
use Rattle.set_index.proofs.Making.{onward-after, onward-is}
use Rattle.encoder_chains.proofs.Leads.{leads-elsewhere}
use Rattle.encoder_flags.specs.Named.{NamedFirst}

-- a statement read, by the number that its place counts from the thread's first
pub read_on : (set : List ℕ) (first : ℕ) {i x : ℕ} {s : Statement} → s ≡ statement_at set (first + x) → x ≡ i → s ≡ statement_at set (first + i)
read_on set first e f = e ∙ ap (λ (y : ℕ). statement_at set (first + y)) f

module _ (S : Set) (t count j : ℕ) (small : j < most_statements) where
  -- no jump names j
  pub jumps-unnamed : count ≤ most_statements → (table : List ℕ) → JumpsOf S t count table → (get_or table (first_jumps t + j) 0 < no_statement → ⊥) → (x : ℕ) → x < count → names_target (S.statement t x) j ≡ false
  jumps-unnamed few table w none x h =
      refuted (names_target (S.statement t x) j) (λ e. let l = (w.heads j small).soonest x h (omega arith) e in none (omega arith))

  -- statements before the jump to look for do not lead to j, unless they stand before it
  pub passed_over : (hit from : ℕ) → NamedFirst S t count hit from j → (x : ℕ) → from ≤ x → x < count → x < hit → (suc x ≡ j → ⊥) → leads S [] 0 t j x ≡ skip
  passed_over hit from l x p q h other =
      leads-elsewhere (S.statement t x) t j x (suc x)
      (refuted (names_target (S.statement t x) j) (λ e. let b = l.soonest x q p e in omega arith)) (ne_eqb (suc x) j other)

  -- from a later statement on
  pub named-later : (hit from later : ℕ) → from ≤ later → NamedFirst S t count hit from j → NamedFirst S t count hit later j
  named-later hit from later le l = widened (λ x. x < count) (λ x. x < count) (λ y h. h) (λ x. names_target (S.statement t x) j) hit from later le l (λ x h p e. h)

  -- the jump to look for after jump i, which names j
  pub named-next : (table : List ℕ) → JumpsOf S t count table → (i next : ℕ) → i < count → names_target (S.statement t i) j ≡ true →
      next ≡ onward i (get_or table (next_jumps t + i) 0) → NamedFirst S t count next (i + 1) j
  named-next table w i next within names is =
      subst (λ (it : ℕ). NamedFirst S t count it (i + 1) j) (sym (is ∙ onward-is i _ (w.onwards j i small within names))) (w.nexts j i small within names)

  -- the jump to look for after statement i, where that was `hit` from i on
  pub named_past : count ≤ most_statements → (table : List ℕ) → JumpsOf S t count table → (hit i next : ℕ) → i < count → i ≤ hit →
      (i < hit → next ≡ hit) → (hit ≤ i → next ≡ onward i (get_or table (next_jumps t + i) 0)) →
      NamedFirst S t count hit i j → NamedFirst S t count next (i + 1) j
  named_past few table w hit i next within due same other l = elim (dec_lt i hit) [
    | yes h ↦ subst (λ (it : ℕ). NamedFirst S t count it (i + 1) j) (sym (same h)) (named-later hit i (i + 1) (omega arith) l)
    | no h ↦
        let here : hit ≡ i = omega arith in
        named-next table w i next within (subst (λ (x : ℕ). names_target (S.statement t x) j ≡ true) here (l.belongs (omega arith)).1) (other (omega arith))
  ]

-- the jump to look for after statement i comes after it
pub past_ahead : (i hit next it : ℕ) → i < most_statements → (i < hit → next ≡ hit) → (hit ≤ i → next ≡ onward i it) → i < next
past_ahead i hit next it few same other = elim (dec_lt i hit) [
  | yes h ↦ subst (λ (x : ℕ). i < x) (sym (same h)) h
  | no h ↦ subst (λ (x : ℕ). i < x) (sym (other (omega arith))) (onward-after i it few)
]
