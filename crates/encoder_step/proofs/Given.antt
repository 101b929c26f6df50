-- The kinds whose links statements give, by number: each has the links that its thread's statements give. Assumes nothing.
use Prim.Native.Nat.{ℕ, ◌+◌, ◌-◌, ◌<◌}
use mathlib.Core.Path.{◌≡◌, refl, ap, ◌∙◌}
use mathlib.Core.Bool.{false, cond}
use mathlib.Core.List.{List}
use native.Mathlib.Omega.{arith}
use lib.Dec.{eqb}
use borrow.Author.Tests.{ne_eqb}
use Rattle.base.proofs.Choice.{passed}
use Rattle.records.specs.Sets.{Set}
use Rattle.encoding.specs.Slots.{kinds, kind_at, kind_number, kind_count, barred, write_to, write_value, exits, codes, val, adr, mem, accu, full, halted, flag}
use Rattle.encoding.specs.Steps.{Shape, per_thread, before_thread, shape, link, links, kept}
use Rattle.encoder_slots.specs.Places.{of_statement}
use Rattle.encoder_chains.specs.Given.{given_by}
use Rattle.encoder_step.specs.Entries.{ByThread, AfterThread}

module _ (S : Set) (cs : List ℕ) where
  -- ---- by a kind's number: it is known, not of statements, and no flag

  module _ (kind : ℕ) (known : kind < kind_count) (plain : of_statement kind ≡ false) (no_flag : kind ≡ kind_number flag → ⊥) where
    by-thread : ((t : ℕ) → link S cs 0 (kind_at kind) t 0 ≡ given_by S kind t) → ((t : ℕ) → links S cs 0 (kind_at kind) t 0 ≡ S.count t) →
        shape (kind_at kind) ≡ per_thread → ByThread S cs kind
    by-thread linked counted each = record {
      own = λ t. record { linked = linked t; counted = counted t; there = ap (λ (s : Shape). kept S cs 0 s t 0) each; known = known; plain = plain; no_flag = no_flag };
      each = each;
    }

    after-thread : ((b : ℕ) → link S cs 0 (kind_at kind) 0 b ≡ given_by S kind (b - 1)) → ((b : ℕ) → links S cs 0 (kind_at kind) 0 b ≡ cond (eqb b 0) 0 (S.count (b - 1))) →
        shape (kind_at kind) ≡ before_thread → AfterThread S cs kind
    after-thread linked counted before = record {
      next = λ (b t : ℕ) (e : b ≡ t + 1). let is : b - 1 ≡ t = omega arith in record {
        linked = linked b ∙ ap (given_by S kind) is;
        counted = counted b ∙ (passed _ _ (ne_eqb b 0 (λ z. absurd (omega arith))) ∙ ap S.count is);
        there = ap (λ (s : Shape). kept S cs 0 s 0 b) before;
        known = known;
        plain = plain;
        no_flag = no_flag;
      };
      before = before;
      first = record { linkless = counted 0; there = ap (λ (s : Shape). kept S cs 0 s 0 0) before; known = known; plain = plain; no_flag = no_flag };
    }

  -- ---- a value for each thread, by its own statements

  pub of_barred : ByThread S cs (kind_number barred)
  unfolding kinds
  of_barred = by-thread (kind_number barred) (omega arith) refl (λ e. absurd (omega arith)) (λ t. refl) (λ t. refl) refl

  pub of_val : ByThread S cs (kind_number val)
  unfolding kinds
  of_val = by-thread (kind_number val) (omega arith) refl (λ e. absurd (omega arith)) (λ t. refl) (λ t. refl) refl

  pub of_adr : ByThread S cs (kind_number adr)
  unfolding kinds
  of_adr = by-thread (kind_number adr) (omega arith) refl (λ e. absurd (omega arith)) (λ t. refl) (λ t. refl) refl

  pub of_mem : ByThread S cs (kind_number mem)
  unfolding kinds
  of_mem = by-thread (kind_number mem) (omega arith) refl (λ e. absurd (omega arith)) (λ t. refl) (λ t. refl) refl

  pub of_accu : ByThread S cs (kind_number accu)
  unfolding kinds
  of_accu = by-thread (kind_number accu) (omega arith) refl (λ e. absurd (omega arith)) (λ t. refl) (λ t. refl) refl

  pub of_full : ByThread S cs (kind_number full)
  unfolding kinds
  of_full = by-thread (kind_number full) (omega arith) refl (λ e. absurd (omega arith)) (λ t. refl) (λ t. refl) refl

  pub of_halted : ByThread S cs (kind_number halted)
  unfolding kinds
  of_halted = by-thread (kind_number halted) (omega arith) refl (λ e. absurd (omega arith)) (λ t. refl) (λ t. refl) refl

  -- ---- a value after each thread, by that thread's statements

  pub of_write_to : AfterThread S cs (kind_number write_to)
  unfolding kinds
  of_write_to = after-thread (kind_number write_to) (omega arith) refl (λ e. absurd (omega arith)) (λ b. refl) (λ b. refl) refl

  pub of_write_value : AfterThread S cs (kind_number write_value)
  unfolding kinds
  of_write_value = after-thread (kind_number write_value) (omega arith) refl (λ e. absurd (omega arith)) (λ b. refl) (λ b. refl) refl

  pub of_exits : AfterThread S cs (kind_number exits)
  unfolding kinds
  of_exits = after-thread (kind_number exits) (omega arith) refl (λ e. absurd (omega arith)) (λ b. refl) (λ b. refl) refl

  pub of_codes : AfterThread S cs (kind_number codes)
  unfolding kinds
  of_codes = after-thread (kind_number codes) (omega arith) refl (λ e. absurd (omega arith)) (λ b. refl) (λ b. refl) refl
