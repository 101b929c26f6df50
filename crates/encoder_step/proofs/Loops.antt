-- Blocks as their loops write them: one value for each thread, one after each thread, a line for each thread. Assumes nothing.
use Prim.Native.Nat.{ℕ, suc, ◌+◌, ◌<◌}
use mathlib.Core.Path.{◌≡◌, refl, ap, sym, ◌∙◌, subst}
use mathlib.Core.Bool.{Bool, true, false, not, ◌&&◌, ◌||◌}
use mathlib.Core.List.{List}
use native.Mathlib.Numerals.{add-one}
use lib.Dec.{eqb}
use borrow.Author.Tests.{eqb-true, eq-eqb}
use Rattle.base.specs.Below.{every}
use Rattle.base.proofs.Below.{every-at}
use Rattle.base.proofs.Choice.{and_left, and_right, or_left, or_right, clash}
use Rattle.records.specs.Sets.{Set}
use Rattle.table.specs.Programs.{upto}
use Rattle.encoding.specs.Slots.{Slot, kinds, kind_at, kind_number, kind_count, choice, shut, may_execute, none, permitted_first, shared_memory, ended, code, word_one, flag}
use Rattle.encoding.specs.Steps.{Shape, per_thread, before_thread, shape, chain, link, links, base, rows, columns, kept, entry, line, block}
use Rattle.encoder_slots.specs.Pieces.{Writes, WritesTree}
use Rattle.encoder_slots.proofs.Pieces.{writes-row, writes_more}
use Rattle.encoder_slots.proofs.Entries.{tree_of}
use Rattle.encoder_slots.specs.Places.{of_statement}
use Rattle.encoder_step.specs.Entries.{BareEntry}
use Rattle.encoder_statements.proofs.Values.{statement-shape}

module _ (S : Set) (cs : List ℕ) (k kind : ℕ) (out slots : List ℕ) (n : ℕ) (after slots_after : List ℕ) (m : ℕ) where
  -- ---- one value for each thread

  module _ (e : shape (kind_at kind) ≡ per_thread) where
    pub line-one : (t : ℕ) → Writes (entry S cs k (kind_at kind) t 0) out slots n after slots_after m → Writes (line S cs k (kind_at kind) t) out slots n after slots_after m
    line-one t w =
        subst (λ (j : ℕ). Writes (upto (entry S cs k (kind_at kind) t) j) out slots n after slots_after m) (sym (ap (λ (s : Shape). columns S cs k s t) e))
        (writes_more (entry S cs k (kind_at kind) t) 0 out slots n out slots n after slots_after m (writes-row (entry S cs k (kind_at kind) t) out slots n) w)

    pub registers : (t : ℕ) → t ≡ S.threads → Writes (upto (line S cs k (kind_at kind)) t) out slots n after slots_after m → Writes (block S cs k (kind_at kind)) out slots n after slots_after m
    registers t all w = subst (λ (j : ℕ). Writes (upto (line S cs k (kind_at kind)) j) out slots n after slots_after m) (all ∙ sym (ap (rows S cs k) e)) w

  -- ---- one row

  pub one_line : rows S cs k (shape (kind_at kind)) ≡ 1 → (c : ℕ) → c ≡ columns S cs k (shape (kind_at kind)) 0 → Writes (upto (entry S cs k (kind_at kind) 0) c) out slots n after slots_after m →
      Writes (block S cs k (kind_at kind)) out slots n after slots_after m
  one_line row c all w =
      subst (λ (j : ℕ). Writes (upto (line S cs k (kind_at kind)) j) out slots n after slots_after m) (sym row)
      (writes_more (line S cs k (kind_at kind)) 0 out slots n out slots n after slots_after m (writes-row (line S cs k (kind_at kind)) out slots n)
      (subst (λ (j : ℕ). Writes (upto (entry S cs k (kind_at kind) 0) j) out slots n after slots_after m) all w))

  pub one_value : rows S cs k (shape (kind_at kind)) ≡ 1 → columns S cs k (shape (kind_at kind)) 0 ≡ 1 → Writes (entry S cs k (kind_at kind) 0 0) out slots n after slots_after m →
      Writes (block S cs k (kind_at kind)) out slots n after slots_after m
  one_value row column w =
      one_line row 1 (sym column) (writes_more (entry S cs k (kind_at kind) 0) 0 out slots n out slots n after slots_after m (writes-row (entry S cs k (kind_at kind) 0) out slots n) w)

  -- ---- one before the first thread, and one after each

  pub running : shape (kind_at kind) ≡ before_thread → (t : ℕ) → t ≡ S.threads → Writes (upto (entry S cs k (kind_at kind) 0) (t + 1)) out slots n after slots_after m →
      Writes (block S cs k (kind_at kind)) out slots n after slots_after m
  running e t all w =
      one_line (ap (rows S cs k) e) (t + 1) (add-one t ∙ (ap suc all ∙ sym (ap (λ (s : Shape). columns S cs k s 0) e))) w

-- ---- values without links

-- a base written is the whole tree
pub bare-written : (S : Set) (cs : List ℕ) (k kind a b : ℕ) → BareEntry S cs kind a b → (places : Slot → ℕ) (out : List ℕ) (n : ℕ) (after : List ℕ) (m at : ℕ) →
    WritesTree places (base S cs k (kind_at kind) a b) out n after m at → WritesTree places (tree_of S cs k (kind_at kind) a b) out n after m at
unfolding chain
bare-written S cs k kind a b bare places out n after m at w =
    subst (λ (l : ℕ). WritesTree places (chain (link S cs 0 (kind_at kind) a b) l (base S cs k (kind_at kind) a b)) out n after m at) (sym bare.linkless) w

-- the kinds by number whose values are all there and have no links
abbrev bare : ℕ → Bool
bare kind =
    eqb kind (kind_number choice) || eqb kind (kind_number shut) || eqb kind (kind_number may_execute) || eqb kind (kind_number none) || eqb kind (kind_number permitted_first)
    || eqb kind (kind_number shared_memory) || eqb kind (kind_number ended) || eqb kind (kind_number code) || eqb kind (kind_number word_one)

-- none of them is of statements, nor a flag
abbrev apart : ℕ → Bool
apart kind = not (of_statement kind || eqb kind (kind_number flag))

refused : (b : Bool) → not b ≡ true → b ≡ false
refused true e = sym e
refused false e = refl

module _ (S : Set) (cs : List ℕ) (a b : ℕ) where
  -- there, and without links
  lone : ℕ → Bool
  lone n = eqb (links S cs 0 (kind_at n) a b) 0 && (kept S cs 0 (shape (kind_at n)) a b && apart n)

  lone-tabled : every kind_count (λ n. not (bare n) || lone n) ≡ true
  unfolding every kinds lone
  lone-tabled = refl

  pub lone-at : (kind : ℕ) → kind < kind_count → bare kind ≡ true → BareEntry S cs kind a b
  unfolding lone
  lone-at kind h is =
      let none = eqb (links S cs 0 (kind_at kind) a b) 0 in
      let is-kept = kept S cs 0 (shape (kind_at kind)) a b in
      let holds : lone kind ≡ true = sym (ap (λ (t : Bool). not t || lone kind) is) ∙ every-at (λ n. not (bare n) || lone n) kind_count kind lone-tabled h in
      let rest : (is-kept && apart kind) ≡ true = and_right none (is-kept && apart kind) holds in
      let others : (of_statement kind || eqb kind (kind_number flag)) ≡ false = refused (of_statement kind || eqb kind (kind_number flag)) (and_right is-kept (apart kind) rest) in
      record {
        linkless = eqb-true (links S cs 0 (kind_at kind) a b) 0 (and_left none (is-kept && apart kind) holds);
        there = and_left is-kept (apart kind) rest;
        known = h;
        plain = or_left (of_statement kind) (eqb kind (kind_number flag)) others;
        no_flag = λ e. clash (eq-eqb kind (kind_number flag) e) (or_right (of_statement kind) (eqb kind (kind_number flag)) others);
      }

-- ---- a line for each thread

pub statement-rows : (S : Set) (cs : List ℕ) (k kind : ℕ) → kind < kind_count → of_statement kind ≡ true → S.threads ≡ rows S cs k (shape (kind_at kind))
statement-rows S cs k kind h of = sym (ap (rows S cs k) (statement-shape kind h of))
