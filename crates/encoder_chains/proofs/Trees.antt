-- Trees written one after the other: a base, and links over it. Assumes nothing.
use Prim.Native.Nat.{ℕ, zero, suc, ◌+◌, ◌-◌, ◌*◌, ◌≤◌, ◌<◌}
use mathlib.Core.Path.{◌≡◌, refl, ap, sym, ◌∙◌, subst}
use mathlib.Core.List.{List, [], ◌∷◌}
use native.Mathlib.Numerals.{add-one}
use native.Mathlib.Omega.{arith}
use native.Mathlib.Decide.{ℕ_discrete}
use lib.ListN.{length}
use borrow.Author.Tests.{eq-eqb, ne_eqb}
use Rattle.base.proofs.Choice.{chosen, passed}
use Rattle.base.specs.Bytes.{placed}
use Rattle.table.specs.declared.Formula.{Formula}
use Rattle.table.specs.Formulas.{formula_bytes, written_at, bit_sort, AND, OR, IF}
use Rattle.table.specs.Programs.{next, root, records}
use Rattle.table.proofs.Sequences.{records-rest, records-length}
use Rattle.table.proofs.Written.{written-++}
use Rattle.encoding.specs.Slots.{Slot, Term}
use Rattle.encoding.specs.Steps.{Link as ChainLink, skip, if_then, and_with, or_with, linked, chain}
use Rattle.encoder_chains.specs.Placed.{LinkNumbers, placed_link, record_over}
use Rattle.encoder_slots.specs.Pieces.{WritesTree}

-- ---- links

module _ (places : Slot → ℕ) where
  -- a tree's records and one more
  pub written_one : (t : Term) (out : List ℕ) (n : ℕ) (f : Formula) →
      written_at out n (records places n t (f ∷ [])) ≡ placed (written_at out n (records places n t [])) (16 * next n t) (formula_bytes f)
  unfolding written_at
  written_one t out n f =
      let e : n + length (records places n t []) ≡ next n t = let p = records-length places n t [] in omega arith in
      ap (written_at out n) (records-rest places n t (f ∷ []))
      ∙ (written-++ out n (records places n t []) (f ∷ [])
      ∙ ap (λ (m : ℕ). placed (written_at out n (records places n t [])) (16 * m) (formula_bytes f)) e)

  one : (t : Term) (out now : List ℕ) (n m at : ℕ) → WritesTree places t out n now m at → (f : Formula) →
      placed now (16 * m) (formula_bytes f) ≡ written_at out n (records places n t (f ∷ []))
  one t out now n m at w f = (λ i. placed (w.tree_written i) (16 * w.tree_next i) (formula_bytes f)) ∙ sym (written_one t out n f)

  module _ (t : Term) (out now : List ℕ) (n m at : ℕ) (w : WritesTree places t out n now m at) where
    -- a link that adds nothing
    none : (l : ChainLink) → (placed_link places l).operation ≡ 0 → WritesTree places (linked l t) out n now m at
    none skip e = w
    none (if_then sort x y) e = absurd (omega arith)
    none (and_with s) e = absurd (omega arith)
    none (or_with s) e = absurd (omega arith)

    abbrev if_of : LinkNumbers → Formula
    if_of link = record { operation = link.operation; sort = link.sort; constant = 0; a = link.a; b = link.b; c = at }

    test : (l : ChainLink) → (placed_link places l).operation ≡ IF →
        WritesTree places (linked l t) out n (placed now (16 * m) (formula_bytes (if_of (placed_link places l)))) (suc m) m
    unfolding records next root
    test skip e = absurd (omega arith)
    test (if_then sort x y) e = record {
      tree_written = ap (λ (c : ℕ). placed now (16 * m) (formula_bytes (record { operation = IF; sort = sort; constant = 0; a = places x; b = places y; c = c }))) w.tree_root
          ∙ one t out now n m at w _;
      tree_next = ap suc w.tree_next;
      tree_root = w.tree_next;
    }
    test (and_with s) e = absurd (omega arith)
    test (or_with s) e = absurd (omega arith)

    abbrev joined_of : LinkNumbers → Formula
    joined_of link = record { operation = link.operation; sort = link.sort; constant = 0; a = link.a; b = at; c = 0 }

    joined : (l : ChainLink) → ((placed_link places l).operation ≡ 0 → ⊥) → ((placed_link places l).operation ≡ IF → ⊥) →
        WritesTree places (linked l t) out n (placed now (16 * m) (formula_bytes (joined_of (placed_link places l)))) (suc m) m
    unfolding records next root
    joined skip z f = absurd (z refl)
    joined (if_then sort x y) z f = absurd (f refl)
    joined (and_with s) z f = record {
      tree_written = ap (λ (b : ℕ). placed now (16 * m) (formula_bytes (record { operation = AND; sort = bit_sort; constant = 0; a = places s; b = b; c = 0 }))) w.tree_root
          ∙ one t out now n m at w _;
      tree_next = ap suc w.tree_next;
      tree_root = w.tree_next;
    }
    joined (or_with s) z f = record {
      tree_written = ap (λ (b : ℕ). placed now (16 * m) (formula_bytes (record { operation = OR; sort = bit_sort; constant = 0; a = places s; b = b; c = 0 }))) w.tree_root
          ∙ one t out now n m at w _;
      tree_next = ap suc w.tree_next;
      tree_root = w.tree_next;
    }

    -- the same for a link as the code has it
    module _ (link : LinkNumbers) (l : ChainLink) (e : link ≡ placed_link places l) where
      operations : link.operation ≡ (placed_link places l).operation
      operations = ap (λ (x : LinkNumbers). x.operation) e

      link-none : link.operation ≡ 0 → WritesTree places (linked l t) out n now m at
      link-none z = none l (sym operations ∙ z)

      link_if : (after : List ℕ) → after ≡ placed now (16 * m) (formula_bytes (if_of link)) → link.operation ≡ IF → WritesTree places (linked l t) out n after (m + 1) m
      link_if after put f = let r = test l (sym operations ∙ f) in record {
        tree_written = put ∙ (ap (λ (x : LinkNumbers). placed now (16 * m) (formula_bytes (if_of x))) e ∙ r.tree_written);
        tree_next = add-one m ∙ r.tree_next;
        tree_root = r.tree_root;
      }

      link-joined : (after : List ℕ) → after ≡ placed now (16 * m) (formula_bytes (joined_of link)) → (link.operation ≡ 0 → ⊥) → (link.operation ≡ IF → ⊥) →
          WritesTree places (linked l t) out n after (m + 1) m
      link-joined after put z f = let r = joined l (λ p. z (operations ∙ p)) (λ p. f (operations ∙ p)) in record {
        tree_written = put ∙ (ap (λ (x : LinkNumbers). placed now (16 * m) (formula_bytes (joined_of x))) e ∙ r.tree_written);
        tree_next = add-one m ∙ r.tree_next;
        tree_root = r.tree_root;
      }

    -- no link, and a link
    pub without : (link : LinkNumbers) (l : ChainLink) → link ≡ placed_link places l → link.operation ≡ 0 → WritesTree places (linked l t) out n now m at
    without link l e none = link-none link l e none

    pub with_link : (link : LinkNumbers) (l : ChainLink) → link ≡ placed_link places l → (link.operation ≡ 0 → ⊥) → (after : List ℕ) →
        after ≡ placed now (16 * m) (formula_bytes (record_over link at)) → WritesTree places (linked l t) out n after (m + 1) m
    with_link link l e some after put =
        let bytes = λ (f : Formula). placed now (16 * m) (formula_bytes f) in
        elim (ℕ_discrete link.operation IF) [
          | yes f ↦ link_if link l e after (put ∙ ap bytes (chosen _ _ (eq-eqb _ _ f))) f
          | no f ↦ link-joined link l e after (put ∙ ap bytes (passed _ _ (ne_eqb _ _ f))) some f
        ]

-- ---- chains

module _ (places : Slot → ℕ) (links : ℕ → ChainLink) (t : Term) (out : List ℕ) (n : ℕ) (after : List ℕ) (m at : ℕ) where
  pub chain-none : WritesTree places t out n after m at → WritesTree places (chain links 0 t) out n after m at
  unfolding chain
  chain-none w = w

  -- one link more
  pub chain_more : (i : ℕ) → WritesTree places (linked (links i) (chain links i t)) out n after m at → WritesTree places (chain links (i + 1) t) out n after m at
  unfolding chain
  chain_more i w = subst (λ (j : ℕ). WritesTree places (chain links j t) out n after m at) (sym (add-one i)) w

  -- links that add nothing, from i on
  pub chain-passed : (i d : ℕ) → ((x : ℕ) → i ≤ x → x < i + d → links x ≡ skip) → WritesTree places (chain links i t) out n after m at → WritesTree places (chain links (i + d) t) out n after m at
  unfolding chain
  chain-passed i zero none w =
      let e : i ≡ i + 0 = omega arith in
      subst (λ (j : ℕ). WritesTree places (chain links j t) out n after m at) e w
  chain-passed i (suc d) none w =
      let e : suc (i + d) ≡ i + suc d = omega arith in
      let before = chain-passed i d (λ (x : ℕ) (p : i ≤ x) (q : x < i + d). none x p (omega arith)) w in
      subst (λ (j : ℕ). WritesTree places (chain links j t) out n after m at) e
      (subst (λ (l : ChainLink). WritesTree places (linked l (chain links (i + d) t)) out n after m at) (sym (none (i + d) (omega arith) (omega arith))) before)

  pub chain-to : (i j : ℕ) → i ≤ j → ((x : ℕ) → i ≤ x → x < j → links x ≡ skip) → WritesTree places (chain links i t) out n after m at → WritesTree places (chain links j t) out n after m at
  chain-to i j le none w =
      let e : i + (j - i) ≡ j = omega arith in
      subst (λ (k : ℕ). WritesTree places (chain links k t) out n after m at) e
      (chain-passed i (j - i) (λ (x : ℕ) (p : i ≤ x) (q : x < i + (j - i)). none x p (omega arith)) w)
