-- Search by halves among cells whose addresses ascend: what it has found. Assumes nothing.
use Rattle.std.proofs.Common.{◌≡◌, ℕ, ◌<◌, ◌≤◌, true, false, Some, None, Ok, Err, Result, List, [], get_or, length, ap, sym, ◌∙◌, arith, ne_eqb, le-ltb, eqb}
use Rattle.std.specs.Ordering.{nat_cmp, ordering_index}
use Rattle.std.specs.List.Sorted.{IsBinarySearchResult}
use Rattle.std.specs.Result.{MatchResult}
use Rattle.std.specs.declared.cmp.Ordering.{Ordering}
use Rattle.std.specs.declared.cmp.Ordering.TheVariants.{Less, Equal, Greater}
use Rattle.std.proofs.lemmas.Cmp.{ranked}
use borrow.Author.Tests.{tests}
use native.Mathlib.Decide.{ℕ_discrete, dec_lt}
use Rattle.base.specs.Below.{least}
use Rattle.base.specs.Bytes.{word_at}
use Rattle.base.proofs.Below.{least-none}
use Rattle.base.proofs.Choice.{chosen, passed}
use Rattle.records.specs.Maps.{cells, address_at, mapped, map_accepted, run_cells}
use Rattle.records.proofs.Maps.{ascending}
use Rattle.decoding.specs.Lookups.{cell_of}
use Rattle.decoding.proofs.Chunks.{chunks, length-chunks, address-there, value-there}
use Rattle.decoding.proofs.Maps.{own-mapped, own_value}

-- how a cell's address compares with x
abbrev pub order : (x : ℕ) → List ℕ → Ordering
order x c = nat_cmp (word_at c 0) x

module _ (bytes : List ℕ) (x : ℕ) (ok : map_accepted run_cells bytes ≡ true) where
  rises : (a b : ℕ) → a ≤ b → ordering_index (nat_cmp a x) ≤ ordering_index (nat_cmp b x)
  rises a b l = grind (arith, tests)

  ordered : (i j : ℕ) (d : List ℕ) → i ≤ j → j < length (chunks bytes) → ordering_index (order x (get_or (chunks bytes) i d)) ≤ ordering_index (order x (get_or (chunks bytes) j d))
  ordered i j d l h =
      let n : j < cells bytes = omega (arith, length-chunks bytes) in
      let up : address_at bytes i ≤ address_at bytes j = elim (ℕ_discrete i j) [
        | yes e ↦ rw e (omega arith)
        | no f ↦ omega (arith, ascending 256 bytes ok i j (omega arith) n)
      ] in
      rises _ _ (omega (arith, address-there bytes i (omega arith) d, address-there bytes j n d))

  pub searched : (r : Result ℕ ℕ) → IsBinarySearchResult (order x) (chunks bytes) r →
      MatchResult r (λ k. k < cells bytes → Some (word_at (get_or (chunks bytes) k []) 2) ≡ cell_of bytes x) (λ _. None ≡ cell_of bytes x)
  searched (Ok k) h = λ l.
      let e : address_at bytes k ≡ x = sym (address-there bytes k l []) ∙ ranked _ x Equal (sym (h [])) in
      ap Some (value-there bytes k l [] ∙ sym (own_value bytes 256 ok k l)) ∙ sym (chosen _ _ (own-mapped bytes 256 ok k l)) ∙ ap (cell_of bytes) e
  searched (Err i) h =
      let parted = h ordered in
      let other : (j : ℕ) → j < cells bytes → eqb (address_at bytes j) x ≡ false = λ j l. ne_eqb _ _ (λ (e : address_at bytes j ≡ x). elim (dec_lt j i) [
        | yes b ↦
            let low : word_at (get_or (chunks bytes) j []) 0 < x = ranked _ x Less (sym (parted.0 j [] (omega arith) b)) in
            omega (arith, address-there bytes j l [])
        | no b ↦
            let high : x < word_at (get_or (chunks bytes) j []) 0 = ranked _ x Greater (sym (parted.1 j [] (omega arith) (omega (arith, length-chunks bytes)))) in
            omega (arith, address-there bytes j l [])
      ]) in
      let none : least (cells bytes) (λ (j : ℕ). eqb (address_at bytes j) x) ≡ cells bytes = least-none (λ (j : ℕ). eqb (address_at bytes j) x) (cells bytes) other in
      let gone : mapped bytes x ≡ false = le-ltb _ _ (omega arith) in
      sym (passed _ _ gone)
