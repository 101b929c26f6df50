-- A map as chunks of four bytes, one for each cell, and what a search through them finds. Assumes nothing.
use Rattle.std.proofs.Common.{◌≡◌, ℕ, zero, suc, ◌+◌, ◌*◌, ◌<◌, Bool, true, false, cond, Option, Some, None, List, [], length, get_or, take, drop, eqb, ltb, refl, ap, ap₂, sym, ◌∙◌, arith, ltb-true, ltb-false, drop-drop}
use Rattle.std.specs.Simd.{first_chunks}
use Rattle.std.specs.List.{position, position_or_len}
use Rattle.std.specs.Option.{MatchOption, unwrap_or}
use Rattle.std.proofs.lemmas.List.{get_or-take, get_or-drop}
use Rattle.std.proofs.lemmas.List.Sums.{position_or_len_is}
use mathlib.Core.Path.{subst⁻¹}
use native.Mathlib.Decide.{dec_lt}
use Rattle.base.specs.Below.{least}
use Rattle.base.specs.Bytes.{word_at}
use Rattle.base.proofs.Below.{least-below, least-passes}
use Rattle.base.proofs.Choice.{chosen, passed}
use Rattle.records.specs.Maps.{cells, address_at, value_at, cell_at, mapped}
use Rattle.decoding.specs.Lookups.{cell_of}

-- what stands before the least number that passes does not pass
least-fails : (test : ℕ → Bool) (n k : ℕ) → k < least n test → test k ≡ false
unfolding least
least-fails test zero k h = absurd (omega arith)
least-fails test (suc n) k h = elim (dec_lt k (least n test)) [
  | yes l ↦ least-fails test n k l
  | no g ↦ go g (ltb (least n test) n) refl (test n) refl h
]
  where
    go : ¬ (k < least n test) → (b : Bool) → ltb (least n test) n ≡ b → (c : Bool) → test n ≡ c → k < cond b (least n test) (cond c n (suc n)) → test k ≡ false
    go g true e c f l = absurd (g l)
    go g false e true f l = absurd (omega (arith, least-below test n, ltb-false (least n test) n e))
    go g false e false f l =
        let last : k ≡ n = omega (arith, least-below test n, ltb-false (least n test) n e) in
        ap test last ∙ f

module _ (map : List ℕ) where
  -- its whole cells
  abbrev pub chunks : List (List ℕ)
  chunks = first_chunks 4 (cells map) map

  pub length-chunks : length chunks ≡ cells map
  length-chunks = go (cells map) map
    where
      go : (n : ℕ) (s : List ℕ) → length (first_chunks 4 n s) ≡ n
      go zero s = refl
      go (suc n) s = ap suc (go n (drop 4 s))

  chunk_at : (k n : ℕ) (s d : List ℕ) → k < n → get_or (first_chunks 4 n s) k d ≡ take 4 (drop (4 * k) s)
  chunk_at k zero s d h = absurd (omega arith)
  chunk_at zero (suc n) s d h = refl
  chunk_at (suc k) (suc n) s d h =
      let e : 4 + 4 * k ≡ 4 * suc k = omega arith in
      chunk_at k n (drop 4 s) d (omega arith) ∙ ap (take 4) (drop-drop (4 * k) 4 s ∙ ap (λ (i : ℕ). drop i s) e)

  module _ (k : ℕ) (h : k < cells map) (d : List ℕ) where
    byte-there : (i j : ℕ) → i < 4 → j ≡ 4 * k + i → get_or (get_or chunks k d) i 0 ≡ get_or map j 0
    byte-there i j l e =
        ap (λ (s : List ℕ). get_or s i 0) (chunk_at k (cells map) map d h)
        ∙ get_or-take 4 (drop (4 * k) map) i 0 l
        ∙ get_or-drop (4 * k) map i 0
        ∙ ap (λ (n : ℕ). get_or map n 0) (sym e)

    pub address-there : word_at (get_or chunks k d) 0 ≡ address_at map k
    address-there = ap₂ (λ (low high : ℕ). low + 256 * high) (byte-there 0 (4 * k) (omega arith) (omega arith)) (byte-there 1 (4 * k + 1) (omega arith) refl)

    pub value-there : word_at (get_or chunks k d) 2 ≡ value_at map k
    value-there = ap₂ (λ (low high : ℕ). low + 256 * high) (byte-there 2 (4 * k + 2) (omega arith) refl) (byte-there 3 (4 * k + 2 + 1) (omega arith) (omega arith))

  -- the place of the first cell whose address passes
  pub place_found : (test : ℕ → Bool) → position_or_len (λ c. test (word_at c 0)) chunks ≡ least (cells map) (λ k. test (address_at map k))
  place_found test =
      let at = λ (k : ℕ). test (address_at map k) in
      let i = least (cells map) at in
      position_or_len_is (λ (c : List ℕ). test (word_at c 0)) chunks i []
      (omega (arith, least-below at (cells map), length-chunks))
      (λ k h. ap test (address-there k (omega (arith, least-below at (cells map))) []) ∙ least-fails at (cells map) k h)
      (λ h. let l : i < cells map = omega (arith, length-chunks) in ap test (address-there i l []) ∙ least-passes at (cells map) l)

  pub position_found : (test : ℕ → Bool) → position (λ c. test (word_at c 0)) chunks
      ≡ (let i = least (cells map) (λ k. test (address_at map k)) in cond (ltb i (cells map)) (Some i) None)
  position_found test = ap₂ (λ (i n : ℕ). cond (ltb i n) (Some i) None) (place_found test) length-chunks

  pub place_or_end : (test : ℕ → Bool) (r : Option ℕ) → r ≡ position (λ c. test (word_at c 0)) chunks →
      unwrap_or r (length chunks) ≡ least (cells map) (λ k. test (address_at map k))
  place_or_end test r e =
      ap₂ (λ (r : Option ℕ) (n : ℕ). unwrap_or r n) (e ∙ position_found test) length-chunks
      ∙ go (ltb (least (cells map) (λ k. test (address_at map k))) (cells map)) refl
    where
      go : (b : Bool) → ltb (least (cells map) (λ k. test (address_at map k))) (cells map) ≡ b →
          unwrap_or (let i = least (cells map) (λ k. test (address_at map k)) in cond (ltb i (cells map)) (Some i) None) (cells map)
          ≡ least (cells map) (λ k. test (address_at map k))
      go true h = ap (λ (r : Option ℕ). unwrap_or r (cells map)) (chosen _ _ h)
      go false h =
          ap (λ (r : Option ℕ). unwrap_or r (cells map)) (passed _ _ h)
          ∙ omega (arith, least-below (λ k. test (address_at map k)) (cells map), ltb-false _ _ h)

  -- what a search for address a says, as `cell_of` does
  abbrev pub SaysCell : (a : ℕ) → Option ℕ → Type 0
  SaysCell a r = MatchOption r (None ≡ cell_of map a) (λ k. Some (word_at (get_or chunks k []) 2) ≡ cell_of map a)

  pub cell_found : (a : ℕ) (r : Option ℕ) → r ≡ position (λ c. eqb (word_at c 0) a) chunks → SaysCell a r
  cell_found a r e = subst⁻¹ (SaysCell a) (e ∙ position_found (λ x. eqb x a)) (go (mapped map a) refl)
    where
      go : (b : Bool) → mapped map a ≡ b → SaysCell a (let i = cell_at (address_at map) (cells map) a in cond (ltb i (cells map)) (Some i) None)
      go true h = subst⁻¹ (SaysCell a) (chosen _ _ h) (ap Some (value-there _ (ltb-true _ _ h) [] ∙ sym (chosen _ _ h)) ∙ sym (chosen _ _ h))
      go false h = subst⁻¹ (SaysCell a) (passed _ _ h) (sym (passed _ _ h))
