-- `decoder::model_fits` meets its contract. Assumes nothing.
use Rattle.std.proofs.Common.{◌≡◌, ◌≤◌, ◌<◌, ◌&&◌, ℕ, Bool, zero, suc, true, false, List, length, get_or, take, drop, ltb, leb, ap, ap₂, sym, ◌∙◌, refl, subst, arith, length-take-le, le-leb}
use Rattle.std.proofs.lemmas.List.{get_or-take}
use Rattle.base.specs.Below.{every}
use Rattle.records.specs.Maps.{map_accepted, run_cells}
use Rattle.decoding.specs.Models.{bits, model_fits}
use Rattle.decoder.proofs.model_fits.Goals as goal

every_ext : (f g : ℕ → Bool) (n : ℕ) → ((k : ℕ) → k < n → f k ≡ g k) → every n f ≡ every n g
unfolding every
every_ext f g zero e = refl
every_ext f g (suc n) e = ap₂ (λ (a b : Bool). a && b) (every_ext f g n (λ k h. e k (omega arith))) (e n (omega arith))

-- the first n bytes are bits, by themselves and in the whole
bits-there : (model : List ℕ) (n : ℕ) → n ≤ length model → every (length (take n model)) (λ i. ltb (get_or (take n model) i 0) 2) ≡ every n (λ i. ltb (get_or model i 0) 2)
bits-there model n h =
    ap (λ (m : ℕ). every m (λ i. ltb (get_or (take n model) i 0) 2)) (length-take-le n model h)
    ∙ every_ext (λ i. ltb (get_or (take n model) i 0) 2) (λ i. ltb (get_or model i 0) 2) n (λ i l. ap (λ (v : ℕ). ltb v 2) (get_or-take n model i 0 l))

-- the test by its two parts
fits_by : (threads bound : ℕ) (model : List ℕ) (n : ℕ) (front back : List ℕ) (t : Bool) → n ≡ bits threads bound → n ≤ length model →
    front ≡ take n model → back ≡ drop n model → t ≡ every (length front) (λ i. ltb (get_or front i 0) 2) →
    (t && map_accepted run_cells back) ≡ model_fits threads bound model
unfolding model_fits
fits_by threads bound model n front back t e l f b q =
    let there : t ≡ every (bits threads bound) (λ i. ltb (get_or model i 0) 2)
    = q ∙ ap (λ (xs : List ℕ). every (length xs) (λ i. ltb (get_or xs i 0) 2)) f ∙ bits-there model n l ∙ ap (λ (m : ℕ). every m (λ i. ltb (get_or model i 0) 2)) e in
    let long : true ≡ leb (bits threads bound) (length model) = sym (le-leb _ _ (subst (λ (m : ℕ). m ≤ length model) e l)) in
    ap₂ (λ (x : Bool) (xs : List ℕ). x && map_accepted run_cells xs) (ap₂ (λ (x y : Bool). x && y) long there) (b ∙ ap (λ (m : ℕ). drop m model) e)

pub returns-then-are_bits : goal.returns-then-are_bits
returns-then-are_bits c =
    let a = c.args in
    let h = c.in-Some.ensures.cases in
    c.map_accepted.ensures ∙ fits_by a.threads a.bound a.model.now _ _ _ true c.bits.ensures h.0 h.1 h.2 (sym c.if-are_bits.true ∙ c.are_bits.ensures)

pub returns-else-are_bits : goal.returns-else-are_bits
returns-else-are_bits c =
    let a = c.args in
    let h = c.in-Some.ensures.cases in
    c.if-are_bits.false ∙ fits_by a.threads a.bound a.model.now _ _ _ false c.bits.ensures h.0 h.1 h.2 (sym c.if-are_bits.false ∙ c.are_bits.ensures)
