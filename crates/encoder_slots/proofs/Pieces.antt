-- Pieces of a program written one after the other. Assumes nothing.
use Prim.Native.Nat.{ℕ, suc, ◌+◌, ◌≤◌, ◌<◌}
use mathlib.Core.Path.{◌≡◌, refl, ap, sym, ◌∙◌, subst}
use mathlib.Core.Bool.{Bool, true, false, cond}
use mathlib.Core.List.{List, [], ◌∷◌, ◌++◌}
use native.Mathlib.Numerals.{add-one}
use native.Mathlib.Omega.{arith}
use Rattle.table.specs.Formulas.{written_at}
use Rattle.table.specs.Programs.{next, root, upto, Command, sets, needs, aims, put, compiled, next_after, places_after}
use Rattle.table.proofs.Sequences.{grows, inside, next-++, places-++, compiled-++, compiled-length}
use Rattle.table.proofs.Written.{written-++}
use Rattle.encoding.specs.Slots.{Slot, same}
use Rattle.encoder_slots.specs.Places.{place_of}
use Rattle.encoder_slots.specs.Pieces.{Writes}

pub writes-none : (out slots : List ℕ) (n : ℕ) → Writes [] out slots n out slots n
unfolding written_at compiled places_after next_after
writes-none out slots n = record { written = refl; places = refl; next = refl; slots_stay = refl }

-- a program and then another, at any places
pub written-cut : (P Q : List (Command Slot)) (places : Slot → ℕ) (out : List ℕ) (n : ℕ) (out1 : List ℕ) (n1 : ℕ) (out2 : List ℕ) →
    out1 ≡ written_at out n (compiled same places n P) → n1 ≡ next_after same n P → out2 ≡ written_at out1 n1 (compiled same (places_after same places n P) n1 Q) →
    out2 ≡ written_at out n (compiled same places n (P ++ Q))
written-cut P Q places out n out1 n1 out2 p e q =
    q ∙ ((λ i. written_at (p i) (e i) (compiled same (places_after same places n P) (e i) Q))
    ∙ (ap (λ (m : ℕ). written_at (written_at out n (compiled same places n P)) m (compiled same (places_after same places n P) (next_after same n P) Q)) (sym (compiled-length same places n P))
    ∙ (sym (written-++ out n (compiled same places n P) (compiled same (places_after same places n P) (next_after same n P) Q))
    ∙ ap (written_at out n) (sym (compiled-++ same places n P Q)))))

pub writes-++ : (P Q : List (Command Slot)) (out slots : List ℕ) (n : ℕ) (out1 slots1 : List ℕ) (n1 : ℕ) (out2 slots2 : List ℕ) (n2 : ℕ) →
    Writes P out slots n out1 slots1 n1 → Writes Q out1 slots1 n1 out2 slots2 n2 → Writes (P ++ Q) out slots n out2 slots2 n2
writes-++ P Q out slots n out1 slots1 n1 out2 slots2 n2 p q =
    let places = place_of slots in
    record {
      written = written-cut P Q places out n out1 n1 out2 p.written p.next (q.written ∙ ap (λ (f : Slot → ℕ). written_at out1 n1 (compiled same f n1 Q)) p.places);
      places = q.places ∙ ((λ i. places_after same (p.places i) (p.next i) Q) ∙ sym (places-++ same places n P Q));
      next = q.next ∙ (ap (λ (m : ℕ). next_after same m Q) p.next ∙ sym (next-++ same n P Q));
      slots_stay = q.slots_stay ∙ p.slots_stay;
    }

-- one more of a row of pieces
pub writes_more : (f : ℕ → List (Command Slot)) (i : ℕ) (out slots : List ℕ) (n : ℕ) (out1 slots1 : List ℕ) (n1 : ℕ) (out2 slots2 : List ℕ) (n2 : ℕ) →
    Writes (upto f i) out slots n out1 slots1 n1 → Writes (f i) out1 slots1 n1 out2 slots2 n2 → Writes (upto f (i + 1)) out slots n out2 slots2 n2
unfolding upto
writes_more f i out slots n out1 slots1 n1 out2 slots2 n2 p q =
    subst (λ (j : ℕ). Writes (upto f j) out slots n out2 slots2 n2) (sym (add-one i)) (writes-++ (upto f i) (f i) out slots n out1 slots1 n1 out2 slots2 n2 p q)

pub writes-row : (f : ℕ → List (Command Slot)) (out slots : List ℕ) (n : ℕ) → Writes (upto f 0) out slots n out slots n
unfolding upto
writes-row f out slots n = writes-none out slots n

-- ---- places lie below the next index

put-below : (places : Slot → ℕ) (s : Slot) (v n m : ℕ) → ((x : Slot) → places x < n) → n ≤ m → v < m → (x : Slot) → put same places s v x < m
put-below places s v n m h le lt x = go (same x s)
  where
    go : (b : Bool) → cond b v (places x) < m
    go true = lt
    go false = let k = h x in omega arith

pub program-below : (P : List (Command Slot)) (places : Slot → ℕ) (n : ℕ) → ((x : Slot) → places x < n) → (x : Slot) → places_after same places n P x < next_after same n P
unfolding places_after next_after
program-below [] places n h x = h x
program-below (sets s t ∷ P) places n h x =
    program-below P (put same places s (root places n t)) (next n t) (put-below places s (root places n t) n (next n t) h (grows t n) (inside places t n h)) x
program-below (needs t ∷ P) places n h x = program-below P places (suc (next n t)) (λ y. let k = h y in let g = grows t n in omega arith) x
program-below (aims t ∷ P) places n h x = program-below P places (suc (next n t)) (λ y. let k = h y in let g = grows t n in omega arith) x

-- places lie below the next index after a piece too
pub below-after : (P : List (Command Slot)) (out slots : List ℕ) (n : ℕ) (out1 slots1 : List ℕ) (n1 : ℕ) →
    Writes P out slots n out1 slots1 n1 → ((s : Slot) → place_of slots s < n) → (s : Slot) → place_of slots1 s < n1
below-after P out slots n out1 slots1 n1 w below s =
    subst (λ (x : ℕ). x < n1) (ap (λ (f : Slot → ℕ). f s) (sym w.places))
    (subst (λ (m : ℕ). places_after same (place_of slots) n P s < m) (sym w.next) (program-below P (place_of slots) n below s))
