-- How many records a program has: its parts' one after the other, a chain's links and its base's. Assumes nothing.
use Prim.Native.Nat.{ℕ, zero, suc, ◌+◌}
use mathlib.Core.Path.{◌≡◌, refl, ap, sym, ◌∙◌}
use mathlib.Core.List.{List, ◌++◌}
use native.Mathlib.Omega.{arith}
use Rattle.table.specs.Programs.{next, upto, Command, next_after}
use Rattle.table.proofs.Sequences.{next-++, program_shift}
use Rattle.encoding.specs.Slots.{Slot, same, Term}
use Rattle.encoding.specs.Steps.{Link, skip, if_then, and_with, or_with, linked, chain}
use Rattle.encoder_size.specs.Sizes.{total}

-- how many records a program has
abbrev pub counted : List (Command Slot) → ℕ
counted P = next_after same 0 P

pub counted-at : (n : ℕ) (P : List (Command Slot)) → next_after same n P ≡ n + counted P
counted-at n P =
    let e : 0 + n ≡ n = omega arith in
    let shift = sym (ap (λ (m : ℕ). next_after same m P) e) ∙ program_shift same n P 0 in
    omega arith

pub counted-++ : (P Q : List (Command Slot)) → counted (P ++ Q) ≡ counted P + counted Q
counted-++ P Q = next-++ same 0 P Q ∙ counted-at (counted P) Q

-- parts that have g records each
pub counted-upto : (f : ℕ → List (Command Slot)) (g : ℕ → ℕ) → ((i : ℕ) → counted (f i) ≡ g i) → (n : ℕ) → counted (upto f n) ≡ total g n
unfolding upto total next_after
counted-upto f g h zero = refl
counted-upto f g h (suc n) =
    let whole = counted-++ (upto f n) (f n) in
    let before = counted-upto f g h n in
    let last = h n in
    omega arith

-- how many records a link adds
abbrev pub adds : Link → ℕ
adds skip = 0
adds (if_then sort x y) = 1
adds (and_with s) = 1
adds (or_with s) = 1

-- a chain whose links add g records
pub counted-chain : (l : ℕ → Link) (g : ℕ → ℕ) → ((i : ℕ) → adds (l i) ≡ g i) → (base : Term) (n : ℕ) → next 0 (chain l n base) ≡ total g n + next 0 base
unfolding chain next total
counted-chain l g h base zero = omega arith
counted-chain l g h base (suc n) =
    let before = counted-chain l g h base n in
    let last = h n in
    let whole = go (l n) in
    omega arith
  where
    go : (x : Link) → next 0 (linked x (chain l n base)) ≡ adds x + next 0 (chain l n base)
    go skip = omega arith
    go (if_then sort x y) = omega arith
    go (and_with s) = omega arith
    go (or_with s) = omega arith
