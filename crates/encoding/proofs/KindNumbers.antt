-- The kinds by number: each kind has its own, from 0 on. Assumes nothing.
use Prim.Native.Nat.{ℕ, ◌<◌}
use mathlib.Core.Path.{◌≡◌, refl, ap, sym, ◌∙◌}
use mathlib.Core.Bool.{true, ◌&&◌}
use borrow.Author.Tests.{eqb-true}
use lib.Dec.{eqb}
use Rattle.base.specs.Below.{every}
use Rattle.base.proofs.Below.{every-at}
use Rattle.base.proofs.Choice.{and_left, and_right}
use Rattle.encoding.specs.Slots.{Kind, choice, active, opening, shut, barred, held, waits, may_execute, none, permitted_first, one_permitted, address, loaded, swaps, result, test, not_test, flush_to, write_to, flush_value, write_value, raised, exits, codes, shared_memory, val, adr, mem, accu, full, halted, flag, mark, halts, ended, code, bit_zero, bit_one, word_zero, word_one, argument, Slot, slot, same, kinds, kind_at, kind_number, kind_count}

pub kind_at_lem : (kind : Kind) → kind_at (kind_number kind) ≡ kind
unfolding kinds
kind_at_lem choice = refl
kind_at_lem active = refl
kind_at_lem opening = refl
kind_at_lem shut = refl
kind_at_lem barred = refl
kind_at_lem held = refl
kind_at_lem waits = refl
kind_at_lem may_execute = refl
kind_at_lem none = refl
kind_at_lem permitted_first = refl
kind_at_lem one_permitted = refl
kind_at_lem address = refl
kind_at_lem loaded = refl
kind_at_lem swaps = refl
kind_at_lem result = refl
kind_at_lem test = refl
kind_at_lem not_test = refl
kind_at_lem flush_to = refl
kind_at_lem write_to = refl
kind_at_lem flush_value = refl
kind_at_lem write_value = refl
kind_at_lem raised = refl
kind_at_lem exits = refl
kind_at_lem codes = refl
kind_at_lem shared_memory = refl
kind_at_lem val = refl
kind_at_lem adr = refl
kind_at_lem mem = refl
kind_at_lem accu = refl
kind_at_lem full = refl
kind_at_lem halted = refl
kind_at_lem flag = refl
kind_at_lem mark = refl
kind_at_lem halts = refl
kind_at_lem ended = refl
kind_at_lem code = refl
kind_at_lem bit_zero = refl
kind_at_lem bit_one = refl
kind_at_lem word_zero = refl
kind_at_lem word_one = refl
kind_at_lem argument = refl

numbered : every kind_count (λ m. eqb (kind_number (kind_at m)) m) ≡ true
unfolding kinds every
numbered = refl

pub kind_number_lem : (m : ℕ) → m < kind_count → kind_number (kind_at m) ≡ m
kind_number_lem m h = eqb-true (kind_number (kind_at m)) m (every-at (λ m. eqb (kind_number (kind_at m)) m) kind_count m numbered h)

-- slots are told apart by `same`
pub same-slot : (x s : Slot) → same x s ≡ true → x ≡ s
same-slot (slot k a b) (slot l c d) e =
    let rest = and_right (eqb (kind_number k) (kind_number l)) (eqb a c && eqb b d) e in
    let numbers = eqb-true (kind_number k) (kind_number l) (and_left (eqb (kind_number k) (kind_number l)) (eqb a c && eqb b d) e) in
    let p : k ≡ l = sym (kind_at_lem k) ∙ (ap kind_at numbers ∙ kind_at_lem l) in
    let q = eqb-true a c (and_left (eqb a c) (eqb b d) rest) in
    let r = eqb-true b d (and_right (eqb a c) (eqb b d) rest) in
    λ i. slot (p i) (q i) (r i)
