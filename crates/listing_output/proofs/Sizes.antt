-- No listing is longer than 64 lines of 64 bytes and a last line of 16. Assumes nothing.
use Rattle.std.specs.Prelude.{Option, Some, None}
use Prim.Native.Nat.{ℕ, zero, suc, ◌+◌, ◌*◌, ◌/◌, ◌%◌, ◌≤◌, ◌<◌}
use mathlib.Core.Bool.{Bool, true, false, cond, ◌&&◌}
use mathlib.Core.List.{List, [], ◌∷◌, ◌++◌}
use mathlib.Core.Path.{◌≡◌, refl, ap, ◌∙◌}
use native.Mathlib.Decide.{dec_lt}
use native.Mathlib.Nat.{min-eq_left}
use native.Mathlib.Omega.{arith}
use lib.Dec.{eqb, leb}
use lib.ListN.{length, length-append, get_or-eq_default}
use borrow.Author.Tests.{lt-ltb, leb-true}
use Rattle.base.proofs.Below.{every-at}
use Rattle.base.proofs.Choice.{chosen, passed, cond_both, and_left}
use Rattle.base.specs.Below.{every}
use Rattle.base.specs.Bytes.{over}
use Rattle.records.proofs.Sets.{four-threads}
use Rattle.records.specs.Instructions.{instructions, words, word_of}
use Rattle.records.specs.Maps.{map_accepted, run_cells}
use Rattle.records.specs.Sets.{Set, set_of, set_accepted}
use Rattle.records.specs.declared.Statement.{Statement}
use Rattle.machine.proofs.Runs.{takes-actor, taken-takes}
use Rattle.machine.specs.Machine.{actor, written, no_write}
use Rattle.machine.specs.Maps.{Held, begin, outcome, advanced}
use Rattle.machine.specs.Runs.{end_of}
use Rattle.machine.specs.Traces.{bit, shown}
use Rattle.machine.specs.declared.Choice.{Choice}
use Rattle.machine.specs.declared.End.{End}
use Rattle.machine.specs.declared.End.TheVariants.{Code, Stuck, Open}
use Rattle.machine.specs.declared.Outcome.{Outcome}
use Rattle.machine.specs.declared.Outcome.TheVariants.{Taken, NotPermitted, Lacking}
use Rattle.machine.specs.declared.Thread.{Thread}
use Rattle.records.specs.declared.Cell.{Cell}
use Rattle.listing_output.specs.Listings.{text, digits, places, decimal, name, has_none, argument, cell, line_of, line, last_line, refused_line, lowest, on_lowest, listing_from, listing, longest_listing}
use Rattle.listing_output.specs.Printed.{printed, count}
use Rattle.listing_output.proofs.Texts.{few-places, printed-fits}

-- ---- items

length_digits : (k n : ℕ) → length (digits k n) ≡ k
length_digits zero n = refl
length_digits (suc k) n = length-append (digits k (n / 10)) ((48 + n % 10) ∷ []) ∙ omega (arith, length_digits k (n / 10))

length-decimal : (n : ℕ) → length (decimal n) ≤ 5
unfolding decimal
length-decimal n = omega (arith, length_digits (places n) n, few-places n)

one_digit : (n : ℕ) → n < 10 → length (decimal n) ≡ 1
unfolding decimal places
one_digit n h = length_digits (places n) n ∙ chosen _ _ (lt-ltb n 10 h)

length-bit : (b : Bool) → length (decimal (bit b)) ≡ 1
length-bit true = one_digit 1 (omega arith)
length-bit false = one_digit 0 (omega arith)

short-words : every 20 (λ n. leb (length (word_of n)) 5) ≡ true
unfolding every word_of words
short-words = refl

length-word : (n : ℕ) → length (word_of n) ≤ 5
unfolding word_of words
length-word n = elim (dec_lt n 20) [
  | yes h ↦ leb-true _ _ (every-at (λ n. leb (length (word_of n)) 5) 20 n short-words h)
  | no h ↦ let k : 20 ≤ n = omega arith in let e = ap length (get_or-eq_default words [] k) in omega arith
]

length-name : (n : ℕ) → length (name n) ≤ 5
unfolding name
length-name n = cond_both (λ (xs : List ℕ). length xs ≤ 5) (eqb n instructions) (omega arith) (length-word n)

length-argument : (i : Statement) → length (argument i) ≤ 7
unfolding argument
length-argument i =
    let d = length-decimal i.argument in
    let direct : length (decimal i.argument) ≤ 7 = omega arith in
    let indirect : length (text "[" ++ decimal i.argument ++ text "]") ≤ 7 = simp length-append (omega arith) in
    cond_both (λ (xs : List ℕ). length xs ≤ 7) (has_none i.number) (omega arith) (cond_both (λ (xs : List ℕ). length xs ≤ 7) (eqb i.mode 1) indirect direct)

length-cell : (w : Option Cell) → length (cell w) ≤ 15
unfolding cell
length-cell None = omega arith
length-cell (Some w) =
    let a = length-decimal w.address in
    let v = length-decimal w.value in
    simp length-append (omega arith)

-- ---- lines

length-line : (t : ℕ) (i : Statement) (x : Thread) (w : Option Cell) → t < 10 → length (line_of t i x w) ≤ 64
unfolding line_of
length-line t i x w h =
    simp length-append
    (omega (arith, one_digit t h, length-decimal x.pc, length-name i.number, length-argument i, length-decimal x.accu, length-decimal x.mem, length-decimal x.adr, length-decimal x.val, length-bit x.full, length-cell w))

length_last : (e : End) → length (last_line e) ≤ 16
unfolding last_line
length_last (Code code) = let d = length-decimal code in simp length-append (omega arith)
length_last Stuck = omega arith
length_last Open = omega arith

length-refused : (number : ℕ) → length (refused_line number) ≤ 16
unfolding refused_line
length-refused number = let d = length-decimal number in simp length-append (omega arith)

-- ---- listings

length_from : (S : Set) → S.threads ≤ 4 → (h : Held) (w : Option Cell) (n : ℕ) → length (listing_from S h w n) ≤ 64 * n + 16
unfolding listing_from line
length_from S four h w zero = omega (arith, length_last (end_of S h.state))
length_from S four h w (suc n) = go (outcome S h c) refl (length_from S four (advanced S h c) (written S h.state c) n)
  where
    c : Choice
    c = lowest S h.state

    rest : List ℕ
    rest = listing_from S (advanced S h c) (written S h.state c) n

    go : (o : Outcome) → outcome S h c ≡ o → length rest ≤ 64 * n + 16 → length (on_lowest o (line S h.state w c ++ rest) (last_line (end_of S h.state))) ≤ 64 * suc n + 16
    go Taken e k =
        let t = takes-actor S h.state c (taken-takes S h c e) in
        let l = length-line (actor c) (shown S h.state c) (h.state.threads (actor c)) w (omega arith) in
        simp length-append (omega arith)
    go NotPermitted e k = omega (arith, length_last (end_of S h.state))
    go Lacking e k = omega (arith, length-refused 14)

pub listing-size : (set map : List ℕ) → length (listing set map) ≤ longest_listing
unfolding listing
listing-size set map = go (set_accepted set && map_accepted run_cells map) refl
  where
    go : (b : Bool) → (set_accepted set && map_accepted run_cells map) ≡ b → length (cond (set_accepted set && map_accepted run_cells map) (listing_from (set_of set) (begin map) no_write 64) (refused_line 9)) ≤ longest_listing
    go true e =
        let four = four-threads set (and_left (set_accepted set) (map_accepted run_cells map) e) in
        omega (arith, ap length (chosen (listing_from (set_of set) (begin map) no_write 64) (refused_line 9) e), length_from (set_of set) four (begin map) no_write 64)
    go false e = omega (arith, ap length (passed (listing_from (set_of set) (begin map) no_write 64) (refused_line 9) e), length-refused 9)

-- an output of that size holds the whole listing
pub whole-listing : (set map out : List ℕ) → longest_listing ≤ length out →
    (count (listing set map) out ≡ length (listing set map)) × (printed (listing set map) out ≡ over (listing set map) out)
whole-listing set map out h =
    let l = listing-size set map in
    let k : length (listing set map) ≤ length out = omega arith in
    (min-eq_left k, printed-fits (listing set map) out k)
