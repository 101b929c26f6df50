-- Laws of a text's lines by the places where they start. Assumes nothing.
use Prim.Native.Nat.{ℕ, suc, ◌+◌, ◌-◌, ◌≤◌, ◌<◌}
use mathlib.Core.Path.{◌≡◌, refl, ap, ap₂, sym, subst, ◌∙◌}
use mathlib.Core.List.{List, [], ◌∷◌, nil≢cons, head-eq_of_cons-eq}
use mathlib.Core.Bool.{Bool, true, false, cond}
use native.Mathlib.Omega.{arith}
use native.Mathlib.Decide.{dec_lt}
use lib.Dec.{leb}
use lib.ListN.{length, take, drop, length-drop, drop_of_length-le}
use lib.Seq.{drop-drop, take_all}
use native.Mathlib.Nat.{le_of_eq}
use Rattle.std.specs.List.{slice_range}
use Rattle.std.proofs.lemmas.List.Folds.{length-prefix_len}
use borrow.Author.Tests.{le-leb, lt-leb}
use Rattle.base.proofs.Choice.{chosen, passed}
use Rattle.text_lines.specs.Characters.{is_in_line, run}
use Rattle.text_lines.specs.Lines.{lines, extended}
use Rattle.text_reader.specs.Readers.{line_end, next_start, line_at, lines_from}
use Rattle.text_reader.specs.declared.Line.{Line}

pub run-below : (test : ℕ → Bool) (s : List ℕ) → run test s ≤ length s
run-below test [] = omega arith
run-below test (b ∷ s) = go (test b) (run-below test s)
  where
    go : (t : Bool) → run test s ≤ length s → cond t (1 + run test s) 0 ≤ suc (length s)
    go true h = omega (arith, h)
    go false h = omega arith

-- a bound on both sides of a comparison
leb-suc : (a b : ℕ) → leb (suc a) (suc b) ≡ leb a b
leb-suc a b = elim (dec_lt b a) [
  | yes h ↦ lt-leb (suc a) (suc b) (omega arith) ∙ sym (lt-leb a b h)
  | no h ↦ le-leb (suc a) (suc b) (omega arith) ∙ sym (le-leb a b (omega arith))
]

-- the lines after the first
pub lines-first : (s : List ℕ) → lines s ≡ take (run is_in_line s) s ∷ lines_from s (run is_in_line s + 1)
unfolding lines lines_from
lines-first [] = refl
lines-first (b ∷ s) =
    let one : suc (run is_in_line s) ≡ 1 + run is_in_line s = omega arith in
    subst (λ (k : ℕ). lines (b ∷ s) ≡ take (cond (is_in_line b) k 0) (b ∷ s) ∷ lines_from (b ∷ s) (cond (is_in_line b) k 0 + 1)) one
    (go (is_in_line b) refl (lines-first s))
  where
    go : (t : Bool) → is_in_line b ≡ t → lines s ≡ take (run is_in_line s) s ∷ cond (leb (run is_in_line s + 1) (length s)) (lines (drop (run is_in_line s + 1) s)) [] →
        cond (is_in_line b) (extended b (lines s)) ([] ∷ lines s)
        ≡ take (cond (is_in_line b) (suc (run is_in_line s)) 0) (b ∷ s)
        ∷ cond (leb (cond (is_in_line b) (suc (run is_in_line s)) 0 + 1) (suc (length s))) (lines (drop (cond (is_in_line b) (suc (run is_in_line s)) 0 + 1) (b ∷ s))) []
    go true e ih =
        let n = run is_in_line s in
        chosen _ _ e ∙ ap (extended b) ih
        ∙ ap (λ (t : Bool). (b ∷ take n s) ∷ cond t (lines (drop (n + 1) s)) []) (sym (leb-suc (n + 1) (length s)))
        ∙ ap (λ (k : ℕ). (b ∷ take n s) ∷ cond (leb k (suc (length s))) (lines (drop k (b ∷ s))) []) (let k : suc (n + 1) ≡ suc n + 1 = omega arith in k)
        ∙ sym (ap (λ (k : ℕ). take k (b ∷ s) ∷ cond (leb (k + 1) (suc (length s))) (lines (drop (k + 1) (b ∷ s))) []) (chosen (suc n) 0 e))
    go false e ih =
        passed _ _ e
        ∙ sym (ap (λ (k : ℕ). take k (b ∷ s) ∷ cond (leb (k + 1) (suc (length s))) (lines (drop (k + 1) (b ∷ s))) []) (passed (suc (run is_in_line s)) 0 e)
        ∙ ap (λ (ls : List (List ℕ)). [] ∷ ls) (chosen _ _ (le-leb (0 + 1) (suc (length s)) (omega arith))))

from-rest : (s : List ℕ) (i k : ℕ) → i ≤ length s → lines_from (drop i s) k ≡ lines_from s (i + k)
unfolding lines_from
from-rest s i k h =
    ap₂ (λ (t : Bool) (r : List ℕ). cond t (lines r) []) (test (length (drop i s)) (length-drop i s)) (drop-drop k i s)
  where
    test : (n : ℕ) → n ≡ length s - i → leb k n ≡ leb (i + k) (length s)
    test n e = elim (dec_lt n k) [
      | yes l ↦ lt-leb k n l ∙ sym (lt-leb (i + k) (length s) (omega arith))
      | no l ↦ le-leb k n (omega arith) ∙ sym (le-leb (i + k) (length s) (omega arith))
    ]

-- what stands at index i: a line of n bytes, or nothing past the text
pub line-here : (s : List ℕ) (i n : ℕ) → i ≤ length s → n ≡ run is_in_line (drop i s) → line_at s i ≡ record { end = i + n; next = i + n + 1 }
unfolding line_end next_start
line-here s i n h e =
    ap (λ (m : ℕ). record { end = i + run is_in_line (drop i s); next = m }) (chosen _ _ (le-leb i (length s) h))
    ∙ ap (λ (m : ℕ). record { end = i + m; next = i + m + 1 }) (sym e)

pub line-past : (s : List ℕ) (i : ℕ) → length s < i → line_at s i ≡ record { end = i; next = i }
unfolding line_end next_start
line-past s i h =
    let n : run is_in_line (drop i s) ≡ 0 = ap (run is_in_line) (drop_of_length-le s (let k : length s ≤ i = omega arith in k)) in
    let e : i + run is_in_line (drop i s) ≡ i = omega (arith, n) in
    ap₂ (λ (m k : ℕ). record { end = m; next = k }) e (passed _ _ (lt-leb i (length s) h))

-- a line that starts at index i ends in the text, and the next one starts past its LF
abbrev pub Bounds : List ℕ → ℕ → Line → Type 0
Bounds s i l = (i ≤ l.end) × (l.end ≤ length s) × (l.next ≡ l.end + 1)

pub line_bounds : (s : List ℕ) (i : ℕ) (l : Line) → i ≤ length s → l ≡ line_at s i → Bounds s i l
line_bounds s i l h e =
    let k = e ∙ line-here s i (run is_in_line (drop i s)) h refl in
    let n : l.end ≡ i + run is_in_line (drop i s) = ap (λ (x : Line). x.end) k in
    let m : l.next ≡ i + run is_in_line (drop i s) + 1 = ap (λ (x : Line). x.next) k in
    (omega (arith, n), omega (arith, n, run-below is_in_line (drop i s), length-drop i s), omega (arith, n, m))

-- the line that starts at index i, and the lines after it
pub lines_step : (s : List ℕ) (i : ℕ) → i ≤ length s → lines_from s i ≡ take (run is_in_line (drop i s)) (drop i s) ∷ lines_from s (i + (run is_in_line (drop i s) + 1))
unfolding lines_from
lines_step s i h =
    let n = run is_in_line (drop i s) in
    chosen _ _ (le-leb i (length s) h) ∙ lines-first (drop i s)
    ∙ ap (λ (ls : List (List ℕ)). take n (drop i s) ∷ ls) (from-rest s i (n + 1) h)

-- the same by where the line ends and the next one starts
pub lines_next : (s : List ℕ) (i : ℕ) (l : Line) → i ≤ length s → l ≡ line_at s i → lines_from s i ≡ take (l.end - i) (drop i s) ∷ lines_from s l.next
lines_next s i l h e =
    let n = run is_in_line (drop i s) in
    let k : l ≡ record { end = i + n; next = i + n + 1 } = e ∙ line-here s i n h refl in
    let w : n ≡ l.end - i = omega (arith, ap (λ (x : Line). x.end) k) in
    let v : i + (n + 1) ≡ l.next = omega (arith, ap (λ (x : Line). x.next) k) in
    lines_step s i h ∙ ap₂ (λ (m j : ℕ). take m (drop i s) ∷ lines_from s j) w v

-- a line that was cut out, and its length
cut : (s : List ℕ) (i n : ℕ) (rest : List ℕ) → rest ≡ slice_range s i (length s) → n ≡ run is_in_line rest →
    (take n rest ≡ take (run is_in_line (drop i s)) (drop i s)) × (length (take n rest) ≡ run is_in_line (drop i s))
cut s i n rest e f =
    let r : rest ≡ drop i s = e ∙ take_all (length s - i) (drop i s) (le_of_eq (length-drop i s)) in
    let k : n ≡ run is_in_line (drop i s) = f ∙ ap (run is_in_line) r in
    let same : take n rest ≡ take (run is_in_line (drop i s)) (drop i s) = ap₂ (λ (m : ℕ) (t : List ℕ). take m t) k r in
    (same, ap length same ∙ length-prefix_len is_in_line (drop i s))

-- the lines from a line on that was cut out, and where the next one starts
pub lines-given : (s : List ℕ) (i n : ℕ) (rest : List ℕ) → i ≤ length s → rest ≡ slice_range s i (length s) → n ≡ run is_in_line rest →
    lines_from s i ≡ take n rest ∷ lines_from s (i + (length (take n rest) + 1))
lines-given s i n rest h e f =
    let l = cut s i n rest e f in
    lines_step s i h ∙ ap₂ (λ (l : List ℕ) (m : ℕ). l ∷ lines_from s (i + (m + 1))) (sym l.0) (sym l.1)

pub next-given : (s : List ℕ) (i n : ℕ) (rest : List ℕ) → i ≤ length s → rest ≡ slice_range s i (length s) → n ≡ run is_in_line rest →
    next_start s i ≡ i + (length (take n rest) + 1)
next-given s i n rest h e f =
    let k = ap (λ (l : Line). l.next) (line-here s i (run is_in_line (drop i s)) h refl) in
    omega (arith, k, (cut s i n rest e f).1)

pub lines_start : (s : List ℕ) → lines_from s 0 ≡ lines s
unfolding lines_from
lines_start s = chosen _ _ (le-leb 0 (length s) (omega arith))

pub lines_end : (s : List ℕ) (i : ℕ) → length s < i → lines_from s i ≡ []
unfolding lines_from
lines_end s i h = passed _ _ (lt-leb i (length s) h)

-- what stands at index i, by the lines from there on
pub stands-in : (s : List ℕ) (i : ℕ) (l : List ℕ) (ls : List (List ℕ)) → lines_from s i ≡ l ∷ ls → i ≤ length s
stands-in s i l ls e = elim (dec_lt (length s) i) [
  | yes h ↦ absurd (nil≢cons (sym (lines_end s i h) ∙ e))
  | no h ↦ omega arith
]

pub line-given : (s : List ℕ) (i : ℕ) (l : List ℕ) (ls : List (List ℕ)) → lines_from s i ≡ l ∷ ls → line_at s i ≡ record { end = i + length l; next = i + length l + 1 }
line-given s i l ls e =
    let h = stands-in s i l ls e in
    line-here s i (length l) h (ap length (head-eq_of_cons-eq (sym e ∙ lines_step s i h)) ∙ length-prefix_len is_in_line (drop i s))

pub line-none : (s : List ℕ) (i : ℕ) → lines_from s i ≡ [] → line_at s i ≡ record { end = i; next = i }
line-none s i e = elim (dec_lt (length s) i) [
  | yes h ↦ line-past s i h
  | no h ↦ let k : i ≤ length s = omega arith in absurd (nil≢cons (sym e ∙ lines_step s i k))
]
