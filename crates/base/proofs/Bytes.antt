-- Laws of bytes written at a place, of lists of bytes that are the same, and of a word's two bytes. Assumes nothing.
use Rattle.std.proofs.Common.{◌≡◌, ℕ, suc, ◌+◌, ◌-◌, ◌*◌, ◌/◌, ◌%◌, ◌<◌, ◌≤◌, Bool, true, false, cond, ◌&&◌, eqb, leb, List, [], ◌∷◌, ◌++◌, length, get_or, take, drop, fold, zip, sym, refl, ap, ◌∙◌, append_assoc, zero-add, add-one, arith, length-append, length-drop, length-take-le, drop-cons, drop-drop, take_at, eq-eqb, ne_eqb, eqb-true, le-leb, leb-true}
use lib.Seq.{drop-append-add, take-append_seam}
use Rattle.std.proofs.Math.Bool.{and_assoc}
use borrow.Author.Tests.{lt-leb}
use Rattle.base.specs.Bytes.{splice, placed, over, same}
use Rattle.base.proofs.Choice.{chosen, passed, and_true, and_right_false, and_left, and_right, clash}

-- bytes that fit are written, others are not
pub placed-fits : (xs : List ℕ) (i : ℕ) (ys : List ℕ) → i + length ys ≤ length xs → placed xs i ys ≡ splice xs i ys
unfolding placed
placed-fits xs i ys h = chosen _ _ (le-leb _ _ h)

pub placed-not : (xs : List ℕ) (i : ℕ) (ys : List ℕ) → suc (length xs) ≤ i + length ys → placed xs i ys ≡ xs
unfolding placed
placed-not xs i ys h = passed _ _ (lt-leb _ _ h)

-- a copy into the part from index i on
pub copied : (xs ys : List ℕ) (i : ℕ) → i + length ys ≤ length xs → take i xs ++ (ys ++ drop (i + length ys - i) (drop i xs)) ≡ placed xs i ys
unfolding splice
copied xs ys i h = go ∙ sym (placed-fits xs i ys h)
  where
    go : take i xs ++ (ys ++ drop (i + length ys - i) (drop i xs)) ≡ take i xs ++ (ys ++ drop (i + length ys) xs)
    go =
        let n : i + length ys - i ≡ length ys = omega arith in
        rw (n, drop-drop)

-- bytes after those that were written so far
pub over-more : (ys more xs : List ℕ) → splice (over ys xs) (length ys) more ≡ over (ys ++ more) xs
unfolding splice over
over-more ys more xs = rw (take-append_seam, drop-append-add, drop-drop, append_assoc, length-append)

-- bytes written from the start on
pub placed-over : (xs ys : List ℕ) → length ys ≤ length xs → placed xs 0 ys ≡ over ys xs
unfolding splice over
placed-over xs ys h = placed-fits xs 0 ys (omega arith) ∙ ap (λ (n : ℕ). ys ++ drop n xs) (zero-add (length ys))

pub over_none : (xs : List ℕ) → xs ≡ over [] xs
unfolding over
over_none xs = refl

pub length_over : (ys xs : List ℕ) → length ys ≤ length xs → length (over ys xs) ≡ length xs
unfolding over
length_over ys xs h = simp (length-append, length-drop) (omega arith)

-- what stands up to the end of bytes that were written
pub take-placed : (xs : List ℕ) (i : ℕ) (ys : List ℕ) → i + length ys ≤ length xs → take (i + length ys) (placed xs i ys) ≡ take i xs ++ ys
unfolding splice
take-placed xs i ys h =
    ap (take (i + length ys)) (placed-fits xs i ys h ∙ sym (append_assoc (take i xs) ys (drop (i + length ys) xs)))
    ∙ take_at (take i xs ++ ys) (drop (i + length ys) xs) (i + length ys) (length-append (take i xs) ys ∙ ap (λ (n : ℕ). n + length ys) (length-take-le i xs (omega arith)))

pub length-placed : (xs : List ℕ) (i : ℕ) (ys : List ℕ) → length (placed xs i ys) ≡ length xs
unfolding placed splice
length-placed xs i ys = go (leb (i + length ys) (length xs)) refl
  where
    go : (b : Bool) → leb (i + length ys) (length xs) ≡ b → length (cond (leb (i + length ys) (length xs)) (take i xs ++ (ys ++ drop (i + length ys) xs)) xs) ≡ length xs
    go true e =
        let h = leb-true (i + length ys) (length xs) e in
        ap length (chosen _ _ e) ∙ simp (length-append, length-drop, length-take-le i xs (omega arith)) (omega arith)
    go false e = ap length (passed _ _ e)

-- ---- lists of bytes that are the same

pub same_self : (a : List ℕ) → same a a ≡ true
same_self [] = refl
same_self (x ∷ a) = and_true (eq-eqb x x refl) (same_self a)

pub same_equal : (a b : List ℕ) → same a b ≡ true → a ≡ b
same_equal [] [] e = refl
same_equal [] (y ∷ b) e = clash e refl
same_equal (x ∷ a) [] e = clash e refl
same_equal (x ∷ a) (y ∷ b) e =
    let h : x ≡ y = eqb-true x y (and_left (eqb x y) (same a b) e) in
    let t : a ≡ b = same_equal a b (and_right (eqb x y) (same a b) e) in
    rw (h, t)

pub same_lengths : (a b : List ℕ) → (length a ≡ length b → ⊥) → same a b ≡ false
same_lengths [] [] f = absurd (f refl)
same_lengths [] (y ∷ b) f = refl
same_lengths (x ∷ a) [] f = refl
same_lengths (x ∷ a) (y ∷ b) f = and_right_false (eqb x y) (same_lengths a b (λ e. f (ap suc e)))

-- all of two lists of one length compared, by a fold over their pairs
pub fold-same : (equal : Bool) (a b : List ℕ) → length a ≡ length b → fold (λ (all : Bool) (p : ℕ × ℕ). all && eqb p.0 p.1) equal (zip a b) ≡ (equal && same a b)
fold-same true [] [] e = refl
fold-same false [] [] e = refl
fold-same equal [] (y ∷ b) e = absurd (omega (arith, e))
fold-same equal (x ∷ a) [] e = absurd (omega (arith, e))
fold-same equal (x ∷ a) (y ∷ b) e = fold-same (equal && eqb x y) a b (omega (arith, e)) ∙ and_assoc equal (eqb x y) (same a b)

pub same-empty : (a : List ℕ) → eqb (length a) 0 ≡ same a []
same-empty [] = refl
same-empty (x ∷ a) = ne_eqb (length (x ∷ a)) 0 (omega arith)

-- one turn of a loop over both
pub same_next : (equal : Bool) (a b : List ℕ) (i : ℕ) → i < length a → i < length b →
    (equal && same (drop i a) (drop i b)) ≡ (equal && eqb (get_or a i 0) (get_or b i 0) && same (drop (i + 1) a) (drop (i + 1) b))
same_next true a b i h k = rw (add-one, drop-cons a i 0 h, drop-cons b i 0 k)
same_next false a b i h k = refl

-- a word is its two bytes
pub word_bytes : (n : ℕ) → n < 65536 → n % 256 + 256 * (n / 256 % 256) ≡ n
word_bytes n h = omega arith
