-- Laws of a thread's statements in their blocks, and of the search for a label. Assumes nothing.
use Prim.Native.Nat.{ℕ, zero, suc, ◌+◌, ◌*◌, ◌≤◌, ◌<◌}
use mathlib.Core.Path.{◌≡◌, refl, ap, ap₂, sym, ◌∙◌}
use mathlib.Core.List.{List}
use mathlib.Core.Bool.{Bool, true, false, cond, ◌&&◌, ◌||◌}
use native.Mathlib.Omega.{arith}
use lib.Dec.{ltb}
use borrow.Author.Tests.{lt-ltb, le-ltb, ltb-true}
use Rattle.base.specs.Below.{some, least}
use Rattle.base.specs.Bytes.{same}
use Rattle.base.proofs.Below.{least_ext}
use Rattle.base.proofs.Choice.{chosen, passed, and_false}
use Rattle.text_drafts.specs.Blocks.{block_at}
use Rattle.text.specs.Drafts.{drafted}
use Rattle.text.specs.Records.{is_named, pc_of, argument_of}
use Rattle.text.specs.Answers.{doubled_at, target_fits}
use Rattle.records.specs.Instructions.{is_jump}

pub drafted-at : (d : List ℕ) (t n p : ℕ) → p < n → drafted d t n p ≡ block_at d (32 * t + p)
unfolding drafted
drafted-at d t n p h = chosen _ _ (lt-ltb p n h)

-- a label's pc, by the blocks
pub pc-found : (d : List ℕ) (t n : ℕ) (label : List ℕ) → least n (λ p. same (block_at d (32 * t + p)).label label) ≡ pc_of n (drafted d t n) label
unfolding pc_of
pc-found d t n label = least_ext _ _ n (λ p h. ap (λ x. same x.label label) (sym (drafted-at d t n p h)))

-- some passes where the first that passes is below the bound
pub some-least : (test : ℕ → Bool) (n : ℕ) → ltb (least n test) n ≡ some n test
unfolding some least
some-least test zero = le-ltb 0 0 (omega arith)
some-least test (suc n) = go (some-least test n) (ltb (least n test) n) refl (test n) refl
  where
    go : ltb (least n test) n ≡ some n test → (a : Bool) → ltb (least n test) n ≡ a → (b : Bool) → test n ≡ b →
        ltb (cond (ltb (least n test) n) (least n test) (cond (test n) n (suc n))) (suc n) ≡ (some n test || test n)
    go ih true p b q =
        ap (λ (k : ℕ). ltb k (suc n)) (chosen _ _ p) ∙ lt-ltb (least n test) (suc n) (let h = ltb-true (least n test) n p in omega arith)
        ∙ sym (ap (λ (s : Bool). s || test n) (sym ih ∙ p))
    go ih false p true q =
        ap (λ (k : ℕ). ltb k (suc n)) (passed _ _ p ∙ chosen _ _ q) ∙ lt-ltb n (suc n) (omega arith)
        ∙ sym (ap₂ (λ (s t : Bool). s || t) (sym ih ∙ p) q)
    go ih false p false q =
        ap (λ (k : ℕ). ltb k (suc n)) (passed _ _ p ∙ passed _ _ q) ∙ le-ltb (suc n) (suc n) (omega arith)
        ∙ sym (ap₂ (λ (s t : Bool). s || t) (sym ih ∙ p) q)

-- what the blocks have before p is what the thread has
pub label-before : (d : List ℕ) (t n p : ℕ) (label : List ℕ) → p ≤ n →
    ltb (least p (λ q. same (block_at d (32 * t + q)).label label)) p ≡ some p (λ q. same (drafted d t n q).label label)
label-before d t n p label h =
    ap (λ (k : ℕ). ltb k p) (least_ext _ _ p (λ q l. ap (λ x. same x.label label) (sym (drafted-at d t n q (omega arith)))))
    ∙ some-least (λ q. same (drafted d t n q).label label) p

-- ---- statement p of thread t, its parts read from its block

module _ (d : List ℕ) (t n p : ℕ) (h : p < n) where
  at_p : drafted d t n p ≡ block_at d (32 * t + p)
  at_p = drafted-at d t n p h

  module _ (s : List ℕ) (e : s ≡ (block_at d (32 * t + p)).target) where
    unfold_argument : argument_of n (drafted d t n) p ≡ cond (is_named s) (pc_of n (drafted d t n) s) (block_at d (32 * t + p)).argument
    unfolding argument_of
    unfold_argument =
        ap (λ x. cond (is_named x.target) (pc_of n (drafted d t n) x.target) x.argument) at_p
        ∙ ap (λ (z : List ℕ). cond (is_named z) (pc_of n (drafted d t n) z) (block_at d (32 * t + p)).argument) (sym e)

    pub argument-named : is_named s ≡ true → least n (λ q. same (block_at d (32 * t + q)).label s) ≡ argument_of n (drafted d t n) p
    argument-named named = pc-found d t n s ∙ sym (unfold_argument ∙ chosen _ _ named)

    pub argument-plain : is_named s ≡ false → (block_at d (32 * t + p)).argument ≡ argument_of n (drafted d t n) p
    argument-plain plain = sym (unfold_argument ∙ passed _ _ plain)

  module _ (s : List ℕ) (e : s ≡ (block_at d (32 * t + p)).label) where
    unfold_doubled : doubled_at (drafted d t n) p ≡ (is_named s && some p (λ q. same (drafted d t n q).label s))
    unfolding doubled_at
    unfold_doubled =
        ap (λ (z : List ℕ). is_named z && some p (λ q. same (drafted d t n q).label z)) (ap (λ x. x.label) at_p ∙ sym e)

    pub doubled_named : is_named s ≡ true → ltb (least p (λ q. same (block_at d (32 * t + q)).label s)) p ≡ doubled_at (drafted d t n) p
    doubled_named named =
        label-before d t n p s (omega arith)
        ∙ sym (unfold_doubled ∙ ap (λ (b : Bool). b && some p (λ q. same (drafted d t n q).label s)) named)

    pub doubled_plain : is_named s ≡ false → false ≡ doubled_at (drafted d t n) p
    doubled_plain plain = sym (unfold_doubled ∙ and_false _ plain)

  module _ (m : ℕ) (e : m ≡ (block_at d (32 * t + p)).number) where
    unfold_target : target_fits n (drafted d t n) p ≡ cond (is_jump m) (ltb (argument_of n (drafted d t n) p) n) true
    unfolding target_fits
    unfold_target = ap (λ (z : ℕ). cond (is_jump z) (ltb (argument_of n (drafted d t n) p) n) true) (ap (λ x. x.number) at_p ∙ sym e)

    pub target-jump : is_jump m ≡ true → ltb (argument_of n (drafted d t n) p) n ≡ target_fits n (drafted d t n) p
    target-jump jump = sym (unfold_target ∙ chosen _ _ jump)

    pub target-plain : is_jump m ≡ false → true ≡ target_fits n (drafted d t n) p
    target-plain plain = sym (unfold_target ∙ passed _ _ plain)
