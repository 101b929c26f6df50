-- `text::threads::write` meets its contract. Assumes nothing.
use Rattle.std.proofs.Common.{List, add-zero, ap, ap₂, append-nil, arith, length, refl, subst, sym, take, ℕ, ◌*◌, ◌++◌, ◌+◌, ◌∙◌, ◌≡◌, ◌≤◌}
use Rattle.text.specs.Records.{joined, statement_bytes}
use Rattle.text.specs.Drafts.{drafted}
use Rattle.text.proofs.Following.{joined-more}
use Rattle.base.proofs.Bytes.{length-placed}
use Rattle.base.specs.Bytes.{placed}
use Rattle.text.proofs.threads.write.Goals as goal

pub loop-p-init : goal.loop-p-init
unfolding joined
loop-p-init c = let s = c.args.set.now in let k = c.from-start.result in (refl, ap (λ (i : ℕ). take i s) (add-zero (8 * k)) ∙ sym (append-nil (take (8 * k) s)))

pub loop-p-preserved : goal.loop-p-preserved
unfolding statement_bytes
loop-p-preserved c = let a = c.args in
    let l = c.loop-p in
    let k = c.from-start.result in
    let item = statement_bytes a.t a.n (drafted a.draft.now a.t a.n) in
    let e = c.place.ensures ∙ ap₂ (λ (p : ℕ) (bytes : List ℕ). placed l.set (8 * k + 8 * p) bytes) c.from.ensures c.bytes_of.ensures in
    let room : 8 * k + 8 * l.p + 8 ≤ length l.set = omega (arith, l.invariant.0, c.requires.1, c.from-start.ensures, c.loop-p-test.true) in (
      ap length e ∙ length-placed l.set (8 * k + 8 * l.p) (item l.p) ∙ l.invariant.0,
      (let i : 8 * k + 8 * (l.p + 1) ≡ 8 * k + 8 * l.p + 8 = omega arith in
          ap (λ (n : ℕ). take n c.place.new.out) i ∙ ap (take (8 * k + 8 * l.p + 8)) e
          ∙ joined-more item l.p (take (8 * k) a.set.now) l.set (8 * k + 8 * l.p) 8 l.invariant.1 refl room),
    )

pub returns : goal.returns
returns c = let a = c.args in
    let l = c.loop-p in
    let e : l.p ≡ a.n = omega arith in
    let item = statement_bytes a.t a.n (drafted a.draft.now a.t a.n) in
    let At : ℕ → Type 0 = λ k. take (8 * k + 8 * a.n) l.set ≡ take (8 * k) a.set.now ++ joined a.n item in
    let k = c.from-start.result in
    (subst At c.from-start.ensures (ap (λ (i : ℕ). take (8 * k + 8 * i) l.set) (sym e) ∙ l.invariant.1 ∙ ap (λ (i : ℕ). take (8 * k) a.set.now ++ joined i item) e), l.invariant.0)
