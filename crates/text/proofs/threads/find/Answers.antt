-- `text::threads::find` meets its contract. Assumes nothing.
use Rattle.base.specs.Below.{least}
use Rattle.std.proofs.Common.{refl, List, ap, arith, drop, sym, take, ℕ, ◌*◌, ◌+◌, ◌∙◌, ◌≡◌}
use Rattle.text_drafts.specs.Blocks.{block_at}
use Rattle.base.specs.Bytes.{same}
use Rattle.base.proofs.Below.{least_more, least-hit}
use Rattle.text.proofs.threads.find.Goals as goal

pub returns-then-same_label : goal.returns-then-same_label
returns-then-same_label c = let a = c.args in let l = c.loop-p in
    sym (least-hit (λ q. same (block_at a.draft.now (32 * a.t + q)).label a.label.now) a.n l.p l.invariant
    (ap (λ (s : List ℕ). same s a.label.now) (sym (c.label-other.ensures ∙ ap (λ (k : ℕ). take 16 (drop (36 * k + 4) a.draft.now)) c.block.ensures)) ∙ sym c.same_label.ensures ∙ c.if-same_label.true) c.loop-p-test.true)

pub loop-p-preserved : goal.loop-p-preserved
loop-p-preserved c = let a = c.args in let l = c.loop-p in
    least_more (λ q. same (block_at a.draft.now (32 * a.t + q)).label a.label.now) l.p l.invariant
    (ap (λ (s : List ℕ). same s a.label.now) (sym (c.label-other.ensures ∙ ap (λ (k : ℕ). take 16 (drop (36 * k + 4) a.draft.now)) c.block.ensures)) ∙ sym c.same_label.ensures ∙ c.if-same_label.false)

pub returns : goal.returns
returns c = let e : c.loop-p.p ≡ c.args.n = omega arith in
    sym (rw e at c.loop-p.invariant)

pub loop-p-init : goal.loop-p-init
unfolding least
loop-p-init c = refl
