-- `text::threads::write_threads` meets its contract. Assumes nothing.
use Rattle.std.proofs.Common.{refl, List, add-one, ap, arith, get_or, take, ℕ, ◌*◌, ◌++◌, ◌+◌, ◌∙◌, ◌≡◌, ◌≤◌}
use Rattle.text.specs.Records.{joined, statement_bytes, thread_bytes, set_bytes, statements_before}
use Rattle.text.specs.Drafts.{drafted, threads_in}
use Rattle.text.proofs.threads.write_threads.Goals as goal

pub write-requires : goal.write-requires
write-requires c = let l = c.loop-t in
    let few : c.count-n.result ≤ 32 = rw c.count-n.ensures (c.requires.1 l.t) in
    (omega (arith, c.requires.0, c.loop-t-test.true), omega (arith, few, l.invariant.few, l.invariant.size, c.requires.0, c.requires.2, c.loop-t-test.true))

pub overflow_add-k : goal.overflow_add-k
overflow_add-k c = let l = c.loop-t in
    let few : c.count-n.result ≤ 32 = rw c.count-n.ensures (c.requires.1 l.t) in
    omega (arith, few, l.invariant.few, c.requires.0, c.loop-t-test.true)

pub loop-t-preserved : goal.loop-t-preserved
unfolding joined statements_before thread_bytes
loop-t-preserved c = let l = c.loop-t in
    let n = c.count-n.ensures in
    let w = c.write.ensures in
    let few : c.count-n.result ≤ 32 = rw n (c.requires.1 l.t) in
    let T = threads_in c.args.draft.now c.args.ended c.args.counts in
    let i : 8 * (l.k + c.count-n.result) ≡ 8 * l.k + 8 * c.count-n.result = omega arith in record {
      few = omega (arith, few, l.invariant.few);
      size = w.1 ∙ l.invariant.size;
      number = rw (add-one, n) (ap (λ (k : ℕ). k + get_or c.args.counts l.t 0) l.invariant.number);
      bytes = rw add-one (ap (λ (k : ℕ). take k c.write.new.set) i ∙ w.0 ∙ ap (λ (s : List ℕ). s ++ joined c.count-n.result (statement_bytes l.t c.count-n.result (drafted c.args.draft.now l.t c.count-n.result))) l.invariant.bytes ∙ ap (λ (m : ℕ). joined l.t (thread_bytes T) ++ joined m (statement_bytes l.t m (drafted c.args.draft.now l.t m))) n);
    }

pub returns : goal.returns
unfolding set_bytes
returns c = let l = c.loop-t in let e : l.t ≡ c.args.ended = omega arith in
    let T = threads_in c.args.draft.now c.args.ended c.args.counts in
    (l.invariant.number ∙ ap (statements_before T) e, omega (arith, l.invariant.few, c.requires.0), l.invariant.bytes ∙ ap (λ (t : ℕ). joined t (thread_bytes T)) e)

pub loop-t-init : goal.loop-t-init
unfolding joined statements_before
loop-t-init c = record { few = omega arith; size = refl; number = refl; bytes = refl }
