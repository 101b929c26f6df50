-- `text::sections::close` meets its contract. Assumes nothing.
use Rattle.std.proofs.Common.{Bool, ap, ap₂, get_or, ltb, ltb-true, refl, sym, ℕ, ◌&&◌, ◌*◌, ◌+◌, ◌-◌, ◌||◌, ◌∙◌}
use Rattle.text_lines.specs.declared.Stated.{Stated}
use Rattle.text.specs.Sections.{added}
use Rattle.text.specs.Readings.{threads_kept}
use Rattle.text.specs.Drafts.{threads_in}
use Rattle.text.proofs.Kept.{closed-complete, closed_gains}
use Rattle.records.specs.Instructions.{is_last}
use Rattle.base.proofs.Choice.{and_left, and_right, and_true, and_false, or_true, clash}
use Rattle.text.proofs.sections.close.Goals as goal

pub overflow_sub-n : goal.overflow_sub-n
overflow_sub-n c = let r = c.args.r in
    let n = c.count-n.result in
    ltb-true 0 n (and_right (r.fits && ltb r.ended 4) (ltb 0 n) c.if-some.true)

pub returns-then-is_last : goal.returns-then-is_last
returns-then-is_last c = let r = c.args.r in
    let n = c.count-n.ensures in
    let test = ap (λ (m : ℕ). r.fits && ltb r.ended 4 && ltb 0 m) (sym n) ∙ c.if-some.true in
    let last = ap (λ (m : ℕ). is_last (get_or c.args.draft.now (36 * (32 * r.ended + (m - 1))) 0)) (sym n) ∙ sym (c.is_last.ensures ∙ ap is_last (c.number.ensures ∙ ap (λ (k : ℕ). get_or c.args.draft.now (36 * k) 0) c.block.ensures)) ∙ c.if-is_last.true in
    let yes₁ = and_left (r.fits && ltb r.ended 4) (ltb 0 (get_or r.counts r.ended 0)) test in
    record {
      fits = and_left r.fits (ltb r.ended 4) yes₁ ∙ sym (and_true test (or_true (ltb (get_or r.counts r.ended 0) 32) last));
      ended = refl;
      cells = refl;
      line = refl;
      sound = λ sound. sound;
      threads = λ sound fits. closed-complete c.args.draft.now r.counts r.ended (ltb-true 0 _ (and_right (r.fits && ltb r.ended 4) (ltb 0 (get_or r.counts r.ended 0)) test)) last;
    }

pub returns-then-some : goal.returns-then-some
returns-then-some c = let r = c.args.r in
    let n = c.count-n.ensures in
    let test = ap (λ (m : ℕ). r.fits && ltb r.ended 4 && ltb 0 m) (sym n) ∙ c.if-some.true in
    let last = ap (λ (m : ℕ). is_last (get_or c.args.draft.now (36 * (32 * r.ended + (m - 1))) 0)) (sym n) ∙ sym (c.is_last.ensures ∙ ap is_last (c.number.ensures ∙ ap (λ (k : ℕ). get_or c.args.draft.now (36 * k) 0) c.block.ensures)) ∙ c.if-is_last.false in
    let yes₁ = and_left (r.fits && ltb r.ended 4) (ltb 0 (get_or r.counts r.ended 0)) test in
    let add = c.add-s.ensures in
    record {
      fits = add.fits ∙ ap (λ (b : Bool). b && ltb (get_or r.counts r.ended 0) 32) yes₁ ∙ sym (ap₂ (λ (a b : Bool). a && (b || ltb (get_or r.counts r.ended 0) 32)) test last);
      ended = refl;
      cells = add.cells;
      line = add.line;
      sound = add.sound;
      threads = λ sound fits. closed_gains c.args.draft.now r.counts r.ended (ltb-true 0 _ (and_right (r.fits && ltb r.ended 4) (ltb 0 (get_or r.counts r.ended 0)) test)) c.add-s.new.draft c.add-s.result.counts last
          (ap (λ (e : ℕ). threads_in c.add-s.new.draft e c.add-s.result.counts) (sym add.ended) ∙ add.threads sound fits ∙ ap (λ (x : Stated). added x (threads_kept r c.args.draft.now)) c.halt.ensures);
    }

pub returns : goal.returns
returns c = let r = c.args.r in
    let n = c.count-n.ensures in
    let test = ap (λ (m : ℕ). r.fits && ltb r.ended 4 && ltb 0 m) (sym n) ∙ c.if-some.false in
    record {
      fits = sym (and_false _ test);
      ended = refl;
      cells = refl;
      line = refl;
      sound = λ sound. sound;
      threads = λ sound fits. clash fits refl;
    }
