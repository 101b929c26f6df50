-- `text::sections::read_lines` meets its contract. Assumes nothing.
use Rattle.std.proofs.Common.{◌≡◌, List, ◌∷◌, ℕ, ◌+◌, ◌-◌, ◌&&◌, Ok, Err, Bor, length, leb, ltb, ap, ap₂, arith, le-ltb, lt-ltb, Bool, refl, subst, sym, ◌∙◌}
use Rattle.base.proofs.Choice.{and_false}
use Rattle.std.specs.Prelude.{Result}
use Rattle.records.specs.declared.refusals.Refusal.{Refusal}
use Rattle.records.specs.declared.refusals.Refused.{Refused}
use Rattle.text_lines.specs.Lines.{lines}
use Rattle.text_reader.specs.Readers.{lines_from, lines_left}
use Rattle.text_reader.specs.declared.Reader.{Reader}
use Rattle.text_reader.proofs.Pieces.{lines_start}
use Rattle.text.specs.Sections.{dots}
use Rattle.text.specs.Readings.{line_refusal, Takes, TakesLine, ReadsLines}
use Rattle.text.specs.declared.Reading.{Reading}
use Rattle.text.proofs.Loop.{At, begins, ends, refused-here, next-at, dots-count, dots-most, lines-most}
use Rattle.text.proofs.sections.read_lines.Goals.{then-total-gt0, else-total-gt0}
use Rattle.text.proofs.sections.read_lines.Goals as goal

-- a reader that stands at the start has all lines left
at_start : (r : Reader) (t : Bor (List ℕ)) → (r.text ≡ t) × (r.at ≡ 0) → lines_left r ≡ lines t.now
at_start r t e = ap₂ (λ (t : Bor (List ℕ)) (i : ℕ). lines_from t.now i) e.0 e.1 ∙ lines_start t.now

pub count_dots-total-requires : goal.count_dots-total-requires
count_dots-total-requires c =
    let e = ap length (at_start c.new.result c.args.text c.new.ensures) in omega (arith, e, lines-most c.args.text.now, c.requires.0)

pub loop-l-init : goal.loop-l-init
loop-l-init c =
    let text = c.args.text.now in
    let n = c.count_dots-total.result in
    let total : n ≡ dots (lines text) = c.count_dots-total.ensures ∙ dots-count (lines_left c.new.result) ∙ ap dots (at_start c.new.result c.args.text c.new.ensures) in
    let fits : c.if-total-gt0.r ≡ (ltb 0 n && leb n 4) = elim c.if-total-gt0.branch [
      | then-total-gt0 w ↦ w.r-is ∙ sym (ap (λ (b : Bool). b && leb n 4) (lt-ltb 0 n w.if-total-gt0.true))
      | else-total-gt0 w ↦ w.r-is ∙ le-ltb 0 n w.if-total-gt0.false ∙ sym (and_false (leb n 4) (le-ltb 0 n w.if-total-gt0.false))
    ] in (
      total,
      subst (At text _ c.args.draft.now c.args.keys.now)
          (sym (ap lines_left c.into_iter-l-iterator.ensures.into_iter_gives ∙ at_start c.new-l-items.result c.args.text c.new-l-items.ensures))
          (begins text c.args.draft.now c.args.keys.now _ (fits ∙ ap (λ (m : ℕ). ltb 0 m && leb m 4) total) refl refl refl refl c.requires.1 c.requires.2),
    )

pub overflow_add-place : goal.overflow_add-place
overflow_add-place c = omega (arith, c.loop-l.invariant.1.counted, lines-most c.args.text.now, c.requires.0)

pub take_line-requires : goal.take_line-requires
take_line-requires c =
    let at = c.loop-l.invariant.1 in let most = lines-most c.args.text.now in
    (omega (arith, at.ended, dots-most (lines c.args.text.now), most, c.requires.0), omega (arith, at.counted, most, c.requires.0))

pub returns-in_err-r : goal.returns-in_err-r
returns-in_err-r c =
    let text = c.args.text.now in
    let l = c.loop-l in
    let line = c.in-Some.l.now in
    let ls = lines_left c.next.new.self in
    let here : At text l.r l.draft l.keys (line ∷ ls) = subst (At text l.r l.draft l.keys) c.in-Some.ensures.steps.0 l.invariant.1 in
    let left : c.count_dots-total.result - c.from.result ≡ dots (line ∷ ls) = omega (arith, here.ended, l.invariant.0, c.from.ensures) in
    let refused : (refusal : Refusal) × (c.take_line.result ≡ Err refusal) × (c.in_err-r.field-0.0 ≡ record { refusal = refusal; place = l.r.line + 1 }) = grind arith in
    let from : c.from_residual.result ≡ Err c.in_err-r.field-0.0 = grind arith in
    let taken = subst (λ (a : Result Reading Refusal). TakesLine line (c.count_dots-total.result - c.from.result) l.r l.draft l.keys a c.take_line.new.draft c.take_line.new.keys) refused.1 c.take_line.ensures in
    subst (λ (a : Result Reading Refused). ReadsLines text a c.take_line.new.draft c.take_line.new.keys) (sym from)
    (λ next. refused-here text l.r l.draft l.keys line ls here refused.0 (ap (line_refusal line) (sym left) ∙ taken) next ∙ ap (λ (e : Refused). Err e) (sym refused.2))

pub loop-l-preserved : goal.loop-l-preserved
loop-l-preserved c =
    let text = c.args.text.now in
    let l = c.loop-l in
    let line = c.in-Some.l.now in
    let ls = lines_left c.next.new.self in
    let here : At text l.r l.draft l.keys (line ∷ ls) = subst (At text l.r l.draft l.keys) c.in-Some.ensures.steps.0 l.invariant.1 in
    let left : c.count_dots-total.result - c.from.result ≡ dots (line ∷ ls) = omega (arith, here.ended, l.invariant.0, c.from.ensures) in
    let taken : c.take_line.result ≡ Ok c.in_ok-r.r = grind arith in
    let took = subst (λ (a : Result Reading Refusal). TakesLine line (c.count_dots-total.result - c.from.result) l.r l.draft l.keys a c.take_line.new.draft c.take_line.new.keys) taken c.take_line.ensures in (
      l.invariant.0,
      next-at text l.r l.draft l.keys line ls here c.in_ok-r.r c.take_line.new.draft c.take_line.new.keys
          (subst (λ (n : ℕ). Takes line n l.r l.draft l.keys c.in_ok-r.r c.take_line.new.draft c.take_line.new.keys) left took),
    )

pub returns : goal.returns
returns c =
    let l = c.loop-l in
    ends c.args.text.now l.r l.draft l.keys (subst (At c.args.text.now l.r l.draft l.keys) c.in-None.ensures.steps.0.0 l.invariant.1)
