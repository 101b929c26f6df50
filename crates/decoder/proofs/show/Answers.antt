-- `decoder::show` meets its contract. Assumes nothing.
use Rattle.std.proofs.Common.{List, Option, IsSome, refl, ap, arith, drop, length, length-drop, length-take-le, rules, subst, sym, take, take_all, true, ℕ, ◌*◌, ◌-◌, ◌∙◌, ◌≡◌, ◌≤◌}
use Rattle.encoding.proofs.Bytes.{Bytes}
use Rattle.machine.specs.Runs.{choices}
use Rattle.machine.specs.Traces.{step_length}
use Rattle.decoder.proofs.Sized.{Sized, sized}
use Rattle.decoder.proofs.Shown.{asked-first, given-first, schedule-long, shown-answer, shown-trace, shown-map}
use Rattle.decoder.proofs.Judged.{model-bits}
use Rattle.decoder.specs.Answers.{false_record}
use Rattle.first_cells.specs.Firsts.{first_memory}
use Rattle.decoder.proofs.Given.{Given, is-found, given as given-cells}
use Rattle.decoding.specs.declared.Decoded.{Decoded}
use Rattle.decoding.specs.Models.{listed_cells, model_fits, assigned}
use Rattle.decoding.specs.Decodings.{run_of}
use Rattle.encoding.specs.Encodings.{table_of}
use Rattle.records.proofs.Layouts.{set-read, few-threads}
use Rattle.records.specs.Sets.{Set, set_of, set_by}
use Rattle.records.specs.Maps.{map_value}
use mathlib.Core.Path.{subst⁻¹}
use Rattle.decoder.proofs.show.Goals as goal

pub overflow_cast-steps : goal.overflow_cast-steps
overflow_cast-steps c = let a = c.args in let p : a.bound ≤ 64 = (sized a.set.now a.map.now a.bound a.n c.requires.0).few_steps in search rules

pub schedule_of-count-requires : goal.schedule_of-count-requires
schedule_of-count-requires c = let a = c.args in let z = sized a.set.now a.map.now a.bound a.n c.requires.0 in
    (few-threads a.set.now a.layout c.requires.1 z.accepted, z.few_steps, search rules)

pub slice_bounds-first-count : goal.slice_bounds-first-count
slice_bounds-first-count c = let a = c.args in subst⁻¹ (λ (n : ℕ). n ≤ length a.model.now) c.bits-bits.ensures (model-bits a.layout.threads a.bound a.model.now c.requires.2)

pub slice_bounds-first-start : goal.slice_bounds-first-start
slice_bounds-first-start c = let a = c.args in let p = subst⁻¹ (λ (n : ℕ). n ≤ length a.model.now) c.bits-bits.ensures (model-bits a.layout.threads a.bound a.model.now c.requires.2) in search rules

pub slice_bounds-schedule-end : goal.slice_bounds-schedule-end
slice_bounds-schedule-end c = let a = c.args in let z = sized a.set.now a.map.now a.bound a.n c.requires.0 in
    omega (arith, c.schedule_of-count.ensures.0, c.schedule_of-count.auto.schedule, z.few_steps)

pub slice_bounds-run-end : goal.slice_bounds-run-end
slice_bounds-run-end c = let a = c.args in let z = sized a.set.now a.map.now a.bound a.n c.requires.0 in
    sym (length-take-le _ _ (omega (arith, c.schedule_of-count.ensures.0, c.schedule_of-count.auto.schedule, z.few_steps)))

pub unwrap-requires : goal.unwrap-requires
unwrap-requires c =
    let a = c.args in
    let set = a.set.now in
    let map = a.map.now in
    let model = a.model.now in
    let layout = a.layout in
    let bound = a.bound in
    let z : Sized set map bound a.n = sized set map bound a.n c.requires.0 in
    let t : layout.threads ≡ (set_of set).threads = ap (λ (S : Set). S.threads) (set-read set layout c.requires.1 z.accepted) in
    let count = c.bits-bits.result in
    let set_bytes : Bytes set = λ i. omega (arith, c.shared_slice_known-1.given i) in
    let map_bytes : Bytes map = λ i. omega (arith, c.shared_slice_known-2-1.given i) in
    let model_bytes : Bytes model = λ i. omega (arith, c.shared_slice_known-3-1.given i) in
    let schedule : List ℕ = take c.schedule_of-count.result c.schedule_of-count.new.schedule in
    let fits : model_fits (set_of set).threads bound model ≡ true = subst (λ (T : ℕ). model_fits T bound model ≡ true) t c.requires.2 in
    let none : a.n ≤ false_record (assigned (set_of set).threads bound model) (table_of set map bound)
    = subst (λ (T : ℕ). a.n ≤ false_record (assigned T bound model) (table_of set map bound)) t c.requires.3 in
    let scheduled : choices schedule ≡ run_of layout.threads bound (assigned layout.threads bound model) = c.schedule_of-count.ensures.1 in
    let run : choices schedule ≡ run_of (set_of set).threads bound (assigned (set_of set).threads bound model)
    = scheduled ∙ ap (λ (T : ℕ). run_of T bound (assigned T bound model)) t in
    let first : List ℕ = take (length model - count) (drop count model) in
    let there : first ≡ listed_cells (set_of set).threads bound model
    = take_all (length model - count) (drop count model) (let e = length-drop count model in omega arith)
    ∙ ap (λ (n : ℕ). drop n model) c.bits-bits.ensures ∙ ap (λ (T : ℕ). listed_cells T bound model) t in
    let long = schedule-long set map bound a.n z set_bytes map_bytes model model_bytes fits none layout c.requires.1 schedule run in
    let r = c.first_cells.result in
    let before = a.trace.now in
    let after : List ℕ = c.first_cells.new.trace in
    let cells_before = a.found.now in
    let cells_after : List ℕ = c.first_cells.new.found in
    let asks = asked-first set map bound a.n z set_bytes map_bytes model model_bytes fits none layout c.requires.1 schedule run first there in
    let room : step_length * length schedule ≤ length before = omega (arith, long, c.requires.4) in
    subst⁻¹ (λ (x : Option Decoded). IsSome x)
    (is-found (set_by set layout) map (first_memory map first) schedule before after cells_before cells_after r asks room c.requires.5 c.first_cells.ensures.0) refl

pub returns : goal.returns
returns c =
    let a = c.args in
    let set = a.set.now in
    let map = a.map.now in
    let model = a.model.now in
    let layout = a.layout in
    let bound = a.bound in
    let z : Sized set map bound a.n = sized set map bound a.n c.requires.0 in
    let t : layout.threads ≡ (set_of set).threads = ap (λ (S : Set). S.threads) (set-read set layout c.requires.1 z.accepted) in
    let count = c.bits-bits.result in
    let set_bytes : Bytes set = λ i. omega (arith, c.shared_slice_known-1.given i) in
    let map_bytes : Bytes map = λ i. omega (arith, c.shared_slice_known-2-1.given i) in
    let model_bytes : Bytes model = λ i. omega (arith, c.shared_slice_known-3-1.given i) in
    let schedule : List ℕ = take c.schedule_of-count.result c.schedule_of-count.new.schedule in
    let fits : model_fits (set_of set).threads bound model ≡ true = subst (λ (T : ℕ). model_fits T bound model ≡ true) t c.requires.2 in
    let none : a.n ≤ false_record (assigned (set_of set).threads bound model) (table_of set map bound)
    = subst (λ (T : ℕ). a.n ≤ false_record (assigned T bound model) (table_of set map bound)) t c.requires.3 in
    let scheduled : choices schedule ≡ run_of layout.threads bound (assigned layout.threads bound model) = c.schedule_of-count.ensures.1 in
    let run : choices schedule ≡ run_of (set_of set).threads bound (assigned (set_of set).threads bound model)
    = scheduled ∙ ap (λ (T : ℕ). run_of T bound (assigned T bound model)) t in
    let first : List ℕ = take (length model - count) (drop count model) in
    let there : first ≡ listed_cells (set_of set).threads bound model
    = take_all (length model - count) (drop count model) (let e = length-drop count model in omega arith)
    ∙ ap (λ (n : ℕ). drop n model) c.bits-bits.ensures ∙ ap (λ (T : ℕ). listed_cells T bound model) t in
    let long = schedule-long set map bound a.n z set_bytes map_bytes model model_bytes fits none layout c.requires.1 schedule run in
    let r = c.first_cells.result in
    let before = a.trace.now in
    let after : List ℕ = c.first_cells.new.trace in
    let cells_before = a.found.now in
    let cells_after : List ℕ = c.first_cells.new.found in
    let asks = asked-first set map bound a.n z set_bytes map_bytes model model_bytes fits none layout c.requires.1 schedule run first there in
    let room : step_length * length schedule ≤ length before = omega (arith, long, c.requires.4) in
    let d : Decoded = c.unwrap.result in
    let given : Given (set_by set layout) map (map_value (listed_cells (set_of set).threads bound model)) schedule before after cells_before cells_after d
    = given-first set map bound a.n z set_bytes map_bytes model model_bytes fits none layout c.requires.1 schedule run first there before after cells_before cells_after d
    (given-cells (set_by set layout) map (first_memory map first) schedule before after cells_before cells_after r asks room c.requires.5
    d c.unwrap.ensures c.first_cells.ensures.0 c.first_cells.ensures.1 c.first_cells.ensures.2) in (
      shown-answer set map bound a.n z set_bytes map_bytes model model_bytes fits none layout c.requires.1 schedule run before after cells_before cells_after d given,
      shown-trace set map bound a.n z set_bytes map_bytes model model_bytes fits none layout c.requires.1 schedule run before after cells_before cells_after d given,
      shown-map set map bound a.n z set_bytes map_bytes model model_bytes fits none layout c.requires.1 schedule run before after cells_before cells_after d given,
    )
