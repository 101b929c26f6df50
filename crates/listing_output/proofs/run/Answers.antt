-- `listing_output::run` meets its contract. The loop's invariant: the first k bytes of the schedule are a run of lowest choices, and its lines stand in the output. Assumes nothing.
use Rattle.std.proofs.Common.{List, Result, Err, Ok, [], ap, ap₂, arith, cond, drop, eqb, length, length-set, length-take-le, refl, set, subst, suc, sym, take, true, ℕ, ◌*◌, ◌++◌, ◌+◌, ◌-◌, ◌<◌, ◌∙◌, ◌∷◌, ◌≡◌}
use lib.Seq.{take-set-le}
use Rattle.std.proofs.lemmas.List.{take_all}
use Rattle.base.specs.Bytes.{over}
use Rattle.records.specs.Refusals.{number}
use Rattle.records.specs.Sets.{set_of}
use Rattle.records.specs.declared.refusals.Refused.{Refused}
use Rattle.machine.specs.Machine.{no_write}
use Rattle.machine.specs.Maps.{begin}
use Rattle.machine.specs.Runs.{choices}
use Rattle.machine.specs.Traces.{longest_trace, step_length}
use Rattle.machine.specs.declared.Run.{Run}
use Rattle.simulation.specs.Simulation.{schedule_trace, simulated}
use Rattle.listing_output.specs.Listings.{refused_line, listing_from}
use Rattle.listing_output.specs.Outputs.{line_at, last_of}
use Rattle.listing_output.specs.Schedules.{accepts, next_byte}
use Rattle.listing_output.proofs.Listed.{goes_on_lem, stops, ends, line-printed, Follows, follows-none}
use Rattle.listing_output.proofs.Runs.{lines_of, stored}
use Rattle.listing_output.proofs.Texts.{stands_as, stands-none}
use Rattle.listing_output.proofs.run.Goals as goal

-- ---- a turn: the first k bytes of the schedule are a run, and its next byte is put after them

module _ (set-of map_of schedule : List ℕ) (k byte : ℕ) (found : byte ≡ next_byte set-of map_of (take k schedule)) (l : k < 64) (long : length schedule ≡ 64)
    (good : accepts set-of map_of ≡ true)
    (follows : Follows (set_of set-of) (begin map_of) (listing_from (set_of set-of) (begin map_of) no_write 64) (choices (take k schedule)) (64 - k)) where
  abbrev all : List ℕ
  all = listing_from (set_of set-of) (begin map_of) no_write 64

  abbrev bytes : List ℕ
  bytes = take k schedule

  abbrev more : List ℕ
  more = bytes ++ (next_byte set-of map_of bytes ∷ [])

  size : length bytes ≡ k
  size = length-take-le k schedule (omega (arith, l, long))

  below : length bytes < 64
  below = omega (arith, size, l)

  grown : take (k + 1) (set schedule k byte) ≡ more
  grown = stored bytes schedule k byte refl (omega (arith, long, l)) ∙ ap (λ (b : ℕ). bytes ++ (b ∷ [])) found

  follows_of : Follows (set_of set-of) (begin map_of) all (choices bytes) (suc (64 - (k + 1)))
  follows_of = let left : 64 - k ≡ suc (64 - (k + 1)) = omega (arith, l) in subst (Follows (set_of set-of) (begin map_of) all (choices bytes)) left follows

  -- what simulation answers to the grown schedule
  module _ (room : ℕ) (roomy : room ≡ longest_trace) (answer : Result Run Refused) (is : answer ≡ simulated set-of map_of (take (k + 1) (set schedule k byte)) room) where
    answered : simulated set-of map_of more longest_trace ≡ answer
    answered = sym (is ∙ ap₂ (simulated set-of map_of) grown roomy)

    goes_on : (run : Run) → answer ≡ Ok run → Follows (set_of set-of) (begin map_of) all (choices (take (k + 1) (set schedule k byte))) (64 - (k + 1))
    goes_on run e =
        subst (λ (ks : List ℕ). Follows (set_of set-of) (begin map_of) all (choices ks) (64 - (k + 1))) (sym grown)
        (goes_on_lem set-of map_of good all bytes (64 - (k + 1)) run.steps run.end below follows_of (answered ∙ e))

    ended : (refused : Refused) → answer ≡ Err refused →
        lines_of (set_of set-of) (begin map_of) no_write (choices bytes)
        ++ cond (eqb (number refused.refusal) 14) (refused_line 14) (last_of (simulated set-of map_of (take k (set schedule k byte)) longest_trace))
        ≡ all
    ended refused e =
        ap (λ (run : List ℕ). lines_of (set_of set-of) (begin map_of) no_write (choices bytes) ++ cond (eqb (number refused.refusal) 14) (refused_line 14) (last_of (simulated set-of map_of run longest_trace)))
        (take-set-le k schedule k byte (omega arith))
        ∙ stops set-of map_of good all bytes (64 - (k + 1)) refused below follows_of (answered ∙ e)

  -- the line of the step that it takes
  printed : (trace records : List ℕ) → records ≡ over (schedule_trace set-of map_of (take (k + 1) (set schedule k byte))) trace →
      lines_of (set_of set-of) (begin map_of) no_write (choices bytes) ++ line_at (take (step_length * k + step_length - step_length * k) (drop (step_length * k) records))
      ≡ lines_of (set_of set-of) (begin map_of) no_write (choices (take (k + 1) (set schedule k byte)))
  printed trace records e =
      let whole : step_length * k + step_length - step_length * k ≡ step_length = omega arith in
      ap (λ (step : List ℕ). lines_of (set_of set-of) (begin map_of) no_write (choices bytes) ++ line_at step)
      (ap₂ (λ (n : ℕ) (rs : List ℕ). take n (drop (step_length * k) rs)) whole (e ∙ ap (λ (run : List ℕ). over (schedule_trace set-of map_of run) trace) grown)
      ∙ ap (λ (i : ℕ). take step_length (drop (step_length * i) (over (schedule_trace set-of map_of more) trace))) (sym size))
      ∙ line-printed set-of map_of good bytes trace (next_byte set-of map_of bytes)
      ∙ ap (λ (run : List ℕ). lines_of (set_of set-of) (begin map_of) no_write (choices run)) (sym grown)

pub loop-k-init : goal.loop-k-init
unfolding choices lines_of
loop-k-init c = (c.requires, refl, refl, follows-none _ _ 64, stands-none _)

pub loop-k-preserved : goal.loop-k-preserved
loop-k-preserved c =
    let a = c.args in
    let l = c.loop-k in
    let i = l.invariant in
    let e = c.in-Ok.ensures in (
      i.0,
      length-set l.schedule l.k c.next.result ∙ i.1,
      c.simulate-run.auto.trace ∙ i.2,
      goes_on a.set.now a.map.now l.schedule l.k c.next.result c.next.ensures c.loop-k-test.true i.1 i.0 i.3 (length l.trace) i.2 _ e.0 _ refl,
      stands_as (c.line-at.ensures _ _ i.4) (printed a.set.now a.map.now l.schedule l.k c.next.result c.next.ensures c.loop-k-test.true i.1 i.0 i.3 l.trace c.simulate-run.new.trace e.1),
    )

pub returns-in-Err : goal.returns-in-Err
returns-in-Err c =
    let a = c.args in
    let l = c.loop-k in
    let i = l.invariant in
    stands_as (c.stop.ensures _ _ i.4)
    (ended a.set.now a.map.now l.schedule l.k c.next.result c.next.ensures c.loop-k-test.true i.1 i.0 i.3 (length l.trace) i.2 _ c.in-Err.ensures.0 _ refl)

pub returns : goal.returns
returns c =
    let a = c.args in
    let l = c.loop-k in
    let i = l.invariant in
    let last : l.k ≡ 64 = omega (arith, c.loop-k-test.false, l.auto.k-end) in
    let whole : take l.k l.schedule ≡ l.schedule = take_all l.k l.schedule (omega (arith, last, i.1)) in
    stands_as (c.finish.ensures _ _ i.4)
    (ap (λ (run : List ℕ). lines_of (set_of a.set.now) (begin a.map.now) no_write (choices (take l.k l.schedule)) ++ last_of (simulated a.set.now a.map.now run longest_trace)) (sym whole)
    ∙ ends a.set.now a.map.now i.0 _ (take l.k l.schedule) (64 - l.k) (omega (arith, i.1, ap length whole)) i.3 (omega (arith, last)))
