-- The listing of an accepted set and map, step by step: what simulation answers for the next choice decides what is printed. Assumes nothing.
use Prim.Native.Nat.{ℕ, suc, ◌+◌, ◌*◌, ◌≤◌, ◌<◌}
use mathlib.Core.Bool.{Bool, true, false, cond, not}
use mathlib.Core.List.{List, [], ◌∷◌, ◌++◌, append_assoc}
use mathlib.Core.Path.{◌≡◌, refl, ap, ap₂, sym, subst, ◌∙◌}
use native.Mathlib.Omega.{arith}
use Rattle.std.specs.Prelude.{Result, Err, Option}
use lib.Dec.{eqb}
use lib.ListN.{length, take, drop, length-append}
use lib.Seq.{take_at, drop_at}
use Rattle.base.proofs.Below.{least_ext}
use Rattle.base.proofs.Choice.{chosen, passed, and_left}
use Rattle.base.specs.Bytes.{over}
use Rattle.records.proofs.Sets.{four-threads}
use Rattle.records.specs.Maps.{map_accepted, run_cells}
use Rattle.records.specs.Sets.{Set, set_of, set_accepted}
use Rattle.machine.proofs.Runs.{AllTaken, follow-taken, length-choices, length-trace, length-trace_step, ran-taken, ran_where, refused-ran, same_refused, taken-takes, lacking_takes, not-permitted-takes, choices-more}
use Rattle.machine.specs.Machine.{State, step, written, no_write, reads}
use Rattle.machine.specs.Maps.{Held, begin, knows_all, outcome, advanced, ran, refused_at, on_outcome, follow}
use Rattle.machine.specs.Runs.{choice_of, choices, takes, end_of}
use Rattle.machine.specs.Traces.{trace_step, trace, longest_trace, step_length}
use Rattle.machine.specs.declared.Run.{Run}
use Rattle.records.specs.Refusals.{number, of_call}
use Rattle.records.specs.declared.refusals.Refusal.TheVariants.{NotPermitted as Unpermitted, LacksCell, Records}
use Rattle.records.specs.declared.refusals.Refused.{Refused}
use Rattle.machine.specs.declared.Choice.{Choice}
use Rattle.machine.specs.declared.End.{End}
use Rattle.machine.specs.declared.Outcome.{Outcome}
use Rattle.machine.specs.declared.Outcome.TheVariants.{Taken, NotPermitted, Lacking}
use Rattle.records.specs.declared.Cell.{Cell}
use Rattle.simulation.specs.Simulation.{limited, simulated, schedule_trace}
use Rattle.listing_output.specs.Listings.{line, last_line, refused_line, lowest, on_lowest, listing_from, listing}
use Rattle.listing_output.specs.Outputs.{line_at, last_of}
use Rattle.listing_output.specs.Schedules.{candidate, denies, allows, next_byte, accepts}
use Rattle.listing_output.proofs.Lowest.{can, found, found-lowest, found_none}
use Rattle.listing_output.proofs.Runs.{held_after, wrote_after, lines_of, held_more, wrote-more, lines_more, trace-more, taken_more, follow-more, state-after, simulated-runs}
use Rattle.listing_output.proofs.StepLines.{line_of_step}

-- ---- outcomes

module _ (S : Set) (h : Held) (c : Choice) where
  takes-not : takes S h.state c ≡ false → outcome S h c ≡ NotPermitted
  unfolding outcome
  takes-not e = passed _ _ e

  -- an answer that the choice is not permitted
  denied_takes : (i n : ℕ) (e : End) → not (denies (on_outcome (outcome S h c) i (ran n e))) ≡ takes S h.state c
  unfolding outcome
  denied_takes i n e = go (takes S h.state c) (knows_all h.known (reads S h.state c))
    where
      go : (a b : Bool) → not (denies (on_outcome (cond a (cond b Taken Lacking) NotPermitted) i (ran n e))) ≡ a
      go true true = refl
      go true false = refl
      go false b = refl

-- ---- a run of lowest choices

-- what is printed by how the lowest choice comes out
pub by-lowest : (S : Set) (h : Held) (w : Option Cell) (n : ℕ) (c : Choice) (o : Outcome) → lowest S h.state ≡ c → outcome S h c ≡ o →
    listing_from S h w (suc n) ≡ on_lowest o (line S h.state w c ++ listing_from S (advanced S h c) (written S h.state c) n) (last_line (end_of S h.state))
unfolding listing_from
by-lowest S h w n c o e f =
    ap (λ (d : Choice). on_lowest (outcome S h d) (line S h.state w d ++ listing_from S (advanced S h d) (written S h.state d) n) (last_line (end_of S h.state))) e
    ∙ ap (λ (p : Outcome). on_lowest p (line S h.state w c ++ listing_from S (advanced S h c) (written S h.state c) n) (last_line (end_of S h.state))) f

-- all of a run is taken, and a listing is its lines, then what is printed from its end on with n steps left
pub record Follows (S : Set) (h : Held) (listing : List ℕ) (run : List Choice) (n : ℕ) : Type 0 where
  pub taken : AllTaken S h run
  pub rest : listing ≡ lines_of S h no_write run ++ listing_from S (held_after S h run) (wrote_after S h no_write run) n

module _ (S : Set) (h : Held) where
  pub follows-none : (n : ℕ) → Follows S h (listing_from S h no_write n) [] n
  unfolding lines_of held_after wrote_after
  follows-none n = record { taken = tt; rest = refl }

  -- the lowest choice is taken
  follows-more : (listing : List ℕ) (run : List Choice) (n : ℕ) (c : Choice) → Follows S h listing run (suc n) →
      outcome S (held_after S h run) c ≡ Taken → lowest S (held_after S h run).state ≡ c → Follows S h listing (run ++ (c ∷ [])) n
  follows-more listing run n c f o e =
      let H = held_after S h run in
      let W = wrote_after S h no_write run in
      let next = by-lowest S H W n c Taken e o in
      record {
        taken = taken_more S c h run f.taken o;
        rest =
            f.rest ∙ ap (λ (more : List ℕ). lines_of S h no_write run ++ more) next
            ∙ sym (append_assoc (lines_of S h no_write run) (line S H.state W c) (listing_from S (advanced S H c) (written S H.state c) n))
            ∙ ap (λ (lines : List ℕ). lines ++ listing_from S (advanced S H c) (written S H.state c) n) (sym (lines_more S c h no_write run))
            ∙ ap₂ (λ (k : Held) (w : Option Cell). lines_of S h no_write (run ++ (c ∷ [])) ++ listing_from S k w n) (sym (held_more S c h run)) (sym (wrote-more S c h no_write run));
      }

-- ---- what simulation answers

module _ (set map : List ℕ) (a : accepts set map ≡ true) where
  -- what is held after a schedule, and what its last step wrote
  abbrev pub held_by : List ℕ → Held
  held_by bytes = held_after (set_of set) (begin map) (choices bytes)

  abbrev pub wrote_by : List ℕ → Option Cell
  wrote_by bytes = wrote_after (set_of set) (begin map) no_write (choices bytes)

  four : (set_of set).threads ≤ 4
  four = four-threads set (and_left (set_accepted set) (map_accepted run_cells map) a)

  -- the last choice decides
  decided : (bytes : List ℕ) (b : ℕ) → length bytes < 64 → AllTaken (set_of set) (begin map) (choices bytes) →
      simulated set map (bytes ++ (b ∷ [])) longest_trace
      ≡ on_outcome (outcome (set_of set) (held_by bytes) (choice_of b)) (0 + length (choices bytes)) (ran (0 + length (choices bytes) + 1) (end_of (set_of set) (step (set_of set) (held_by bytes).state (choice_of b))))
  decided bytes b l taken =
      simulated-runs set map (bytes ++ (b ∷ [])) a (omega (arith, length-append bytes (b ∷ [])))
      ∙ ap (follow (set_of set) (begin map) 0) (choices-more bytes b)
      ∙ follow-more (set_of set) (choice_of b) (begin map) 0 (choices bytes) taken

  -- the byte that the code finds names the first candidate that can be taken
  byte-found : (bytes : List ℕ) → length bytes < 64 → AllTaken (set_of set) (begin map) (choices bytes) →
      choice_of (next_byte set map bytes) ≡ found (set_of set) four (held_by bytes).state
  unfolding next_byte
  byte-found bytes l taken =
      ap (λ (j : ℕ). choice_of (candidate j))
      (least_ext (allows set map bytes) (can (set_of set) four (held_by bytes).state) 7
      (λ j h. ap (λ (r : Result Run Refused). not (denies r)) (decided bytes (candidate j) l taken) ∙ denied_takes (set_of set) (held_by bytes) (choice_of (candidate j)) _ _ _))

  -- the last line after a schedule
  finished : (bytes : List ℕ) → length bytes ≤ 64 → AllTaken (set_of set) (begin map) (choices bytes) →
      last_of (simulated set map bytes longest_trace) ≡ last_line (end_of (set_of set) (held_by bytes).state)
  unfolding last_of
  finished bytes l taken =
      ap last_of (simulated-runs set map bytes a l ∙ follow-taken (set_of set) (begin map) 0 (choices bytes) taken)
      ∙ ap (λ (s : State). last_line (end_of (set_of set) s)) (sym (state-after (set_of set) (begin map) (choices bytes)))

  -- the choice is taken
  pub goes_on_lem : (listing bytes : List ℕ) (n m : ℕ) (e : End) → length bytes < 64 → Follows (set_of set) (begin map) listing (choices bytes) (suc n) →
      simulated set map (bytes ++ (next_byte set map bytes ∷ [])) longest_trace ≡ ran m e →
      Follows (set_of set) (begin map) listing (choices (bytes ++ (next_byte set map bytes ∷ []))) n
  goes_on_lem listing bytes n m e l f p =
      let S = set_of set in
      let b = next_byte set map bytes in
      let o = (ran-taken (outcome S (held_by bytes) (choice_of b)) _ (sym (decided bytes b l f.taken) ∙ p)).0 in
      let q = byte-found bytes l f.taken in
      let t = subst (λ (c : Choice). takes S (held_by bytes).state c ≡ true) q (taken-takes S (held_by bytes) (choice_of b) o) in
      subst (λ (run : List Choice). Follows S (begin map) listing run n) (sym (choices-more bytes b))
      (follows-more S (begin map) listing (choices bytes) n (choice_of b) f o (found-lowest S four (held_by bytes).state t ∙ sym q))

  -- the choice is refused: 14 where a first cell read is lacking, else nothing is permitted
  refused-next : (bytes : List ℕ) (n : ℕ) (refused : Refused) → length bytes < 64 → AllTaken (set_of set) (begin map) (choices bytes) →
      simulated set map (bytes ++ (next_byte set map bytes ∷ [])) longest_trace ≡ Err refused →
      listing_from (set_of set) (held_by bytes) (wrote_by bytes) (suc n) ≡ cond (eqb (number refused.refusal) 14) (refused_line 14) (last_of (simulated set map bytes longest_trace))
  refused-next bytes n refused l taken p = go (outcome S H (choice_of b)) refl _ _ _ (sym (decided bytes b l taken) ∙ p)
    where
      S : Set
      S = set_of set

      H : Held
      H = held_by bytes

      b : ℕ
      b = next_byte set map bytes

      c : Choice
      c = lowest S H.state

      same : choice_of b ≡ found S four H.state
      same = byte-found bytes l taken

      printed : ℕ → List ℕ
      printed k = cond (eqb k 14) (refused_line 14) (last_of (simulated set map bytes longest_trace))

      go : (o : Outcome) → outcome S H (choice_of b) ≡ o → (i m : ℕ) (d : End) → on_outcome (outcome S H (choice_of b)) i (ran m d) ≡ Err refused →
          listing_from S H (wrote_by bytes) (suc n) ≡ printed (number refused.refusal)
      go Taken e i m d r = refused-ran (sym (ap (λ (o : Outcome). on_outcome o i (ran m d)) (sym e) ∙ r))
      go NotPermitted e i m d r =
          let q : refused_at Unpermitted i ≡ Err refused = ap (λ (o : Outcome). on_outcome o i (ran m d)) (sym e) ∙ r in
          let k : 12 ≡ number refused.refusal = ap (λ (x : Refused). number x.refusal) (same_refused q) in
          let t = subst (λ (c : Choice). takes S H.state c ≡ false) same (not-permitted-takes S H (choice_of b) e) in
          by-lowest S H (wrote_by bytes) n c NotPermitted refl (takes-not S H c (found_none S four H.state t)) ∙ sym (finished bytes (omega arith) taken) ∙ ap printed k
      go Lacking e i m d r =
          let q : refused_at LacksCell i ≡ Err refused = ap (λ (o : Outcome). on_outcome o i (ran m d)) (sym e) ∙ r in
          let k : 14 ≡ number refused.refusal = ap (λ (x : Refused). number x.refusal) (same_refused q) in
          let t = subst (λ (c : Choice). takes S H.state c ≡ true) same (lacking_takes S H (choice_of b) e) in
          by-lowest S H (wrote_by bytes) n (choice_of b) Lacking (found-lowest S four H.state t ∙ sym same) e ∙ ap printed k

  pub stops : (listing bytes : List ℕ) (n : ℕ) (refused : Refused) → length bytes < 64 → Follows (set_of set) (begin map) listing (choices bytes) (suc n) →
      simulated set map (bytes ++ (next_byte set map bytes ∷ [])) longest_trace ≡ Err refused →
      lines_of (set_of set) (begin map) no_write (choices bytes) ++ cond (eqb (number refused.refusal) 14) (refused_line 14) (last_of (simulated set map bytes longest_trace)) ≡ listing
  stops listing bytes n refused l f p =
      ap (λ (more : List ℕ). lines_of (set_of set) (begin map) no_write (choices bytes) ++ more) (sym (refused-next bytes n refused l f.taken p)) ∙ sym f.rest

  -- no step is left
  pub ends : (listing bytes : List ℕ) (n : ℕ) → length bytes ≤ 64 → Follows (set_of set) (begin map) listing (choices bytes) n → n ≡ 0 →
      lines_of (set_of set) (begin map) no_write (choices bytes) ++ last_of (simulated set map bytes longest_trace) ≡ listing
  unfolding listing_from
  ends listing bytes n l f z =
      ap (λ (more : List ℕ). lines_of (set_of set) (begin map) no_write (choices bytes) ++ more)
      (finished bytes l f.taken ∙ ap (listing_from (set_of set) (held_by bytes) (wrote_by bytes)) (sym z))
      ∙ sym f.rest

  -- the bytes of the step that was taken
  step-bytes : (bytes trace : List ℕ) (b : ℕ) →
      take step_length (drop (step_length * length bytes) (over (schedule_trace set map (bytes ++ (b ∷ []))) trace)) ≡ trace_step (set_of set) (held_by bytes).state (wrote_by bytes) (choice_of b)
  unfolding over schedule_trace begin
  step-bytes bytes out b =
      let S = set_of set in
      let first = trace S (begin map).state no_write (choices bytes) in
      let last = trace_step S (held_by bytes).state (wrote_by bytes) (choice_of b) in
      let all = trace S (begin map).state no_write (choices (bytes ++ (b ∷ []))) in
      let more = drop (length all) out in
      let e : all ≡ first ++ last = ap (trace S (begin map).state no_write) (choices-more bytes b) ∙ trace-more S (choice_of b) (begin map) no_write (choices bytes) in
      let n : length first ≡ step_length * length bytes = length-trace S (begin map).state no_write (choices bytes) ∙ ap (λ (k : ℕ). step_length * k) (length-choices bytes) in
      ap (λ (xs : List ℕ). take step_length (drop (step_length * length bytes) (xs ++ more))) e
      ∙ ap (λ (xs : List ℕ). take step_length (drop (step_length * length bytes) xs)) (append_assoc first last more)
      ∙ ap (take step_length) (drop_at first (last ++ more) (step_length * length bytes) n)
      ∙ take_at last more step_length (length-trace_step S (held_by bytes).state (wrote_by bytes) (choice_of b))

  -- its line after the lines before it
  pub line-printed : (bytes trace : List ℕ) (b : ℕ) →
      lines_of (set_of set) (begin map) no_write (choices bytes) ++ line_at (take step_length (drop (step_length * length bytes) (over (schedule_trace set map (bytes ++ (b ∷ []))) trace)))
      ≡ lines_of (set_of set) (begin map) no_write (choices (bytes ++ (b ∷ [])))
  line-printed bytes trace b =
      let S = set_of set in
      ap (λ (more : List ℕ). lines_of S (begin map) no_write (choices bytes) ++ more)
      (ap line_at (step-bytes bytes trace b) ∙ line_of_step S (held_by bytes).state (wrote_by bytes) (choice_of b))
      ∙ sym (ap (lines_of S (begin map) no_write) (choices-more bytes b) ∙ lines_more S (choice_of b) (begin map) no_write (choices bytes))

-- ---- the first call, with an empty schedule

-- it runs where set and map are accepted
pub ran-accepts : (set map : List ℕ) {m : ℕ} {e : End} → simulated set map [] 1 ≡ ran m e → accepts set map ≡ true
unfolding simulated
ran-accepts set map p = (ran_where (accepts set map) _ p).0

-- and is refused where they are not
pub refused-listing : (set map : List ℕ) (refused : Refused) → simulated set map [] 1 ≡ Err refused → refused_line (number refused.refusal) ≡ listing set map
unfolding simulated limited follow choices listing
refused-listing set map refused p = go (accepts set map) refl
  where
    go : (b : Bool) → accepts set map ≡ b → refused_line (number refused.refusal) ≡ listing set map
    go true e = refused-ran (sym (sym (chosen _ _ e) ∙ p))
    go false e =
        let q : Err (of_call Records) ≡ Err refused = sym (passed _ _ e) ∙ p in
        let k : number refused.refusal ≡ 9 = ap (λ (x : Refused). number x.refusal) (sym (same_refused q)) in
        ap refused_line k ∙ sym (passed _ _ e)

pub accepted-listing : (set map : List ℕ) → accepts set map ≡ true → listing_from (set_of set) (begin map) no_write 64 ≡ listing set map
unfolding listing
accepted-listing set map e = sym (chosen _ _ e)
