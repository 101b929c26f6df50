-- A step's constraint holds before the end exactly if the bits are those of a permitted choice, and after it if there are none. Assumes nothing.
use Prim.Native.Nat.{ℕ, zero, suc, ◌+◌, ◌-◌, ◌≤◌, ◌<◌}
use mathlib.Core.Path.{◌≡◌, refl, ap, ap₂, sym, subst, ◌∙◌}
use mathlib.Core.Bool.{Bool, true, false, cond, not, ◌&&◌, ◌||◌}
use mathlib.Core.List.{List}
use native.Mathlib.Omega.{arith}
use native.Mathlib.Decide.{ℕ_discrete, dec_lt}
use lib.Dec.{eqb, ltb}
use lib.ListN.{get_or, length}
use borrow.Author.Tests.{lt-ltb, le-ltb, eq-eqb, ne_eqb}
use Rattle.base.specs.Below.{every, some}
use Rattle.base.proofs.Choice.{chosen, passed, and_yes}
use Rattle.records.specs.Sets.{Set}
use Rattle.records.specs.declared.Statement.{Statement}
use Rattle.machine.specs.Machine.{State, contains, marked_at, opened, waiting, current, needs_empty, is_empty, permitted}
use Rattle.machine.specs.declared.Choice.{Choice}
use Rattle.machine.specs.declared.Choice.TheVariants.{Execute, Flush}
use Rattle.machine.proofs.Runs.{permitted-actor}
use Rattle.table.specs.Formulas.{bit_sort}
use Rattle.table.specs.Values.{Assignment, Value, bit, as_bit}
use Rattle.encoding.specs.Slots.{choice, active, opening, shut, barred, held, waits, may_execute, none, permitted_first, one_permitted, full, mark, ended, Slot, slot}
use Rattle.encoding.specs.Steps.{skip, if_then, and_with, or_with, only, link, has, permits, idle, acting}
use Rattle.encoding.proofs.Blocks.{link_value, links_value, Quiet, quiet_if, quiet-cond, links-at}
use Rattle.encoding.proofs.Demands.{chosen_at, rule}
use Rattle.encoding.proofs.Marks.{Beyond, held_at, waiting-is}
use Rattle.encoding.proofs.Permits.{bit0, bit1, constants-stay, ended-stays, shows_stay, bit_at, choice-is, active_is_lem, opening_is, shut-is, barred_is, held-is, waits-is, may_is, none_first, none-next, fit_is, one-is}
use Rattle.encoding.proofs.Shown.{Complete, Sound, Bits, NoBits, Constants, Shows, Chosen, Ready}
use Rattle.encoding.proofs.Single.{none_below, none_out, none_in, single, single-out, single_in}

-- ---- the bits, and none of them

module _ (S : Set) (cs : List ℕ) (g : Assignment) (k : ℕ) (slots : Slot → Value) where
  abbrev T : ℕ
  T = S.threads

  abbrev at : Slot → Value
  at = chosen_at S cs g k slots

  abbrev bits : ℕ → Bool
  bits = bit_at S cs g k slots

  bit_execute : (t : ℕ) → t < T → bits t ≡ g.choice k 0 t
  bit_execute t h = chosen _ _ (lt-ltb t T h)

  bit-flush : (t : ℕ) → bits (T + t) ≡ g.choice k 1 t
  bit-flush t =
      let back : T + t - T ≡ t = omega arith in
      passed _ _ (le-ltb (T + t) T (omega arith)) ∙ ap (λ i. g.choice k 1 i) back

  pub choices_are : Chosen S g k at
  choices_are = record {
    executes_is = λ t h. choice-is S cs g k slots t (omega arith) ∙ ap bit (bit_execute t h);
    flushes_is = λ t h. choice-is S cs g k slots (T + t) (omega arith) ∙ ap bit (bit-flush t);
  }

  none-upto : Constants S slots → (j : ℕ) → j ≤ T + T → at (slot none 0 j) ≡ bit (none_below bits j)
  unfolding every
  none-upto constants zero h = none_first S cs g k slots ∙ (constants-stay S cs g k slots constants).yes_is
  none-upto constants (suc j) h =
      none-next S cs g k slots j h
      ∙ ((λ z. cond (as_bit (choice-is S cs g k slots j h z)) ((constants-stay S cs g k slots constants).no_is z) (none-upto constants j (omega arith) z))
      ∙ go (bits j) (none_below bits j))
    where
      go : (b e : Bool) → cond b (bit false) (bit e) ≡ bit (e && not b)
      go true true = refl
      go true false = refl
      go false e = ap bit (sym (and_yes e))

  -- ---- after the end

  module _ (constants : Constants S slots) (over : slots (only ended) ≡ bit true) where
    over-rule : rule S cs g k slots ≡ none_below bits (T + T)
    over-rule =
        ap (λ (x : Value). as_bit (cond (as_bit x) (at (idle S cs k)) (at (acting S cs k)))) (ended-stays S cs g k slots ∙ over)
        ∙ ap as_bit (none-upto constants (T + T) (omega arith))

    pub over-rule_in : NoBits S g k → rule S cs g k slots ≡ true
    over-rule_in f = over-rule ∙ none_in bits (T + T) (λ j h. elim (dec_lt j T) [
      | yes l ↦ bit_execute j l ∙ f 0 j (omega arith) l
      | no l ↦ let e : T + (j - T) ≡ j = omega arith in ap bits (sym e) ∙ (bit-flush (j - T) ∙ f 1 (j - T) (omega arith) (omega arith))
    ])

    pub over-rule-out : rule S cs g k slots ≡ true → NoBits S g k
    over-rule-out e zero t h l = sym (bit_execute t l) ∙ none_out bits (T + T) (sym over-rule ∙ e) t (omega arith)
    over-rule-out e (suc zero) t h l = sym (bit-flush t) ∙ none_out bits (T + T) (sym over-rule ∙ e) (T + t) (omega arith)
    over-rule-out e (suc (suc kind)) t h l = absurd (omega arith)

  -- ---- before it: open checkpoints, and threads that wait

  module _ (s : State) (constants : Constants S slots) (shown : Shows S cs slots s) where
    here : Constants S at
    here = constants-stay S cs g k slots constants

    there : Shows S cs at s
    there = shows_stay S cs g k slots s shown

    opened-upto : (p : ℕ) → p < length cs → (n : ℕ) → n ≤ T →
        links_value at (link S cs k opening 0 p) n (bit true) ≡ bit (every n (λ t. not (contains S t (get_or cs p 0)) || marked_at (s.marks t) (get_or cs p 0)))
    unfolding links_value every
    opened-upto p h zero l = refl
    opened-upto p h (suc n) l = ap (link_value at (link S cs k opening 0 p n)) (opened-upto p h n (omega arith)) ∙ go (has S cs k n p) refl
      where
        sofar : Bool
        sofar = every n (λ t. not (contains S t (get_or cs p 0)) || marked_at (s.marks t) (get_or cs p 0))

        turn : (a b : Bool) → (a && b) ≡ (b && a)
        turn true b = sym (and_yes b)
        turn false true = refl
        turn false false = refl

        go : (b : Bool) → has S cs k n p ≡ b →
            link_value at (cond b (and_with (slot mark n p)) skip) (bit sofar) ≡ bit (sofar && (not b || marked_at (s.marks n) (get_or cs p 0)))
        go true e = ap (λ (x : Value). bit (as_bit x && sofar)) (there.mark_is n p l h e) ∙ ap bit (turn (marked_at (s.marks n) (get_or cs p 0)) sofar)
        go false e = ap bit (sym (and_yes sofar))

    opened-is : (p : ℕ) → p < length cs → at (slot opening 0 p) ≡ bit (opened S s.marks (get_or cs p 0))
    unfolding opened
    opened-is p h = opening_is S cs g k slots p h ∙ (ap (links_value at (link S cs k opening 0 p) T) here.yes_is ∙ opened-upto p h T (omega arith))

    shuts : (p : ℕ) → p < length cs → at (slot shut 0 p) ≡ bit (not (opened S s.marks (get_or cs p 0)))
    shuts p h = shut-is S cs g k slots p h ∙ ap (λ (x : Value). bit (not (as_bit x))) (opened-is p h)

    actives : (t i : ℕ) → t < T → i < S.count t → at (slot active t i) ≡ bit (eqb (s.threads t).pc i && g.choice k 0 t)
    actives t i h l =
        active_is_lem S cs g k slots t i h l
        ∙ ap₂ (λ (a b : Value). bit (as_bit a && as_bit b)) (there.flag_is t i h l) (choices_are.executes_is t h)

    holds-back : (t p : ℕ) → t < T → p < length cs → has S cs k t p ≡ true →
        at (slot held t p) ≡ bit (marked_at (s.marks t) (get_or cs p 0) && not (opened S s.marks (get_or cs p 0)))
    holds-back t p h l e =
        held-is S cs g k slots t p h l e
        ∙ ap₂ (λ (a b : Value). bit (as_bit a && as_bit b)) (there.mark_is t p h l e) (shuts p l)

    pub ready : Ready S cs g k at s
    ready = record { constants = here; shows = there; chosen = choices_are; active_is = actives; held_is = holds-back }

    waits-upto : (t : ℕ) → t < T → (n : ℕ) → n ≤ length cs →
        links_value at (link S cs k waits t 0) n (bit (s.threads t).halted) ≡ bit (some n (held_at S cs s.marks t) || (s.threads t).halted)
    unfolding links_value some
    waits-upto t h zero l = refl
    waits-upto t h (suc p) l = ap (link_value at (link S cs k waits t 0 p)) (waits-upto t h p (omega arith)) ∙ go (has S cs k t p) refl
      where
        sofar : Bool
        sofar = some p (held_at S cs s.marks t)

        back : Bool
        back = marked_at (s.marks t) (get_or cs p 0) && not (opened S s.marks (get_or cs p 0))

        turn : (a b c : Bool) → (a || (b || c)) ≡ ((b || a) || c)
        turn true true c = refl
        turn true false c = refl
        turn false true c = refl
        turn false false c = refl

        go : (b : Bool) → has S cs k t p ≡ b →
            link_value at (cond b (or_with (slot held t p)) skip) (bit (sofar || (s.threads t).halted)) ≡ bit ((sofar || (b && back)) || (s.threads t).halted)
        go true e =
            ap (λ (x : Value). bit (as_bit x || (sofar || (s.threads t).halted))) (holds-back t p h l e)
            ∙ ap bit (turn back sofar (s.threads t).halted)
        go false e = ap bit (turn false sofar (s.threads t).halted)

    module _ (beyond : Beyond S) (complete : Complete S cs) (sound : Sound S s) where
      waits_are : (t : ℕ) → t < T → at (slot waits t 0) ≡ bit (waiting S s.marks t || (s.threads t).halted)
      waits_are t h =
          waits-is S cs g k slots t h
          ∙ (ap (links_value at (link S cs k waits t 0) (length cs)) (there.halted_is t h)
          ∙ (waits-upto t h (length cs) (omega arith)
          ∙ ap (λ (b : Bool). bit (b || (s.threads t).halted)) (sym (waiting-is S cs s complete sound t h))))

      -- ---- what permits a choice

      barred_are : (t : ℕ) → t < T → g.choice k 0 t ≡ true → at (slot barred t 0) ≡ bit (needs_empty (current S s t).number)
      barred_are t h e =
          barred_is S cs g k slots t h
          ∙ (links-at at (link S cs k barred t 0) (S.count t) pc (g.choice k 0 t) (at bit0) quiet
          ∙ (ap₂ (λ (b : Bool) (x : Value). cond (ltb pc (S.count t) && b) (link_value at (link S cs k barred t 0 pc) x) x) e here.no_is
          ∙ elim (dec_lt pc (S.count t)) [
            | yes l ↦ ap (λ (b : Bool). cond (b && true) (link_value at (link S cs k barred t 0 pc) (bit false)) (bit false)) (lt-ltb pc (S.count t) l) ∙ inside l (needs_empty (current S s t).number)
            | no l ↦
                ap (λ (b : Bool). cond (b && true) (link_value at (link S cs k barred t 0 pc) (bit false)) (bit false)) (le-ltb pc (S.count t) (omega arith))
                ∙ ap (λ (i : Statement). bit (needs_empty i.number)) (sym (beyond t pc (omega arith)))
          ]))
        where
          pc : ℕ
          pc = (s.threads t).pc

          quiet : (i : ℕ) → i < S.count t → (eqb pc i && g.choice k 0 t) ≡ false → Quiet at (link S cs k barred t 0 i)
          quiet i l q = quiet-cond at (needs_empty (S.statement t i).number) _ _ (quiet_if at bit_sort (slot active t i) bit1 (ap as_bit (actives t i h l) ∙ q)) (λ v. refl)

          inside : pc < S.count t → (b : Bool) → link_value at (cond b (if_then bit_sort (slot active t pc) bit1) skip) (bit false) ≡ bit b
          inside l true =
              ap₂ (λ (a b : Value). cond (as_bit a) b (bit false)) (actives t pc h l) here.yes_is
              ∙ ap₂ (λ (a b : Bool). cond (a && b) (bit true) (bit false)) (eq-eqb pc pc refl) e
          inside l false = refl

      may_are : (t : ℕ) → t < T → g.choice k 0 t ≡ true → as_bit (at (slot may_execute t 0)) ≡ permitted S s (Execute t)
      unfolding permitted
      may_are t h e =
          ap as_bit (may_is S cs g k slots t h)
          ∙ ((λ z. not ((as_bit (there.full_is t h z) && as_bit (barred_are t h e z)) || as_bit (waits_are t h z)))
          ∙ (turn (s.threads t).full (needs_empty (current S s t).number) (waiting S s.marks t) (s.threads t).halted
          ∙ ap (λ (b : Bool). b && not (s.threads t).halted && not (waiting S s.marks t) && (not (needs_empty (current S s t).number) || is_empty (s.threads t))) (sym (lt-ltb t T h))))
        where
          turn : (f b w h : Bool) → not ((f && b) || (w || h)) ≡ (true && not h && not w && (not b || not f))
          turn true true true true = refl
          turn true true true false = refl
          turn true true false true = refl
          turn true true false false = refl
          turn true false true true = refl
          turn true false true false = refl
          turn true false false true = refl
          turn true false false false = refl
          turn false true true true = refl
          turn false true true false = refl
          turn false true false true = refl
          turn false true false false = refl
          turn false false true true = refl
          turn false false true false = refl
          turn false false false true = refl
          turn false false false false = refl

      -- what permits choice j
      abbrev allowed : ℕ → Bool
      allowed j = as_bit (at (permits S cs k j))

      allowed_execute : (t : ℕ) → t < T → g.choice k 0 t ≡ true → allowed t ≡ permitted S s (Execute t)
      allowed_execute t h e = ap (λ (b : Bool). as_bit (at (cond b (slot may_execute t 0) (slot full (t - T) 0)))) (lt-ltb t T h) ∙ may_are t h e

      allowed-flush : (t : ℕ) → t < T → allowed (T + t) ≡ permitted S s (Flush t)
      unfolding permitted
      allowed-flush t h =
          let back : T + t - T ≡ t = omega arith in
          ap (λ (b : Bool). as_bit (at (cond b (slot may_execute (T + t) 0) (slot full (T + t - T) 0)))) (le-ltb (T + t) T (omega arith))
          ∙ (ap (λ i. as_bit (at (slot full i 0))) back
          ∙ (ap as_bit (there.full_is t h)
          ∙ (twice (s.threads t).full ∙ ap (λ (b : Bool). b && not (is_empty (s.threads t))) (sym (lt-ltb t T h)))))
        where
          twice : (b : Bool) → b ≡ (true && not (not b))
          twice true = refl
          twice false = refl

      -- ---- exactly one choice

      one-upto : (n : ℕ) → n ≤ T + T → as_bit (links_value at (link S cs k one_permitted 0 0) n (at bit0)) ≡ single bits allowed n
      unfolding links_value single
      one-upto zero h = ap as_bit here.no_is
      one-upto (suc j) h = go (bits j) (choice-is S cs g k slots j h) (one-upto j (omega arith))
        where
          fits : as_bit (at (slot permitted_first 0 j)) ≡ (allowed j && none_below bits j)
          fits = ap as_bit (fit_is S cs g k slots j h) ∙ ap (λ (x : Value). allowed j && as_bit x) (none-upto constants j (omega arith))

          go : (b : Bool) → at (slot choice 0 j) ≡ bit b → as_bit (links_value at (link S cs k one_permitted 0 0) j (at bit0)) ≡ single bits allowed j →
              as_bit (cond (as_bit (at (slot choice 0 j))) (at (slot permitted_first 0 j)) (links_value at (link S cs k one_permitted 0 0) j (at bit0))) ≡ cond b (allowed j && none_below bits j) (single bits allowed j)
          go true e before = ap (λ (x : Value). as_bit (cond (as_bit x) (at (slot permitted_first 0 j)) (links_value at (link S cs k one_permitted 0 0) j (at bit0)))) e ∙ fits
          go false e before = ap (λ (x : Value). as_bit (cond (as_bit x) (at (slot permitted_first 0 j)) (links_value at (link S cs k one_permitted 0 0) j (at bit0)))) e ∙ before

      module _ (going : s.ended ≡ false) where
        live_rule : rule S cs g k slots ≡ single bits allowed (T + T)
        live_rule =
            ap (λ (x : Value). as_bit (cond (as_bit x) (at (idle S cs k)) (at (acting S cs k)))) (there.ended_is ∙ ap bit going)
            ∙ (ap as_bit (one-is S cs g k slots) ∙ one-upto (T + T) (omega arith))

        pub ruled_in : (c : Choice) → permitted S s c ≡ true → Bits S g k c → rule S cs g k slots ≡ true
        ruled_in (Execute t) p b =
            let h : t < T = permitted-actor S s (Execute t) p in
            let own = b 0 t (omega arith) h ∙ eq-eqb t t refl in
            live_rule ∙ single_in bits allowed (T + T) t (omega arith) (allowed_execute t h own ∙ p) (λ j l. elim (dec_lt j T) [
              | yes q ↦ bit_execute j q ∙ b 0 j (omega arith) q
              | no q ↦
                  let e : T + (j - T) ≡ j = omega arith in
                  ap bits (sym e) ∙ (bit-flush (j - T) ∙ (b 1 (j - T) (omega arith) (omega arith) ∙ sym (ne_eqb j t (λ (z : j ≡ t). omega arith))))
            ])
        ruled_in (Flush t) p b =
            let h : t < T = permitted-actor S s (Flush t) p in
            live_rule ∙ single_in bits allowed (T + T) (T + t) (omega arith) (allowed-flush t h ∙ p) (λ j l. elim (dec_lt j T) [
              | yes q ↦ bit_execute j q ∙ (b 0 j (omega arith) q ∙ sym (ne_eqb j (T + t) (λ (z : j ≡ T + t). omega arith)))
              | no q ↦
                  let e : T + (j - T) ≡ j = omega arith in
                  ap bits (sym e) ∙ (bit-flush (j - T) ∙ (b 1 (j - T) (omega arith) (omega arith) ∙ elim (ℕ_discrete (j - T) t) [
                    | yes r ↦ eq-eqb (j - T) t r ∙ sym (eq-eqb j (T + t) (omega arith))
                    | no r ↦ ne_eqb (j - T) t r ∙ sym (ne_eqb j (T + t) (λ (z : j ≡ T + t). r (omega arith)))
                  ]))
            ])

        execute_bits : (t : ℕ) → t < T → ((j : ℕ) → j < T + T → bits j ≡ eqb j t) → Bits S g k (Execute t)
        execute_bits t h f zero u l m = sym (bit_execute u m) ∙ f u (omega arith)
        execute_bits t h f (suc zero) u l m = sym (bit-flush u) ∙ (f (T + u) (omega arith) ∙ ne_eqb (T + u) t (λ (z : T + u ≡ t). omega arith))
        execute_bits t h f (suc (suc kind)) u l m = absurd (omega arith)

        flush-bits : (t : ℕ) → ((j : ℕ) → j < T + T → bits j ≡ eqb j (T + t)) → Bits S g k (Flush t)
        flush-bits t f zero u l m = sym (bit_execute u m) ∙ (f u (omega arith) ∙ ne_eqb u (T + t) (λ (z : u ≡ T + t). omega arith))
        flush-bits t f (suc zero) u l m = sym (bit-flush u) ∙ (f (T + u) (omega arith) ∙ elim (ℕ_discrete u t) [
          | yes r ↦ eq-eqb (T + u) (T + t) (omega arith) ∙ sym (eq-eqb u t r)
          | no r ↦ ne_eqb (T + u) (T + t) (λ (z : T + u ≡ T + t). r (omega arith)) ∙ sym (ne_eqb u t r)
        ])
        flush-bits t f (suc (suc kind)) u l m = absurd (omega arith)

        pub ruled_out : rule S cs g k slots ≡ true → (c : Choice) × ((permitted S s c ≡ true) × Bits S g k c)
        ruled_out e = go (single-out bits allowed (T + T) (sym live_rule ∙ e))
          where
            go : (i : ℕ) × ((i < T + T) × ((allowed i ≡ true) × ((j : ℕ) → j < T + T → bits j ≡ eqb j i))) → (c : Choice) × ((permitted S s c ≡ true) × Bits S g k c)
            go (i, (h, (a, f))) = elim (dec_lt i T) [
              | yes l ↦
                  let b = execute_bits i l f in
                  (Execute i, (sym (allowed_execute i l (b 0 i (omega arith) l ∙ eq-eqb i i refl)) ∙ a, b))
              | no l ↦
                  let q : i ≡ T + (i - T) = omega arith in
                  (Flush (i - T), (sym (allowed-flush (i - T) (omega arith)) ∙ (ap allowed (sym q) ∙ a), flush-bits (i - T) (subst (λ (n : ℕ). (j : ℕ) → j < T + T → bits j ≡ eqb j n) q f)))
            ]
