-- `step::acting::advance` meets its contract. Assumes nothing.
use Rattle.std.proofs.Common.{Bool, List, ap, ap₂, arith, cond, false, get_or, length, length-take-le, ltb, ltb-true, not, refl, rules, sym, take, true, ℕ, ◌&&◌, ◌+◌, ◌<◌, ◌∙◌, ◌≡◌, ◌≤◌, Option}
use Rattle.base.proofs.Choice.{chosen, passed, and_true, and_false, and_left, and_right, and_right_false}
use Rattle.records.specs.Sets.{Set, set_by, statement_at, nothing}
use Rattle.records.specs.declared.Layout.{Layout}
use Rattle.records.specs.declared.Statement.{Statement}
use Rattle.machine.specs.Held.{memory_of, memory_in, known_of, known_in, permitted_by, cells_of}
use Rattle.step.specs.Acting.{can_step, waits, thread_by, statement_by, written_by, reads_by, outcome_by}
use Rattle.machine.specs.Machine.{unmarked, memory_after}
use Rattle.machine.specs.Maps.{knows_all, known_after}
use Rattle.machine.specs.declared.Choice.{Choice}
use Rattle.machine.specs.declared.Choice.TheVariants.{Execute, Flush}
use Rattle.machine.specs.declared.Outcome.{Outcome}
use Rattle.machine.specs.declared.Outcome.TheVariants.{Taken, NotPermitted, Lacking}
use Rattle.machine.specs.declared.Thread.{Thread}
use Rattle.records.specs.declared.Cell.{Cell}
use Rattle.step.proofs.Cells.{prefix_memory, prefix_known}
use Rattle.step.proofs.Settled.{unmoved}
use Rattle.step.proofs.acting.advance.Goals as goal

-- ---- any place

-- past the count no instruction stands
below : (count p : ℕ) (i j : Statement) → i ≡ cond (ltb p count) j nothing → i.number < 20 → count < 65536 → p < 65535
below count p i j e h n = go (ltb p count) refl
  where
    go : (b : Bool) → ltb p count ≡ b → p < 65535
    go true q = omega (arith, ltb-true p count q)
    go false q =
        let f : i.number ≡ 20 = ap (λ (s : Statement). s.number) (e ∙ passed _ _ q) in
        absurd (omega arith)

-- a statement that is there has a pc below its thread's count
pc-fits : (set : List ℕ) (layout : Layout) (c : Choice) (x : Thread) (i : Statement) → i ≡ statement_by (set_by set layout) c x →
    ((t : ℕ) → get_or layout.counts t 0 < 65536) → i.number < 20 → x.pc < 65535
pc-fits set layout (Execute t) x i e fits h = below (get_or layout.counts t 0) x.pc i (statement_at set (get_or layout.starts t 0 + x.pc)) e h (fits t)
pc-fits set layout (Flush t) x i e fits h =
    let f : i.number ≡ 20 = ap (λ (s : Statement). s.number) e in
    absurd (omega arith)

-- ---- what the choice does, by the whole memory

given : {A : Type 0} (addresses values : List ℕ) (filled : ℕ) (i j : Statement) (G : (ℕ → Bool) → Statement → (ℕ → ℕ) → A) → filled ≤ length addresses → i ≡ j →
    G (known_in (take filled addresses)) i (memory_in (take filled addresses) (take filled values))
    ≡ G (known_of addresses filled) j (memory_of addresses values filled)
given addresses values filled i j G l e =
    ap₂ (λ (k : ℕ → Bool) (mem : ℕ → ℕ). G k i mem) (prefix_known addresses values filled l) (prefix_memory addresses values filled l)
    ∙ ap (λ (s : Statement). G (known_of addresses filled) s (memory_of addresses values filled)) e

-- there is room for one cell more
in-both : (p q t u : Bool) → (p && q && t && u) ≡ true → (p ≡ true) × (q ≡ true)
in-both p q t u e = let r = and_left (p && q) t (and_left (p && q && t) u e) in (and_left p q r, and_right p q r)

pub slice_bounds-effect_of-end : goal.slice_bounds-effect_of-end
slice_bounds-effect_of-end c =
    let rooms = in-both (ltb c.args.filled (length c.args.addresses.now)) (ltb c.args.filled (length c.args.values.now)) (ltb c.actor-t.result c.args.layout.threads) (not c.args.ended) c.if-there.true in
    let in_addresses : c.args.filled < length c.args.addresses.now = ltb-true _ _ rooms.0 in
    omega (arith, in_addresses)

pub slice_bounds-effect_of-end-then-may : goal.slice_bounds-effect_of-end-then-may
slice_bounds-effect_of-end-then-may c =
    let rooms = in-both (ltb c.args.filled (length c.args.addresses.now)) (ltb c.args.filled (length c.args.values.now)) (ltb c.actor-t.result c.args.layout.threads) (not c.args.ended) c.if-there.true in
    let in_addresses : c.args.filled < length c.args.addresses.now = ltb-true _ _ rooms.0 in
    let a = c.args in sym (length-take-le a.filled a.addresses.now (omega (arith, in_addresses)))

pub slice_bounds-effect_of-end-then-may-2 : goal.slice_bounds-effect_of-end-then-may-2
slice_bounds-effect_of-end-then-may-2 c =
    let rooms = in-both (ltb c.args.filled (length c.args.addresses.now)) (ltb c.args.filled (length c.args.values.now)) (ltb c.actor-t.result c.args.layout.threads) (not c.args.ended) c.if-there.true in
    let in_values : c.args.filled < length c.args.values.now = ltb-true _ _ rooms.1 in
    omega (arith, in_values)

pub slice_bounds-effect_of-end-then-may-3 : goal.slice_bounds-effect_of-end-then-may-3
slice_bounds-effect_of-end-then-may-3 c =
    let rooms = in-both (ltb c.args.filled (length c.args.addresses.now)) (ltb c.args.filled (length c.args.values.now)) (ltb c.actor-t.result c.args.layout.threads) (not c.args.ended) c.if-there.true in
    let in_values : c.args.filled < length c.args.values.now = ltb-true _ _ rooms.1 in
    let a = c.args in sym (length-take-le a.filled a.values.now (omega (arith, in_values)))

pub effect_of-e-requires : goal.effect_of-e-requires
effect_of-e-requires c =
    let set-of : Set = set_by c.args.set.now c.args.layout in
    let statement-by : Statement = statement_by set-of c.args.choice c.args.x in
    let stated : c.statement_of-i.result ≡ statement-by = c.statement_of-i.ensures in
    let a = c.args in
    pc-fits a.set.now a.layout a.choice a.x c.statement_of-i.result stated (λ t. let f : mir.Val.Fits mir.Syntax.w16 (get_or c.args.layout.counts t 0) = search rules in f.fits)

pub write-count-requires : goal.write-count-requires
write-count-requires c =
    let rooms = in-both (ltb c.args.filled (length c.args.addresses.now)) (ltb c.args.filled (length c.args.values.now)) (ltb c.actor-t.result c.args.layout.threads) (not c.args.ended) c.if-there.true in
    let in_addresses : c.args.filled < length c.args.addresses.now = ltb-true _ _ rooms.0 in
    let in_values : c.args.filled < length c.args.values.now = ltb-true _ _ rooms.1 in
    (in_addresses, in_values)

pub returns-then-e : goal.returns-then-e
returns-then-e c =
    let set-of : Set = set_by c.args.set.now c.args.layout in
    let memory-of : ℕ → ℕ = memory_of c.args.addresses.now c.args.values.now c.args.filled in
    let known-of : ℕ → Bool = known_of c.args.addresses.now c.args.filled in
    let can-of : Bool = can_step c.args.layout c.args.ended (length c.args.addresses.now) (length c.args.values.now) c.args.filled c.args.choice in
    let statement-by : Statement = statement_by set-of c.args.choice c.args.x in
    let waiting-of : Bool = waits set-of (λ u. get_or c.args.marks u unmarked) c.args.mark in
    let outcome-of : Outcome = outcome_by can-of c.args.choice statement-by c.args.x waiting-of memory-of known-of in
    let tested : let a = c.args in can-of ≡ (ltb a.filled (length a.addresses.now) && ltb a.filled (length a.values.now) && ltb c.actor-t.result a.layout.threads && not a.ended) = let a = c.args in
    ap (λ (t : ℕ). ltb a.filled (length a.addresses.now) && ltb a.filled (length a.values.now) && ltb t a.layout.threads && not a.ended) (sym c.actor-t.ensures) in
    let can : can-of ≡ true = tested ∙ c.if-there.true in
    let stated : c.statement_of-i.result ≡ statement-by = c.statement_of-i.ensures in
    let permits : c.may.result ≡ permitted_by c.args.choice statement-by c.args.x waiting-of = c.may.ensures ∙ ap (λ (i : Statement). permitted_by c.args.choice i c.args.x waiting-of) stated in
    let taking : outcome-of ≡ cond (knows_all known-of (reads_by c.args.choice statement-by c.args.x memory-of)) Taken Lacking = chosen _ _ (and_true can (sym permits ∙ c.if-may.true)) in
    let rooms = in-both (ltb c.args.filled (length c.args.addresses.now)) (ltb c.args.filled (length c.args.values.now)) (ltb c.actor-t.result c.args.layout.threads) (not c.args.ended) c.if-there.true in
    let in_addresses : c.args.filled < length c.args.addresses.now = ltb-true _ _ rooms.0 in
    let l : c.args.filled ≤ length c.args.addresses.now = omega (arith, in_addresses) in
    let knows : c.effect_of-e.result.known ≡ knows_all known-of (reads_by c.args.choice statement-by c.args.x memory-of) = c.effect_of-e.ensures.0 ∙ given c.args.addresses.now c.args.values.now c.args.filled c.statement_of-i.result statement-by (λ k i mem. knows_all k (reads_by c.args.choice i c.args.x mem)) l stated in
    let wrote-is : c.effect_of-e.result.wrote ≡ written_by c.args.choice statement-by c.args.x memory-of = c.effect_of-e.ensures.2 ∙ given c.args.addresses.now c.args.values.now c.args.filled c.statement_of-i.result statement-by (λ k i mem. written_by c.args.choice i c.args.x mem) l stated in
    let read_is : cells_of c.effect_of-e.result.read ≡ reads_by c.args.choice statement-by c.args.x memory-of = c.effect_of-e.ensures.3 ∙ given c.args.addresses.now c.args.values.now c.args.filled c.statement_of-i.result statement-by (λ k i mem. reads_by c.args.choice i c.args.x mem) l stated in
    let a = c.args in
    record {
      came = sym (taking ∙ chosen _ _ (sym knows ∙ c.if-e.true));
      stated = stated;
      thread = c.effect_of-e.ensures.1 ∙ given c.args.addresses.now c.args.values.now c.args.filled c.statement_of-i.result statement-by (λ n i mem. thread_by a.choice i a.x mem) l stated;
      memory-is = c.write-count.ensures.0 ∙ ap {B = ℕ → ℕ} (λ (z : Option Cell). memory_after z memory-of) wrote-is;
      known_is = c.write-count.ensures.1 ∙ ap {B = ℕ → Bool} (λ (z : Option Cell). known_after z known-of) wrote-is;
      wrote = wrote-is;
      read = read_is;
      more = c.write-count.ensures.2;
    }

pub returns-then-may : goal.returns-then-may
returns-then-may c =
    let set-of : Set = set_by c.args.set.now c.args.layout in
    let memory-of : ℕ → ℕ = memory_of c.args.addresses.now c.args.values.now c.args.filled in
    let known-of : ℕ → Bool = known_of c.args.addresses.now c.args.filled in
    let can-of : Bool = can_step c.args.layout c.args.ended (length c.args.addresses.now) (length c.args.values.now) c.args.filled c.args.choice in
    let statement-by : Statement = statement_by set-of c.args.choice c.args.x in
    let waiting-of : Bool = waits set-of (λ u. get_or c.args.marks u unmarked) c.args.mark in
    let outcome-of : Outcome = outcome_by can-of c.args.choice statement-by c.args.x waiting-of memory-of known-of in
    let tested : let a = c.args in can-of ≡ (ltb a.filled (length a.addresses.now) && ltb a.filled (length a.values.now) && ltb c.actor-t.result a.layout.threads && not a.ended) = let a = c.args in
    ap (λ (t : ℕ). ltb a.filled (length a.addresses.now) && ltb a.filled (length a.values.now) && ltb t a.layout.threads && not a.ended) (sym c.actor-t.ensures) in
    let can : can-of ≡ true = tested ∙ c.if-there.true in
    let stated : c.statement_of-i.result ≡ statement-by = c.statement_of-i.ensures in
    let permits : c.may.result ≡ permitted_by c.args.choice statement-by c.args.x waiting-of = c.may.ensures ∙ ap (λ (i : Statement). permitted_by c.args.choice i c.args.x waiting-of) stated in
    let taking : outcome-of ≡ cond (knows_all known-of (reads_by c.args.choice statement-by c.args.x memory-of)) Taken Lacking = chosen _ _ (and_true can (sym permits ∙ c.if-may.true)) in
    let rooms = in-both (ltb c.args.filled (length c.args.addresses.now)) (ltb c.args.filled (length c.args.values.now)) (ltb c.actor-t.result c.args.layout.threads) (not c.args.ended) c.if-there.true in
    let in_addresses : c.args.filled < length c.args.addresses.now = ltb-true _ _ rooms.0 in
    let l : c.args.filled ≤ length c.args.addresses.now = omega (arith, in_addresses) in
    let knows : c.effect_of-e.result.known ≡ knows_all known-of (reads_by c.args.choice statement-by c.args.x memory-of) = c.effect_of-e.ensures.0 ∙ given c.args.addresses.now c.args.values.now c.args.filled c.statement_of-i.result statement-by (λ k i mem. knows_all k (reads_by c.args.choice i c.args.x mem)) l stated in
    let read_is : cells_of c.effect_of-e.result.read ≡ reads_by c.args.choice statement-by c.args.x memory-of = c.effect_of-e.ensures.3 ∙ given c.args.addresses.now c.args.values.now c.args.filled c.statement_of-i.result statement-by (λ k i mem. reads_by c.args.choice i c.args.x mem) l stated in
    let a = c.args in
    let l = taking ∙ passed _ _ (sym knows ∙ c.if-e.false) in
    unmoved can-of a.choice statement-by a.x waiting-of a.addresses.now a.values.now a.filled c.not_taken.result Lacking c.statement_of-i.result _ refl c.not_taken.ensures stated
    read_is (sym l)

pub returns-then-there : goal.returns-then-there
returns-then-there c =
    let set-of : Set = set_by c.args.set.now c.args.layout in
    let can-of : Bool = can_step c.args.layout c.args.ended (length c.args.addresses.now) (length c.args.values.now) c.args.filled c.args.choice in
    let statement-by : Statement = statement_by set-of c.args.choice c.args.x in
    let waiting-of : Bool = waits set-of (λ u. get_or c.args.marks u unmarked) c.args.mark in
    let stated : c.statement_of-i.result ≡ statement-by = c.statement_of-i.ensures in
    let permits : c.may.result ≡ permitted_by c.args.choice statement-by c.args.x waiting-of = c.may.ensures ∙ ap (λ (i : Statement). permitted_by c.args.choice i c.args.x waiting-of) stated in
    let a = c.args in
    unmoved can-of a.choice statement-by a.x waiting-of a.addresses.now a.values.now a.filled c.not_permitted.result NotPermitted c.statement_of-i.result _ refl c.not_permitted.ensures stated
    refl (sym (passed _ _ (and_right_false can-of (sym permits ∙ c.if-may.false))))

pub returns : goal.returns
returns c =
    let set-of : Set = set_by c.args.set.now c.args.layout in
    let can-of : Bool = can_step c.args.layout c.args.ended (length c.args.addresses.now) (length c.args.values.now) c.args.filled c.args.choice in
    let statement-by : Statement = statement_by set-of c.args.choice c.args.x in
    let waiting-of : Bool = waits set-of (λ u. get_or c.args.marks u unmarked) c.args.mark in
    let tested : let a = c.args in can-of ≡ (ltb a.filled (length a.addresses.now) && ltb a.filled (length a.values.now) && ltb c.actor-t.result a.layout.threads && not a.ended) = let a = c.args in
    ap (λ (t : ℕ). ltb a.filled (length a.addresses.now) && ltb a.filled (length a.values.now) && ltb t a.layout.threads && not a.ended) (sym c.actor-t.ensures) in
    let a = c.args in
    unmoved can-of a.choice statement-by a.x waiting-of a.addresses.now a.values.now a.filled c.not_permitted-2.result NotPermitted c.statement_of-i.result _ refl c.not_permitted-2.ensures c.statement_of-i.ensures
    refl (sym (passed _ _ (and_false (permitted_by a.choice statement-by a.x waiting-of) (tested ∙ c.if-there.false))))
