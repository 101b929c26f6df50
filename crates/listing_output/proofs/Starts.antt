-- A listing looks at step 0 first: no set and map that are accepted are listed as stuck or open before a step. Assumes nothing.
use Prim.Native.Nat.{ℕ, ◌≤◌}
use mathlib.Core.Bool.{Bool, true, false, cond, not}
use mathlib.Core.List.{List, ◌++◌}
use mathlib.Core.Logic.{◌⊎◌, inl, inr, ⊎_elim}
use mathlib.Core.Path.{◌≡◌, refl, ap, sym, ◌∙◌}
use lib.Dec.{ltb}
use borrow.Author.Tests.{lt-ltb}
use Rattle.base.proofs.Below.{least-hit}
use Rattle.base.proofs.Choice.{chosen, and_true, or_right_true, and_left, clash}
use Rattle.base.specs.Below.{least}
use Rattle.records.proofs.Sets.{well-formed}
use Rattle.records.specs.Maps.{map_accepted, map_value, run_cells}
use Rattle.records.specs.Sets.{Set, set_of, set_accepted}
use Rattle.machine.specs.Machine.{start, current, needs_empty, waiting, permitted, written, no_write, reads}
use Rattle.machine.specs.Maps.{Held, begin, knows_all, outcome, advanced}
use Rattle.machine.specs.Runs.{takes}
use Rattle.machine.specs.declared.Choice.{Choice}
use Rattle.machine.specs.declared.Choice.TheVariants.{Execute, Flush}
use Rattle.machine.specs.declared.Outcome.TheVariants.{Taken, NotPermitted, Lacking}
use Rattle.listing_output.specs.Listings.{line, refused_line, lowest, listing_from, listing}
use Rattle.listing_output.specs.Schedules.{accepts}
use Rattle.listing_output.proofs.Listed.{by-lowest, accepted-listing}

module _ (S : Set) (some : 1 ≤ S.threads) (first : ℕ → ℕ) where
  -- thread 0 can execute at the start
  starts : permitted S (start first) (Execute 0) ≡ true
  unfolding permitted waiting
  starts = and_true (and_true (and_true (lt-ltb 0 S.threads some) refl) refl) (or_right_true (not (needs_empty (current S (start first) 0).number)) refl)

  lowest-first : lowest S (start first) ≡ Execute 0
  unfolding lowest least
  lowest-first =
      ap (λ (i : ℕ). cond (ltb i S.threads) (Execute i) (Flush (least S.threads (λ k. permitted S (start first) (Flush k)))))
      (least-hit (λ k. permitted S (start first) (Execute k)) S.threads 0 refl starts some)
      ∙ chosen _ _ (lt-ltb 0 S.threads some)

-- what a listing has first, after step 0 by thread 0 where its cells are known
abbrev pub First : (set map listing : List ℕ) → Type 0
First set map listing =
    (listing ≡ refused_line 14)
    ⊎ (listing ≡ line (set_of set) (begin map).state no_write (Execute 0)
    ++ listing_from (set_of set) (advanced (set_of set) (begin map) (Execute 0)) (written (set_of set) (begin map).state (Execute 0)) 63)

known_or_not : (S : Set) (h : Held) (c : Choice) → takes S h.state c ≡ true → (outcome S h c ≡ Taken) ⊎ (outcome S h c ≡ Lacking)
unfolding outcome
known_or_not S h c = go (takes S h.state c) (knows_all h.known (reads S h.state c))
  where
    go : (a b : Bool) → a ≡ true → (cond a (cond b Taken Lacking) NotPermitted ≡ Taken) ⊎ (cond a (cond b Taken Lacking) NotPermitted ≡ Lacking)
    go true true e = inl refl
    go true false e = inr refl
    go false b e = clash e refl

pub step-zero-first : (set map : List ℕ) → accepts set map ≡ true → First set map (listing set map)
unfolding begin
step-zero-first set map a =
    let S = set_of set in
    let h = begin map in
    let some = (well-formed set (and_left (set_accepted set) (map_accepted run_cells map) a)).some_thread in
    let shows = accepted-listing set map a in
    let e = lowest-first S some (map_value map) in
    ⊎_elim
    (λ o. inr (sym shows ∙ by-lowest S h no_write 63 (Execute 0) Taken e o))
    (λ o. inl (sym shows ∙ by-lowest S h no_write 63 (Execute 0) Lacking e o))
    (known_or_not S h (Execute 0) (starts S some (map_value map)))
