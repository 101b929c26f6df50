-- What the layout that was read of a set tells of the set. Assumes nothing.
use Prim.Native.Nat.{ℕ, ◌≤◌}
use mathlib.Core.Path.{◌≡◌, refl, ap, ◌∙◌}
use mathlib.Core.Bool.{Bool, true, false}
use mathlib.Core.List.{List}
use native.Mathlib.Omega.{arith}
use Rattle.records.specs.Sets.{set_of, set_by, set_accepted, layout_of}
use Rattle.records.specs.declared.Layout.{Layout}
use Rattle.records.proofs.Sets.{accepted_layout, refused_layout, set_is}

module _ (set : List ℕ) (l : Layout) (e : l ≡ layout_of set) where
  threads_are_lem : l.threads ≡ (layout_of set).threads
  threads_are_lem = ap (λ (x : Layout). x.threads) e

  -- no threads where the set is refused
  pub no_threads_lem : l.threads ≡ 0 → set_accepted set ≡ false
  no_threads_lem z = go (set_accepted set) refl
    where
      go : (b : Bool) → set_accepted set ≡ b → set_accepted set ≡ false
      go true a = absurd (let n = (accepted_layout set a).0 in let t = threads_are_lem in omega arith)
      go false a = a

  pub some-threads : (l.threads ≡ 0 → ⊥) → set_accepted set ≡ true
  some-threads f = go (set_accepted set) refl
    where
      go : (b : Bool) → set_accepted set ≡ b → set_accepted set ≡ true
      go true a = a
      go false a = absurd (f (threads_are_lem ∙ refused_layout set a))

  module _ (a : set_accepted set ≡ true) where
    pub few-threads : l.threads ≤ 4
    few-threads = let n = (accepted_layout set a).1 in let t = threads_are_lem in omega arith

    pub set-read : set_by set l ≡ set_of set
    set-read = ap (set_by set) e ∙ set_is set a
