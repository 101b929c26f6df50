-- An array of zeros keeps no place: every slot lies where it starts. Assumes nothing.
use Prim.Native.Nat.{ℕ}
use mathlib.Core.Path.{◌≡◌, refl, fun_ext}
use mathlib.Core.Bool.{Bool, true, false, cond}
use mathlib.Core.List.{List}
use lib.ListN.{get_or, replicate}
use Rattle.encoding.specs.Slots.{Slot, slot, kind_number, start_place}
use Rattle.encoder_slots.specs.Places.{index_of, fits, kept_at, place_of}
use Rattle.encoder_slots.proofs.Stores.{place_unset}
use Rattle.set_index.proofs.Filling.{zero-at}

module _ (slots : List ℕ) (zeros : (i : ℕ) → get_or slots i 0 ≡ 0) where
  kept-zero : (kind a b : ℕ) → kept_at slots kind a b ≡ 0
  kept-zero kind a b = go (fits kind a b)
    where
      go : (t : Bool) → cond t (get_or slots (index_of kind a b) 0) 0 ≡ 0
      go true = zeros (index_of kind a b)
      go false = refl

  pub place-start : place_of slots ≡ start_place
  place-start = fun_ext at
    where
      at : (s : Slot) → place_of slots s ≡ start_place s
      at (slot k a b) = place_unset slots (kind_number k) a b (start_place (slot k a b)) (kept-zero (kind_number k) a b)

pub place-replicate : (n : ℕ) → place_of (replicate n 0) ≡ start_place
place-replicate n = place-start (replicate n 0) (zero-at n)
