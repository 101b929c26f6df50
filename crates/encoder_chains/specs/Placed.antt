-- A link of a chain as the code gives it, by numbers: its operation's, 0 for none, and the places of its operands. This serves the code; no call's
-- promise needs it. Assumes nothing.
use Rattle.std.specs.Prelude.{ℕ, ◌≡◌, Option, Some, None, MatchOption, cond, eqb}
use Rattle.table.specs.Formulas.{bit_sort, AND, OR, IF, no_sort}
use Rattle.table.specs.declared.Formula.{Formula}
use Rattle.table.specs.Operations.{sort_number}
use Rattle.encoding.specs.Slots.{Slot}
use Rattle.encoding.specs.Steps.{Link as ChainLink, skip, if_then, and_with, or_with}
use Rattle.encoder_chains.specs.declared.Link.{Link}
use Rattle.encoder_chains.specs.declared.links.NumberedLink.{NumberedLink}
use Rattle.encoder_chains.specs.declared.Link.TheVariants.{If, And, Or}

pub record LinkNumbers : Type 0 where
  pub operation : ℕ
  pub sort : ℕ
  pub a : ℕ
  pub b : ℕ

abbrev pub placed_link : (Slot → ℕ) → ChainLink → LinkNumbers
placed_link places skip = record { operation = 0; sort = no_sort; a = 0; b = 0 }
placed_link places (if_then sort x y) = record { operation = IF; sort = sort; a = places x; b = places y }
placed_link places (and_with s) = record { operation = AND; sort = bit_sort; a = places s; b = 0 }
placed_link places (or_with s) = record { operation = OR; sort = bit_sort; a = places s; b = 0 }

-- no link
abbrev pub no_link : LinkNumbers
no_link = record { operation = 0; sort = no_sort; a = 0; b = 0 }

-- if the bit at a then what lies at b
abbrev pub if_link : (sort a b : ℕ) → LinkNumbers
if_link sort a b = record { operation = IF; sort = sort; a = a; b = b }

-- an operation with the bit at a
abbrev pub bit_link : (operation a : ℕ) → LinkNumbers
bit_link operation a = record { operation = operation; sort = bit_sort; a = a; b = 0 }

-- the numbers of the code's link, and of a link that may be none
abbrev pub link_numbers : Link → LinkNumbers
link_numbers (If sort test effect) = if_link (sort_number sort) test effect
link_numbers (And bit) = bit_link AND bit
link_numbers (Or bit) = bit_link OR bit

abbrev pub numbers_of : Option Link → LinkNumbers
numbers_of None = no_link
numbers_of (Some link) = link_numbers link

-- the record of the code's link over the tree at an index
abbrev pub formula_over : Link → (at : ℕ) → Formula
formula_over (If sort test effect) at = record { operation = IF; sort = sort_number sort; constant = 0; a = test; b = effect; c = at }
formula_over (And bit) at = record { operation = AND; sort = bit_sort; constant = 0; a = bit; b = at; c = 0 }
formula_over (Or bit) at = record { operation = OR; sort = bit_sort; constant = 0; a = bit; b = at; c = 0 }

-- the numbers of a link by numbers
abbrev pub numbered : NumberedLink → LinkNumbers
numbered link = record { operation = link.operation; sort = link.sort; a = link.a; b = link.b }

-- the record of a link by its numbers over the tree at an index: that of a test has the tree last, that of a bit joined to it has it second
abbrev pub record_over : LinkNumbers → (at : ℕ) → Formula
record_over link at =
    cond (eqb link.operation IF) (record { operation = link.operation; sort = link.sort; constant = 0; a = link.a; b = link.b; c = at })
    (record { operation = link.operation; sort = link.sort; constant = 0; a = link.a; b = at; c = 0 })

-- the record is the link's; there is none where there is no link
abbrev pub Recorded : LinkNumbers → (at : ℕ) → Option Formula → Type 0
Recorded link at r = MatchOption r (link.operation ≡ 0) (λ f. (link.operation ≡ 0 → ⊥) × (f ≡ record_over link at))
