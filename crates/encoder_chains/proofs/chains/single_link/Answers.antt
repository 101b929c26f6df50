-- `encoder_chains::chains::single_link` meets its contract. Assumes nothing.
use Rattle.std.proofs.Common.{List, ap, sym, ℕ, ◌+◌, ◌∙◌, ◌≡◌}
use Rattle.encoder_chains.proofs.Chained.{chained-last}
use Rattle.encoder_chains.specs.Placed.{placed_link, if_link}
use Rattle.encoder_slots.specs.Kinds.{number_of}
use Rattle.encoder_slots.specs.declared.kinds.Kind.TheVariants.{OnePermitted, FlushTo, FlushValue}
use Rattle.encoder_slots.proofs.Numbers.{same-number}
use Rattle.encoder_slots.specs.Places.{place_of, place_from}
use Rattle.encoding.specs.Steps.{link}
use Rattle.encoding.specs.Slots.{kinds, kind_at, kind_number, choice, one_permitted, flush_to, flush_value, adr, val, halts}
use Rattle.records.specs.Sets.{Set}
use Rattle.table.specs.Formulas.{word_sort}
use Rattle.encoder_chains.proofs.chains.single_link.Goals as goal

-- the arm of kind k

arm : (k kind i : ℕ) (slots : List ℕ) → kind ≡ k → (S : Set) (cs : List ℕ) →
    placed_link (place_of slots) (link S cs 0 (kind_at k) 0 0 i) ≡ placed_link (place_of slots) (link S cs 0 (kind_at kind) 0 0 i)
arm k kind i slots e S cs = sym (ap (λ (n : ℕ). placed_link (place_of slots) (link S cs 0 (kind_at n) 0 0 i)) e)

-- by which thread i flushes
flush : (effect threads i : ℕ) (slots : List ℕ) (S : Set) → S.threads ≡ threads →
    if_link word_sort (place_from slots (kind_number choice) 0 (threads + i) 0) (place_from slots effect i 0 2)
    ≡ if_link word_sort (place_from slots (kind_number choice) 0 (S.threads + i) 0) (place_from slots effect i 0 2)
flush effect threads i slots S e =
    sym (ap (λ (x : ℕ). if_link word_sort (place_from slots (kind_number choice) 0 (x + i) 0) (place_from slots effect i 0 2)) e)

pub returns-in-OnePermitted : goal.returns-in-OnePermitted
unfolding kinds
returns-in-OnePermitted c = λ (S : Set) (cs : List ℕ) e single.
    c.one_permitted.ensures ∙ arm (kind_number one_permitted) (number_of c.args.kind) c.args.i c.args.slots.now (ap number_of c.in-OnePermitted.is) S cs

pub returns-in-FlushTo : goal.returns-in-FlushTo
unfolding kinds
returns-in-FlushTo c = λ (S : Set) (cs : List ℕ) e single.
    c.flushed.ensures
    ∙ (flush (kind_number adr) c.args.threads c.args.i c.args.slots.now S e ∙ arm (kind_number flush_to) (number_of c.args.kind) c.args.i c.args.slots.now (ap number_of c.in-FlushTo.is) S cs)

pub returns-in-FlushValue : goal.returns-in-FlushValue
unfolding kinds
returns-in-FlushValue c = λ (S : Set) (cs : List ℕ) e single.
    c.flushed-in-FlushValue.ensures
    ∙ (flush (kind_number val) c.args.threads c.args.i c.args.slots.now S e ∙ arm (kind_number flush_value) (number_of c.args.kind) c.args.i c.args.slots.now (ap number_of c.in-FlushValue.is) S cs)

pub returns-in_default : goal.returns-in_default
unfolding kinds
returns-in_default c = λ (S : Set) (cs : List ℕ) e single.
    let k = c.args.kind in
    let other = c.in_default in
    c.halts.ensures
    ∙ arm (kind_number halts) (number_of k) c.args.i c.args.slots.now
    (chained-last (number_of k) single (λ p. other.not-OnePermitted (same-number k OnePermitted p)) (λ p. other.not-FlushTo (same-number k FlushTo p)) (λ p. other.not-FlushValue (same-number k FlushValue p))) S cs
