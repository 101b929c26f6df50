-- `encoder_chains::given::giver_of` meets its contract. Assumes nothing.
use Rattle.std.proofs.Common.{ap, refl, subst, sym, ℕ, ◌≡◌}
use Rattle.encoding.specs.Slots.{slot, active, swaps, address, loaded, result, accu, bit_one, argument}
use Rattle.encoding.specs.Steps.{if_then, only}
use Rattle.encoder_slots.specs.Kinds.{number_of}
use Rattle.encoder_slots.specs.declared.kinds.Kind.{Kind}
use Rattle.encoder_chains.specs.Given.{Gives, given_link}
use Rattle.table.specs.Formulas.{bit_sort, word_sort}
use Rattle.encoder_chains.proofs.given.giver_of.Goals as goal

arm : (t i n : ℕ) {kind named : Kind} → kind ≡ named → given_link (number_of kind) t i n ≡ given_link (number_of named) t i n
arm t i n e = ap (λ (k : Kind). given_link (number_of k) t i n) e

pub returns-in-Barred : goal.returns-in-Barred
returns-in-Barred c =
    subst (Gives (number_of c.args.kind)) (sym c.executed-giver.ensures)
    (record {
      link = λ (t i : ℕ). if_then bit_sort (slot active t i) (only bit_one);
      inside = λ t i n. arm t i n c.in-Barred.is;
      places = λ slots t i. refl;
    })

pub returns-in-WriteTo : goal.returns-in-WriteTo
returns-in-WriteTo c =
    subst (Gives (number_of c.args.kind)) (sym c.swapped-giver.ensures)
    (record {
      link = λ (t i : ℕ). if_then word_sort (slot swaps t i) (slot address t i);
      inside = λ t i n. arm t i n c.in-WriteTo.is;
      places = λ slots t i. refl;
    })

pub returns-in-WriteValue : goal.returns-in-WriteValue
returns-in-WriteValue c =
    subst (Gives (number_of c.args.kind)) (sym c.swapped-giver-in-WriteValue.ensures)
    (record {
      link = λ (t i : ℕ). if_then word_sort (slot swaps t i) (slot accu t 0);
      inside = λ t i n. arm t i n c.in-WriteValue.is;
      places = λ slots t i. refl;
    })

pub returns-in-Exits : goal.returns-in-Exits
returns-in-Exits c =
    subst (Gives (number_of c.args.kind)) (sym c.executed-giver-in-Exits.ensures)
    (record {
      link = λ (t i : ℕ). if_then bit_sort (slot active t i) (only bit_one);
      inside = λ t i n. arm t i n c.in-Exits.is;
      places = λ slots t i. refl;
    })

pub returns-in-Codes : goal.returns-in-Codes
returns-in-Codes c =
    subst (Gives (number_of c.args.kind)) (sym c.executed-giver-in-Codes.ensures)
    (record {
      link = λ (t i : ℕ). if_then word_sort (slot active t i) (slot argument t i);
      inside = λ t i n. arm t i n c.in-Codes.is;
      places = λ slots t i. refl;
    })

pub returns-in-Val : goal.returns-in-Val
returns-in-Val c =
    subst (Gives (number_of c.args.kind)) (sym c.executed-giver-in-Val.ensures)
    (record {
      link = λ (t i : ℕ). if_then word_sort (slot active t i) (slot accu t 0);
      inside = λ t i n. arm t i n c.in-Val.is;
      places = λ slots t i. refl;
    })

pub returns-in-Adr : goal.returns-in-Adr
returns-in-Adr c =
    subst (Gives (number_of c.args.kind)) (sym c.executed-giver-in-Adr.ensures)
    (record {
      link = λ (t i : ℕ). if_then word_sort (slot active t i) (slot address t i);
      inside = λ t i n. arm t i n c.in-Adr.is;
      places = λ slots t i. refl;
    })

pub returns-in-Mem : goal.returns-in-Mem
returns-in-Mem c =
    subst (Gives (number_of c.args.kind)) (sym c.executed-giver-in-Mem.ensures)
    (record {
      link = λ (t i : ℕ). if_then word_sort (slot active t i) (slot loaded t i);
      inside = λ t i n. arm t i n c.in-Mem.is;
      places = λ slots t i. refl;
    })

pub returns-in-Accu : goal.returns-in-Accu
returns-in-Accu c =
    subst (Gives (number_of c.args.kind)) (sym c.executed-giver-in-Accu.ensures)
    (record {
      link = λ (t i : ℕ). if_then word_sort (slot active t i) (slot result t i);
      inside = λ t i n. arm t i n c.in-Accu.is;
      places = λ slots t i. refl;
    })

pub returns-in-Full : goal.returns-in-Full
returns-in-Full c =
    subst (Gives (number_of c.args.kind)) (sym c.executed-giver-in-Full.ensures)
    (record {
      link = λ (t i : ℕ). if_then bit_sort (slot active t i) (only bit_one);
      inside = λ t i n. arm t i n c.in-Full.is;
      places = λ slots t i. refl;
    })

pub returns-in-Halted : goal.returns-in-Halted
returns-in-Halted c =
    subst (Gives (number_of c.args.kind)) (sym c.executed-giver-in-Halted.ensures)
    (record {
      link = λ (t i : ℕ). if_then bit_sort (slot active t i) (only bit_one);
      inside = λ t i n. arm t i n c.in-Halted.is;
      places = λ slots t i. refl;
    })
