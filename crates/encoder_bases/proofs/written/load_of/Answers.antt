-- `encoder_bases::written::load_of` meets its contract. Assumes nothing.
use Rattle.encoder_bases.proofs.written.load_of.Goals as goal

pub returns : goal.returns
returns c =
    λ z. record {
      full = c.place-full.ensures z;
      adr = c.place-adr.ensures z;
      val = c.place-val.ensures z;
      memory = c.place-memory.ensures z;
    }
