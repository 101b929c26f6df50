-- `encoder_bases::put_base` meets its contract. Assumes nothing.
use Rattle.std.proofs.Common.{ap, refl, sym, ◌∙◌}
use Rattle.encoder_slots.specs.Kinds.{number_of}
use Rattle.encoder_slots.specs.Places.{place_of}
use Rattle.encoding.specs.Slots.{kinds, slot, choice, shut, flush_to, write_to, flush_value, write_value, raised, exits, codes, val, adr, mem, accu, halted, mark, halts, ended, code, bit_zero, bit_one, word_zero, kind_number, barred, full, held, may_execute, none, one_permitted, opening, permitted_first, shared_memory, waits, word_one}
use Rattle.table.specs.Programs.{and2, or2}
use Rattle.encoder_bases.proofs.Given.{puts_base, puts_past}
use Rattle.encoder_bases.proofs.put_base.Goals as goal

pub returns-in-Choice : goal.returns-in-Choice
unfolding kinds
returns-in-Choice g c =
    let a = c.args in
    (λ S cs same other flagless h. puts_base S cs a.threads a.step a.a a.b (g.K.NamesKind.number a.kind) (kind_number choice) same (sym c.in-Ok.ensures ∙ ap number_of c.in-Choice.is) (c.put_choice-in-Choice.ensures.0 (place_of a.slots.now)), c.put_choice-in-Choice.ensures.1)

pub returns-in-Opening : goal.returns-in-Opening
unfolding kinds
returns-in-Opening g c =
    let a = c.args in
    (λ S cs same other flagless h. puts_base S cs a.threads a.step a.a a.b (g.K.NamesKind.number a.kind) (kind_number opening) same (sym c.in-Ok.ensures ∙ ap number_of c.in-Opening.is) (c.put_none.ensures.0 a.n bit_one a.out.now refl refl), c.put_none.ensures.1)

pub returns-in-Shut : goal.returns-in-Shut
unfolding kinds
returns-in-Shut g c =
    let a = c.args in
    (λ S cs same other flagless h. puts_base S cs a.threads a.step a.a a.b (g.K.NamesKind.number a.kind) (kind_number shut) same (sym c.in-Ok.ensures ∙ ap number_of c.in-Shut.is) c.put_shut.ensures.0, c.put_shut.ensures.1)

pub returns-in-Barred : goal.returns-in-Barred
unfolding kinds
returns-in-Barred g c =
    let a = c.args in
    (λ S cs same other flagless h. puts_base S cs a.threads a.step a.a a.b (g.K.NamesKind.number a.kind) (kind_number barred) same (sym c.in-Ok.ensures ∙ ap number_of c.in-Barred.is) (c.put_none-in-Barred.ensures.0 a.n bit_zero a.out.now refl refl), c.put_none-in-Barred.ensures.1)

pub returns-in-Held : goal.returns-in-Held
unfolding kinds
returns-in-Held g c =
    let a = c.args in
    (λ S cs same other flagless h. puts_base S cs a.threads a.step a.a a.b (g.K.NamesKind.number a.kind) (kind_number held) same (sym c.in-Ok.ensures ∙ ap number_of c.in-Held.is) (c.put_binary.ensures.0 (place_of a.slots.now) and2 (slot mark a.a a.b) (slot shut 0 a.b) refl refl c.place-mark.ensures c.place-shut.ensures), c.put_binary.ensures.1)

pub returns-in-Waits : goal.returns-in-Waits
unfolding kinds
returns-in-Waits g c =
    let a = c.args in
    (λ S cs same other flagless h. puts_base S cs a.threads a.step a.a a.b (g.K.NamesKind.number a.kind) (kind_number waits) same (sym c.in-Ok.ensures ∙ ap number_of c.in-Waits.is) (c.put_none-in-Waits.ensures.0 a.n halted a.out.now refl refl), c.put_none-in-Waits.ensures.1)

pub returns-in-MayExecute : goal.returns-in-MayExecute
unfolding kinds
returns-in-MayExecute g c =
    let a = c.args in
    (λ S cs same other flagless h. puts_base S cs a.threads a.step a.a a.b (g.K.NamesKind.number a.kind) (kind_number may_execute) same (sym c.in-Ok.ensures ∙ ap number_of c.in-MayExecute.is) (c.put_may_execute.ensures.0 h), c.put_may_execute.ensures.1)

pub returns-in-None : goal.returns-in-None
unfolding kinds
returns-in-None g c =
    let a = c.args in
    (λ S cs same other flagless h. puts_base S cs a.threads a.step a.a a.b (g.K.NamesKind.number a.kind) (kind_number none) same (sym c.in-Ok.ensures ∙ ap number_of c.in-None.is) c.put_none_before.ensures.0, c.put_none_before.ensures.1)

pub returns-in-PermittedFirst : goal.returns-in-PermittedFirst
unfolding kinds
returns-in-PermittedFirst g c =
    let a = c.args in
    (λ S cs same other flagless h. puts_base S cs a.threads a.step a.a a.b (g.K.NamesKind.number a.kind) (kind_number permitted_first) same (sym c.in-Ok.ensures ∙ ap number_of c.in-PermittedFirst.is) c.put_permitted_first.ensures.0, c.put_permitted_first.ensures.1)

pub returns-in-OnePermitted : goal.returns-in-OnePermitted
unfolding kinds
returns-in-OnePermitted g c =
    let a = c.args in
    (λ S cs same other flagless h. puts_base S cs a.threads a.step a.a a.b (g.K.NamesKind.number a.kind) (kind_number one_permitted) same (sym c.in-Ok.ensures ∙ ap number_of c.in-OnePermitted.is) (c.put_none-in-OnePermitted.ensures.0 a.n bit_zero a.out.now refl refl), c.put_none-in-OnePermitted.ensures.1)

pub returns-in-FlushTo : goal.returns-in-FlushTo
unfolding kinds
returns-in-FlushTo g c =
    let a = c.args in
    (λ S cs same other flagless h. puts_base S cs a.threads a.step a.a a.b (g.K.NamesKind.number a.kind) (kind_number flush_to) same (sym c.in-Ok.ensures ∙ ap number_of c.in-FlushTo.is) (c.put_none-in-FlushTo.ensures.0 a.n word_zero a.out.now refl refl), c.put_none-in-FlushTo.ensures.1)

pub returns-in-WriteTo : goal.returns-in-WriteTo
unfolding kinds
returns-in-WriteTo g c =
    let a = c.args in
    (λ S cs same other flagless h. puts_base S cs a.threads a.step a.a a.b (g.K.NamesKind.number a.kind) (kind_number write_to) same (sym c.in-Ok.ensures ∙ ap number_of c.in-WriteTo.is) (c.put_previous.ensures.0 a.n write_to flush_to a.out.now refl refl refl refl), c.put_previous.ensures.1)

pub returns-in-FlushValue : goal.returns-in-FlushValue
unfolding kinds
returns-in-FlushValue g c =
    let a = c.args in
    (λ S cs same other flagless h. puts_base S cs a.threads a.step a.a a.b (g.K.NamesKind.number a.kind) (kind_number flush_value) same (sym c.in-Ok.ensures ∙ ap number_of c.in-FlushValue.is) c.put_flush_value.ensures.0, c.put_flush_value.ensures.1)

pub returns-in-WriteValue : goal.returns-in-WriteValue
unfolding kinds
returns-in-WriteValue g c =
    let a = c.args in
    (λ S cs same other flagless h. puts_base S cs a.threads a.step a.a a.b (g.K.NamesKind.number a.kind) (kind_number write_value) same (sym c.in-Ok.ensures ∙ ap number_of c.in-WriteValue.is) (c.put_previous-in-WriteValue.ensures.0 a.n write_value flush_value a.out.now refl refl refl refl), c.put_previous-in-WriteValue.ensures.1)

pub returns-in-Raised : goal.returns-in-Raised
unfolding kinds
returns-in-Raised g c =
    let a = c.args in
    (λ S cs same other flagless h. puts_base S cs a.threads a.step a.a a.b (g.K.NamesKind.number a.kind) (kind_number raised) same (sym c.in-Ok.ensures ∙ ap number_of c.in-Raised.is) (c.put_none-in-Raised.ensures.0 a.n bit_zero a.out.now refl refl), c.put_none-in-Raised.ensures.1)

pub returns-in-Exits : goal.returns-in-Exits
unfolding kinds
returns-in-Exits g c =
    let a = c.args in
    (λ S cs same other flagless h. puts_base S cs a.threads a.step a.a a.b (g.K.NamesKind.number a.kind) (kind_number exits) same (sym c.in-Ok.ensures ∙ ap number_of c.in-Exits.is) (c.put_previous-in-Exits.ensures.0 a.n exits ended a.out.now refl refl refl refl), c.put_previous-in-Exits.ensures.1)

pub returns-in-Codes : goal.returns-in-Codes
unfolding kinds
returns-in-Codes g c =
    let a = c.args in
    (λ S cs same other flagless h. puts_base S cs a.threads a.step a.a a.b (g.K.NamesKind.number a.kind) (kind_number codes) same (sym c.in-Ok.ensures ∙ ap number_of c.in-Codes.is) (c.put_previous-in-Codes.ensures.0 a.n codes code a.out.now refl refl refl refl), c.put_previous-in-Codes.ensures.1)

pub returns-in-SharedMemory : goal.returns-in-SharedMemory
unfolding kinds
returns-in-SharedMemory g c =
    let a = c.args in
    (λ S cs same other flagless h. puts_base S cs a.threads a.step a.a a.b (g.K.NamesKind.number a.kind) (kind_number shared_memory) same (sym c.in-Ok.ensures ∙ ap number_of c.in-SharedMemory.is) c.put_memory.ensures.0, c.put_memory.ensures.1)

pub returns-in-Val : goal.returns-in-Val
unfolding kinds
returns-in-Val g c =
    let a = c.args in
    (λ S cs same other flagless h. puts_base S cs a.threads a.step a.a a.b (g.K.NamesKind.number a.kind) (kind_number val) same (sym c.in-Ok.ensures ∙ ap number_of c.in-Val.is) (c.put_none-in-Val.ensures.0 a.n val a.out.now refl refl), c.put_none-in-Val.ensures.1)

pub returns-in-Adr : goal.returns-in-Adr
unfolding kinds
returns-in-Adr g c =
    let a = c.args in
    (λ S cs same other flagless h. puts_base S cs a.threads a.step a.a a.b (g.K.NamesKind.number a.kind) (kind_number adr) same (sym c.in-Ok.ensures ∙ ap number_of c.in-Adr.is) (c.put_none-in-Adr.ensures.0 a.n adr a.out.now refl refl), c.put_none-in-Adr.ensures.1)

pub returns-in-Mem : goal.returns-in-Mem
unfolding kinds
returns-in-Mem g c =
    let a = c.args in
    (λ S cs same other flagless h. puts_base S cs a.threads a.step a.a a.b (g.K.NamesKind.number a.kind) (kind_number mem) same (sym c.in-Ok.ensures ∙ ap number_of c.in-Mem.is) (c.put_none-in-Mem.ensures.0 a.n mem a.out.now refl refl), c.put_none-in-Mem.ensures.1)

pub returns-in-Accu : goal.returns-in-Accu
unfolding kinds
returns-in-Accu g c =
    let a = c.args in
    (λ S cs same other flagless h. puts_base S cs a.threads a.step a.a a.b (g.K.NamesKind.number a.kind) (kind_number accu) same (sym c.in-Ok.ensures ∙ ap number_of c.in-Accu.is) (c.put_none-in-Accu.ensures.0 a.n accu a.out.now refl refl), c.put_none-in-Accu.ensures.1)

pub returns-in-Full : goal.returns-in-Full
unfolding kinds
returns-in-Full g c =
    let a = c.args in
    (λ S cs same other flagless h. puts_base S cs a.threads a.step a.a a.b (g.K.NamesKind.number a.kind) (kind_number full) same (sym c.in-Ok.ensures ∙ ap number_of c.in-Full.is) c.put_full.ensures.0, c.put_full.ensures.1)

pub returns-in-Halted : goal.returns-in-Halted
unfolding kinds
returns-in-Halted g c =
    let a = c.args in
    (λ S cs same other flagless h. puts_base S cs a.threads a.step a.a a.b (g.K.NamesKind.number a.kind) (kind_number halted) same (sym c.in-Ok.ensures ∙ ap number_of c.in-Halted.is) (c.put_none-in-Halted.ensures.0 a.n halted a.out.now refl refl), c.put_none-in-Halted.ensures.1)

pub returns-in-Mark : goal.returns-in-Mark
unfolding kinds
returns-in-Mark g c =
    let a = c.args in
    (λ S cs same other flagless h. puts_base S cs a.threads a.step a.a a.b (g.K.NamesKind.number a.kind) (kind_number mark) same (sym c.in-Ok.ensures ∙ ap number_of c.in-Mark.is) (c.put_binary-in-Mark.ensures.0 (place_of a.slots.now) or2 (slot held a.a a.b) (slot raised a.a a.b) refl refl c.place-held.ensures c.place-raised.ensures), c.put_binary-in-Mark.ensures.1)

pub returns-in-Halts : goal.returns-in-Halts
unfolding kinds
returns-in-Halts g c =
    let a = c.args in
    (λ S cs same other flagless h. puts_base S cs a.threads a.step a.a a.b (g.K.NamesKind.number a.kind) (kind_number halts) same (sym c.in-Ok.ensures ∙ ap number_of c.in-Halts.is) (c.put_none-in-Halts.ensures.0 a.n bit_one a.out.now refl refl), c.put_none-in-Halts.ensures.1)

pub returns-in-Ended : goal.returns-in-Ended
unfolding kinds
returns-in-Ended g c =
    let a = c.args in
    (λ S cs same other flagless h. puts_base S cs a.threads a.step a.a a.b (g.K.NamesKind.number a.kind) (kind_number ended) same (sym c.in-Ok.ensures ∙ ap number_of c.in-Ended.is) (c.put_binary-in-Ended.ensures.0 (place_of a.slots.now) or2 (slot halts 0 0) (slot exits 0 a.threads) refl refl c.place-halts.ensures (rw c.from.ensures at c.place-exits.ensures)), c.put_binary-in-Ended.ensures.1)

pub returns-in-Code : goal.returns-in-Code
unfolding kinds
returns-in-Code g c =
    let a = c.args in
    (λ S cs same other flagless h. puts_base S cs a.threads a.step a.a a.b (g.K.NamesKind.number a.kind) (kind_number code) same (sym c.in-Ok.ensures ∙ ap number_of c.in-Code.is) ((rw c.from-in-Code.ensures at c.put_none-in-Code.ensures.0) a.n codes a.out.now refl refl), c.put_none-in-Code.ensures.1)

pub returns-in-BitZero : goal.returns-in-BitZero
unfolding kinds
returns-in-BitZero g c =
    let a = c.args in
    (λ S cs same other flagless h. puts_base S cs a.threads a.step a.a a.b (g.K.NamesKind.number a.kind) (kind_number bit_zero) same (sym c.in-Ok.ensures ∙ ap number_of c.in-BitZero.is) (c.put_none-in-BitZero.ensures.0 a.n bit_zero a.out.now refl refl), c.put_none-in-BitZero.ensures.1)

pub returns-in-BitOne : goal.returns-in-BitOne
unfolding kinds
returns-in-BitOne g c =
    let a = c.args in
    (λ S cs same other flagless h. puts_base S cs a.threads a.step a.a a.b (g.K.NamesKind.number a.kind) (kind_number bit_one) same (sym c.in-Ok.ensures ∙ ap number_of c.in-BitOne.is) (c.put_none-in-BitOne.ensures.0 a.n bit_one a.out.now refl refl), c.put_none-in-BitOne.ensures.1)

pub returns-in-WordZero : goal.returns-in-WordZero
unfolding kinds
returns-in-WordZero g c =
    let a = c.args in
    (λ S cs same other flagless h. puts_base S cs a.threads a.step a.a a.b (g.K.NamesKind.number a.kind) (kind_number word_zero) same (sym c.in-Ok.ensures ∙ ap number_of c.in-WordZero.is) (c.put_none-in-WordZero.ensures.0 a.n word_zero a.out.now refl refl), c.put_none-in-WordZero.ensures.1)

pub returns-in-WordOne : goal.returns-in-WordOne
unfolding kinds
returns-in-WordOne g c =
    let a = c.args in
    (λ S cs same other flagless h. puts_base S cs a.threads a.step a.a a.b (g.K.NamesKind.number a.kind) (kind_number word_one) same (sym c.in-Ok.ensures ∙ ap number_of c.in-WordOne.is) (c.put_constant.ensures.0 (place_of a.slots.now)), c.put_constant.ensures.1)

pub returns-in_default : goal.returns-in_default
returns-in_default g c =
    let a = c.args in
    let put = c.put_choice in
    (λ S cs same other flagless h. puts_past S cs a.threads a.step a.a a.b (g.K.NamesKind.number a.kind) same c.in_default.ensures.1 (put.ensures.0 (place_of a.slots.now)), put.ensures.1)
