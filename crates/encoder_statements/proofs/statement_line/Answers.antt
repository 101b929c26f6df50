-- `encoder_statements::statement_line` meets its contract. Assumes nothing.
use Rattle.encoder_slots.specs.Kinds.{number_of}
use Rattle.std.proofs.Common.{ap, sym, ◌∙◌}
use Rattle.encoding.specs.Slots.{kinds, kind_number, active, address, argument, loaded, not_test, result, swaps, test}
use Rattle.encoder_statements.proofs.Values.{line-by}
use Rattle.encoder_statements.proofs.Listed.{listed_by}
use Rattle.encoder_statements.proofs.statement_line.Goals as goal

pub returns-in-Active : goal.returns-in-Active
unfolding kinds
returns-in-Active g c =
    let a = c.args in
    let line = c.actives in (
      (λ cs lists k of h room ready. line-by a.set.now a.layout cs _ lists k (g.K.NamesKind.number a.kind) (kind_number active) a.t a.out.now a.slots.now a.n _ _ _ (sym c.in-Ok.ensures ∙ ap number_of c.in-Active.is) (rw c.from-thread.ensures at line.ensures.0) ready),
      line.ensures.1,
    )

pub returns-in-Address : goal.returns-in-Address
unfolding kinds
returns-in-Address g c =
    let a = c.args in
    let line = c.addresses in (
      (λ cs lists k of h room ready. line-by a.set.now a.layout cs _ lists k (g.K.NamesKind.number a.kind) (kind_number address) a.t a.out.now a.slots.now a.n _ _ _ (sym c.in-Ok.ensures ∙ ap number_of c.in-Address.is) (rw c.from-thread.ensures at line.ensures.0) ready),
      line.ensures.1,
    )

pub returns-in-Loaded : goal.returns-in-Loaded
unfolding kinds
returns-in-Loaded g c =
    let a = c.args in
    let line = c.loads in (
      (λ cs lists k of h room ready. listed_by a.set.now a.layout a.members.now cs lists k (g.K.NamesKind.number a.kind) (kind_number loaded) a.t a.out.now a.slots.now a.n _ _ _ (sym c.in-Ok.ensures ∙ ap number_of c.in-Loaded.is) (rw c.from-thread.ensures at line.ensures.0) ready),
      line.ensures.1,
    )

pub returns-in-Swaps : goal.returns-in-Swaps
unfolding kinds
returns-in-Swaps g c =
    let a = c.args in
    let line = c.swaps in (
      (λ cs lists k of h room ready. listed_by a.set.now a.layout a.members.now cs lists k (g.K.NamesKind.number a.kind) (kind_number swaps) a.t a.out.now a.slots.now a.n _ _ _ (sym c.in-Ok.ensures ∙ ap number_of c.in-Swaps.is) (rw c.from-thread.ensures at line.ensures.0) ready),
      line.ensures.1,
    )

pub returns-in-Result : goal.returns-in-Result
unfolding kinds
returns-in-Result g c =
    let a = c.args in
    let line = c.results in (
      (λ cs lists k of h room ready. listed_by a.set.now a.layout a.members.now cs lists k (g.K.NamesKind.number a.kind) (kind_number result) a.t a.out.now a.slots.now a.n _ _ _ (sym c.in-Ok.ensures ∙ ap number_of c.in-Result.is) (rw c.from-thread.ensures at line.ensures.0) ready),
      line.ensures.1,
    )

pub returns-in-Test : goal.returns-in-Test
unfolding kinds
returns-in-Test g c =
    let a = c.args in
    let line = c.tests in (
      (λ cs lists k of h room ready. listed_by a.set.now a.layout a.members.now cs lists k (g.K.NamesKind.number a.kind) (kind_number test) a.t a.out.now a.slots.now a.n _ _ _ (sym c.in-Ok.ensures ∙ ap number_of c.in-Test.is) (rw c.from-thread.ensures at line.ensures.0) ready),
      line.ensures.1,
    )

pub returns-in-NotTest : goal.returns-in-NotTest
unfolding kinds
returns-in-NotTest g c =
    let a = c.args in
    let line = c.not_tests in (
      (λ cs lists k of h room ready. listed_by a.set.now a.layout a.members.now cs lists k (g.K.NamesKind.number a.kind) (kind_number not_test) a.t a.out.now a.slots.now a.n _ _ _ (sym c.in-Ok.ensures ∙ ap number_of c.in-NotTest.is) (line.ensures.0 _ _) ready),
      line.ensures.1,
    )

pub returns-in-Argument : goal.returns-in-Argument
unfolding kinds
returns-in-Argument g c =
    let a = c.args in
    let line = c.arguments in (
      (λ cs lists k of h room ready. line-by a.set.now a.layout cs _ lists k (g.K.NamesKind.number a.kind) (kind_number argument) a.t a.out.now a.slots.now a.n _ _ _ (sym c.in-Ok.ensures ∙ ap number_of c.in-Argument.is) (rw c.from-thread.ensures at line.ensures.0) ready),
      line.ensures.1,
    )
