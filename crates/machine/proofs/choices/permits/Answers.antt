-- `machine::choices::permits` meets its contract. Assumes nothing.
use Rattle.std.proofs.Common.{Bool, ap, arith, get_or, le-leb, leb, sym, ℕ, ◌≤◌, ◌&&◌, ◌∙◌, ◌≡◌, Option}
use borrow.Author.Tests.{lt-leb}
use Rattle.machine.specs.Machine.{fresh, unmarked, permitted, waiting}
use Rattle.machine.specs.Held.{state_of, permitted_by}
use Rattle.records.specs.declared.Statement.{Statement}
use Rattle.records.specs.Sets.{set_by}
use Rattle.base.proofs.Choice.{and_false}
use Rattle.machine.proofs.Permitted.{no-thread, thread_may}
use Rattle.machine.proofs.choices.permits.Goals as goal

-- past the first test there are at most four threads

few : (threads : ℕ) (p : Bool) → threads ≤ 4 → (leb threads 4 && p) ≡ p
few threads p le = ap (λ (b : Bool). b && p) (le-leb _ _ le)

pub returns-then-layout-gt-THREADS : goal.returns-then-layout-gt-THREADS
returns-then-layout-gt-THREADS c =
    let a = c.args in
    λ memory. sym (and_false (permitted (set_by a.set.now a.layout) (state_of a.m memory) a.choice) (lt-leb _ _ c.if-layout-gt-THREADS.true))

pub returns-then-layout-t : goal.returns-then-layout-t
returns-then-layout-t c =
    let a = c.args in
    λ memory. sym (few _ _ c.if-layout-gt-THREADS.false ∙ no-thread (set_by a.set.now a.layout) (state_of a.m memory) a.choice (omega (arith, c.actor-t.ensures, c.if-layout-t.true)))

pub returns : goal.returns
unfolding waiting
returns c =
    let a = c.args in
    let S = set_by a.set.now a.layout in
    let t = c.actor-t in
    let marks : ℕ → Option ℕ = λ u. get_or a.m.marks u unmarked in
    λ memory. c.may.ensures
    ∙ ap (λ (i : Statement). permitted_by a.choice i (get_or a.m.threads c.from-at.result fresh) (waiting S marks c.from-at.result)) c.fetch-i.ensures
    ∙ ap (λ (u : ℕ). permitted_by a.choice (S.statement t.result (get_or a.m.threads u fresh).pc) (get_or a.m.threads u fresh) (waiting S marks u)) c.from-at.ensures
    ∙ ap (λ (u : ℕ). permitted_by a.choice (S.statement u (get_or a.m.threads u fresh).pc) (get_or a.m.threads u fresh) (waiting S marks u)) t.ensures
    ∙ sym (few _ _ c.if-layout-gt-THREADS.false ∙ thread_may S (state_of a.m memory) a.choice (omega (arith, t.ensures, c.if-layout-t.false)))
