-- `encoder_size::marks` meets its contract. Assumes nothing.
use Rattle.std.proofs.Common.{rules, ◌≡◌, ◌∙◌, ap, sym, arith, not, eqb, ℕ}
use Rattle.std.specs.List.{count_by}
use Rattle.std.proofs.lemmas.List.Sums.{count_by-le-length}
use Rattle.base.specs.Below.{number}
use Rattle.encoder_size.specs.Seen.{is_seen}
use Rattle.encoder_size.proofs.Seen.{number-list}
use Rattle.encoder_size.proofs.marks.Goals as goal

pub returns : goal.returns
returns c =
    let seen = c.args.seen.now in
    let e : c.count.result ≡ count_by (λ x. not (eqb x 0)) seen = search rules in
    let same = sym (number-list (λ x. not (eqb x 0)) seen) ∙ ap (λ (n : ℕ). number n (is_seen seen)) c.told-seen in
    let most = count_by-le-length (λ x. not (eqb x 0)) seen in
    (e ∙ same, omega arith)
