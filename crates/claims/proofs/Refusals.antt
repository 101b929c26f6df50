-- A line that breaks the rules is refused with 2 or 3 (specs/Texts.antt), by the definitions of a line, each over those below it. Assumes nothing.
use Rattle.std.proofs.Common.{◌≡◌, ℕ, Bool, true, false, cond, ◌⊎◌, List, Option, Some, Result, Ok, Err, ltb, leb, drop, sym}
use Rattle.std.proofs.lemmas.Option.{none-some, same_Some}
use Rattle.std.specs.Result.{result_err}
use mathlib.Core.Logic.{inl, inr}
use Rattle.records.specs.Instructions.{instructions, is_bare}
use Rattle.records.specs.declared.Cell.{Cell}
use Rattle.records.specs.declared.refusals.Refusal.{Refusal}
use Rattle.records.specs.declared.refusals.Refusal.TheVariants.{Malformed, Number}
use Rattle.text_lines.specs.Characters.{is_blank, skip, only_blanks, name, past_name, past_digits, value, first}
use Rattle.text_lines.specs.Lines.{uncommented, held, unlabelled, padded, stated, numbered, bracketed, targeted, argued, after_word, worded, labelled, statement, statement_line, cell_of, valued, addressed, cell, map_line}
use Rattle.text_lines.specs.declared.Stated.{Stated}
use Rattle.claims.specs.Sections.{line, sections, section_of}
use Rattle.claims.specs.Texts.{refusal_of}

-- an answer that refuses with 2 or 3 alone
data Only (A : Type 0) : Result A Refusal → Type 0 where
  accepts : {x : A} → Only A (Ok x)
  malformed : Only A (Err Malformed)
  large : Only A (Err Number)

-- a choice of two answers
either : {A : Type 0} (b : Bool) {r s : Result A Refusal} → Only A r → Only A s → Only A (cond b r s)
either true r s = r
either false r s = s

held-only : {A : Type 0} {r : Result A Refusal} → Only A r → Only (Option A) (held r)
held-only accepts = accepts
held-only malformed = malformed
held-only large = large

-- ---- statements

stated-only : (label : List ℕ) (number mode argument : ℕ) → Only Stated (stated label number mode argument)
unfolding stated
stated-only label number mode argument = either (ltb 65535 argument) large accepts

module _ (label : List ℕ) (number : ℕ) (s : List ℕ) where
  numbered-only : Only Stated (numbered label number s)
  unfolding numbered
  numbered-only = either _ (stated-only label number 0 (value s)) malformed

  bracketed-only : Only Stated (bracketed label number s)
  unfolding bracketed
  bracketed-only = either _ (stated-only label number 1 (value s)) malformed

  targeted-only : Only Stated (targeted label number s)
  unfolding targeted
  targeted-only = either _ accepts malformed

argued-only : (label : List ℕ) (number : ℕ) (s : List ℕ) → Only Stated (argued label number s)
unfolding argued
argued-only label number s = either _ (bracketed-only label number (skip (drop 1 s))) (either _ (targeted-only label number s) (numbered-only label number s))

after-only : (label : List ℕ) (number : ℕ) (s : List ℕ) → Only Stated (after_word label number s)
unfolding after_word
after-only label number s =
    either (leb instructions number) malformed
    (either (is_bare number) (either (only_blanks s) (stated-only label number 0 0) malformed)
    (either (is_blank (first s)) (argued-only label number (skip s)) malformed))

worded-only : (label s : List ℕ) → Only Stated (worded label s)
unfolding worded
worded-only label s = after-only label _ (past_name s)

labelled-only : (s : List ℕ) → Only Stated (labelled s)
unfolding labelled
labelled-only s =
    let t = skip (drop 1 (skip (past_name s))) in
    either _ (either _ (worded-only (padded (name s)) t) malformed) (worded-only unlabelled s)

statement-only : (l : List ℕ) → Only (Option Stated) (statement_line l)
unfolding statement_line statement
statement-only l = either _ (either _ accepts (held-only (labelled-only (skip (uncommented l))))) malformed

-- ---- cells

valued-only : (address : ℕ) (s : List ℕ) → Only Cell (valued address s)
unfolding valued cell_of
valued-only address s = either _ (either _ large accepts) malformed

addressed-only : (s : List ℕ) → Only Cell (addressed s)
unfolding addressed
addressed-only s = either _ (valued-only (value s) (skip (past_digits s))) malformed

map-only : (l : List ℕ) → Only (Option Cell) (map_line l)
unfolding map_line cell
map-only l = either _ (either _ accepts (held-only (addressed-only (skip (uncommented l))))) malformed

-- ---- lines

module _ {A : Type 0} (refusal : Refusal) where
  by_line : {r : Result A Refusal} → Only A r → result_err r ≡ Some refusal → (refusal ≡ Malformed) ⊎ (refusal ≡ Number)
  by_line accepts e = absurd (none-some refusal e)
  by_line malformed e = inl (sym (same_Some Malformed refusal e))
  by_line large e = inr (sym (same_Some Number refusal e))

pub refused_by_line : (text : List ℕ) (i : ℕ) (refusal : Refusal) → refusal_of text i ≡ Some refusal → (refusal ≡ Malformed) ⊎ (refusal ≡ Number)
refused_by_line text i refusal = go (ltb (section_of text i) (sections text))
  where
    go : (b : Bool) → cond b (result_err (statement_line (line text i))) (result_err (map_line (line text i))) ≡ Some refusal → (refusal ≡ Malformed) ⊎ (refusal ≡ Number)
    go true = by_line refusal (statement-only (line text i))
    go false = by_line refusal (map-only (line text i))
