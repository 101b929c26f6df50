-- `step::walks::step_bytes` meets its contract. Assumes nothing.
use Rattle.std.proofs.Common.{Bool, List, true, false, [], ap, arith, get_or, is_some, refl, rules, ℕ, ◌/◌, ◌%◌, ◌<◌, ◌∙◌, ◌∷◌, ◌≡◌}
use mir.Val.{bool_byte}
use Rattle.machine.specs.Traces.{bit, step_bytes}
use Rattle.step.proofs.walks.step_bytes.Goals as goal

byte_is : (b : Bool) → bool_byte b ≡ bit b
byte_is true = refl
byte_is false = refl

-- the two bytes of a word
low : (v : ℕ) (bytes : List ℕ) → bytes ≡ v % 256 ∷ v / 256 % 256 ∷ [] → get_or bytes 0 0 ≡ v % 256
low v bytes e = ap (λ (bs : List ℕ). get_or bs 0 0) e

high : (v : ℕ) (bytes : List ℕ) → v < 65536 → bytes ≡ v % 256 ∷ v / 256 % 256 ∷ [] → get_or bytes 1 0 ≡ v / 256
high v bytes l e = ap (λ (bs : List ℕ). get_or bs 1 0) e ∙ omega arith

pub returns : goal.returns
unfolding step_bytes
returns c =
    let x = c.args.x in
    let cell = c.unwrap_or-cell in
    let pc : x.pc < 65536 = search rules in
    let argument : c.args.i.argument < 65536 = search rules in
    let accu : x.accu < 65536 = search rules in
    let mem : x.mem < 65536 = search rules in
    let adr : x.adr < 65536 = search rules in
    let val : x.val < 65536 = search rules in
    let address : cell.result.address < 65536 = search rules in
    let value : cell.result.value < 65536 = search rules in
    rw (
      low x.pc _ c.to_le_bytes.ensures,
      high x.pc _ pc c.to_le_bytes.ensures,
      low c.args.i.argument _ c.to_le_bytes-2.ensures,
      high c.args.i.argument _ argument c.to_le_bytes-2.ensures,
      low x.accu _ c.to_le_bytes-3.ensures,
      high x.accu _ accu c.to_le_bytes-3.ensures,
      low x.mem _ c.to_le_bytes-4.ensures,
      high x.mem _ mem c.to_le_bytes-4.ensures,
      low x.adr _ c.to_le_bytes-5.ensures,
      high x.adr _ adr c.to_le_bytes-5.ensures,
      low x.val _ c.to_le_bytes-6.ensures,
      high x.val _ val c.to_le_bytes-6.ensures,
      low cell.result.address _ c.to_le_bytes-7.ensures,
      high cell.result.address _ address c.to_le_bytes-7.ensures,
      low cell.result.value _ c.to_le_bytes-8.ensures,
      high cell.result.value _ value c.to_le_bytes-8.ensures,
    ) (rw (c.from.ensures, byte_is x.full, c.from-2.ensures, c.is_some.ensures, byte_is (is_some c.args.w), cell.ensures))
