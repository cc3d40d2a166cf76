-- `script::operation::bits_of` meets its contract: eight bytes are four and then four. Assumes nothing.
use borrow.Author.Rules.{rules}
use mathlib.Core.Path.{sym, ap₂, ◌∙◌}
use Prim.Native.Nat.{ℕ, ◌+◌, ◌*◌, ◌^◌}
use Rattle.script.proofs.RecordLaws.{eight_bytes}
use Rattle.script.proofs.operation.bits_of.Goals as goal

pub returns : goal.returns
returns c =
    let l = c.args.bytes.now in
    ap₂ (λ (x y : ℕ). x + 2 ^ 32 * y) c.quad.ensures.value c.quad-2.ensures.value
    ∙ sym (eight_bytes l (search rules))
